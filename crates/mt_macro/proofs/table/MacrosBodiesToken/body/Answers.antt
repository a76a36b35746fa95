use Rattle.std.proofs.Common.{◌≡◌, ◌<◌, ◌≤◌, ap, sym, arith, length, get_or, ◌∙◌, List}
use Rattle.mt_macro.specs.declared.table.Entry.{Entry}
use Rattle.mt_macro.specs.Table.{Table}
use Rattle.mt_macro.specs.inner.Entries.{body_at}
use Rattle.mt_macro.proofs.Entries.{body_of, no_body, short_entry}
use Rattle.mt_macro.proofs.Mapped.{mapped_own}
use Rattle.mt_macro.proofs.table.MacrosBodiesToken.body.Goals as goal

pub returns-in-Some-clause-is : goal.returns-in-Some-clause-is
returns-in-Some-clause-is c =
    let size = ap length c.as_slice.ensures.value in
    let low : c.args.number < length c.self.inside.entries.items = omega (arith, size, c.in-Some.ensures.lookup.3.0) in
    let at : c.in-Some.entry.now ≡ get_or c.self.inside.entries.items c.args.number c.in-Some.entry.now =
    c.in-Some.ensures.lookup.1 ∙ ap (λ (es : List Entry). get_or es c.args.number c.in-Some.entry.now) c.as_slice.ensures.value in
    mapped_own _ ∙ (c.as_slice-in-Some.ensures ∙ (sym (body_of c.self.inside.entries.items c.args.number c.in-Some.entry.now low at) ∙ ap (λ (t : Table). body_at t c.args.number) c.self.view_is))

pub returns-in-None-clause-is : goal.returns-in-None-clause-is
returns-in-None-clause-is c =
    let size = ap length c.as_slice.ensures.value in
    let high : length c.self.inside.entries.items ≤ c.args.number = omega (arith, size, c.in-None.ensures.lookup.3) in
    sym (no_body c.self.inside.entries.items c.args.number high) ∙ ap (λ (t : Table). body_at t c.args.number) c.self.view_is

pub returns-in-Some-clause-short : goal.returns-in-Some-clause-short
returns-in-Some-clause-short c =
    let size = ap length c.as_slice.ensures.value in
    let low : c.args.number < length c.self.inside.entries.items = omega (arith, size, c.in-Some.ensures.lookup.3.0) in
    let at : c.in-Some.entry.now ≡ get_or c.self.inside.entries.items c.args.number c.in-Some.entry.now =
    c.in-Some.ensures.lookup.1 ∙ ap (λ (es : List Entry). get_or es c.args.number c.in-Some.entry.now) c.as_slice.ensures.value in
    let short = short_entry c.self.inside.entries.items c.args.number c.in-Some.entry.now c.self.invariant.short low at in
    omega (arith, ap length c.as_slice-in-Some.ensures, short)
