use Rattle.std.proofs.Common.{◌≡◌, ◌<◌, ◌≤◌, ap, arith, length, get_or, ◌∙◌, List}
use Rattle.std.specs.Prelude.{slice_get}
use Rattle.mt_macro.specs.declared.table.Entry.{Entry}
use Rattle.mt_macro.specs.Table.{Table}
use Rattle.mt_macro.proofs.Entries.{entry_is, no_entry, short_entry}
use Rattle.mt_macro.proofs.table.Macros.entry.Goals as goal

pub returns-in-Some-clause-is : goal.returns-in-Some-clause-is
returns-in-Some-clause-is c =
    let size = ap length c.as_slice.ensures.value in
    let low : c.args.index < length c.self.inside.entries.items = omega (arith, size, c.in-Some.ensures.lookup.3.0) in
    let at : c.in-Some.entry.now ≡ get_or c.self.inside.entries.items c.args.index c.in-Some.entry.now =
    c.in-Some.ensures.lookup.1 ∙ ap (λ (es : List Entry). get_or es c.args.index c.in-Some.entry.now) c.as_slice.ensures.value in
    entry_is c.self.inside.entries.items c.args.index c.in-Some.entry.now low at ∙ ap (λ (t : Table). slice_get t c.args.index) c.self.view_is

pub returns-in-None-clause-is : goal.returns-in-None-clause-is
returns-in-None-clause-is c =
    let size = ap length c.as_slice.ensures.value in
    let high : length c.self.inside.entries.items ≤ c.args.index = omega (arith, size, c.in-None.ensures.lookup.3) in
    no_entry c.self.inside.entries.items c.args.index high ∙ ap (λ (t : Table). slice_get t c.args.index) c.self.view_is

pub returns-in-Some-clause-short : goal.returns-in-Some-clause-short
returns-in-Some-clause-short c =
    let size = ap length c.as_slice.ensures.value in
    let low : c.args.index < length c.self.inside.entries.items = omega (arith, size, c.in-Some.ensures.lookup.3.0) in
    let at : c.in-Some.entry.now ≡ get_or c.self.inside.entries.items c.args.index c.in-Some.entry.now =
    c.in-Some.ensures.lookup.1 ∙ ap (λ (es : List Entry). get_or es c.args.index c.in-Some.entry.now) c.as_slice.ensures.value in
    short_entry c.self.inside.entries.items c.args.index c.in-Some.entry.now c.self.invariant.short low at
