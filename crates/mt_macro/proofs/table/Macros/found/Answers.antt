use Rattle.std.proofs.Common.{sym, subst, arith}
use Rattle.mt_macro.specs.Table.{Table, macro_of}
use Rattle.mt_macro.specs.inner.Entries.{HasAt, body_at}
use Rattle.mt_macro.specs.Naming.{IsMacro}
use Rattle.mt_macro.proofs.Entries.{has_within, has_macro}
use Rattle.mt_macro.proofs.table.Macros.found.Goals as goal

pub index-requires : goal.index-requires
index-requires c =
    let h = subst (λ (t : Table). HasAt t c.in-Some.place (macro_of c.args.self.now c.args.name.now)) (sym c.self.view_is) c.in-Some.ensures in
    let w = has_within c.self.inside.entries.items c.in-Some.place _ h in
    omega arith

pub returns-in-Some : goal.returns-in-Some
returns-in-Some c =
    let h = subst (λ (t : Table). HasAt t c.in-Some.place (macro_of c.args.self.now c.args.name.now)) (sym c.self.view_is) c.in-Some.ensures in
    subst (λ (t : Table). IsMacro (macro_of c.args.self.now c.args.name.now) c.index.result.now.meaning.params (body_at t c.in-Some.place)) c.self.view_is
    (has_macro c.self.inside.entries.items c.in-Some.place _ c.index.result.now h c.index.ensures)
