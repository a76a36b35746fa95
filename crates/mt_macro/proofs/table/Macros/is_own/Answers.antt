use Rattle.std.proofs.Common.{ap, sym, subst, arith}
use Rattle.mt_macro.specs.Table.{Table, macro_of, is_own}
use Rattle.mt_macro.specs.inner.Entries.{HasAt}
use Rattle.mt_macro.proofs.Entries.{has_within, has_entry}
use Rattle.mt_macro.proofs.table.Macros.is_own.Goals as goal

pub index-requires : goal.index-requires
index-requires c =
    let h = subst (λ (t : Table). HasAt t c.in-Some.place (macro_of c.args.self.now c.args.name.now)) (sym c.self.view_is) c.in-Some.ensures in
    let w = has_within c.self.inside.entries.items c.in-Some.place _ h in
    omega arith

pub returns-in-Some : goal.returns-in-Some
returns-in-Some c =
    let h = subst (λ (t : Table). HasAt t c.in-Some.place (macro_of c.args.self.now c.args.name.now)) (sym c.self.view_is) c.in-Some.ensures in
    ap is_own (sym (has_entry c.self.inside.entries.items c.in-Some.place _ c.index.result.now h c.index.ensures))
