use Rattle.std.proofs.Common.{ap, sym, subst, ◌∙◌, List}
use Rattle.mt_macro.specs.declared.table.Entry.{Entry}
use Rattle.mt_macro.specs.Table.{Table, macro_of}
use Rattle.mt_macro.specs.inner.Entries.{table_of, IsFoundAt, IsMissingAt}
use Rattle.mt_macro.proofs.Entries.{found_has, missing_none}
use Rattle.mt_macro.proofs.Named.{unmarked}
use Rattle.mt_macro.proofs.table.Macros.place_of.Goals as goal

pub returns-then-not-has : goal.returns-then-not-has
returns-then-not-has c =
    ap (λ (t : Table). macro_of t c.args.name.now) (sym c.self.view_is)
    ∙ sym (unmarked _ c.args.name.now _ _ _ c.self.invariant c.has.ensures c.if-not-has.true)

pub returns-in-Ok : goal.returns-in-Ok
returns-in-Ok c =
    let f = subst (λ (es : List Entry). IsFoundAt (table_of es) c.args.name.now c.in-Ok.place) c.as_slice.ensures.value c.in-Ok.ensures.is in
    let g = subst (λ (t : Table). IsFoundAt t c.args.name.now c.in-Ok.place) c.self.view_is f in
    found_has _ _ _ g

pub returns-in-Err : goal.returns-in-Err
returns-in-Err c =
    let f = subst (λ (es : List Entry). IsMissingAt (table_of es) c.args.name.now c.in-Err.field-0) c.as_slice.ensures.value c.in-Err.ensures.is in
    let g = subst (λ (t : Table). IsMissingAt t c.args.name.now c.in-Err.field-0) c.self.view_is f in
    missing_none _ _ _ g
