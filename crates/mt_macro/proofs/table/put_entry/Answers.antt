use Rattle.std.proofs.Common.{ap, refl, ◌∙◌, List, ℕ, subst}
use Rattle.mt_macro.specs.declared.table.Entry.{Entry}
use Rattle.mt_macro.specs.inner.Entries.{table_of, IsFoundAt, IsMissingAt}
use Rattle.mt_macro.proofs.Entries.{set_is, insert_is}
use Rattle.mt_macro.proofs.table.put_entry.Goals as goal

pub returns-in-Ok-clause-ok : goal.returns-in-Ok-clause-ok
returns-in-Ok-clause-ok c =
    let h = subst (λ (es : List Entry). IsFoundAt (table_of es) c.as_slice-2.result.now c.in-Ok.place) c.as_slice.ensures.value c.in-Ok.ensures.is in
    let k = subst (λ (n : List ℕ). IsFoundAt (table_of c.args.entries.now.items) n c.in-Ok.place) c.as_slice-2.ensures h in
    set_is _ _ _ _ c.index_mut.result.now _ k c.index_mut.ensures.value refl refl

pub returns-in_ok-insert-in-Err-clause-ok : goal.returns-in_ok-insert-in-Err-clause-ok
returns-in_ok-insert-in-Err-clause-ok c =
    let h = subst (λ (es : List Entry). IsMissingAt (table_of es) c.as_slice-2.result.now c.in-Err.place) c.as_slice.ensures.value c.in-Err.ensures.is in
    let k = subst (λ (n : List ℕ). IsMissingAt (table_of c.args.entries.now.items) n c.in-Err.place) c.as_slice-2.ensures h in
    ap table_of c.in_ok-insert-in-Err.ensures.items ∙ insert_is _ _ _ _ _ k refl refl
