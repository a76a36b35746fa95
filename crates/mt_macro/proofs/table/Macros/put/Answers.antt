use Rattle.std.proofs.Common.{arith, List, length, ℕ, sym, ap, ◌∙◌}
use Rattle.mt_macro.specs.Table.{Table, macro_of, is_own, with_macro}
use Rattle.mt_macro.specs.inner.Marks.{has_mark}
use Rattle.mt_macro.specs.inner.Entries.{table_of}
use Rattle.mt_macro.proofs.Named.{put_kept}
use Rattle.mt_macro.proofs.table.Macros.put.Goals as goal

pub invariant_of-self-2 : goal.invariant_of-self-2
invariant_of-self-2 c =
    let was =
    c.is_own-was_own.ensures
    ∙ (ap (λ (n : List ℕ). is_own (macro_of c.args.self.now n)) c.as_slice.ensures
    ∙ ap (λ (t : Table). is_own (macro_of t c.args.name.now)) (sym c.self.view_is)) in
    let placed = c.in_ok-put_entry.ensures.ok ∙ ap (λ (n : List ℕ). with_macro (table_of c.self.inside.entries.items) n
    (record { own = c.either.result; params = c.args.params; body = c.in_ok-copy_body.field-0 })) (c.in_ok-key.ensures ∙ c.as_slice-2.ensures) in
    put_kept _ _ c.args.name.now (record { own = c.either.result; params = c.args.params; body = c.in_ok-copy_body.field-0 })
    c.args.makes_own c.is_own-was_own.result _ _ c.self.inside.marks c.add.new.self c.self.invariant
    (omega (arith, ap length c.in_ok-copy_body.ensures, c.requires.short)) placed was c.either.ensures
    c.own_names_after-self-inside.ensures
    (ap (λ (n : List ℕ). has_mark c.add.new.self n) (sym c.as_slice-3.ensures) ∙ c.add.ensures.name)
    c.add.ensures.others
