use Rattle.std.proofs.Common.{map, sym, ap, subst, ◌∙◌, List, ℕ}
use Rattle.std.specs.List.{list_any}
use Rattle.std.specs.Str.{bytes_eq}
use Rattle.mt_tables.specs.inner.KeptMacros.{name_at}
use Rattle.mt_tables.proofs.Searching.{IsSorted}
use Rattle.mt_tables.proofs.Puts.{not_listed, listed_sorted}
use Rattle.mt_tables.proofs.putting.list_name.Goals as goal

pub place_of-place-requires-clause-sorted : goal.place_of-place-requires-clause-sorted
place_of-place-requires-clause-sorted c =
    subst (λ (o : List ℕ). IsSorted (map (name_at c.args.names.now) o)) (sym c.as_slice.ensures.value) (listed_sorted _ _ _ c.requires.macros)

pub place_of-place-requires-clause-absent : goal.place_of-place-requires-clause-absent
place_of-place-requires-clause-absent c =
    ap (λ (n : List ℕ). list_any (bytes_eq n) (map (name_at c.args.names.now) c.as_slice.result.now)) c.name_at.ensures
    ∙ (ap (λ (o : List ℕ). list_any (bytes_eq (name_at c.args.names.now c.args.number)) (map (name_at c.args.names.now) o)) c.as_slice.ensures.value
    ∙ not_listed _ _ _ _ _ c.requires.macros c.requires.within c.kept_at.ensures c.if-is_none.ensures)
