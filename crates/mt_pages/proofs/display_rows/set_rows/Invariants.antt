use Rattle.std.proofs.Common.{◌≡◌}
use Rattle.mt_arena.specs.Arena.{rows_in}
use Rattle.mt_rules.specs.Sequence.{rows_length}
use Rattle.mt_pages.proofs.Common.{BoxValue, layout_of, AreModestRows, D, formula_box, lists_of}
use Rattle.mt_pages.specs.inner.Lines.{BoxHolds}
use Rattle.mt_pages.proofs.DisplayLemmas.{RowsSet}
use Rattle.mt_pages.proofs.display_rows.set_rows.Given as goal

abbrev pub invariant-loop-list : goal.invariant-loop-list
invariant-loop-list l = record {
  set : RowsSet (formula_box l.fonts l.n D) layout_of (λ (b : BoxValue). b.level) (BoxHolds l.fonts) (lists_of (rows_in l.arena.closed l.fn.rows)) (lists_of (rows_in l.arena.closed l.left)) l.boxes.items;
  modest : AreModestRows (rows_in l.arena.closed l.left);
  end : l.left.end ≡ l.fn.rows.end;
  stay : l.pieces ≡ l.fn.pieces;
}

abbrev pub decreases-loop-list : goal.decreases-loop-list
decreases-loop-list l = rows_length (rows_in l.arena.closed l.left)
