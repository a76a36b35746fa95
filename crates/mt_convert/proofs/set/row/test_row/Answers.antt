use Rattle.std.proofs.Common.{◌≡◌, ◌≤◌, ◌∙◌, ◌++◌, ap, drop, length, subst, List, pos, Result, Ok, Err, OnOk, ◌≤ℤ◌}
use Rattle.mt_convert.proofs.Common.{drop_at, max_dimen, PieceValue, row_height, row_depth, make_row, SetFault}
use Rattle.mt_convert.specs.inner.OnPieces.{SetsAtomOn, TestsRow}
use Rattle.mt_convert.proofs.set.row.test_row.Goals as goal

atom_tested : {U : Type 0} (r : Result U SetFault) (before row now : List PieceValue) → now ≡ before ++ row → length row ≤ 4 → TestsRow r row → OnOk r (row_height row ≤ℤ pos max_dimen) → OnOk r (row_depth row ≤ℤ pos max_dimen)
    → SetsAtomOn r before now (make_row row)
atom_tested (Ok u) before row now e few t h d = record { row = row; is = t; stays = e; few = few; height = h; depth = d }
atom_tested (Err fault) before row now e few t h d = t

pub returns : goal.returns
returns c = record {
  is = λ before row at e.
      let same = ap (drop c.args.first) e ∙ drop_at before row c.args.first at in
      atom_tested c.tested.result before row c.args.pieces.now e (subst (λ z. length z ≤ 4) same c.requires.few) (subst (TestsRow c.tested.result) same c.tested.ensures.is)
      (subst (λ z. OnOk c.tested.result (row_height z ≤ℤ pos max_dimen)) same c.tested.ensures.height) (subst (λ z. OnOk c.tested.result (row_depth z ≤ℤ pos max_dimen)) same c.tested.ensures.depth);
}
