-- A formula is read by the rules of its readers, whatever turns are counted (`whole_tail`, `whole_items`, `whole_reading`).
use Rattle.std.proofs.Common.{◌≡◌, ℕ, zero, suc, ◌+◌, ◌-◌, Bool, List, length, Option, None, refl, subst, arith}
use Rattle.mt_token.specs.declared.token.Token.{Token}
use Rattle.mt_scaled.specs.declared.unit.Units.{Units}
use Rattle.mt_plain.specs.CodeTables.{CodeTables}
use Rattle.mt_rules.specs.Sequence.{Sequence, Rows, End, MoreRows}
use Rattle.mt_scan.specs.Parts.{Read, Got, Fault, NoTurn, then_read, after_spaces}
use Rattle.mt_formula.specs.Atoms.{AtomValue}
use Rattle.mt_formula.specs.Runs.{tail, items}
use Rattle.mt_formula.specs.Rules.{run_of, readers, item_run, formula}
use Rattle.mt_formula.specs.Whole.{whole_readers, whole_rows, whole_cells}
use Rattle.mt_formula.proofs.Below.{Below, below_refl, below_trans, RunsBelow, TailsBelow, ItemsBelow, tail_below, items_below, run_after_below, formula_below, readers_below}
use Rattle.mt_scan.specs.declared.role.Preamble.{Preamble}
use Rattle.mt_formula.specs.declared.reading.ends.Ending.TheVariants.{AtRight, AtCell}
use Rattle.mt_formula.specs.declared.actions.table_form.Column.{Column}
use Rattle.mt_formula.specs.Lists.{list, list_after}
use Rattle.mt_formula.specs.Groups.{segment_end, segments}
use Rattle.mt_formula.specs.Rows.{row, first_rows, later_rows, rows}
use Rattle.mt_formula.specs.Tables.{cell_start, row_or_end, rows_from_step, cell_end, table_rows}
use Rattle.mt_formula.proofs.Counting.{whole_segments, rows_turn, rows_begin, cells_turn, table_begins}
use Rattle.mt_formula.specs.turns.Settling.{Settles, RunsSettle, run_after_settles, readers_settle, item_run_settles, formula_settles}

-- what is read by fewer turns is what is read by more
same_of_below : {A : Type 0} (n : ℕ) (r s : Read A) → Settles n r → Below r s → r ≡ s
same_of_below n (Got part rest) s h e = e
same_of_below n (Fault cause left) s h e = e
same_of_below n NoTurn s h e = elim h [ ]

below_back : {A : Type 0} (n : ℕ) (r s : Read A) → Settles n r → Below r s → Below s r
below_back n r s h e = subst (λ x. Below x r) (same_of_below n r s h e) (below_refl r)

module _ (tables : CodeTables) (units : Units) where
  -- so many turns more
  tails_up : (k n m : ℕ) → m ≡ n + k → TailsBelow (readers tables units n).tail (readers tables units m).tail
  tails_up zero n m is level family atom ts = subst (λ x. Below ((readers tables units n).tail level family atom ts) ((readers tables units x).tail level family atom ts)) (let e : n ≡ m = omega (arith, is) in e) (below_refl ((readers tables units n).tail level family atom ts))
  tails_up (suc k) n zero is level family atom ts = absurd (omega (arith, is))
  tails_up (suc k) n (suc m) is level family atom ts =
      below_trans ((readers tables units n).tail level family atom ts) ((readers tables units m).tail level family atom ts) ((readers tables units (suc m)).tail level family atom ts)
      (tails_up k n m (omega (arith, is)) level family atom ts) ((readers_below tables units m).0 level family atom ts)

  items_up : (k n m : ℕ) → m ≡ n + k → ItemsBelow (readers tables units n).items (readers tables units m).items
  items_up zero n m is level family ts = subst (λ x. Below ((readers tables units n).items level family ts) ((readers tables units x).items level family ts)) (let e : n ≡ m = omega (arith, is) in e) (below_refl ((readers tables units n).items level family ts))
  items_up (suc k) n zero is level family ts = absurd (omega (arith, is))
  items_up (suc k) n (suc m) is level family ts =
      below_trans ((readers tables units n).items level family ts) ((readers tables units m).items level family ts) ((readers tables units (suc m)).items level family ts)
      (items_up k n m (omega (arith, is)) level family ts) ((readers_below tables units m).1 level family ts)

  -- by any turns no more is read than by those that the list may want
  tails_whole : (n : ℕ) → TailsBelow (readers tables units n).tail (whole_readers tables units).tail
  tails_whole n level family atom ts = by_more (n - suc (length ts)) refl
    where
      by_more : (k : ℕ) → k ≡ n - suc (length ts) → Below ((readers tables units n).tail level family atom ts) ((readers tables units (suc (length ts))).tail level family atom ts)
      by_more zero is = tails_up (suc (length ts) - n) n (suc (length ts)) (omega (arith, is)) level family atom ts
      by_more (suc k) is =
          below_back (length ts) ((readers tables units (suc (length ts))).tail level family atom ts) ((readers tables units n).tail level family atom ts) ((readers_settle tables units (suc (length ts))).0 level family atom ts (omega arith))
          (tails_up (suc k) (suc (length ts)) n (omega (arith, is)) level family atom ts)

  items_whole : (n : ℕ) → ItemsBelow (readers tables units n).items (whole_readers tables units).items
  items_whole n level family ts = by_more (n - suc (length ts)) refl
    where
      by_more : (k : ℕ) → k ≡ n - suc (length ts) → Below ((readers tables units n).items level family ts) ((readers tables units (suc (length ts))).items level family ts)
      by_more zero is = items_up (suc (length ts) - n) n (suc (length ts)) (omega (arith, is)) level family ts
      by_more (suc k) is =
          below_back (length ts) ((readers tables units (suc (length ts))).items level family ts) ((readers tables units n).items level family ts) ((readers_settle tables units (suc (length ts))).1 level family ts (omega arith))
          (items_up (suc k) (suc (length ts)) n (omega (arith, is)) level family ts)

  runs_whole : (n : ℕ) → RunsBelow (run_of (readers tables units n)) (run_of (whole_readers tables units))
  runs_whole n =
      let few = readers tables units n in
      let all = whole_readers tables units in
      run_after_below tables units (run_of few) (run_of few) (λ level family last ts. below_refl (run_of few level family last ts)) few.tail all.tail (tails_whole n) few.items all.items (items_whole n)

  pub whole_tail : (level : ℕ) (family : Option ℕ) (atom : AtomValue) (ts : List Token)
      → (whole_readers tables units).tail level family atom ts ≡ tail tables units (run_of (whole_readers tables units)) (whole_readers tables units).tail level family atom ts
  whole_tail level family atom ts =
      let n = length ts in
      let few = readers tables units n in
      let all = whole_readers tables units in
      same_of_below n (all.tail level family atom ts) (tail tables units (run_of all) all.tail level family atom ts) ((readers_settle tables units (suc n)).0 level family atom ts (omega arith))
      (tail_below tables units (run_of few) (run_of all) (runs_whole n) few.tail all.tail (tails_whole n) level family atom ts)

  pub whole_items : (level : ℕ) (family : Option ℕ) (ts : List Token)
      → (whole_readers tables units).items level family ts ≡ items tables units (run_of (whole_readers tables units)) (whole_readers tables units).tail (whole_readers tables units).items level family ts
  whole_items level family ts =
      let n = length ts in
      let few = readers tables units n in
      let all = whole_readers tables units in
      same_of_below n (all.items level family ts) (items tables units (run_of all) all.tail all.items level family ts) ((readers_settle tables units (suc n)).1 level family ts (omega arith))
      (items_below tables units (run_of few) (run_of all) (runs_whole n) few.tail all.tail (tails_whole n) few.items all.items (items_whole n) level family ts)

  run_whole : (n : ℕ) → RunsBelow (item_run tables units n) (run_of (whole_readers tables units))
  unfolding item_run
  run_whole n = runs_whole n

  pub whole_reading : (display : Bool) (ts : List Token) → formula tables units (item_run tables units (length ts + 1)) display ts ≡ formula tables units (run_of (whole_readers tables units)) display ts
  whole_reading display ts =
      let run = item_run tables units (length ts + 1) in
      let all = run_of (whole_readers tables units) in
      same_of_below (length ts) (formula tables units run display ts) (formula tables units all display ts)
      (formula_settles tables units (length ts + 1) run (item_run_settles tables units (length ts + 1)) display ts (omega arith))
      (formula_below tables units run all (run_whole (length ts + 1)) display ts)

  -- and so are the parts of a list
  whole_settles : (n : ℕ) → RunsSettle n (run_of (whole_readers tables units))
  whole_settles n =
      run_after_settles n (whole_readers tables units).tail (λ level family atom ts few. (readers_settle tables units (suc (length ts))).0 level family atom ts (omega arith))
      (whole_readers tables units).items (λ level family ts few. (readers_settle tables units (suc (length ts))).1 level family ts (omega arith))

  pub segments_by_rules : (level : ℕ) (family : Option ℕ) (ts : List Token)
      → segments tables units (run_of (whole_readers tables units)) level family ts ≡ then_read (list tables units (run_of (whole_readers tables units)) AtRight level family ts) (segment_end tables (segments tables units (run_of (whole_readers tables units)) level family))
  segments_by_rules level family ts = whole_segments tables units (run_of (whole_readers tables units)) whole_settles level family ts

  pub rows_by_rules : (level : ℕ) (ts : List Token)
      → whole_rows tables units (run_of (whole_readers tables units)) level ts ≡ then_read (row tables units (run_of (whole_readers tables units)) level ts) (λ (inner : Sequence) (after : List Token). then_read (later_rows tables units (run_of (whole_readers tables units)) (whole_rows tables units (run_of (whole_readers tables units)) level) after) (λ (others : Rows) (rest : List Token). Got (MoreRows inner others) rest))
  rows_by_rules level ts = rows_turn tables units (run_of (whole_readers tables units)) whole_settles level ts

  pub first_rows_by_rules : (level : ℕ) (ts : List Token)
      → rows tables units (run_of (whole_readers tables units)) level ts ≡ first_rows tables units (run_of (whole_readers tables units)) (whole_rows tables units (run_of (whole_readers tables units)) (level + 1)) ts
  first_rows_by_rules level ts = rows_begin tables units (run_of (whole_readers tables units)) whole_settles level ts

  pub cells_by_rules : (level : ℕ) (preamble : Preamble) (column : Column) (ts : List Token)
      → whole_cells tables units (run_of (whole_readers tables units)) level preamble column ts ≡ then_read (list_after tables units (run_of (whole_readers tables units)) End (cell_start column) AtCell level None ts) (cell_end tables (whole_cells tables units (run_of (whole_readers tables units)) level preamble) preamble column)
  cells_by_rules level preamble column ts = cells_turn tables units (run_of (whole_readers tables units)) whole_settles level preamble column ts

  pub table_rows_by_rules : (level : ℕ) (preamble : Preamble) (ts : List Token)
      → table_rows tables units (run_of (whole_readers tables units)) level preamble ts ≡ then_read (row_or_end tables (after_spaces ts)) (rows_from_step (whole_cells tables units (run_of (whole_readers tables units)) level preamble) preamble)
  table_rows_by_rules level preamble ts = table_begins tables units (run_of (whole_readers tables units)) whole_settles level preamble ts
