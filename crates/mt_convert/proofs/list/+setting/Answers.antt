use Rattle.std.proofs.Common.{List, ◌≡◌, ◌≤◌, ◌^◌, ◌∙◌, [], ◌∷◌, ◌++◌, length, take, drop, ap, sym, subst, refl, arith, rules, w32, FitsSigned, length-append, Some, None, pos, IfSome, Ok, OnOk, not}
use Rattle.mt_convert.proofs.Common.{Held, SetValue, Style, clean_symbol, no_glue, PieceBox, Within, max_dimen, unraised_boxes, Inner, forward_of, in_points, OrdinarySymbol, clean_field, clean_list, is_empty, make_clean, symbol_nucleus, End, More, element_size, grid_size, part_size, rows_size, sequence_size, ◌>>=◌, empty_layout, pack_row, cramped_of, size_of, find_symbol, GlueAmounts, cell_part, grid_in, rows_in, sequence_in, rest_in, SetFails, SetsRowOn, second_pass_of}
use Rattle.std.proofs.lemmas.Result.{err_from_is_err_and}
use Rattle.mt_rules.specs.Lines
use Rattle.mt_rules.specs.Radicals
use Rattle.mt_pieces.specs.declared.items.PlacedItem.TheVariants as placed
use Rattle.mt_convert.specs.FirstPass
use Rattle.mt_convert.specs.inner.AtomSteps.{kind_nucleus, list_box, operator_box, part_box, row_beside, row_between, row_with_fields, row_with_limits}
use Rattle.mt_convert.specs.inner.Fields.{field_content, list_content}
use Rattle.mt_convert.specs.inner.OnPieces.{SetsAtomOn, SetsBoxOn, SetsNucleusOn, SetsOperatorOn, SetsPlaced}
use Rattle.mt_convert.specs.inner.Placed.{IsPlaced, placed_halves, reaching}
use Rattle.mt_convert.specs.inner.Spans.{ModestAtom, ModestCell, ModestPassed, atom_in, passed_in}
use Rattle.mt_convert.specs.inner.Tables.{columns_from}
use Rattle.mt_convert.specs.inner.Turns.{element_of_passed, flat_item, kern_of, role_value}
use Rattle.mt_convert.proofs.Appending.{fails_then}
use Rattle.mt_convert.proofs.Behind.{box_and_scripts, few_behind, few_row, kept_word, nil_right, rest_before, row_and_scripts, row_behind, scripts_few, two_boxes}
use Rattle.mt_convert.proofs.BothPasses.{list_err, list_set}
use Rattle.mt_convert.proofs.LoneLists.{lone_err, lone_set}
use Rattle.mt_convert.proofs.LoneSymbols.{plain_atom}
use Rattle.mt_convert.proofs.Going.{Going, again_falls, front_again, front_passes, going_again, going_end, going_err, going_kern_err, going_pass, going_start, modest_passed, next_fits}
use Rattle.mt_convert.proofs.Turning.{same_empty}
use Rattle.mt_convert.proofs.kinds.Accents.{accent_given, accent_part_made, finding_fails, found, inside_accent_fails, inside_body_fails, inside_finding_fails, inside_made, inside_plain_fails, plain_fails}
use Rattle.mt_convert.proofs.kinds.Atoms.{beside_row, inside_row, limits_row}
use Rattle.mt_convert.proofs.kinds.Bounds.{body_cell, degree_cell, den_span, grid_of_part, list_span, nucleus_cell, num_span, rows_of_part, sub_cell, sup_cell, thickness_of_fraction}
use Rattle.mt_convert.proofs.kinds.Chains.{first_made}
use Rattle.mt_convert.proofs.kinds.Fractions.{den_fails, fraction_made, num_fails}
use Rattle.mt_convert.proofs.kinds.Items.{alone, none_of_these, atom_item_fails, atom_item_made, atom_placed, fraction_item_fails, fraction_item_made, kern_placed, space_placed}
use Rattle.mt_convert.proofs.kinds.Parts.{big_nucleus_is, big_operator_is, both_made, clean_empty_is, clean_list_is, clean_symbol_is, empty_nucleus_is, empty_operator_is, has_no_box, has_no_nucleus, list_nucleus_is, list_operator_is, no_row, no_script, no_scripts, part_nucleus_is, script_fails, script_made, sub_fails, sup_fails, symbol_nucleus_is, symbol_operator_is}
use Rattle.mt_convert.proofs.kinds.Roots.{body_fails, degree_fails, field_made, nucleus_fails, of_root, root_form, root_made, row_fails as field_row_fails, veil_fails, veil_made}
use Rattle.mt_convert.proofs.kinds.RowBoxes.{column_missing, next_row, next_size, no_columns, row_fails, rows_end, rows_few, rows_start, rows_step, unraised_length, vcenter_empty, vcenter_fails, vcenter_made, without_rows}
use Rattle.mt_convert.proofs.kinds.TableBoxes.{cells_end, cells_fail, cells_few, cells_start, cells_step, next_cells, next_cells_size, vcenter_table}
use Rattle.mt_pieces.specs.Putting.{SetsPieces, boxed_on}
use Rattle.mt_convert.proofs.list.+setting.Goals as goal

-- ---- `set_span_on` and `first_pass_on`

pub set_span_on-set_atom-requires : goal.set_span_on-set_atom-requires
set_span_on-set_atom-requires t c =
    let es = c.args.context.arena.now.closed in
    let e = subst (λ o. IfSome o (λ atom. sequence_in es c.args.list ≡ More (atom_in es atom) End)) c.in-Some.is c.lone_atom.ensures.is in
    (omega (arith, ap sequence_size e, c.decreases), subst (λ o. IfSome o (ModestAtom es)) c.in-Some.is c.lone_atom.ensures.modest)

pub set_span_on-returns-in_err-set_atom-clause-is : goal.set_span_on-returns-in_err-set_atom-clause-is
set_span_on-returns-in_err-set_atom-clause-is t c =
    let es = c.args.context.arena.now.closed in
    let e = subst (λ o. IfSome o (λ atom. sequence_in es c.args.list ≡ More (atom_in es atom) End)) c.in-Some.is c.lone_atom.ensures.is in
    let p = err_from_is_err_and c.from_residual.result c.from_residual.ensures.1 in
    rw (p.1, p.2) (lone_err c.args.context.fonts.now c.args.style es c.in-Some.atom (sequence_in es c.args.list) _ e c.in_err-set_atom.ensures.is)

pub set_span_on-returns-in-Some-clause-is : goal.set_span_on-returns-in-Some-clause-is
set_span_on-returns-in-Some-clause-is t c =
    let es = c.args.context.arena.now.closed in
    let e = subst (λ o. IfSome o (λ atom. sequence_in es c.args.list ≡ More (atom_in es atom) End)) c.in-Some.is c.lone_atom.ensures.is in
    lone_set c.tested.result c.args.context.fonts.now c.args.style es c.in-Some.atom (sequence_in es c.args.list) c.len-first.result _ _ e c.len-first.ensures c.in_ok-set_atom.ensures.is c.tested.ensures.is

pub set_span_on-returns-in_err-halves-clause-is : goal.set_span_on-returns-in_err-halves-clause-is
set_span_on-returns-in_err-halves-clause-is t c =
    let p = err_from_is_err_and c.from_residual-in_err-halves.result c.from_residual-in_err-halves.ensures.1 in rw (p.1, p.2) (list_err c.args.context.fonts.now c.args.style (sequence_in c.args.context.arena.now.closed c.args.list) _ c.in_err-halves.ensures.is)

pub set_span_on-join_items-requires-clause-first : goal.set_span_on-join_items-requires-clause-first
set_span_on-join_items-requires-clause-first t c = omega (arith, c.len-first.ensures, ap length c.in_ok-halves.ensures.is.stays, length-append c.args.pieces.now c.in_ok-halves.ensures.is.row)

pub set_span_on-join_items-requires-clause-placed : goal.set_span_on-join_items-requires-clause-placed
set_span_on-join_items-requires-clause-placed t c = subst (λ r. IsPlaced (reaching c.in_ok-halves.halves r) r) (sym (row_behind _ c.args.pieces.now c.in_ok-halves.ensures.is.row _ c.len-first.ensures c.in_ok-halves.ensures.is.stays)) c.in_ok-halves.ensures.is.placed

pub set_span_on-returns-clause-is : goal.set_span_on-returns-clause-is
set_span_on-returns-clause-is t c =
    let h = c.in_ok-halves.ensures.is in
    let hs = c.in_ok-halves.halves in
    list_set c.args.context.fonts.now c.args.style (sequence_in c.args.context.arena.now.closed c.args.list) h.row (reaching hs h.row) c.join_items.result c.args.pieces.now c.join_items.new.pieces h.is
    (subst (λ x. SetsRowOn c.join_items.result x c.join_items.new.pieces (second_pass_of c.args.context.fonts.now c.args.style (placed_halves (reaching hs h.row) h.row))) (rest_before _ c.args.pieces.now h.row _ c.len-first.ensures h.stays)
    (subst (λ r. SetsRowOn c.join_items.result (take c.len-first.result c.first_pass_on.new.pieces) c.join_items.new.pieces (second_pass_of c.args.context.fonts.now c.args.style (placed_halves (reaching hs r) r))) (row_behind _ c.args.pieces.now h.row _ c.len-first.ensures h.stays) c.join_items.ensures.is))

pub set_span_on-returns-clause-few : goal.set_span_on-returns-clause-few
set_span_on-returns-clause-few t c = subst (λ n. OnOk c.join_items.result (length (drop n c.join_items.new.pieces) ≤ 2 ^ 21)) c.len-first.ensures c.join_items.ensures.few

pub first_pass_on-loop-front-init : goal.first_pass_on-loop-front-init
first_pass_on-loop-front-init t c =
    let es = c.args.context.arena.now.closed in
    let whole = sequence_in es c.args.list in
    let m = c.requires.modest in (
      c.of-rest.ensures.kept es m.within,
      subst (Going c.args.context.fonts.now c.args.style whole c.opening-current.result (rest_in es c.of-rest.result) c.take_items-items.result.items c.args.pieces.now) (sym c.take_items-items.ensures.same)
          (going_start c.args.context.fonts.now c.args.style whole c.opening-current.result (rest_in es c.of-rest.result) c.take_items-items.result.items c.args.pieces.now m.modest m.kept.0 c.opening-current.ensures (c.of-rest.ensures.is es) c.take_items-items.ensures.is),
    )

pub first_pass_on-set_item-requires : goal.first_pass_on-set_item-requires
first_pass_on-set_item-requires t c =
    let u = front_passes c.args.context.fonts.now c.loop-front.current _ c.in-Some.front _ _ _ c.in_ok-joined.field-0 c.in-Some-2.joined c.in-Some.ensures.item.0 c.in-Some.ensures.is c.in_ok-joined.ensures.turns c.in_ok-joined.ensures.boundaries c.in-Some-2.is in
    let n = next_fits _ _ _ c.loop-front.current _ _ _ _ _ _ _ _ c.loop-front.invariant.1 u.is u.turn in
    (omega (arith, n.smaller, c.decreases), modest_passed _ c.in-Some.front c.in-Some-2.joined c.in-Some.ensures.item n.modest)

pub first_pass_on-returns-in_err-half : goal.first_pass_on-returns-in_err-half
first_pass_on-returns-in_err-half t c =
    let u = front_passes c.args.context.fonts.now c.loop-front.current _ c.in-Some.front _ _ _ c.in_ok-joined.field-0 c.in-Some-2.joined c.in-Some.ensures.item.0 c.in-Some.ensures.is c.in_ok-joined.ensures.turns c.in_ok-joined.ensures.boundaries c.in-Some-2.is in
    let p = err_from_is_err_and c.from_residual-in_err-half.result c.from_residual-in_err-half.ensures.1 in rw (p.1, p.2) (record { is = going_err _ _ _ c.loop-front.current _ _ _ _ _ _ (passed_in _ c.in-Some.front c.in-Some-2.joined) _ _ c.loop-front.invariant.1 u.is u.turn c.in_err-half.ensures.is })

pub first_pass_on-returns-in_err-push_with_kern : goal.first_pass_on-returns-in_err-push_with_kern
first_pass_on-returns-in_err-push_with_kern t c =
    let u = front_passes c.args.context.fonts.now c.loop-front.current _ c.in-Some.front _ _ _ c.in_ok-joined.field-0 c.in-Some-2.joined c.in-Some.ensures.item.0 c.in-Some.ensures.is c.in_ok-joined.ensures.turns c.in_ok-joined.ensures.boundaries c.in-Some-2.is in
    let p = err_from_is_err_and c.from_residual-in_err-push_with_kern.result c.from_residual-in_err-push_with_kern.ensures.1 in rw (p.1, p.2) (record { is = going_kern_err _ _ _ c.loop-front.current _ _ _ _ _ _ (passed_in _ c.in-Some.front c.in-Some-2.joined) _ _ c.in-Some-2.joined.kern _ c.loop-front.invariant.1 u.is u.turn c.in_ok-half.ensures.is.is (subst (λ o. IfSome o (λ j. (es : List Held) → j.kern ≡ kern_of (passed_in es c.in-Some.front j))) c.in-Some-2.is c.in_ok-joined.ensures.kern c.args.context.arena.now.closed) c.in_err-push_with_kern.ensures.is })

pub first_pass_on-loop-front-smaller-in-Some-2 : goal.first_pass_on-loop-front-smaller-in-Some-2
first_pass_on-loop-front-smaller-in-Some-2 t c =
    let u = front_passes c.args.context.fonts.now c.loop-front.current _ c.in-Some.front _ _ _ c.in_ok-joined.field-0 c.in-Some-2.joined c.in-Some.ensures.item.0 c.in-Some.ensures.is c.in_ok-joined.ensures.turns c.in_ok-joined.ensures.boundaries c.in-Some-2.is in
    (next_fits _ _ _ c.loop-front.current _ _ _ _ _ _ _ _ c.loop-front.invariant.1 u.is u.turn).falls

pub first_pass_on-loop-front-preserved-in-Some-2 : goal.first_pass_on-loop-front-preserved-in-Some-2
first_pass_on-loop-front-preserved-in-Some-2 t c =
    let u = front_passes c.args.context.fonts.now c.loop-front.current _ c.in-Some.front _ _ _ c.in_ok-joined.field-0 c.in-Some-2.joined c.in-Some.ensures.item.0 c.in-Some.ensures.is c.in_ok-joined.ensures.turns c.in_ok-joined.ensures.boundaries c.in-Some-2.is in (
      c.in_ok-joined.ensures.kept,
      going_pass _ _ _ c.loop-front.current c.after_half-current.result _ _ _ _ _ _ _ _ (passed_in _ c.in-Some.front c.in-Some-2.joined) _ c.in_ok-half.half c.in-Some-2.joined.kern c.loop-front.invariant.1 u.is u.turn
          u.leaves
          (subst (λ o. IfSome o (λ j. (es : List Held) → j.kern ≡ kern_of (passed_in es c.in-Some.front j))) c.in-Some-2.is c.in_ok-joined.ensures.kern c.args.context.arena.now.closed)
          (record { half = c.in_ok-half.ensures.is; kern = c.in_ok-push_with_kern.ensures.is })
          c.in_ok-push_with_kern.ensures.pushed c.after_half-current.ensures,
    )

pub first_pass_on-loop-front-smaller : goal.first_pass_on-loop-front-smaller
first_pass_on-loop-front-smaller t c =
    let u = front_again c.args.context.fonts.now c.loop-front.current _ c.in-Some.front _ _ _ c.in_ok-joined.field-0 c.in-Some.ensures.item.0 c.in-Some.ensures.is c.in_ok-joined.ensures.turns c.in_ok-joined.ensures.boundaries c.in_default-2.not-Some in
    again_falls c.args.context.fonts.now c.loop-front.current _ _ _ _ u.is u.turn

pub first_pass_on-loop-front-preserved : goal.first_pass_on-loop-front-preserved
first_pass_on-loop-front-preserved t c =
    let u = front_again c.args.context.fonts.now c.loop-front.current _ c.in-Some.front _ _ _ c.in_ok-joined.field-0 c.in-Some.ensures.item.0 c.in-Some.ensures.is c.in_ok-joined.ensures.turns c.in_ok-joined.ensures.boundaries c.in_default-2.not-Some in (
      c.in_ok-joined.ensures.kept,
      going_again _ _ _ _ _ _ _ _ _ _ _ c.loop-front.invariant.1 u.is u.turn
          u.leaves,
    )

pub first_pass_on-returns : goal.first_pass_on-returns
first_pass_on-returns t c = record { is = going_end _ _ _ _ _ _ _ _ _ c.loop-front.invariant.1 c.in_default.ensures.is.0 c.finish.ensures }

-- ---- `set_item`

pub set_item-set_atom-requires : goal.set_item-set_atom-requires
set_item-set_atom-requires t c =
    let g = ap (λ p. element_of_passed (passed_in c.args.context.arena.now.closed p c.args.joined)) c.in-Atom.is in
    let m = subst (λ p. ModestPassed c.args.context.arena.now.closed p c.args.joined) c.in-Atom.is c.requires.modest in
    (omega (arith, ap element_size g, c.decreases), record { within = m.within; modest = m.modest; kept = m.kept })

pub set_item-set_fraction-requires : goal.set_item-set_fraction-requires
set_item-set_fraction-requires t c =
    let g = ap (λ p. element_of_passed (passed_in c.args.context.arena.now.closed p c.args.joined)) c.in-Fraction.is in
    let m = subst (λ p. ModestPassed c.args.context.arena.now.closed p c.args.joined) c.in-Fraction.is c.requires.modest in
    (omega (arith, ap element_size g, c.decreases), record { within = m.within; modest = m.modest; kept = m.kept })

pub set_item-returns-in_err-set_atom-in-Atom : goal.set_item-returns-in_err-set_atom-in-Atom
set_item-returns-in_err-set_atom-in-Atom t c =
    let es = c.args.context.arena.now.closed in
    let p = err_from_is_err_and c.from_residual.result c.from_residual.ensures.1 in rw (p.1, p.2) (record { is = atom_item_fails _ c.args.context.fonts.now c.args.current (passed_in es c.args.item.now c.args.joined) es c.in-Atom.noad c.args.joined (ap (λ p. passed_in es p c.args.joined) c.in-Atom.is) c.in_err-set_atom-in-Atom.ensures.is })

pub set_item-returns-in_err-set_fraction-in-Fraction : goal.set_item-returns-in_err-set_fraction-in-Fraction
set_item-returns-in_err-set_fraction-in-Fraction t c =
    let es = c.args.context.arena.now.closed in
    let p = err_from_is_err_and c.from_residual-in_err-set_fraction-in-Fraction.result c.from_residual-in_err-set_fraction-in-Fraction.ensures.1 in rw (p.1, p.2) (record { is = fraction_item_fails _ c.args.context.fonts.now c.args.current (passed_in es c.args.item.now c.args.joined) es c.in-Fraction.fraction c.args.joined (ap (λ p. passed_in es p c.args.joined) c.in-Fraction.is) c.in_err-set_fraction-in-Fraction.ensures.is })

pub set_item-returns-in_ok-set_atom-in-Atom : goal.set_item-returns-in_ok-set_atom-in-Atom
set_item-returns-in_ok-set_atom-in-Atom t c = record {
  is = let es = c.args.context.arena.now.closed in
      atom_placed c.forward-class.result c.len-first.result c.placed_after.result c.args.pieces.now c.set_atom.new.pieces _ _ c.len-first.ensures c.placed_after.ensures c.in_ok-set_atom-in-Atom.ensures.is
      (λ row made. atom_item_made c.args.context.fonts.now c.args.current (passed_in es c.args.item.now c.args.joined) es c.in-Atom.noad c.args.joined row c.forward-class.result (ap (λ p. passed_in es p c.args.joined) c.in-Atom.is) (c.forward-class.ensures.is ∙ ap (forward_of c.args.current.last) c.kind_class.ensures) made);
}

pub set_item-returns-in_ok-set_fraction-in-Fraction : goal.set_item-returns-in_ok-set_fraction-in-Fraction
set_item-returns-in_ok-set_fraction-in-Fraction t c = record {
  is = let es = c.args.context.arena.now.closed in
      atom_placed Inner c.len-first-in-Fraction.result c.placed_after-in-Fraction.result c.args.pieces.now c.set_fraction.new.pieces _ _ c.len-first-in-Fraction.ensures c.placed_after-in-Fraction.ensures c.in_ok-set_fraction-in-Fraction.ensures.is
      (λ row made. fraction_item_made c.args.context.fonts.now c.args.current (passed_in es c.args.item.now c.args.joined) es c.in-Fraction.fraction c.args.joined row (ap (λ p. passed_in es p c.args.joined) c.in-Fraction.is) made);
}

pub set_item-returns-in-Left : goal.set_item-returns-in-Left
set_item-returns-in-Left t c = record { is = alone (placed.Left c.in-Left.delim) c.args.pieces.now _ refl tt (ap (λ p. FirstPass.set_item c.args.context.fonts.now c.args.current (flat_item c.args.context.fonts.now (passed_in c.args.context.arena.now.closed p c.args.joined))) c.in-Left.is) }

pub set_item-returns-in-Middle : goal.set_item-returns-in-Middle
set_item-returns-in-Middle t c = record { is = alone (placed.Middle c.in-Middle.delim) c.args.pieces.now _ refl tt (ap (λ p. FirstPass.set_item c.args.context.fonts.now c.args.current (flat_item c.args.context.fonts.now (passed_in c.args.context.arena.now.closed p c.args.joined))) c.in-Middle.is) }

pub set_item-returns-in-Right : goal.set_item-returns-in-Right
set_item-returns-in-Right t c = record { is = alone (placed.Right c.in-Right.delim) c.args.pieces.now _ refl tt (ap (λ p. FirstPass.set_item c.args.context.fonts.now c.args.current (flat_item c.args.context.fonts.now (passed_in c.args.context.arena.now.closed p c.args.joined))) c.in-Right.is) }

pub set_item-returns-in-Style : goal.set_item-returns-in-Style
set_item-returns-in-Style t c = record { is = alone (placed.Style c.in-Style.style) c.args.pieces.now _ refl tt (ap (λ p. FirstPass.set_item c.args.context.fonts.now c.args.current (flat_item c.args.context.fonts.now (passed_in c.args.context.arena.now.closed p c.args.joined))) c.in-Style.is) }

pub set_item-glue_in_points-requires : goal.set_item-glue_in_points-requires
set_item-glue_in_points-requires t c = subst GlueAmounts (sym c.long_glue.ensures) (subst (λ p. ModestPassed c.args.context.arena.now.closed p c.args.joined) c.in-MuSpace.is c.requires.modest).modest.amounts

pub set_item-in_points-requires : goal.set_item-in_points-requires
set_item-in_points-requires t c =
    let f : FitsSigned w32 c.in-MuKern.amount = search rules in
    subst (Within max_dimen) (sym (c.long_length.ensures ∙ kept_word c.in-MuKern.amount f)) (subst (λ p. ModestPassed c.args.context.arena.now.closed p c.args.joined) c.in-MuKern.is c.requires.modest).modest.amounts

pub set_item-returns-in-MuSpace : goal.set_item-returns-in-MuSpace
set_item-returns-in-MuSpace t c = record { is = space_placed c.make_space.result c.args.pieces.now _ c.glue_in_points.result (subst (SetsPlaced c.make_space.result) (sym (ap (λ p. FirstPass.set_item c.args.context.fonts.now c.args.current (flat_item c.args.context.fonts.now (passed_in c.args.context.arena.now.closed p c.args.joined))) c.in-MuSpace.is)) (subst (λ g. SetsPlaced c.make_space.result (FirstPass.make_space g)) (c.glue_in_points.ensures ∙ ap (FirstPass.glue_in_points c.args.context.fonts.now c.args.current.style) c.long_glue.ensures) c.make_space.ensures.is)) c.make_space.ensures.fits c.make_space.ensures.same }

pub set_item-returns-in-Space : goal.set_item-returns-in-Space
set_item-returns-in-Space t c = record { is = space_placed c.make_space-in-Space.result c.args.pieces.now _ c.long_glue-in-Space.result (subst (SetsPlaced c.make_space-in-Space.result) (sym (ap (λ p. FirstPass.set_item c.args.context.fonts.now c.args.current (flat_item c.args.context.fonts.now (passed_in c.args.context.arena.now.closed p c.args.joined))) c.in-Space.is)) (subst (λ g. SetsPlaced c.make_space-in-Space.result (FirstPass.make_space g)) c.long_glue-in-Space.ensures c.make_space-in-Space.ensures.is)) c.make_space-in-Space.ensures.fits c.make_space-in-Space.ensures.same }

pub set_item-returns-in-MuKern : goal.set_item-returns-in-MuKern
set_item-returns-in-MuKern t c = record {
  is = let f : FitsSigned w32 c.in-MuKern.amount = search rules in
      kern_placed c.make_kern.result c.args.pieces.now _ _ (subst (SetsPlaced c.make_kern.result) (sym (ap (λ p. FirstPass.set_item c.args.context.fonts.now c.args.current (flat_item c.args.context.fonts.now (passed_in c.args.context.arena.now.closed p c.args.joined))) c.in-MuKern.is)) (subst (λ x. SetsPlaced c.make_kern.result (FirstPass.make_kern x)) (c.in_points.ensures ∙ ap (in_points c.args.context.fonts.now c.args.current.style) (c.long_length.ensures ∙ kept_word c.in-MuKern.amount f)) c.make_kern.ensures.is)) c.make_kern.ensures.fits c.make_kern.ensures.same;
}

pub set_item-returns-in-Kern : goal.set_item-returns-in-Kern
set_item-returns-in-Kern t c = record {
  is = let f : FitsSigned w32 c.in-Kern.amount = search rules in
      kern_placed c.make_kern-in-Kern.result c.args.pieces.now _ _ (subst (SetsPlaced c.make_kern-in-Kern.result) (sym (ap (λ p. FirstPass.set_item c.args.context.fonts.now c.args.current (flat_item c.args.context.fonts.now (passed_in c.args.context.arena.now.closed p c.args.joined))) c.in-Kern.is)) (subst (λ x. SetsPlaced c.make_kern-in-Kern.result (FirstPass.make_kern x)) (c.long_length-in-Kern.ensures ∙ kept_word c.in-Kern.amount f) c.make_kern-in-Kern.ensures.is)) c.make_kern-in-Kern.ensures.fits c.make_kern-in-Kern.ensures.same;
}

pub set_item-returns-in_default : goal.set_item-returns-in_default
set_item-returns-in_default t c =
    let n = c.in_default in
    let none = none_of_these c.args.context.arena.now.closed c.args.item.now c.args.joined n.not-Atom n.not-Fraction n.not-Left n.not-Middle n.not-Right n.not-Style n.not-MuSpace n.not-Space n.not-MuKern n.not-Kern in
    record {
      is = space_placed c.make_space-in_default.result c.args.pieces.now _ no_glue (subst (SetsPlaced c.make_space-in_default.result) (sym (ap (λ p. FirstPass.set_item c.args.context.fonts.now c.args.current (flat_item c.args.context.fonts.now p)) none)) c.make_space-in_default.ensures.is) c.make_space-in_default.ensures.fits c.make_space-in_default.ensures.same;
    }

-- ---- `set_atom`

pub set_atom-returns-in-Some : goal.set_atom-returns-in-Some
set_atom-returns-in-Some t c = record {
  is = let es = c.args.context.arena.now.closed in
      subst (SetsAtomOn c.symbol_row.result c.args.pieces.now c.symbol_row.new.pieces)
      (sym (plain_atom c.args.context.fonts.now c.args.style (role_value c.args.role) es c.args.atom.now c.in-Some.symbol (sym (c.first_symbol.ensures es) ∙ c.in-Some.is))) c.symbol_row.ensures.is;
}

pub set_atom-set_under_limits-requires : goal.set_atom-set_under_limits-requires
set_atom-set_under_limits-requires t c = (omega (arith, c.decreases), (nucleus_cell _ c.args.atom.now c.requires.modest, (sup_cell _ c.args.atom.now c.requires.modest, sub_cell _ c.args.atom.now c.requires.modest)))

pub set_atom-returns-in-Limits : goal.set_atom-returns-in-Limits
set_atom-returns-in-Limits t c = record { is = subst (SetsAtomOn c.set_under_limits.result c.args.pieces.now c.set_under_limits.new.pieces) (sym (limits_row c.args.context.fonts.now c.args.style (role_value c.args.role) c.args.atom.now.kind c.args.atom.now.limits (cell_part c.args.context.arena.now.closed c.args.atom.now.nucleus) (cell_part c.args.context.arena.now.closed c.args.atom.now.sup) (cell_part c.args.context.arena.now.closed c.args.atom.now.sub) (sym c.in-Limits.is ∙ c.form_of.ensures c.args.context.arena.now.closed))) c.set_under_limits.ensures.is }

pub set_atom-set_accent_inside-requires : goal.set_atom-set_accent_inside-requires
set_atom-set_accent_inside-requires t c = (omega (arith, c.decreases), (sup_cell _ c.args.atom.now c.requires.modest, sub_cell _ c.args.atom.now c.requires.modest))

pub set_atom-returns-in-AccentInside : goal.set_atom-returns-in-AccentInside
set_atom-returns-in-AccentInside t c = record { is = subst (SetsAtomOn c.set_accent_inside.result c.args.pieces.now c.set_accent_inside.new.pieces) (sym (inside_row c.args.context.fonts.now c.args.style (role_value c.args.role) c.args.atom.now.kind c.args.atom.now.limits (cell_part c.args.context.arena.now.closed c.args.atom.now.nucleus) (cell_part c.args.context.arena.now.closed c.args.atom.now.sup) (cell_part c.args.context.arena.now.closed c.args.atom.now.sub) c.in-AccentInside.accent c.in-AccentInside.symbol (sym c.in-AccentInside.is ∙ c.form_of.ensures c.args.context.arena.now.closed))) c.set_accent_inside.ensures.is }

pub set_atom-set_root-requires : goal.set_atom-set_root-requires
set_atom-set_root-requires t c =
    let f = root_form c.args.context.fonts.now c.args.style (role_value c.args.role) c.args.atom.now.kind c.args.atom.now.limits (cell_part c.args.context.arena.now.closed c.args.atom.now.nucleus) (cell_part c.args.context.arena.now.closed c.args.atom.now.sup) (cell_part c.args.context.arena.now.closed c.args.atom.now.sub) c.in-Root.sign (sym c.in-Root.is ∙ c.form_of.ensures c.args.context.arena.now.closed) in
    (omega (arith, c.decreases), (f.degree, nucleus_cell _ c.args.atom.now c.requires.modest))

pub set_atom-returns-in-Root : goal.set_atom-returns-in-Root
set_atom-returns-in-Root t c = record {
  is = let f = root_form c.args.context.fonts.now c.args.style (role_value c.args.role) c.args.atom.now.kind c.args.atom.now.limits (cell_part c.args.context.arena.now.closed c.args.atom.now.nucleus) (cell_part c.args.context.arena.now.closed c.args.atom.now.sup) (cell_part c.args.context.arena.now.closed c.args.atom.now.sub) c.in-Root.sign (sym c.in-Root.is ∙ c.form_of.ensures c.args.context.arena.now.closed) in
      subst (SetsAtomOn c.set_root.result c.args.pieces.now c.set_root.new.pieces) (sym f.is) (c.set_root.ensures.is (field_content c.args.context.fonts.now c.args.context.arena.now.closed c.args.atom.now.sup) (field_content c.args.context.fonts.now c.args.context.arena.now.closed c.args.atom.now.sub));
}

pub set_atom-set_nucleus-requires : goal.set_atom-set_nucleus-requires
set_atom-set_nucleus-requires t c = (omega (arith, c.decreases), nucleus_cell _ c.args.atom.now c.requires.modest)

pub set_atom-returns-in_err-delta-in-Beside : goal.set_atom-returns-in_err-delta-in-Beside
set_atom-returns-in_err-delta-in-Beside t c =
    let p = err_from_is_err_and c.from_residual.result c.from_residual.ensures.1 in rw (p.1, p.2) (record { is = subst (SetFails c.in_err-delta-in-Beside.field-0.0) (sym (beside_row c.args.context.fonts.now c.args.style (role_value c.args.role) c.args.atom.now.kind c.args.atom.now.limits (cell_part c.args.context.arena.now.closed c.args.atom.now.nucleus) (cell_part c.args.context.arena.now.closed c.args.atom.now.sup) (cell_part c.args.context.arena.now.closed c.args.atom.now.sub) c.is_empty-has_subscript.result (c.is_empty-has_subscript.ensures c.args.context.arena.now.closed) (sym c.in-Beside.is ∙ c.form_of.ensures c.args.context.arena.now.closed))) (fails_then _ (kind_nucleus c.args.atom.now.kind c.args.context.fonts.now c.args.style (role_value c.args.role) (field_content c.args.context.fonts.now c.args.context.arena.now.closed c.args.atom.now.nucleus) (not c.is_empty-has_subscript.result)) (λ n. row_with_fields c.args.context.fonts.now c.args.style n (field_content c.args.context.fonts.now c.args.context.arena.now.closed c.args.atom.now.sup) (field_content c.args.context.fonts.now c.args.context.arena.now.closed c.args.atom.now.sub)) c.in_err-delta-in-Beside.ensures.is) })

pub set_atom-without_scripts-requires : goal.set_atom-without_scripts-requires
set_atom-without_scripts-requires t c = record { few = few_behind c.len-first.result 4 c.args.pieces.now c.in_ok-delta-in-Beside.ensures.is.row c.set_nucleus.new.pieces c.len-first.ensures c.in_ok-delta-in-Beside.ensures.is.stays (omega (arith, c.in_ok-delta-in-Beside.ensures.is.few)) }

pub set_atom-returns-then-not-has_subscript : goal.set_atom-returns-then-not-has_subscript
set_atom-returns-then-not-has_subscript t c = record {
  is = let P = SetsAtomOn c.without_scripts.result c.args.pieces.now c.set_nucleus.new.pieces in
      subst P (sym (beside_row c.args.context.fonts.now c.args.style (role_value c.args.role) c.args.atom.now.kind c.args.atom.now.limits (cell_part c.args.context.arena.now.closed c.args.atom.now.nucleus) (cell_part c.args.context.arena.now.closed c.args.atom.now.sup) (cell_part c.args.context.arena.now.closed c.args.atom.now.sub) c.is_empty-has_subscript.result (c.is_empty-has_subscript.ensures c.args.context.arena.now.closed) (sym c.in-Beside.is ∙ c.form_of.ensures c.args.context.arena.now.closed))) (first_made P (kind_nucleus c.args.atom.now.kind c.args.context.fonts.now c.args.style (role_value c.args.role) (field_content c.args.context.fonts.now c.args.context.arena.now.closed c.args.atom.now.nucleus) (not c.is_empty-has_subscript.result)) (record { row = c.in_ok-delta-in-Beside.ensures.is.row; delta = c.in_ok-delta-in-Beside.delta.sp }) (λ n. row_with_fields c.args.context.fonts.now c.args.style n (field_content c.args.context.fonts.now c.args.context.arena.now.closed c.args.atom.now.sup) (field_content c.args.context.fonts.now c.args.context.arena.now.closed c.args.atom.now.sub)) c.in_ok-delta-in-Beside.ensures.is.is
      (no_scripts P c.args.context.fonts.now c.args.style (cell_part c.args.context.arena.now.closed c.args.atom.now.sup) (cell_part c.args.context.arena.now.closed c.args.atom.now.sub) (record { row = c.in_ok-delta-in-Beside.ensures.is.row; delta = c.in_ok-delta-in-Beside.delta.sp }) (sym (c.is_empty.ensures c.args.context.arena.now.closed) ∙ c.if-is_empty.true) (sym (c.is_empty-has_subscript.ensures c.args.context.arena.now.closed) ∙ c.if-not-has_subscript.true)
      (c.without_scripts.ensures.is c.args.pieces.now c.in_ok-delta-in-Beside.ensures.is.row (sym c.len-first.ensures) c.in_ok-delta-in-Beside.ensures.is.stays c.args.context.fonts.now c.args.style c.in_ok-delta-in-Beside.delta.sp)));
}

pub set_atom-set_scripts-requires : goal.set_atom-set_scripts-requires
set_atom-set_scripts-requires t c =
    let n = c.in_ok-delta-in-Beside.ensures.is in
    (omega (arith, c.decreases), (few_behind c.len-first.result 2 c.args.pieces.now n.row c.set_nucleus.new.pieces c.len-first.ensures n.stays n.few, (n.small, (sup_cell _ c.args.atom.now c.requires.modest, sub_cell _ c.args.atom.now c.requires.modest))))

pub set_atom-returns-else-is_empty : goal.set_atom-returns-else-is_empty
set_atom-returns-else-is_empty t c = record {
  is = let P = SetsAtomOn c.set_scripts.result c.args.pieces.now c.set_scripts.new.pieces in
      subst P (sym (beside_row c.args.context.fonts.now c.args.style (role_value c.args.role) c.args.atom.now.kind c.args.atom.now.limits (cell_part c.args.context.arena.now.closed c.args.atom.now.nucleus) (cell_part c.args.context.arena.now.closed c.args.atom.now.sup) (cell_part c.args.context.arena.now.closed c.args.atom.now.sub) c.is_empty-has_subscript.result (c.is_empty-has_subscript.ensures c.args.context.arena.now.closed) (sym c.in-Beside.is ∙ c.form_of.ensures c.args.context.arena.now.closed))) (first_made P (kind_nucleus c.args.atom.now.kind c.args.context.fonts.now c.args.style (role_value c.args.role) (field_content c.args.context.fonts.now c.args.context.arena.now.closed c.args.atom.now.nucleus) (not c.is_empty-has_subscript.result)) (record { row = c.in_ok-delta-in-Beside.ensures.is.row; delta = c.in_ok-delta-in-Beside.delta.sp }) (λ n. row_with_fields c.args.context.fonts.now c.args.style n (field_content c.args.context.fonts.now c.args.context.arena.now.closed c.args.atom.now.sup) (field_content c.args.context.fonts.now c.args.context.arena.now.closed c.args.atom.now.sub)) c.in_ok-delta-in-Beside.ensures.is.is (c.set_scripts.ensures.is c.args.pieces.now c.in_ok-delta-in-Beside.ensures.is.row (sym c.len-first.ensures) c.in_ok-delta-in-Beside.ensures.is.stays));
}

-- ---- `set_fraction`

pub set_fraction-clean_list-requires : goal.set_fraction-clean_list-requires
set_fraction-clean_list-requires t c = (omega (arith, c.decreases), num_span _ c.args.fields.now c.requires.modest)

pub set_fraction-clean_list-requires-2 : goal.set_fraction-clean_list-requires-2
set_fraction-clean_list-requires-2 t c = (omega (arith, c.decreases), den_span _ c.args.fields.now c.requires.modest)

pub set_fraction-returns-in_err-clean_list : goal.set_fraction-returns-in_err-clean_list
set_fraction-returns-in_err-clean_list t c =
    let p = err_from_is_err_and c.from_residual.result c.from_residual.ensures.1 in rw (p.1, p.2) (record { is = num_fails _ c.args.context.fonts.now c.args.style c.num.result c.args.fields.now.thickness c.args.fields.now.left c.args.fields.now.right (sequence_in c.args.context.arena.now.closed c.args.fields.now.num) (sequence_in c.args.context.arena.now.closed c.args.fields.now.den) c.num.ensures c.in_err-clean_list.ensures.is })

pub set_fraction-returns-in_err-clean_list-2 : goal.set_fraction-returns-in_err-clean_list-2
set_fraction-returns-in_err-clean_list-2 t c =
    let p = err_from_is_err_and c.from_residual-in_err-clean_list-2.result c.from_residual-in_err-clean_list-2.ensures.1 in rw (p.1, p.2) (record { is = den_fails _ c.args.context.fonts.now c.args.style c.num.result c.den.result c.args.fields.now.thickness c.args.fields.now.left c.args.fields.now.right (sequence_in c.args.context.arena.now.closed c.args.fields.now.num) (sequence_in c.args.context.arena.now.closed c.args.fields.now.den) c.in_ok-clean_list.ensures.is.box c.num.ensures c.den.ensures c.in_ok-clean_list.ensures.is.is c.in_err-clean_list-2.ensures.is })

pub set_fraction-fraction-requires : goal.set_fraction-fraction-requires
set_fraction-fraction-requires t c = record { thickness = thickness_of_fraction c.args.fields.now.thickness c.args.fields.now.left c.args.fields.now.right (sequence_in c.args.context.arena.now.closed c.args.fields.now.num) (sequence_in c.args.context.arena.now.closed c.args.fields.now.den) c.requires.modest.modest }

pub set_fraction-returns : goal.set_fraction-returns
set_fraction-returns t c = record {
  is = let n = c.in_ok-clean_list.ensures.is in
      let d = c.in_ok-clean_list-2.ensures.is in
      fraction_made (SetsAtomOn c.fraction.result c.args.pieces.now c.fraction.new.pieces) c.args.context.fonts.now c.args.style c.num.result c.den.result c.args.fields.now.thickness c.args.fields.now.left c.args.fields.now.right (sequence_in c.args.context.arena.now.closed c.args.fields.now.num) (sequence_in c.args.context.arena.now.closed c.args.fields.now.den) n.box d.box c.num.ensures c.den.ensures n.is d.is (c.fraction.ensures c.args.pieces.now n.box d.box (two_boxes c.args.pieces.now _ _ n.box d.box n.stays d.stays));
}

-- ---- `set_nucleus` and `set_part`

pub set_nucleus-returns-in-Plain : goal.set_nucleus-returns-in-Plain
set_nucleus-returns-in-Plain t c = record { is = subst (λ k. SetsNucleusOn c.set_plain.result c.args.pieces.now c.set_plain.new.pieces (kind_nucleus k c.args.context.fonts.now c.args.style (role_value c.args.role) (field_content c.args.context.fonts.now c.args.context.arena.now.closed c.args.field) c.args.has_subscript)) (sym c.in-Plain.is) c.set_plain.ensures.is }

pub set_nucleus-set_part-requires : goal.set_nucleus-set_part-requires
set_nucleus-set_part-requires t c = (omega (arith, c.decreases), (c.requires.modest, c.in_default.not-Plain))

pub set_nucleus-returns-in_default : goal.set_nucleus-returns-in_default
set_nucleus-returns-in_default t c = record { is = subst (SetsNucleusOn c.part_nucleus.result c.args.pieces.now c.set_part.new.pieces) (sym (part_nucleus_is c.args.kind c.args.context.fonts.now c.args.style (role_value c.args.role) (field_content c.args.context.fonts.now c.args.context.arena.now.closed c.args.field) c.args.has_subscript c.in_default.not-Plain)) (c.part_nucleus.ensures c.args.pieces.now c.set_part.new.pieces (part_box c.args.kind c.args.context.fonts.now c.args.style (field_content c.args.context.fonts.now c.args.context.arena.now.closed c.args.field)) c.set_part.ensures.is) }

pub set_part-returns-in_err-clean_field-in-Radical : goal.set_part-returns-in_err-clean_field-in-Radical
set_part-returns-in_err-clean_field-in-Radical t c =
    let fonts = c.args.context.fonts.now in
    let field = field_content fonts c.args.context.arena.now.closed c.args.field in
    let p = err_from_is_err_and c.from_residual.result c.from_residual.ensures.1 in rw (p.1, p.2) (record { is = subst (λ k. SetFails c.in_err-clean_field-in-Radical.field-0.0 (part_box k fonts c.args.style field)) (sym c.in-Radical.is) (fails_then _ (clean_field fonts (cramped_of c.args.style) field) (Radicals.radical fonts c.args.style c.in-Radical.sign) (subst (λ t. SetFails c.in_err-clean_field-in-Radical.field-0.0 (clean_field fonts t field)) c.cramped.ensures c.in_err-clean_field-in-Radical.ensures.is)) })

pub set_part-returns-in_ok-clean_field-in-Radical : goal.set_part-returns-in_ok-clean_field-in-Radical
set_part-returns-in_ok-clean_field-in-Radical t c =
    let fonts = c.args.context.fonts.now in
    let field = field_content fonts c.args.context.arena.now.closed c.args.field in
    let b = c.in_ok-clean_field-in-Radical.ensures.is in
    let P = SetsBoxOn c.part_set.result c.args.pieces.now c.radical.new.self in
    record { is = subst (λ k. P (part_box k fonts c.args.style field)) (sym c.in-Radical.is) (first_made P (clean_field fonts (cramped_of c.args.style) field) b.box (Radicals.radical fonts c.args.style c.in-Radical.sign) (ap (λ t. clean_field fonts t field) (sym c.cramped.ensures) ∙ b.is) (c.part_set.ensures.boxed c.args.pieces.now c.radical.new.self (Radicals.radical fonts c.args.style c.in-Radical.sign b.box) (c.radical.ensures c.args.pieces.now b.box b.stays))) }

pub set_part-returns-in_err-clean_field-in-Over : goal.set_part-returns-in_err-clean_field-in-Over
set_part-returns-in_err-clean_field-in-Over t c =
    let fonts = c.args.context.fonts.now in
    let field = field_content fonts c.args.context.arena.now.closed c.args.field in
    let p = err_from_is_err_and c.from_residual-in_err-clean_field-in-Over.result c.from_residual-in_err-clean_field-in-Over.ensures.1 in rw (p.1, p.2) (record { is = subst (λ k. SetFails c.in_err-clean_field-in-Over.field-0.0 (part_box k fonts c.args.style field)) (sym c.in-Over.is) (fails_then _ (clean_field fonts (cramped_of c.args.style) field) (Lines.overline fonts (size_of c.args.style)) (subst (λ t. SetFails c.in_err-clean_field-in-Over.field-0.0 (clean_field fonts t field)) c.cramped-in-Over.ensures c.in_err-clean_field-in-Over.ensures.is)) })

pub set_part-returns-in_ok-clean_field-in-Over : goal.set_part-returns-in_ok-clean_field-in-Over
set_part-returns-in_ok-clean_field-in-Over t c =
    let fonts = c.args.context.fonts.now in
    let field = field_content fonts c.args.context.arena.now.closed c.args.field in
    let b = c.in_ok-clean_field-in-Over.ensures.is in
    let P = SetsBoxOn c.part_set-in-Over.result c.args.pieces.now c.overline.new.self in
    record { is = subst (λ k. P (part_box k fonts c.args.style field)) (sym c.in-Over.is) (first_made P (clean_field fonts (cramped_of c.args.style) field) b.box (Lines.overline fonts (size_of c.args.style)) (ap (λ t. clean_field fonts t field) (sym c.cramped-in-Over.ensures) ∙ b.is) (c.part_set-in-Over.ensures.boxed c.args.pieces.now c.overline.new.self (Lines.overline fonts (size_of c.args.style) b.box) (subst (λ s. SetsPieces c.overline.result c.overline.new.self (boxed_on c.args.pieces.now (Lines.overline fonts s b.box))) c.size.ensures (c.overline.ensures c.args.pieces.now b.box b.stays)))) }

pub set_part-returns-in_err-clean_field-in-Under : goal.set_part-returns-in_err-clean_field-in-Under
set_part-returns-in_err-clean_field-in-Under t c =
    let fonts = c.args.context.fonts.now in
    let field = field_content fonts c.args.context.arena.now.closed c.args.field in
    let p = err_from_is_err_and c.from_residual-in_err-clean_field-in-Under.result c.from_residual-in_err-clean_field-in-Under.ensures.1 in rw (p.1, p.2) (record { is = subst (λ k. SetFails c.in_err-clean_field-in-Under.field-0.0 (part_box k fonts c.args.style field)) (sym c.in-Under.is) (fails_then _ (clean_field fonts c.args.style field) (Lines.underline fonts (size_of c.args.style)) c.in_err-clean_field-in-Under.ensures.is) })

pub set_part-returns-in_ok-clean_field-in-Under : goal.set_part-returns-in_ok-clean_field-in-Under
set_part-returns-in_ok-clean_field-in-Under t c =
    let fonts = c.args.context.fonts.now in
    let field = field_content fonts c.args.context.arena.now.closed c.args.field in
    let b = c.in_ok-clean_field-in-Under.ensures.is in
    let P = SetsBoxOn c.part_set-in-Under.result c.args.pieces.now c.underline.new.self in
    record { is = subst (λ k. P (part_box k fonts c.args.style field)) (sym c.in-Under.is) (first_made P (clean_field fonts c.args.style field) b.box (Lines.underline fonts (size_of c.args.style)) b.is (c.part_set-in-Under.ensures.boxed c.args.pieces.now c.underline.new.self (Lines.underline fonts (size_of c.args.style) b.box) (subst (λ s. SetsPieces c.underline.result c.underline.new.self (boxed_on c.args.pieces.now (Lines.underline fonts s b.box))) c.size-in-Under.ensures (c.underline.ensures c.args.pieces.now b.box b.stays)))) }

pub set_part-returns-in-Accent : goal.set_part-returns-in-Accent
set_part-returns-in-Accent t c = record { is = subst (λ k. SetsBoxOn c.set_accent.result c.args.pieces.now c.set_accent.new.pieces (part_box k c.args.context.fonts.now c.args.style (field_content c.args.context.fonts.now c.args.context.arena.now.closed c.args.field))) (sym c.in-Accent.is) c.set_accent.ensures.is }

pub set_part-returns-in-Vcenter : goal.set_part-returns-in-Vcenter
set_part-returns-in-Vcenter t c = record { is = subst (λ k. SetsBoxOn c.set_vcenter.result c.args.pieces.now c.set_vcenter.new.pieces (part_box k c.args.context.fonts.now c.args.style (field_content c.args.context.fonts.now c.args.context.arena.now.closed c.args.field))) (sym c.in-Vcenter.is) c.set_vcenter.ensures.is }

pub set_part-returns-in-Veil : goal.set_part-returns-in-Veil
set_part-returns-in-Veil t c = record { is = subst (λ k. SetsBoxOn c.set_veil.result c.args.pieces.now c.set_veil.new.pieces (part_box k c.args.context.fonts.now c.args.style (field_content c.args.context.fonts.now c.args.context.arena.now.closed c.args.field))) (sym c.in-Veil.is) c.set_veil.ensures.is }

-- ---- `set_plain`

pub set_plain-returns-in-Sym : goal.set_plain-returns-in-Sym
set_plain-returns-in-Sym t c = record { is = subst (SetsNucleusOn c.class_nucleus.result c.args.pieces.now c.class_nucleus.new.pieces) (sym (symbol_nucleus_is c.args.class c.args.context.fonts.now c.args.style (role_value c.args.role) (cell_part c.args.context.arena.now.closed c.args.field) c.in-Sym.symbol c.args.has_subscript (ap (cell_part c.args.context.arena.now.closed) c.in-Sym.is))) c.class_nucleus.ensures.is }

pub set_plain-pack_list-requires : goal.set_plain-pack_list-requires
set_plain-pack_list-requires t c =
    let e = ap (cell_part c.args.context.arena.now.closed) c.in-List.is in
    let s = ap part_size e in
    (omega (arith, s, c.decreases), list_span _ c.args.field c.in-List.list c.in-List.is c.requires.modest)

pub set_plain-returns-in-List : goal.set_plain-returns-in-List
set_plain-returns-in-List t c = record { is = subst (SetsNucleusOn c.part_nucleus.result c.args.pieces.now c.pack_list.new.pieces) (sym (list_nucleus_is c.args.class c.args.context.fonts.now c.args.style (role_value c.args.role) (cell_part c.args.context.arena.now.closed c.args.field) (sequence_in c.args.context.arena.now.closed c.in-List.list) c.args.has_subscript (ap (cell_part c.args.context.arena.now.closed) c.in-List.is))) (c.part_nucleus.ensures c.args.pieces.now c.pack_list.new.pieces (list_box (list_content c.args.context.fonts.now (sequence_in c.args.context.arena.now.closed c.in-List.list)) c.args.style) c.pack_list.ensures.is) }

pub set_plain-returns-in-Big : goal.set_plain-returns-in-Big
set_plain-returns-in-Big t c = record { is = subst (SetsNucleusOn c.big_nucleus.result c.args.pieces.now c.big_nucleus.new.pieces) (sym (big_nucleus_is c.args.class c.args.context.fonts.now c.args.style (role_value c.args.role) (cell_part c.args.context.arena.now.closed c.args.field) c.in-Big.delim c.in-Big.level c.args.has_subscript (ap (cell_part c.args.context.arena.now.closed) c.in-Big.is))) c.big_nucleus.ensures.is }

pub set_plain-returns-in_default : goal.set_plain-returns-in_default
set_plain-returns-in_default t c = record { is = no_row c.args.pieces.now _ (empty_nucleus_is c.args.class c.args.context.fonts.now c.args.style (role_value c.args.role) (cell_part c.args.context.arena.now.closed c.args.field) c.args.has_subscript (has_no_nucleus c.args.context.arena.now.closed c.args.field c.in_default.not-Sym c.in_default.not-List c.in_default.not-Big)) }

-- ---- `clean_list` and `pack_list`

pub clean_list-returns-in-Some : goal.clean_list-returns-in-Some
clean_list-returns-in-Some t c = record {
  is = let same = subst (λ o. IfSome o (λ symbol. (fonts : SetValue) (style : Style) → clean_list (list_content fonts (sequence_in c.args.context.arena.now.closed c.args.list)) style ≡ clean_symbol fonts style symbol)) c.in-Some.is c.lone_symbol.ensures in
      subst (SetsBoxOn c.clean_symbol.result c.args.pieces.now c.clean_symbol.new.pieces) (sym (same c.args.context.fonts.now c.args.style)) c.clean_symbol.ensures.is;
}

pub clean_list-returns-in_err-set_span_on : goal.clean_list-returns-in_err-set_span_on
clean_list-returns-in_err-set_span_on t c =
    let p = err_from_is_err_and c.from_residual.result c.from_residual.ensures.1 in rw (p.1, p.2) (record { is = fails_then _ (list_content c.args.context.fonts.now (sequence_in c.args.context.arena.now.closed c.args.list) c.args.style) make_clean c.in_err-set_span_on.ensures.is })

pub clean_list-cleaned-requires : goal.clean_list-cleaned-requires
clean_list-cleaned-requires t c = record { few = subst (λ n. length (drop n c.set_span_on.new.pieces) ≤ 2 ^ 21) (sym c.len-first.ensures) c.in_ok-set_span_on.ensures.few }

pub clean_list-returns : goal.clean_list-returns
clean_list-returns t c = record {
  is = let r = c.in_ok-set_span_on.ensures.is in
      first_made (SetsBoxOn c.cleaned.result c.args.pieces.now c.cleaned.new.pieces) (list_content c.args.context.fonts.now (sequence_in c.args.context.arena.now.closed c.args.list) c.args.style) r.row make_clean r.is (c.cleaned.ensures.is c.args.pieces.now r.row (sym c.len-first.ensures) r.stays);
}

pub pack_list-returns-in_err-set_span_on : goal.pack_list-returns-in_err-set_span_on
pack_list-returns-in_err-set_span_on t c =
    let p = err_from_is_err_and c.from_residual.result c.from_residual.ensures.1 in rw (p.1, p.2) (record { is = fails_then _ (list_content c.args.context.fonts.now (sequence_in c.args.context.arena.now.closed c.args.list) c.args.style) pack_row c.in_err-set_span_on.ensures.is })

pub pack_list-packed-requires : goal.pack_list-packed-requires
pack_list-packed-requires t c = record { few = subst (λ n. length (drop n c.set_span_on.new.pieces) ≤ 2 ^ 21) (sym c.len-first.ensures) c.in_ok-set_span_on.ensures.few }

pub pack_list-returns : goal.pack_list-returns
pack_list-returns t c = record {
  is = let r = c.in_ok-set_span_on.ensures.is in
      first_made (SetsBoxOn c.packed.result c.args.pieces.now c.packed.new.pieces) (list_content c.args.context.fonts.now (sequence_in c.args.context.arena.now.closed c.args.list) c.args.style) r.row pack_row r.is (c.packed.ensures.is c.args.pieces.now r.row (sym c.len-first.ensures) r.stays);
}

-- ---- `pack_field` and `set_veil`

pub pack_field-returns-in_err-set_plain : goal.pack_field-returns-in_err-set_plain
pack_field-returns-in_err-set_plain t c =
    let p = err_from_is_err_and c.from_residual.result c.from_residual.ensures.1 in rw (p.1, p.2) (record { is = nucleus_fails _ c.args.context.fonts.now c.args.style (field_content c.args.context.fonts.now c.args.context.arena.now.closed c.args.field) c.in_err-set_plain.ensures.is })

pub pack_field-without_scripts-requires : goal.pack_field-without_scripts-requires
pack_field-without_scripts-requires t c = record { few = few_behind c.len-first.result 4 c.args.pieces.now c.in_ok-set_plain.ensures.is.row c.set_plain.new.pieces c.len-first.ensures c.in_ok-set_plain.ensures.is.stays (omega (arith, c.in_ok-set_plain.ensures.is.few)) }

pub pack_field-returns-in_err-without_scripts : goal.pack_field-returns-in_err-without_scripts
pack_field-returns-in_err-without_scripts t c =
    let n = c.in_ok-set_plain.ensures.is in
    let p = err_from_is_err_and c.from_residual-in_err-without_scripts.result c.from_residual-in_err-without_scripts.ensures.1 in rw (p.1, p.2) (record { is = field_row_fails _ c.args.context.fonts.now c.args.style (field_content c.args.context.fonts.now c.args.context.arena.now.closed c.args.field) (record { row = n.row; delta = c.in_ok-set_plain.field-0.sp }) n.is (c.in_err-without_scripts.ensures.is c.args.pieces.now n.row (sym c.len-first.ensures) n.stays c.args.context.fonts.now c.args.style c.in_ok-set_plain.field-0.sp) })

pub pack_field-packed-requires : goal.pack_field-packed-requires
pack_field-packed-requires t c = record { few = few_behind c.len-first.result (2 ^ 21) c.args.pieces.now c.in_ok-set_plain.ensures.is.row c.set_plain.new.pieces c.len-first.ensures c.in_ok-set_plain.ensures.is.stays (omega (arith, c.in_ok-set_plain.ensures.is.few)) }

pub pack_field-returns : goal.pack_field-returns
pack_field-returns t c = record {
  is = let n = c.in_ok-set_plain.ensures.is in
      let a = c.in_ok-without_scripts.ensures.is c.args.pieces.now n.row (sym c.len-first.ensures) n.stays c.args.context.fonts.now c.args.style c.in_ok-set_plain.field-0.sp in
      field_made (SetsBoxOn c.packed.result c.args.pieces.now c.packed.new.pieces) c.args.context.fonts.now c.args.style (field_content c.args.context.fonts.now c.args.context.arena.now.closed c.args.field) (record { row = n.row; delta = c.in_ok-set_plain.field-0.sp }) a.row n.is a.is (c.packed.ensures.is c.args.pieces.now a.row (sym c.len-first.ensures) a.stays);
}

pub set_veil-returns-in_err-pack_field : goal.set_veil-returns-in_err-pack_field
set_veil-returns-in_err-pack_field t c =
    let p = err_from_is_err_and c.from_residual.result c.from_residual.ensures.1 in rw (p.1, p.2) (record { is = veil_fails _ c.args.context.fonts.now c.args.style c.uncramped.result c.args.width c.args.height c.args.marks (field_content c.args.context.fonts.now c.args.context.arena.now.closed c.args.field) c.uncramped.ensures c.in_err-pack_field.ensures.is })

pub set_veil-returns : goal.set_veil-returns
set_veil-returns t c = record {
  is = let b = c.in_ok-pack_field.ensures.is in
      veil_made (SetsBoxOn c.veil.result c.args.pieces.now c.veil.new.pieces) c.args.context.fonts.now c.args.style c.uncramped.result c.args.width c.args.height c.args.marks (field_content c.args.context.fonts.now c.args.context.arena.now.closed c.args.field) b.box c.uncramped.ensures b.is (c.veil.ensures c.args.pieces.now b.box b.stays);
}

-- ---- `set_operator`

pub set_operator-returns-in-Sym : goal.set_operator-returns-in-Sym
set_operator-returns-in-Sym t c = record { is = subst (SetsOperatorOn c.symbol_operator.result c.args.pieces.now c.symbol_operator.new.pieces) (sym (symbol_operator_is c.args.context.fonts.now c.args.style (cell_part c.args.context.arena.now.closed c.args.field) c.in-Sym.symbol (ap (cell_part c.args.context.arena.now.closed) c.in-Sym.is))) c.symbol_operator.ensures.is }

pub set_operator-clean_list-requires : goal.set_operator-clean_list-requires
set_operator-clean_list-requires t c =
    let e = ap (cell_part c.args.context.arena.now.closed) c.in-List.is in
    let s = ap part_size e in
    (omega (arith, s, c.decreases), list_span _ c.args.field c.in-List.list c.in-List.is c.requires.modest)

pub set_operator-returns-in-List : goal.set_operator-returns-in-List
set_operator-returns-in-List t c = record { is = subst (SetsOperatorOn c.part_operator.result c.args.pieces.now c.clean_list.new.pieces) (sym (list_operator_is c.args.context.fonts.now c.args.style (cell_part c.args.context.arena.now.closed c.args.field) (sequence_in c.args.context.arena.now.closed c.in-List.list) (ap (cell_part c.args.context.arena.now.closed) c.in-List.is))) (c.part_operator.ensures c.args.pieces.now c.clean_list.new.pieces (clean_list (list_content c.args.context.fonts.now (sequence_in c.args.context.arena.now.closed c.in-List.list)) c.args.style) c.clean_list.ensures.is) }

pub set_operator-returns-in-Big : goal.set_operator-returns-in-Big
set_operator-returns-in-Big t c = record { is = subst (SetsOperatorOn c.big_operator.result c.args.pieces.now c.big_operator.new.pieces) (sym (big_operator_is c.args.context.fonts.now c.args.style (cell_part c.args.context.arena.now.closed c.args.field) c.in-Big.delim c.in-Big.level (ap (cell_part c.args.context.arena.now.closed) c.in-Big.is))) (c.big_operator.ensures.is c.args.style) }

pub set_operator-returns-in_default : goal.set_operator-returns-in_default
set_operator-returns-in_default t c = record { is = subst (SetsOperatorOn c.part_operator-in_default.result c.args.pieces.now c.empty_box.new.pieces) (sym (empty_operator_is c.args.context.fonts.now c.args.style (cell_part c.args.context.arena.now.closed c.args.field) (has_no_nucleus c.args.context.arena.now.closed c.args.field c.in_default.not-Sym c.in_default.not-List c.in_default.not-Big))) (c.part_operator-in_default.ensures c.args.pieces.now c.empty_box.new.pieces (Ok empty_layout) c.empty_box.ensures.is) }

-- ---- `set_scripts`, `set_under_limits` and `set_script`

pub set_scripts-returns-in_err-sup : goal.set_scripts-returns-in_err-sup
set_scripts-returns-in_err-sup t c =
    let p = err_from_is_err_and c.from_residual.result c.from_residual.ensures.1 in rw (p.1, p.2) (record { is = λ before row f e. sup_fails _ c.args.context.fonts.now c.args.style c.sup.result (field_content c.args.context.fonts.now c.args.context.arena.now.closed c.args.sup) (field_content c.args.context.fonts.now c.args.context.arena.now.closed c.args.sub) (row_beside c.args.context.fonts.now c.args.style (record { row = row; delta = c.args.delta.sp })) c.sup.ensures c.in_err-sup.ensures.is })

pub set_scripts-returns-in_err-sub : goal.set_scripts-returns-in_err-sub
set_scripts-returns-in_err-sub t c =
    let p = err_from_is_err_and c.from_residual-in_err-sub.result c.from_residual-in_err-sub.ensures.1 in rw (p.1, p.2) (record { is = λ before row f e. sub_fails _ c.args.context.fonts.now c.args.style c.sup.result c.sub.result (field_content c.args.context.fonts.now c.args.context.arena.now.closed c.args.sup) (field_content c.args.context.fonts.now c.args.context.arena.now.closed c.args.sub) c.in_ok-sup.ensures.is.box (row_beside c.args.context.fonts.now c.args.style (record { row = row; delta = c.args.delta.sp })) c.sup.ensures c.sub.ensures c.in_ok-sup.ensures.is.is c.in_err-sub.ensures.is })

pub set_scripts-with_scripts-requires-clause-few : goal.set_scripts-with_scripts-requires-clause-few
set_scripts-with_scripts-requires-clause-few t c = scripts_few c.args.first c.args.pieces.now _ _ c.in_ok-sup.ensures.is.box c.in_ok-sub.ensures.is.box c.requires.few c.in_ok-sup.ensures.is.stays c.in_ok-sub.ensures.is.stays

pub set_scripts-returns : goal.set_scripts-returns
set_scripts-returns t c = record {
  is = λ before row f e.
      let a = c.in_ok-sup.ensures.is in
      let b = c.in_ok-sub.ensures.is in
      both_made (SetsAtomOn c.with_scripts.result before c.with_scripts.new.pieces) c.args.context.fonts.now c.args.style c.sup.result c.sub.result (field_content c.args.context.fonts.now c.args.context.arena.now.closed c.args.sup) (field_content c.args.context.fonts.now c.args.context.arena.now.closed c.args.sub) a.box b.box (row_beside c.args.context.fonts.now c.args.style (record { row = row; delta = c.args.delta.sp })) c.sup.ensures c.sub.ensures a.is b.is
      (c.with_scripts.ensures.is before row a.box b.box (record { sup = a.known; sub = b.known }) f (few_row c.args.first 2 before row c.args.pieces.now f e c.requires.few) (row_and_scripts before row c.args.pieces.now _ _ a.box b.box e a.stays b.stays));
}

pub set_under_limits-returns-in_err-delta : goal.set_under_limits-returns-in_err-delta
set_under_limits-returns-in_err-delta t c =
    let p = err_from_is_err_and c.from_residual.result c.from_residual.ensures.1 in rw (p.1, p.2) (record { is = fails_then _ (operator_box c.args.context.fonts.now c.args.style (field_content c.args.context.fonts.now c.args.context.arena.now.closed c.args.nucleus)) (λ o. row_with_limits c.args.context.fonts.now c.args.style o (field_content c.args.context.fonts.now c.args.context.arena.now.closed c.args.sup) (field_content c.args.context.fonts.now c.args.context.arena.now.closed c.args.sub)) c.in_err-delta.ensures.is })

pub set_under_limits-returns-in_err-sup : goal.set_under_limits-returns-in_err-sup
set_under_limits-returns-in_err-sup t c =
    let p = err_from_is_err_and c.from_residual-in_err-sup.result c.from_residual-in_err-sup.ensures.1 in rw (p.1, p.2) (record { is = first_made (SetFails _) (operator_box c.args.context.fonts.now c.args.style (field_content c.args.context.fonts.now c.args.context.arena.now.closed c.args.nucleus)) (record { box = c.in_ok-delta.ensures.is.box; delta = c.in_ok-delta.delta.sp }) (λ o. row_with_limits c.args.context.fonts.now c.args.style o (field_content c.args.context.fonts.now c.args.context.arena.now.closed c.args.sup) (field_content c.args.context.fonts.now c.args.context.arena.now.closed c.args.sub)) c.in_ok-delta.ensures.is.is (sup_fails _ c.args.context.fonts.now c.args.style c.sup.result (field_content c.args.context.fonts.now c.args.context.arena.now.closed c.args.sup) (field_content c.args.context.fonts.now c.args.context.arena.now.closed c.args.sub) (row_between c.args.context.fonts.now (size_of c.args.style) c.in_ok-delta.ensures.is.box c.in_ok-delta.delta.sp) c.sup.ensures c.in_err-sup.ensures.is) })

pub set_under_limits-returns-in_err-sub : goal.set_under_limits-returns-in_err-sub
set_under_limits-returns-in_err-sub t c =
    let p = err_from_is_err_and c.from_residual-in_err-sub.result c.from_residual-in_err-sub.ensures.1 in rw (p.1, p.2) (record { is = first_made (SetFails _) (operator_box c.args.context.fonts.now c.args.style (field_content c.args.context.fonts.now c.args.context.arena.now.closed c.args.nucleus)) (record { box = c.in_ok-delta.ensures.is.box; delta = c.in_ok-delta.delta.sp }) (λ o. row_with_limits c.args.context.fonts.now c.args.style o (field_content c.args.context.fonts.now c.args.context.arena.now.closed c.args.sup) (field_content c.args.context.fonts.now c.args.context.arena.now.closed c.args.sub)) c.in_ok-delta.ensures.is.is (sub_fails _ c.args.context.fonts.now c.args.style c.sup.result c.sub.result (field_content c.args.context.fonts.now c.args.context.arena.now.closed c.args.sup) (field_content c.args.context.fonts.now c.args.context.arena.now.closed c.args.sub) c.in_ok-sup.ensures.is.box (row_between c.args.context.fonts.now (size_of c.args.style) c.in_ok-delta.ensures.is.box c.in_ok-delta.delta.sp) c.sup.ensures c.sub.ensures c.in_ok-sup.ensures.is.is c.in_err-sub.ensures.is) })

pub set_under_limits-with_limits-requires : goal.set_under_limits-with_limits-requires
set_under_limits-with_limits-requires t c = record { delta = c.in_ok-delta.ensures.is.small }

pub set_under_limits-returns : goal.set_under_limits-returns
set_under_limits-returns t c = record {
  is = let o = c.in_ok-delta.ensures.is in
      let a = c.in_ok-sup.ensures.is in
      let b = c.in_ok-sub.ensures.is in
      let P = SetsAtomOn c.with_limits.result c.args.pieces.now c.with_limits.new.pieces in
      first_made P (operator_box c.args.context.fonts.now c.args.style (field_content c.args.context.fonts.now c.args.context.arena.now.closed c.args.nucleus)) (record { box = c.in_ok-delta.ensures.is.box; delta = c.in_ok-delta.delta.sp }) (λ o. row_with_limits c.args.context.fonts.now c.args.style o (field_content c.args.context.fonts.now c.args.context.arena.now.closed c.args.sup) (field_content c.args.context.fonts.now c.args.context.arena.now.closed c.args.sub)) o.is
      (both_made P c.args.context.fonts.now c.args.style c.sup.result c.sub.result (field_content c.args.context.fonts.now c.args.context.arena.now.closed c.args.sup) (field_content c.args.context.fonts.now c.args.context.arena.now.closed c.args.sub) a.box b.box (row_between c.args.context.fonts.now (size_of c.args.style) c.in_ok-delta.ensures.is.box c.in_ok-delta.delta.sp) c.sup.ensures c.sub.ensures a.is b.is
      (subst (λ s. P (row_between c.args.context.fonts.now s o.box c.in_ok-delta.delta.sp a.box b.box)) c.size.ensures
      (c.with_limits.ensures.is c.args.pieces.now o.box a.box b.box (record { sup = a.known; sub = b.known }) (box_and_scripts c.args.pieces.now _ _ _ o.box a.box b.box o.stays a.stays b.stays))));
}

pub set_script-returns-then-is_empty : goal.set_script-returns-then-is_empty
set_script-returns-then-is_empty t c = record { is = record { box = None; is = no_script c.args.context.fonts.now c.args.style (cell_part c.args.context.arena.now.closed c.args.field) (sym (c.is_empty.ensures c.args.context.arena.now.closed) ∙ c.if-is_empty.true); known = refl; stays = nil_right c.args.pieces.now } }

pub set_script-returns-in_err-clean_field : goal.set_script-returns-in_err-clean_field
set_script-returns-in_err-clean_field t c =
    let p = err_from_is_err_and c.from_residual.result c.from_residual.ensures.1 in rw (p.1, p.2) (record { is = script_fails _ c.args.context.fonts.now c.args.style (cell_part c.args.context.arena.now.closed c.args.field) (sym (c.is_empty.ensures c.args.context.arena.now.closed) ∙ c.if-is_empty.false) c.in_err-clean_field.ensures.is })

pub set_script-returns : goal.set_script-returns
set_script-returns t c = record {
  is = let b = c.in_ok-clean_field.ensures.is in
      record { box = Some b.box; is = script_made c.args.context.fonts.now c.args.style (cell_part c.args.context.arena.now.closed c.args.field) b.box (sym (c.is_empty.ensures c.args.context.arena.now.closed) ∙ c.if-is_empty.false) b.is; known = refl; stays = b.stays };
}

-- ---- `clean_field`

pub clean_field-returns-in-Sym : goal.clean_field-returns-in-Sym
clean_field-returns-in-Sym t c = record { is = subst (SetsBoxOn c.clean_symbol.result c.args.pieces.now c.clean_symbol.new.pieces) (sym (clean_symbol_is c.args.context.fonts.now c.args.style (cell_part c.args.context.arena.now.closed c.args.field) c.in-Sym.symbol (ap (cell_part c.args.context.arena.now.closed) c.in-Sym.is))) c.clean_symbol.ensures.is }

pub clean_field-clean_list-requires : goal.clean_field-clean_list-requires
clean_field-clean_list-requires t c =
    let e = ap (cell_part c.args.context.arena.now.closed) c.in-List.is in
    let s = ap part_size e in
    (omega (arith, s, c.decreases), list_span _ c.args.field c.in-List.list c.in-List.is c.requires.modest)

pub clean_field-returns-in-List : goal.clean_field-returns-in-List
clean_field-returns-in-List t c = record { is = subst (SetsBoxOn c.clean_list.result c.args.pieces.now c.clean_list.new.pieces) (sym (clean_list_is c.args.context.fonts.now c.args.style (cell_part c.args.context.arena.now.closed c.args.field) (sequence_in c.args.context.arena.now.closed c.in-List.list) (ap (cell_part c.args.context.arena.now.closed) c.in-List.is))) c.clean_list.ensures.is }

pub clean_field-returns-in_default : goal.clean_field-returns-in_default
clean_field-returns-in_default t c = record { is = subst (SetsBoxOn c.empty_box.result c.args.pieces.now c.empty_box.new.pieces) (sym (clean_empty_is c.args.context.fonts.now c.args.style (cell_part c.args.context.arena.now.closed c.args.field) (has_no_box c.args.context.arena.now.closed c.args.field c.in_default.not-Sym c.in_default.not-List))) c.empty_box.ensures.is }

-- ---- parts round a nucleus

pub set_root-root_of-root-requires : goal.set_root-root_of-root-requires
set_root-root_of-root-requires t c = record { within = c.requires.modest.within }

pub set_root-pack_field-requires : goal.set_root-pack_field-requires
set_root-pack_field-requires t c =
    let e = c.root_of-root.ensures.is c.requires.degree in
    (omega (arith, ap part_size e, c.decreases), degree_cell _ c.args.nucleus c.root_of-root.result c.requires.modest e c.root_of-root.ensures.degree)

pub set_root-returns-in_err-pack_field : goal.set_root-returns-in_err-pack_field
set_root-returns-in_err-pack_field t c =
    let e = c.root_of-root.ensures.is c.requires.degree in
    let p = err_from_is_err_and c.from_residual.result c.from_residual.ensures.1 in rw (p.1, p.2) (record { is = λ sup sub. of_root (SetFails _) c.args.context.fonts.now c.args.style c.args.sign (cell_part c.args.context.arena.now.closed c.args.nucleus) _ _ sup sub e (degree_fails _ c.args.context.fonts.now c.args.style c.args.sign (list_content c.args.context.fonts.now (sequence_in c.args.context.arena.now.closed c.root_of-root.result.degree)) (field_content c.args.context.fonts.now c.args.context.arena.now.closed c.root_of-root.result.body) c.in_err-pack_field.ensures.is) })

pub set_root-set_part-requires : goal.set_root-set_part-requires
set_root-set_part-requires t c =
    let e = c.root_of-root.ensures.is c.requires.degree in
    (omega (arith, ap part_size e, c.decreases), (body_cell _ c.args.nucleus c.root_of-root.result c.requires.modest e c.root_of-root.ensures.body, λ class k. absurd (cc)))

pub set_root-returns-in_err-set_part : goal.set_root-returns-in_err-set_part
set_root-returns-in_err-set_part t c =
    let e = c.root_of-root.ensures.is c.requires.degree in
    let p = err_from_is_err_and c.from_residual-in_err-set_part.result c.from_residual-in_err-set_part.ensures.1 in rw (p.1, p.2) (record { is = λ sup sub. of_root (SetFails _) c.args.context.fonts.now c.args.style c.args.sign (cell_part c.args.context.arena.now.closed c.args.nucleus) _ _ sup sub e (body_fails _ c.args.context.fonts.now c.args.style c.uncramped.result c.args.sign (list_content c.args.context.fonts.now (sequence_in c.args.context.arena.now.closed c.root_of-root.result.degree)) (field_content c.args.context.fonts.now c.args.context.arena.now.closed c.root_of-root.result.body) c.in_ok-pack_field.ensures.is.box c.uncramped.ensures c.in_ok-pack_field.ensures.is.is c.in_err-set_part.ensures.is) })

pub set_root-returns : goal.set_root-returns
set_root-returns t c = record {
  is = λ sup sub.
      let e = c.root_of-root.ensures.is c.requires.degree in
      let d = c.in_ok-pack_field.ensures.is in
      let r = c.in_ok-set_part.ensures.is in
      let P = SetsAtomOn c.with_degree.result c.args.pieces.now c.with_degree.new.pieces in
      of_root P c.args.context.fonts.now c.args.style c.args.sign (cell_part c.args.context.arena.now.closed c.args.nucleus) _ _ sup sub e (root_made P c.args.context.fonts.now c.args.style c.uncramped.result c.args.sign (list_content c.args.context.fonts.now (sequence_in c.args.context.arena.now.closed c.root_of-root.result.degree)) (field_content c.args.context.fonts.now c.args.context.arena.now.closed c.root_of-root.result.body) d.box r.box c.uncramped.ensures d.is r.is (c.with_degree.ensures c.args.pieces.now d.box r.box (sym c.len-first.ensures) (two_boxes c.args.pieces.now _ _ d.box r.box d.stays r.stays)));
}

pub set_root-with_degree-requires : goal.set_root-with_degree-requires
set_root-with_degree-requires t c =
    let d = c.in_ok-pack_field.ensures.is in
    let r = c.in_ok-set_part.ensures.is in
    record { before = c.args.pieces.now; one = d.box; two = r.box; at = sym c.len-first.ensures; is = two_boxes c.args.pieces.now _ _ d.box r.box d.stays r.stays }

-- ---- `set_accent`

pub set_accent-returns-in_err-find_symbol : goal.set_accent-returns-in_err-find_symbol
set_accent-returns-in_err-find_symbol t c =
    let p = err_from_is_err_and c.from_residual.result c.from_residual.ensures.1 in rw (p.1, p.2) (record { is = finding_fails _ c.args.context.fonts.now c.args.style c.size.result c.args.symbol (field_content c.args.context.fonts.now c.args.context.arena.now.closed c.args.field) c.size.ensures c.in_err-find_symbol.ensures.is })

pub set_accent-returns-in_err-clean_field : goal.set_accent-returns-in_err-clean_field
set_accent-returns-in_err-clean_field t c =
    let p = err_from_is_err_and c.from_residual-in_err-clean_field.result c.from_residual-in_err-clean_field.ensures.1 in rw (p.1, p.2) (record { is = plain_fails _ c.args.context.fonts.now c.args.style c.cramped.result c.size.result c.args.symbol (field_content c.args.context.fonts.now c.args.context.arena.now.closed c.args.field) c.in_ok-find_symbol.field-0 c.size.ensures c.cramped.ensures c.in_ok-find_symbol.ensures.is c.in_err-clean_field.ensures.is })

pub set_accent-accent-requires-clause-found : goal.set_accent-accent-requires-clause-found
set_accent-accent-requires-clause-found t c = found c.args.context.fonts.now c.size.result c.size-3.result c.args.symbol c.in_ok-find_symbol.field-0 (c.size.ensures ∙ sym c.size-3.ensures) c.in_ok-find_symbol.ensures.is

pub set_accent-returns : goal.set_accent-returns
set_accent-returns t c = record {
  is = let b = c.in_ok-clean_field.ensures.is in
      let k = c.in_ok-find_symbol.field-0 in
      accent_part_made (SetsBoxOn c.accent.result c.args.pieces.now c.accent.new.pieces) c.args.context.fonts.now c.args.style c.cramped.result c.size.result c.size-2.result c.args.symbol (field_content c.args.context.fonts.now c.args.context.arena.now.closed c.args.field) k b.box c.field_skew-skew.result.sp c.last_extents-plain.result c.size.ensures c.size-2.ensures c.cramped.ensures c.in_ok-find_symbol.ensures.is b.is (c.field_skew-skew.ensures.is c.args.context.arena.now.closed) (c.last_extents-plain.ensures.is c.args.pieces.now (pos 0) b.box b.stays)
      (c.accent.ensures k (ap (λ s. find_symbol c.args.context.fonts.now s c.args.symbol) (c.size-3.ensures ∙ sym c.size.ensures) ∙ c.in_ok-find_symbol.ensures.is) c.args.pieces.now b.box b.stays);
}

-- ---- `set_accent_inside` and `set_symbol`

pub set_accent_inside-returns-in_err-find_symbol : goal.set_accent_inside-returns-in_err-find_symbol
set_accent_inside-returns-in_err-find_symbol t c =
    let p = err_from_is_err_and c.from_residual.result c.from_residual.ensures.1 in rw (p.1, p.2) (record { is = inside_finding_fails _ c.args.context.fonts.now c.args.style c.size.result c.args.accent_symbol c.args.symbol (field_content c.args.context.fonts.now c.args.context.arena.now.closed c.args.sup) (field_content c.args.context.fonts.now c.args.context.arena.now.closed c.args.sub) c.size.ensures c.in_err-find_symbol.ensures.is })

pub set_accent_inside-returns-in_err-plain : goal.set_accent_inside-returns-in_err-plain
set_accent_inside-returns-in_err-plain t c =
    let p = err_from_is_err_and c.from_residual-in_err-plain.result c.from_residual-in_err-plain.ensures.1 in rw (p.1, p.2) (record { is = inside_plain_fails _ c.args.context.fonts.now c.args.style c.cramped.result c.size.result c.args.accent_symbol c.args.symbol (field_content c.args.context.fonts.now c.args.context.arena.now.closed c.args.sup) (field_content c.args.context.fonts.now c.args.context.arena.now.closed c.args.sub) c.in_ok-find_symbol.field-0 c.size.ensures c.cramped.ensures c.in_ok-find_symbol.ensures.is c.in_err-plain.ensures.is })

pub set_accent_inside-set_symbol-requires : goal.set_accent_inside-set_symbol-requires
set_accent_inside-set_symbol-requires t c = (omega (arith, c.decreases), (c.requires.sup, c.requires.sub))

pub set_accent_inside-returns-in_err-set_symbol : goal.set_accent_inside-returns-in_err-set_symbol
set_accent_inside-returns-in_err-set_symbol t c =
    let p = err_from_is_err_and c.from_residual-in_err-set_symbol.result c.from_residual-in_err-set_symbol.ensures.1 in rw (p.1, p.2) (record { is = inside_body_fails _ c.args.context.fonts.now c.args.style c.cramped.result c.size.result c.args.accent_symbol c.args.symbol (field_content c.args.context.fonts.now c.args.context.arena.now.closed c.args.sup) (field_content c.args.context.fonts.now c.args.context.arena.now.closed c.args.sub) c.in_ok-find_symbol.field-0 c.in_ok-plain.ensures.is.box c.size.ensures c.cramped.ensures c.in_ok-find_symbol.ensures.is c.in_ok-plain.ensures.is.is c.in_err-set_symbol.ensures.is })

pub set_accent_inside-accent-requires-clause-found : goal.set_accent_inside-accent-requires-clause-found
set_accent_inside-accent-requires-clause-found t c = found c.args.context.fonts.now c.size.result c.size-3.result c.args.accent_symbol c.in_ok-find_symbol.field-0 (c.size.ensures ∙ sym c.size-3.ensures) c.in_ok-find_symbol.ensures.is

pub set_accent_inside-returns-in_err-accent : goal.set_accent_inside-returns-in_err-accent
set_accent_inside-returns-in_err-accent t c =
    let p = err_from_is_err_and c.from_residual-in_err-accent.result c.from_residual-in_err-accent.ensures.1 in rw (p.1, p.2) (record { is = inside_accent_fails _ c.args.context.fonts.now c.args.style c.cramped.result c.size.result c.args.accent_symbol c.args.symbol (field_content c.args.context.fonts.now c.args.context.arena.now.closed c.args.sup) (field_content c.args.context.fonts.now c.args.context.arena.now.closed c.args.sub) c.in_ok-find_symbol.field-0 c.in_ok-plain.ensures.is.box c.size.ensures c.cramped.ensures c.in_ok-find_symbol.ensures.is c.in_ok-plain.ensures.is.is c.in_ok-set_symbol.ensures.is.box c.in_ok-set_symbol.ensures.is.is (accent_given c.args.context.fonts.now c.args.style c.size-2.result c.args.accent_symbol c.args.symbol c.in_ok-find_symbol.field-0 c.in_ok-plain.ensures.is.box c.in_ok-set_symbol.ensures.is.box c.skew_of-skew.result.sp c.in_ok-plain.plain (SetFails _) c.size-2.ensures c.skew_of-skew.ensures.is c.in_ok-plain.ensures.is.same (c.in_err-accent.ensures c.in_ok-find_symbol.field-0 (ap (λ s. find_symbol c.args.context.fonts.now s c.args.accent_symbol) (c.size-3.ensures ∙ sym c.size.ensures) ∙ c.in_ok-find_symbol.ensures.is) c.args.pieces.now c.in_ok-set_symbol.ensures.is.box (subst (λ ps. c.set_symbol.new.pieces ≡ ps ++ PieceBox (pos 0) c.in_ok-set_symbol.ensures.is.box ∷ []) c.in_ok-plain.ensures.others c.in_ok-set_symbol.ensures.is.stays))) })

pub set_accent_inside-test_row-requires : goal.set_accent_inside-test_row-requires
set_accent_inside-test_row-requires t c =
    let w = c.in_ok-accent.ensures c.in_ok-find_symbol.field-0 (ap (λ s. find_symbol c.args.context.fonts.now s c.args.accent_symbol) (c.size-3.ensures ∙ sym c.size.ensures) ∙ c.in_ok-find_symbol.ensures.is) c.args.pieces.now c.in_ok-set_symbol.ensures.is.box (subst (λ ps. c.set_symbol.new.pieces ≡ ps ++ PieceBox (pos 0) c.in_ok-set_symbol.ensures.is.box ∷ []) c.in_ok-plain.ensures.others c.in_ok-set_symbol.ensures.is.stays) in
    record { few = few_behind c.len-first.result 4 c.args.pieces.now (PieceBox (pos 0) w.box ∷ []) c.accent.new.pieces (c.len-first.ensures ∙ ap length c.in_ok-plain.ensures.others) w.stays (omega arith) }

pub set_accent_inside-returns : goal.set_accent_inside-returns
set_accent_inside-returns t c = record {
  is = let w = c.in_ok-accent.ensures c.in_ok-find_symbol.field-0 (ap (λ s. find_symbol c.args.context.fonts.now s c.args.accent_symbol) (c.size-3.ensures ∙ sym c.size.ensures) ∙ c.in_ok-find_symbol.ensures.is) c.args.pieces.now c.in_ok-set_symbol.ensures.is.box (subst (λ ps. c.set_symbol.new.pieces ≡ ps ++ PieceBox (pos 0) c.in_ok-set_symbol.ensures.is.box ∷ []) c.in_ok-plain.ensures.others c.in_ok-set_symbol.ensures.is.stays) in
      inside_made (SetsAtomOn c.test_row.result c.args.pieces.now c.accent.new.pieces) c.args.context.fonts.now c.args.style c.cramped.result c.size.result c.args.accent_symbol c.args.symbol (field_content c.args.context.fonts.now c.args.context.arena.now.closed c.args.sup) (field_content c.args.context.fonts.now c.args.context.arena.now.closed c.args.sub) c.in_ok-find_symbol.field-0 c.in_ok-plain.ensures.is.box c.size.ensures c.cramped.ensures c.in_ok-find_symbol.ensures.is c.in_ok-plain.ensures.is.is c.in_ok-set_symbol.ensures.is.box w.box c.in_ok-set_symbol.ensures.is.is (accent_given c.args.context.fonts.now c.args.style c.size-2.result c.args.accent_symbol c.args.symbol c.in_ok-find_symbol.field-0 c.in_ok-plain.ensures.is.box c.in_ok-set_symbol.ensures.is.box c.skew_of-skew.result.sp c.in_ok-plain.plain (λ s. s ≡ Ok w.box) c.size-2.ensures c.skew_of-skew.ensures.is c.in_ok-plain.ensures.is.same w.is)
      (c.test_row.ensures.is c.args.pieces.now (PieceBox (pos 0) w.box ∷ []) (sym (c.len-first.ensures ∙ ap length c.in_ok-plain.ensures.others)) w.stays);
}

pub set_symbol-returns-in_err-delta : goal.set_symbol-returns-in_err-delta
set_symbol-returns-in_err-delta t c =
    let p = err_from_is_err_and c.from_residual.result c.from_residual.ensures.1 in rw (p.1, p.2) (record { is = fails_then _ (symbol_nucleus c.args.context.fonts.now (size_of c.args.style) c.args.symbol OrdinarySymbol (not (is_empty (field_content c.args.context.fonts.now c.args.context.arena.now.closed c.args.sub)))) (λ n. row_with_fields c.args.context.fonts.now c.args.style n (field_content c.args.context.fonts.now c.args.context.arena.now.closed c.args.sup) (field_content c.args.context.fonts.now c.args.context.arena.now.closed c.args.sub) >>= pack_row) (subst (λ b. SetFails c.in_err-delta.field-0.0 (symbol_nucleus c.args.context.fonts.now (size_of c.args.style) c.args.symbol OrdinarySymbol b)) (ap not (c.is_empty.ensures c.args.context.arena.now.closed ∙ sym (same_empty c.args.context.fonts.now (cell_part c.args.context.arena.now.closed c.args.sub)))) c.in_err-delta.ensures.is) })

pub set_symbol-set_scripts-requires : goal.set_symbol-set_scripts-requires
set_symbol-set_scripts-requires t c =
    let n = c.in_ok-delta.ensures.is in
    (omega (arith, c.decreases), (few_behind c.len-first.result 2 c.args.pieces.now n.row c.symbol_nucleus.new.pieces c.len-first.ensures n.stays n.few, (n.small, (c.requires.sup, c.requires.sub))))

pub set_symbol-returns-in_err-set_scripts : goal.set_symbol-returns-in_err-set_scripts
set_symbol-returns-in_err-set_scripts t c =
    let n = c.in_ok-delta.ensures.is in
    let p = err_from_is_err_and c.from_residual-in_err-set_scripts.result c.from_residual-in_err-set_scripts.ensures.1 in rw (p.1, p.2) (record { is = first_made (SetFails _) (symbol_nucleus c.args.context.fonts.now (size_of c.args.style) c.args.symbol OrdinarySymbol (not (is_empty (field_content c.args.context.fonts.now c.args.context.arena.now.closed c.args.sub)))) (record { row = n.row; delta = c.in_ok-delta.delta.sp }) (λ n. row_with_fields c.args.context.fonts.now c.args.style n (field_content c.args.context.fonts.now c.args.context.arena.now.closed c.args.sup) (field_content c.args.context.fonts.now c.args.context.arena.now.closed c.args.sub) >>= pack_row) (ap (λ b. symbol_nucleus c.args.context.fonts.now (size_of c.args.style) c.args.symbol OrdinarySymbol b) (sym (ap not (c.is_empty.ensures c.args.context.arena.now.closed ∙ sym (same_empty c.args.context.fonts.now (cell_part c.args.context.arena.now.closed c.args.sub))))) ∙ n.is) (fails_then _ (row_with_fields c.args.context.fonts.now c.args.style (record { row = n.row; delta = c.in_ok-delta.delta.sp }) (field_content c.args.context.fonts.now c.args.context.arena.now.closed c.args.sup) (field_content c.args.context.fonts.now c.args.context.arena.now.closed c.args.sub)) pack_row (c.in_err-set_scripts.ensures.is c.args.pieces.now n.row (sym c.len-first.ensures) n.stays)) })

pub set_symbol-packed-requires : goal.set_symbol-packed-requires
set_symbol-packed-requires t c =
    let n = c.in_ok-delta.ensures.is in
    let a = c.in_ok-set_scripts.ensures.is c.args.pieces.now n.row (sym c.len-first.ensures) n.stays in
    record { few = few_behind c.len-first.result (2 ^ 21) c.args.pieces.now a.row c.set_scripts.new.pieces c.len-first.ensures a.stays (omega (arith, a.few)) }

pub set_symbol-returns : goal.set_symbol-returns
set_symbol-returns t c = record {
  is = let n = c.in_ok-delta.ensures.is in
      let a = c.in_ok-set_scripts.ensures.is c.args.pieces.now n.row (sym c.len-first.ensures) n.stays in
      let P = SetsBoxOn c.packed.result c.args.pieces.now c.packed.new.pieces in
      first_made P (symbol_nucleus c.args.context.fonts.now (size_of c.args.style) c.args.symbol OrdinarySymbol (not (is_empty (field_content c.args.context.fonts.now c.args.context.arena.now.closed c.args.sub)))) (record { row = n.row; delta = c.in_ok-delta.delta.sp }) (λ n. row_with_fields c.args.context.fonts.now c.args.style n (field_content c.args.context.fonts.now c.args.context.arena.now.closed c.args.sup) (field_content c.args.context.fonts.now c.args.context.arena.now.closed c.args.sub) >>= pack_row) (ap (λ b. symbol_nucleus c.args.context.fonts.now (size_of c.args.style) c.args.symbol OrdinarySymbol b) (sym (ap not (c.is_empty.ensures c.args.context.arena.now.closed ∙ sym (same_empty c.args.context.fonts.now (cell_part c.args.context.arena.now.closed c.args.sub))))) ∙ n.is) (first_made P (row_with_fields c.args.context.fonts.now c.args.style (record { row = n.row; delta = c.in_ok-delta.delta.sp }) (field_content c.args.context.fonts.now c.args.context.arena.now.closed c.args.sup) (field_content c.args.context.fonts.now c.args.context.arena.now.closed c.args.sub)) a.row pack_row a.is (c.packed.ensures.is c.args.pieces.now a.row (sym c.len-first.ensures) a.stays));
}

-- ---- `set_vcenter`, rows and tables

pub set_vcenter-set_rows-requires : goal.set_vcenter-set_rows-requires
set_vcenter-set_rows-requires t c =
    let e = ap (cell_part c.args.context.arena.now.closed) c.in-Rows.is in
    let s = ap part_size e in
    let m = subst (ModestCell c.args.context.arena.now.closed) c.in-Rows.is c.requires.modest in
    (omega (arith, s, c.decreases), (m.within, rows_of_part _ m.modest))

pub set_vcenter-returns-in_err-set_rows-in-Rows : goal.set_vcenter-returns-in_err-set_rows-in-Rows
set_vcenter-returns-in_err-set_rows-in-Rows t c =
    let p = err_from_is_err_and c.from_residual.result c.from_residual.ensures.1 in rw (p.1, p.2) (record { is = vcenter_fails _ c.args.context.fonts.now c.args.style (cell_part c.args.context.arena.now.closed c.args.field) (rows_in c.args.context.arena.now.closed c.in-Rows.rows) (ap (cell_part c.args.context.arena.now.closed) c.in-Rows.is) c.in_err-set_rows-in-Rows.ensures.is })

pub set_vcenter-vcenter-requires : goal.set_vcenter-vcenter-requires
set_vcenter-vcenter-requires t c = record {
  few =
      let b = c.in_ok-set_rows-in-Rows.ensures.is in
      few_behind c.len-first.result (2 ^ 18) c.args.pieces.now (unraised_boxes b.boxes) c.set_rows.new.pieces c.len-first.ensures b.stays (omega (arith, unraised_length b.boxes, b.counted, c.in_ok-set_rows-in-Rows.ensures.few));
}

pub set_vcenter-returns-in_ok-set_rows-in-Rows : goal.set_vcenter-returns-in_ok-set_rows-in-Rows
set_vcenter-returns-in_ok-set_rows-in-Rows t c = record {
  is = let b = c.in_ok-set_rows-in-Rows.ensures.is in
      vcenter_made (SetsBoxOn c.vcenter.result c.args.pieces.now c.vcenter.new.pieces) c.args.context.fonts.now c.args.style c.size.result (cell_part c.args.context.arena.now.closed c.args.field) (rows_in c.args.context.arena.now.closed c.in-Rows.rows) b.boxes (ap (cell_part c.args.context.arena.now.closed) c.in-Rows.is) c.size.ensures b.is (c.vcenter.ensures c.args.pieces.now b.boxes (sym c.len-first.ensures) b.stays);
}

pub set_vcenter-set_table-requires : goal.set_vcenter-set_table-requires
set_vcenter-set_table-requires t c =
    let e = ap (cell_part c.args.context.arena.now.closed) c.in-Table.is in
    let s = ap part_size e in
    let m = subst (ModestCell c.args.context.arena.now.closed) c.in-Table.is c.requires.modest in
    (omega (arith, s, c.decreases), (m.within, grid_of_part c.in-Table.look _ m.modest))

pub set_vcenter-returns-in-Table : goal.set_vcenter-returns-in-Table
set_vcenter-returns-in-Table t c = record { is = vcenter_table (SetsBoxOn c.set_table.result c.args.pieces.now c.set_table.new.pieces) c.args.context.fonts.now c.args.style (cell_part c.args.context.arena.now.closed c.args.field) c.in-Table.look (grid_in c.args.context.arena.now.closed c.in-Table.rows) (ap (cell_part c.args.context.arena.now.closed) c.in-Table.is) c.set_table.ensures.is }

pub set_vcenter-vcenter-requires-in_default : goal.set_vcenter-vcenter-requires-in_default
set_vcenter-vcenter-requires-in_default t c = record { few = few_behind c.len-first.result (2 ^ 18) c.args.pieces.now [] c.args.pieces.now c.len-first.ensures (nil_right c.args.pieces.now) (omega arith) }

pub set_vcenter-returns-in_default : goal.set_vcenter-returns-in_default
set_vcenter-returns-in_default t c = record { is = vcenter_empty (SetsBoxOn c.vcenter-in_default.result c.args.pieces.now c.vcenter-in_default.new.pieces) c.args.context.fonts.now c.args.style c.size-in_default.result (cell_part c.args.context.arena.now.closed c.args.field) [] (without_rows c.args.context.arena.now.closed c.args.field c.in_default.not-Rows c.in_default.not-Table) c.size-in_default.ensures refl (c.vcenter-in_default.ensures c.args.pieces.now [] (sym c.len-first.ensures) (nil_right c.args.pieces.now)) }

pub set_rows-loop-list-init : goal.set_rows-loop-list-init
set_rows-loop-list-init t c = (c.requires.within, rows_start c.args.context.fonts.now c.args.look (rows_in c.args.context.arena.now.closed c.args.rows) c.args.pieces.now c.requires.modest)

pub set_rows-pack_list-requires : goal.set_rows-pack_list-requires
set_rows-pack_list-requires t c =
    let i = c.loop-list.invariant.1 in
    (omega (arith, next_size _ _ _ _ _ _ _ _ _ i c.in-Some.ensures.is, c.decreases), record { within = c.in-Some.ensures.within; modest = next_row _ _ _ _ _ _ _ _ _ i c.in-Some.ensures.is; kept = c.in-Some.ensures.lists })

pub set_rows-returns-in_err-pack_list-clause-is : goal.set_rows-returns-in_err-pack_list-clause-is
set_rows-returns-in_err-pack_list-clause-is t c =
    let p = err_from_is_err_and c.from_residual.result c.from_residual.ensures.1 in rw (p.1, p.2) (row_fails _ _ _ _ _ _ _ _ _ _ c.loop-list.invariant.1 c.in-Some.ensures.is (sym c.has_column.ensures ∙ c.if-not-has_column.false) c.in_err-pack_list.ensures.is)

pub set_rows-overflow_add-count : goal.set_rows-overflow_add-count
set_rows-overflow_add-count t c = omega (arith, rows_few _ _ _ _ _ _ _ c.requires.modest c.loop-list.invariant.1)

pub set_rows-loop-list-preserved : goal.set_rows-loop-list-preserved
set_rows-loop-list-preserved t c =
    let i = c.loop-list.invariant in
    (omega (arith, c.next_row.ensures.end, i.0), rows_step _ _ _ _ _ _ _ _ _ _ i.1 c.in-Some.ensures.is (sym c.has_column.ensures ∙ c.if-not-has_column.false) c.in_ok-pack_list.ensures.is)

pub set_rows-loop-list-smaller : goal.set_rows-loop-list-smaller
set_rows-loop-list-smaller t c = omega (arith, ap rows_size c.in-Some.ensures.is)

pub set_rows-returns-then-not-has_column : goal.set_rows-returns-then-not-has_column
set_rows-returns-then-not-has_column t c =
    let i = c.loop-list.invariant.1 in
    let r = rows_end _ _ _ _ _ _ _ i (column_missing _ _ _ (sym c.has_column.ensures ∙ c.if-not-has_column.true)) in
    record { is = r.is; few = rows_few _ _ _ _ _ _ _ c.requires.modest i; count = r.counted }

pub set_rows-returns : goal.set_rows-returns
set_rows-returns t c =
    let i = c.loop-list.invariant.1 in
    let r = rows_end _ _ _ _ _ _ _ i (ap (columns_from c.args.look c.loop-list.count) c.in_default.ensures.is ∙ no_columns c.args.look c.loop-list.count) in
    record { is = r.is; few = rows_few _ _ _ _ _ _ _ c.requires.modest i; count = r.counted }

pub set_cells-loop-cells-init : goal.set_cells-loop-cells-init
set_cells-loop-cells-init t c = (c.requires.within, cells_start c.args.context.fonts.now c.args.look (grid_in c.args.context.arena.now.closed c.args.rows) _ c.args.pieces.now c.requires.modest c.new-counts.ensures.items)

pub set_cells-set_rows-requires : goal.set_cells-set_rows-requires
set_cells-set_rows-requires t c =
    let i = c.loop-cells.invariant.1 in
    (omega (arith, next_cells_size _ _ _ _ _ _ _ _ _ i c.in-Some.ensures.is, c.decreases), (c.in-Some.ensures.within, next_cells _ _ _ _ _ _ _ _ _ i c.in-Some.ensures.is))

pub set_cells-returns-in_err-count-clause-fault : goal.set_cells-returns-in_err-count-clause-fault
set_cells-returns-in_err-count-clause-fault t c =
    let p = err_from_is_err_and c.from_residual.result c.from_residual.ensures.1 in rw (p.1, p.2) (cells_fail _ _ _ _ _ _ _ _ _ _ c.loop-cells.invariant.1 c.in-Some.ensures.is c.in_err-count.ensures.is)

pub set_cells-loop-cells-preserved : goal.set_cells-loop-cells-preserved
set_cells-loop-cells-preserved t c =
    let i = c.loop-cells.invariant in
    let h = c.in_ok-count.ensures in
    (omega (arith, c.next_cells.ensures.end, i.0), cells_step _ _ _ _ _ _ _ _ _ _ _ c.in_ok-count.count i.1 c.in-Some.ensures.is h.is h.few h.count c.in_ok-push_count.ensures)

pub set_cells-loop-cells-smaller : goal.set_cells-loop-cells-smaller
set_cells-loop-cells-smaller t c = omega (arith, ap grid_size c.in-Some.ensures.is)

pub set_cells-returns : goal.set_cells-returns
set_cells-returns t c =
    let i = c.loop-cells.invariant.1 in
    record {
      is = cells_end _ _ _ _ _ _ _ i c.in_default.ensures.is;
      fault = tt;
      few = cells_few _ _ _ _ _ _ _ c.requires.modest i;
      columns = i.columns;
      sides = i.sides;
    }

pub set_cells-returns-in_err-push_count-clause-fault : goal.set_cells-returns-in_err-push_count-clause-fault
set_cells-returns-in_err-push_count-clause-fault t c =
    let p = err_from_is_err_and c.from_residual-in_err-push_count.result c.from_residual-in_err-push_count.ensures.1 in rw (p.1, p.2) (tt)
