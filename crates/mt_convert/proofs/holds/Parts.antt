-- The boxes of fractions, radicals, lines and rows hold where their bodies do.
use Rattle.std.proofs.Common.{ℤ, pos, negsuc, neg_ℤ, ◌+ℤ◌, ◌-ℤ◌, ◌*ℤ◌, List, [], ◌∷◌, ◌++◌, Bool, true, false, if◌then◌else◌, IfOk, Ok}
use Rattle.mt_convert.proofs.Common.{int_max, int_eq, Within, max_dimen, half_of, Size, SetValue, Layout, all_moved, rule_places, PieceBox, PieceKern, rebox, Delim, Style, size_of, ◌>>=◌, ◌>>◌, make_box, pack_row, test_rule, test_value, axis_height, default_rule_thickness, delimiter, piece_on_axis, shifts_without_rule, shifts_with_rule, layout_without_rule, layout_with_rule, box_with_rule, fraction_body, fraction_delimiter_size, in_points, degree_raise, line_gap, places_after, lines_total, lines_places, vcenter_layout, PlacesHold, LayoutHolds, RowHolds}
use Rattle.mt_rules.specs.Radicals.{sign_size, clearance, under_rule, radical}
use Rattle.mt_rules.specs.Lines.{overline_layout, overline, underline_layout, underline}
use Rattle.mt_convert.proofs.holds.Steps.{step_holds, after_rule_test, after_value, box_made}
use Rattle.mt_convert.proofs.holds.Boxes.{moved_hold, places_hold_append, rule_holds, packed_row, rebox_holds, LayoutsHold}
use Rattle.mt_convert.proofs.holds.Delimiters.{AreSound, delimiter_holds}
use Rattle.mt_rules.specs.Veils.{veil_layout}
use Rattle.mt_rules.specs.Vcenter.{vcenter}
use Rattle.mt_rules.specs.Roots.{root_row}
use Rattle.mt_rules.specs.Fractions.{fraction}

module _ (fonts : SetValue) where
  -- ---- fractions

  without_rule : (style : Style) (num den : Layout) → LayoutHolds fonts num → LayoutHolds fonts den → LayoutHolds fonts (layout_without_rule fonts style num den)
  without_rule style num den h k =
      let shifts = shifts_without_rule fonts style num.extents den.extents in
      places_hold_append fonts (all_moved (pos 0) shifts.up num.places) (all_moved (pos 0) (neg_ℤ shifts.down) den.places)
      (moved_hold fonts (pos 0) shifts.up num.places h) (moved_hold fonts (pos 0) (neg_ℤ shifts.down) den.places k)

  with_rule : (style : Style) (t : ℤ) (num den : Layout) → LayoutHolds fonts num → LayoutHolds fonts den → Within max_dimen num.extents.width → Within max_dimen t → LayoutHolds fonts (layout_with_rule fonts style t num den)
  with_rule style t num den h k wide thick =
      let axis = axis_height fonts (size_of style) in
      let shifts = shifts_with_rule fonts style t num.extents den.extents in
      let lower = shifts.down -ℤ ((pos 2 *ℤ half_of t) -ℤ t) in
      let rule = rule_places (pos 0) ((axis +ℤ half_of t) -ℤ t) t num.extents.width in
      let below = all_moved (pos 0) (neg_ℤ lower) den.places in
      places_hold_append fonts (all_moved (pos 0) shifts.up num.places) (rule ++ below) (moved_hold fonts (pos 0) shifts.up num.places h)
      (places_hold_append fonts rule below (rule_holds fonts (pos 0) ((axis +ℤ half_of t) -ℤ t) t num.extents.width thick wide)
      (moved_hold fonts (pos 0) (neg_ℤ lower) den.places k))

  box_with_rule_holds : (style : Style) (t : ℤ) (num den : Layout) → LayoutHolds fonts num → LayoutHolds fonts den → IfOk (box_with_rule fonts style t num den) (LayoutHolds fonts)
  box_with_rule_holds style t num den h k =
      after_rule_test (LayoutHolds fonts) num.extents.width t (make_box (layout_with_rule fonts style t num den))
      (λ wide thick. box_made (LayoutHolds fonts) (layout_with_rule fonts style t num den) (with_rule style t num den h k wide thick))

  by_thickness : (style : Style) (t : ℤ) (num den : Layout) (b : Bool) → LayoutHolds fonts num → LayoutHolds fonts den → IfOk (if b then make_box (layout_without_rule fonts style num den) else box_with_rule fonts style t num den) (LayoutHolds fonts)
  by_thickness style t num den true h k = box_made (LayoutHolds fonts) (layout_without_rule fonts style num den) (without_rule style num den h k)
  by_thickness style t num den false h k = box_with_rule_holds style t num den h k

  body_holds : (style : Style) (t : ℤ) (num den : Layout) → LayoutHolds fonts num → LayoutHolds fonts den → IfOk (fraction_body fonts style t num den) (LayoutHolds fonts)
  body_holds style t num den h k =
      let width = int_max num.extents.width den.extents.width in
      by_thickness style t (rebox num width) (rebox den width) (int_eq t (pos 0)) (rebox_holds fonts num width h) (rebox_holds fonts den width k)

  pub fraction_holds : (style : Style) (t : ℤ) (left right : Delim) (num den : Layout) → AreSound fonts → LayoutHolds fonts num → LayoutHolds fonts den → IfOk (fraction fonts style t left right num den) (LayoutHolds fonts)
  unfolding fraction
  fraction_holds style t left right num den sound h k =
      let size = size_of style in
      let wanted = fraction_delimiter_size fonts style in
      step_holds (LayoutHolds fonts) (LayoutHolds fonts) (delimiter fonts left size wanted)
      (λ l. delimiter fonts right size wanted >>= (λ r. fraction_body fonts style t num den >>= (λ body. pack_row (piece_on_axis fonts size l ∷ PieceBox (pos 0) body ∷ piece_on_axis fonts size r ∷ []))))
      (delimiter_holds fonts left size wanted sound)
      (λ l x. step_holds (LayoutHolds fonts) (LayoutHolds fonts) (delimiter fonts right size wanted)
      (λ r. fraction_body fonts style t num den >>= (λ body. pack_row (piece_on_axis fonts size l ∷ PieceBox (pos 0) body ∷ piece_on_axis fonts size r ∷ [])))
      (delimiter_holds fonts right size wanted sound)
      (λ r y. step_holds (LayoutHolds fonts) (LayoutHolds fonts) (fraction_body fonts style t num den)
      (λ body. pack_row (piece_on_axis fonts size l ∷ PieceBox (pos 0) body ∷ piece_on_axis fonts size r ∷ []))
      (body_holds style t num den h k)
      (λ body z. packed_row fonts (piece_on_axis fonts size l ∷ PieceBox (pos 0) body ∷ piece_on_axis fonts size r ∷ []) (x, (z, (y, tt))))))

  -- ---- radicals

  under_rule_holds : (height thickness : ℤ) (body : Layout) → LayoutHolds fonts body → Within max_dimen (int_max (pos 0) body.extents.width) → Within max_dimen thickness → LayoutHolds fonts (under_rule height thickness body)
  under_rule_holds height thickness body h wide thick =
      let width = int_max (pos 0) body.extents.width in
      places_hold_append fonts (rule_places (pos 0) height thickness width) body.places (rule_holds fonts (pos 0) height thickness width thick wide) h

  pub radical_holds : (style : Style) (delim : Delim) (body : Layout) → AreSound fonts → LayoutHolds fonts body → IfOk (radical fonts style delim body) (LayoutHolds fonts)
  unfolding radical
  radical_holds style delim body sound h =
      let width = int_max (pos 0) body.extents.width in
      step_holds (LayoutHolds fonts) (LayoutHolds fonts) (delimiter fonts delim (size_of style) (sign_size fonts style body.extents))
      (λ (sign : Layout). test_rule width sign.extents.height >> (make_box (under_rule (body.extents.height +ℤ clearance fonts style body.extents sign.extents) sign.extents.height body)
      >>= (λ nucleus. pack_row (PieceBox (body.extents.height +ℤ clearance fonts style body.extents sign.extents) sign ∷ PieceBox (pos 0) nucleus ∷ []))))
      (delimiter_holds fonts delim (size_of style) (sign_size fonts style body.extents) sound)
      (λ (sign : Layout) x.
      let height = body.extents.height +ℤ clearance fonts style body.extents sign.extents in
      after_rule_test (LayoutHolds fonts) width sign.extents.height
      (make_box (under_rule height sign.extents.height body) >>= (λ nucleus. pack_row (PieceBox height sign ∷ PieceBox (pos 0) nucleus ∷ [])))
      (λ wide thick. step_holds (LayoutHolds fonts) (LayoutHolds fonts) (make_box (under_rule height sign.extents.height body))
      (λ nucleus. pack_row (PieceBox height sign ∷ PieceBox (pos 0) nucleus ∷ []))
      (box_made (LayoutHolds fonts) (under_rule height sign.extents.height body) (under_rule_holds height sign.extents.height body h wide thick))
      (λ nucleus y. packed_row fonts (PieceBox height sign ∷ PieceBox (pos 0) nucleus ∷ []) (x, (y, tt)))))

  -- ---- lines over and under a body

  pub overline_holds : (size : Size) (body : Layout) → LayoutHolds fonts body → IfOk (overline fonts size body) (LayoutHolds fonts)
  unfolding overline
  overline_holds size body h =
      let theta = default_rule_thickness fonts size in
      let width = int_max (pos 0) body.extents.width in
      let y = body.extents.height +ℤ (pos 3 *ℤ theta) in
      after_rule_test (LayoutHolds fonts) width theta (make_box (overline_layout theta body))
      (λ wide thick. box_made (LayoutHolds fonts) (overline_layout theta body)
      (places_hold_append fonts (rule_places (pos 0) y theta width) body.places (rule_holds fonts (pos 0) y theta width thick wide) h))

  pub underline_holds : (size : Size) (body : Layout) → LayoutHolds fonts body → IfOk (underline fonts size body) (LayoutHolds fonts)
  unfolding underline
  underline_holds size body h =
      let theta = default_rule_thickness fonts size in
      let width = int_max (pos 0) body.extents.width in
      let y = neg_ℤ (body.extents.depth +ℤ (pos 4 *ℤ theta)) in
      after_rule_test (LayoutHolds fonts) width theta (make_box (underline_layout theta body))
      (λ wide thick. box_made (LayoutHolds fonts) (underline_layout theta body)
      (places_hold_append fonts body.places (rule_places (pos 0) y theta width) h (rule_holds fonts (pos 0) y theta width thick wide)))

  -- ---- rows one below another

  after_hold : (ls : List Layout) (y depth : ℤ) → LayoutsHold fonts ls → PlacesHold fonts (places_after y depth ls)
  after_hold [] y depth h = tt
  after_hold (l ∷ ls) y depth h =
      let baseline = (y -ℤ line_gap depth l.extents.height) -ℤ l.extents.height in
      places_hold_append fonts (all_moved (pos 0) baseline l.places) (places_after (baseline -ℤ l.extents.depth) l.extents.depth ls)
      (moved_hold fonts (pos 0) baseline l.places h.0) (after_hold ls (baseline -ℤ l.extents.depth) l.extents.depth h.1)

  lines_hold : (ls : List Layout) (y : ℤ) → LayoutsHold fonts ls → PlacesHold fonts (lines_places y ls)
  lines_hold [] y h = tt
  lines_hold (l ∷ ls) y h =
      let baseline = y -ℤ l.extents.height in
      places_hold_append fonts (all_moved (pos 0) baseline l.places) (places_after (baseline -ℤ l.extents.depth) l.extents.depth ls)
      (moved_hold fonts (pos 0) baseline l.places h.0) (after_hold ls (baseline -ℤ l.extents.depth) l.extents.depth h.1)

  pub vcenter_holds : (size : Size) (ls : List Layout) → LayoutsHold fonts ls → IfOk (vcenter fonts size ls) (LayoutHolds fonts)
  unfolding vcenter
  vcenter_holds size ls h =
      let axis = axis_height fonts size in
      box_made (LayoutHolds fonts) (vcenter_layout axis ls) (lines_hold ls (axis +ℤ half_of (lines_total ls)) h)

  -- ---- a degree and its radical

  pub root_row_holds : (style : Style) (degree radical : Layout) → LayoutHolds fonts degree → LayoutHolds fonts radical → IfOk (root_row fonts style degree radical) (RowHolds fonts)
  unfolding root_row
  root_row_holds style degree radical h k =
      let before = in_points fonts style (pos 327680) in
      let back = in_points fonts style (negsuc 655359) in
      let row = PieceKern before ∷ PieceBox (degree_raise radical.extents) degree ∷ PieceKern back ∷ PieceBox (pos 0) radical ∷ [] in
      after_value (RowHolds fonts) before (test_value back >> Ok row)
      (λ _. after_value (RowHolds fonts) back (Ok row) (λ _. (tt, (h, (tt, (k, tt))))))

  -- ---- what a phantom leaves

  pub veil_holds : (width height marks : Bool) (l : Layout) → LayoutHolds fonts l → LayoutHolds fonts (veil_layout width height marks l)
  unfolding veil_layout
  veil_holds width height true l h = h
  veil_holds width height false l h = tt
