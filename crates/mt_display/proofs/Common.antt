-- The names that most proofs of this crate cite, passed on from one place. Declares nothing.
pub use Rattle.std.proofs.lemmas.Bool.Decides.{Decides-int_eq, nat_tests, Decides-eqb}
pub use Rattle.std.proofs.lemmas.Int.{ints, clamps}
pub use Rattle.std.proofs.lemmas.List.{take_at, drop_at, map-append, length-map, length-take-le, drop-drop, drop_all, take-append-drop, take_more, drop_more, take_all}
pub use Rattle.std.proofs.lemmas.List.Elements.{All-cons, All-nil, All-head, All-map, All-tail, All-append}
pub use Rattle.std.proofs.lemmas.Result.{err_from_is_err_and}
pub use Rattle.std.specs.Int.{int_max}
pub use Rattle.std.specs.Vec.Iter.{into_iter_items}
pub use Rattle.mt_box.proofs.Lists.{nil_right, no_more, next_item}
pub use Rattle.mt_box.specs.Extents.{ExtentsInRange, first_out}
pub use Rattle.mt_box.specs.Layout.{Layout, BoxValue, layout_of, all_moved}
pub use Rattle.mt_box.specs.Rows.{PieceValue, PieceBox, PieceKern, begins_with_space_piece, pack, row_width, row_shrink, PieceGlyph, PieceSpace, piece_values}
pub use Rattle.mt_box.specs.declared.error.PackError.{PackError}
pub use Rattle.mt_box.specs.declared.error.PackError.TheVariants.{OutOfMemory}
pub use Rattle.mt_box.specs.declared.place.Place.{Place}
pub use Rattle.mt_box.specs.declared.place.Place.TheVariants.{Glyph, Rule}
pub use Rattle.mt_rules.specs.DisplayRows.{equation_sides, last_depth, stacked_rows, EquationLayout, centred_row, equation_row, margin, number_place}
unfoldable pub use Rattle.mt_rules.specs.DisplayRows.{equations_line, rows_line}
pub use Rattle.mt_rules.specs.Setting.{Setting, SettingFault, Overflow, ◌>>=◌, make_box, pack_row, ◌>>◌, pass_unless}
pub use Rattle.mt_scaled.proofs.Products.{kept}
pub use Rattle.mt_scaled.specs.Number.{Within, max_dimen, is_in_range}
pub use Rattle.mt_display.specs.DisplayLines.{equation_layout, boxes_level, greatest_level, equation_lines, row_lines, equation_level}
pub use Rattle.mt_display.specs.Displays.{Fit, NumberFits, fit, fitted, indent, numbered_lines, one_line, placed_lines, room_between, NumberValue, beside, line_of_both, number_room, number_width, own_lines, row_shift}
unfoldable pub use Rattle.mt_display.specs.Displays.{display_lines}
pub use Rattle.mt_display.specs.LineStack.{PutsLines, IsStack, MoreLines, line_box, line_boxes, line_shifts, is_left}
pub use Rattle.mt_display.specs.Lines.{LineValue, inline_lines, LinesFit, line_value, line_values}
pub use Rattle.mt_display.specs.Stack.{AboveValue, first_stack_fault, line_places, next_above, or_fault_below, places_below, places_unless, reference_below, StackAnswers, stacked_after}
unfoldable pub use Rattle.mt_display.specs.Stack.{stacked_lines}
pub use Rattle.mt_display.specs.declared.line_stack.LineStack.{LineStack}
