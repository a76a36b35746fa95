-- The names that most proofs of this crate cite, passed on from one place. Declares nothing.
pub use Rattle.std.proofs.lemmas.Int.{ints, clamps}
pub use Rattle.std.proofs.lemmas.List.{drop_at, nil_from_length, take_all, drop_all, take-append-le, drop-append-le, take_at, drop-drop, take-set, drop-set, take_more, reverse-append, drop_more}
pub use Rattle.std.proofs.lemmas.List.Elements.{All-nil, All-cons, All-append}
pub use Rattle.std.specs.Int.{int_max}
pub use Rattle.std.specs.Option.{option_or}
pub use Rattle.std.specs.Ordering.{int_eq}
pub use Rattle.mt_arena.specs.Arena.{Held, value_in, as_sequence, held_in, sequence_in, thing_end, ItemHeld, as_grid, as_root, as_rows, grid_in, rows_in, RootHeld, cell_end, cell_part, root_in}
pub use Rattle.mt_arena.specs.Keeping.{HeldLists, ElementLists, KeptList, PartLists}
pub use Rattle.mt_arena.specs.Rest.{is_item, more_of, append_list, rest_in, KeptItem, KeptRest}
pub use Rattle.mt_arena.specs.declared.thing.Cell.{Cell}
pub use Rattle.mt_arena.specs.declared.thing.Cell.TheVariants.{Sym}
pub use Rattle.mt_arena.specs.declared.thing.Noad.{Noad}
pub use Rattle.mt_arena.specs.declared.thing.Span.{Span}
pub use Rattle.mt_arena.specs.declared.thing.Thing.{Thing}
pub use Rattle.mt_box.specs.Boxes.{clean_row, rebox, is_unraised, clean_one, glyph_layout}
pub use Rattle.mt_box.specs.Extents.{ExtentsInRange, first_out}
pub use Rattle.mt_box.specs.Layout.{Layout, all_moved, rule_places}
pub use Rattle.mt_box.specs.Rows.{PieceValue, PieceBox, PieceGlyph, PieceKern, pack, row_height, row_depth, piece_values, AllMeasurable, row_level, piece_width, piece_places, row_places}
pub use Rattle.mt_box.specs.declared.extents.Extents.{Extents}
pub use Rattle.mt_box.specs.declared.piece.Piece.{Piece}
pub use Rattle.mt_box.specs.declared.place.Place.TheVariants.{Glyph, Rule}
pub use Rattle.mt_family.specs.SetValue.{SetValue, number_in}
pub use Rattle.mt_family.specs.declared.size.Size.{Size}
pub use Rattle.mt_family.specs.declared.size.Size.TheVariants.{Text, Scriptscript, Script}
pub use Rattle.mt_pieces.specs.Putting.{boundary_on, unraised_boxes}
pub use Rattle.mt_rules.proofs.Answering.{first_out-none, in_range, make_box-ok, extents_in_range, none_out}
pub use Rattle.mt_rules.proofs.cases.ToyFonts.{toy}
pub use Rattle.mt_rules.proofs.cases.Writing.{delim, no_delim, neg}
pub use Rattle.mt_rules.specs.Accents.{accent, widest_within, accent_code, accent_layout, accent_by_code}
pub use Rattle.mt_rules.specs.AtomRow.{AtomContent, atom_row, fraction_row, script_box, some_box, nucleus_with_scripts, box_nucleus, part_with_scripts, row_of_list, nucleus_under_limits, operator_with_limits, nucleus_beside_scripts, operator_without_limits, operator_by_limits, ordinary_row, class_row, radical_part, packed_field, radical_with_degree, radical_row, veil_part, overline_part, underline_part, pack_rows, vcenter_rows, cells_in_columns, pack_cells, table_strut, table_part, vcenter_part, content_skew, accent_outside, accent_inside, accent_by_scripts, is_symbol, accent_row, kind_row, FractionContent}
pub use Rattle.mt_rules.specs.BigDelimiters.{big_delimiter, big_height, big_wanted, without_null_width, at_least_high}
pub use Rattle.mt_rules.specs.Classes.{forward_of, kind_class, settled_of}
pub use Rattle.mt_rules.specs.Delimiters.{piece_on_axis, boundary_size, DelimiterVariant, NoVariant, delimiter_variant, null_delimiter, layout_by_recipe, candidate_layout, delimiter, character_layout}
pub use Rattle.mt_rules.specs.Fractions.{fraction, shifts_without_rule, shifts_with_rule, layout_without_rule, layout_with_rule, box_with_rule, fraction_body, fraction_delimiter_size}
pub use Rattle.mt_rules.specs.Limits.{limits, gap_above, gap_below, limits_layout, rebox_some}
pub use Rattle.mt_rules.specs.MathUnits.{math_unit, in_points}
pub use Rattle.mt_rules.specs.Modest.{IsModestList, list_items, element_items, list_nesting, ListAmounts, element_nesting, ElementAmounts, IsAmount, ThicknessAmount, rows_items, grid_items, GlueAmounts}
pub use Rattle.mt_rules.specs.Nuclei.{Nucleus, make_clean, nucleus_with_italic, OrdinarySymbol, clean_symbol, TextSymbol, SmartPair, is_empty, RowByStyle, Content, NoContent, SymbolContent, ListContent, RowsContent, TableContent, RootContent, BigContent, SymbolRole, nucleus_row, clean_field, clean_list, test_role, role_italic, glyph_nucleus, symbol_nucleus, packed_list, big_nucleus, empty_nucleus}
pub use Rattle.mt_rules.specs.Operators.{box_without_italic, operator_code, uses_limits, nucleus_on_axis}
pub use Rattle.mt_rules.specs.Parameters.{default_rule_thickness, axis_height}
pub use Rattle.mt_rules.specs.Roots.{root_row, degree_raise}
pub use Rattle.mt_rules.specs.Scripts.{row_with_scripts, widened_script, both_scripts, shifts_beside}
pub use Rattle.mt_rules.specs.Sequence.{Sequence, Element, End, More, AtomElement, FractionElement, LeftElement, MiddleElement, RightElement, StyleElement, ChoiceElement, MuSpaceElement, SpaceElement, MuKernElement, KernElement, NonscriptElement, sequence_size, element_size, Rows, NoRows, MoreRows, TableGrid, NoTableRows, MoreTableRows, EmptyPart, RootPart, Part, SymbolPart, ListPart, RowsPart, TablePart, BigPart, rows_length, rows_size, grid_size, part_size}
pub use Rattle.mt_rules.specs.Setting.{Setting, SettingFault, ◌>>=◌, ◌>>◌, make_row, pack_row, test_extents, test_value, Overflow, make_box, pass_unless, MissingFamily, MissingChar, TooTall, SmartLigature, layout_or_empty, test_rule, empty_layout}
pub use Rattle.mt_rules.specs.Styles.{size_of, is_display_or_text, sup_of, sub_of, cramped_of, uncramped_of, num_of, den_of}
pub use Rattle.mt_rules.specs.Symbols.{extents_without_italic, find_symbol, font_of_number, empty_font, height_plus_depth, font_with_symbol, extents_with_italic}
pub use Rattle.mt_rules.specs.Tables.{matrix_table, equations_table, Cells, column_widths, column_width, make_rows, rows_places, with_struts, columns_width, centred_places, matrix_rows, strut_drop, matrix_drop, matrix_layout, open_gap, open_drop, open_places, sides_places, equations_rows, equations_layout}
pub use Rattle.mt_rules.specs.Vcenter.{vcenter, line_gap, places_after, lines_total, lines_places, vcenter_layout}
pub use Rattle.mt_rules.specs.Veils.{veil_layout}
pub use Rattle.mt_rules.specs.declared.class.Class.{Class}
pub use Rattle.mt_rules.specs.declared.class.Class.TheVariants.{Open, Close, Inner, Ord, Op, Bin, Punct, Rel}
pub use Rattle.mt_rules.specs.declared.kind.Kind.{Kind}
pub use Rattle.mt_rules.specs.declared.kind.Kind.TheVariants.{Plain, Radical, Accent, Over, Under, Vcenter, Veil}
pub use Rattle.mt_rules.specs.declared.kind.Limits.{Limits}
pub use Rattle.mt_rules.specs.declared.kind.Limits.TheVariants.{Never, Always, Default}
pub use Rattle.mt_rules.specs.declared.list.Look.{Look}
pub use Rattle.mt_rules.specs.declared.list.Look.TheVariants.{Matrix, Equations}
pub use Rattle.mt_rules.specs.declared.style.Style.{Style}
pub use Rattle.mt_rules.specs.declared.style.Style.TheVariants.{D, Dc, T, Tc, S, Sc, Ss, Ssc}
pub use Rattle.mt_rules.specs.declared.symbol.Delim.{Delim}
pub use Rattle.mt_rules.specs.declared.symbol.Glue.{Glue}
pub use Rattle.mt_rules.specs.declared.symbol.Symbol.{Symbol}
pub use Rattle.mt_scaled.specs.Number.{Within, is_in_range, max_dimen, half_of}
pub use Rattle.mt_tfm.specs.Font.{Metrics, italic_of, IsSoundFont, exists, larger_of, has_recipe, char_at, width_of, param_of}
pub use Rattle.mt_tfm.specs.declared.pair.Pair.{Pair}
pub use Rattle.mt_convert.specs.Calls.{SetFails, SetsRowOn, RowOn}
pub use Rattle.mt_convert.specs.Contents.{ItemContent, AtomItem, FractionItem, StyleItem, ChoiceItem, NonscriptItem, ItemContents, NoItems, MoreItems, append_items}
pub use Rattle.mt_convert.specs.Current.{opening}
pub use Rattle.mt_convert.specs.FirstPass.{make_kern, make_space, set_item, glue_in_points, set_items, first_pass_of}
pub use Rattle.mt_convert.specs.Flat.{FlatItem, FrontTurn, Passes, Rewrites, as_symbol, first_as_symbol, pair_turn, atom_turn, list_for, is_space_or_kern, without_space, after_nonscript, turn, current_after_items, flat_by, flat, current_after_item, FlatAtom, FlatSpace, no_glue, FlatFraction, FlatLeft, FlatMiddle, FlatRight, FlatStyle, FlatMuSpace, FlatMuKern, FlatKern}
pub use Rattle.mt_convert.specs.Halfway.{half_value, half_values, halves_value, HalfwayValue, IsHalfway, HalvesFit, total_of, AllMeet, BoundariesOutside, MayEnd, MustEnd, EndsAfterLeft, MayMeet, RowFits}
pub use Rattle.mt_convert.specs.Halves.{HalfValue, HalfAtom, HalfKern, HalfSpace, class_to_left, class_to_right, half_height, half_depth, greatest_height, greatest_depth, settle, HalfLeft, HalfMiddle, HalfRight, HalfStyle, settled_halves, next_class, settled_half, Halves}
pub use Rattle.mt_convert.specs.Holding.{RowHolds, LayoutHolds, PlaceHolds, PlacesHold, PieceHolds, GlyphHolds}
pub use Rattle.mt_convert.specs.Joining.{pair_with_next, pair_of_fonts, first_symbol, symbol_pair, is_ord_by_now, is_any_but_inner, content_symbol, symbol_of_item, next_symbol}
pub use Rattle.mt_convert.specs.ListRow.{halves_of, items_of, item_of, row_of_items, content_of, list_row, rows_by_style, cells_by_style}
pub use Rattle.mt_convert.specs.SecondPass.{second_pass_of, all_pieces, boundary_piece, current_after_half, half_pieces, pieces_between, space_before, spacing_pieces, row_of_halves, boundary_pieces}
pub use Rattle.mt_convert.specs.declared.fault.SetFault.{SetFault}
pub use Rattle.mt_convert.specs.declared.flat.current.Current.{Current}
pub use Rattle.mt_convert.specs.declared.flat.joining.SymbolPair.{SymbolPair}
pub use Rattle.mt_pieces.specs.declared.items.PlacedItem.{PlacedItem}
pub use Rattle.mt_convert.specs.declared.placed.PlacedHalves.{PlacedHalves}
