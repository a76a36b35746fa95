-- The names that most proofs of this crate cite, passed on from one place. Declares nothing.
pub use Rattle.std.proofs.lemmas.List.{append-nil, take_all, take_more, length-take-le}
pub use Rattle.std.proofs.lemmas.List.Elements.{All-append, All-cons, All-head, All-nil, All-tail, All-map}
pub use Rattle.std.proofs.lemmas.List.Sums.{sum_by-append, sum_by-cons, count_by-le-length}
pub use Rattle.std.proofs.lemmas.Result.{err_from_is_err_and}
pub use Rattle.std.specs.Vec.Iter.{into_iter_items, into_iter_len}
pub use Rattle.mt_box.proofs.Lists.{no_more}
pub use Rattle.mt_box.specs.Layout.{Layout, all_moved, layout_of, BoxValue}
pub use Rattle.mt_box.specs.Rows.{PieceValue, PieceBox, pack, PieceGlyph, PieceKern, PieceSpace}
pub use Rattle.mt_box.specs.declared.place.Place.{Place}
pub use Rattle.mt_box.specs.declared.place.Place.TheVariants.{Glyph, Rule}
pub use Rattle.mt_convert.specs.Holding.{PlaceHolds, RowHolds, PieceHolds}
pub use Rattle.mt_display.proofs.PagePlaces.{are, made_then, one_has, LineHas, NumberHas, display_has, inline_has, page_has, page_few}
pub use Rattle.mt_display.specs.DisplayLines.{at_left_end, equation_lines, greatest_level, row_lines, equation_layout, equation_level}
pub use Rattle.mt_display.specs.Displays.{one_line, NumberValue}
unfoldable pub use Rattle.mt_display.specs.Displays.{display_lines}
pub use Rattle.mt_display.specs.LineStack.{IsStack, line_boxes, is_left}
pub use Rattle.mt_display.specs.Lines.{LineValue, line_values, inline_lines}
pub use Rattle.mt_display.specs.Stack.{first_stack_fault, or_fault_below, places_below, places_unless}
unfoldable pub use Rattle.mt_display.specs.Stack.{stacked_lines}
pub use Rattle.mt_display.specs.declared.line_stack.LineStack.{LineStack}
pub use Rattle.mt_dvi.specs.Limits.{max_places, max_dvi_pages}
pub use Rattle.mt_dvi.specs.Writable.{HasGlyph, IsWritable}
pub use Rattle.mt_dvi.specs.WrittenPlaces.{all_places}
pub use Rattle.mt_family.specs.SetValue.{SetValue}
pub use Rattle.mt_family.specs.Sets.{units_of}
unfoldable pub use Rattle.mt_family.specs.Sets.{sy}
pub use Rattle.mt_family.specs.declared.size.Size.TheVariants.{Text}
pub use Rattle.mt_formula.specs.Counts.{AreModestEquations, AreModestRows}
pub use Rattle.mt_macro.specs.Expansion.{Expansion, Expanded, OverBudget, NoArgument, NoPartner, ListTooLong, MacroStep, Done, Missing, Next, macro_step, at_last, further, within_budget, unless_unmatched, expansion}
unfoldable pub use Rattle.mt_macro.specs.Expansion.{run}
pub use Rattle.mt_plain.specs.CodeTables.{CodeTables}
unfoldable pub use Rattle.mt_plain.specs.CodeTables.{plain_codes}
unfoldable pub use Rattle.mt_plain.specs.PlainMacros.{plain_table}
pub use Rattle.mt_reader.specs.Documents.{DocumentAnswer, TooManyTokens, TooManyPages, DocumentState, DocumentTurn, Goes, Ends, Stops, StopsOutside, after_assignment, after_definition, after_expansion, after_reading, formula_in, formula_turn, is_page_limit, outside_role, start_state, turn_answer, turn_by, with_table, document}
unfoldable pub use Rattle.mt_reader.specs.Documents.{pages_from}
pub use Rattle.mt_reader.specs.PageReading.{CanGoOn, GoesOn, IsBounded, IsNextPage, IsReadOf, left_to_read, pages_ended}
pub use Rattle.mt_reader.specs.Views.{ReaderView, pages_view}
pub use Rattle.mt_reader.specs.Sources.{plain_words, word_token}
pub use Rattle.mt_reader.specs.Weights.{formula_weight, page_weight, HasModestLists}
pub use Rattle.mt_rules.specs.DisplayRows.{EquationLayout, centred_row, equation_row, equation_rows, equations_axis, margin, number_place, stacked_rows}
unfoldable pub use Rattle.mt_rules.specs.DisplayRows.{equations_line, rows_line}
pub use Rattle.mt_rules.specs.Rows.{rows_of}
pub use Rattle.mt_rules.specs.Sequence.{Sequence, Rows, NoRows, MoreRows, rows_length}
pub use Rattle.mt_rules.specs.Setting.{MissingFamily, MissingChar, SmartLigature, Overflow, TooTall, ◌>>◌, make_box, pack_row, pass_unless, Setting}
pub use Rattle.mt_rules.specs.declared.document.Formula.{Formula}
pub use Rattle.mt_rules.specs.declared.style.Style.TheVariants.{D, T}
pub use Rattle.mt_scaled.specs.Number.{Within, is_in_range}
pub use Rattle.mt_scaled.specs.Results.{◌>>=◌}
pub use Rattle.mt_status.proofs.Avoiding.{Avoids, Lacks, lacks_if}
pub use Rattle.mt_status.proofs.PureLemmas.{pure_err}
pub use Rattle.mt_status.specs.Origins.{IsPure, Origin, PureBy}
pub use Rattle.mt_status.specs.declared.status.Status.{Status}
pub use Rattle.mt_status.specs.declared.status.Status.TheVariants.{BadFormula, OutOfMemory, BadSource, Budget, TooDeep, TooMuch}
pub use Rattle.mt_token.specs.declared.token.Token.{Token}
pub use Rattle.mt_pages.specs.Documents.{document_from, document_of, document_refusal, reading_refusal, token_refusal}
pub use Rattle.mt_pages.specs.FormulaLines.{each_set, equations_lines, equations_set, formula_box, formula_row, lists_of, rows_lines, rows_set, set_by, displayed_lines, number_row, text_lines, body_lines, equation_boxes}
unfoldable pub use Rattle.mt_pages.specs.FormulaLines.{formula_lines}
pub use Rattle.mt_pages.specs.Listing.{is_glyph_place, is_rule_place, number_line, page_text, pages_text, place_line}
unfoldable pub use Rattle.mt_pages.specs.Listing.{listing, summary}
pub use Rattle.mt_pages.specs.Pages.{PageLinesValue, with_formula_lines, no_lines, page_lines, document_lines, page_places, pages_places, placed_by, pages_overfull, found_in, NotesOnly}
unfoldable pub use Rattle.mt_pages.specs.Pages.{source_pages, document_pages, source_overfull, document_overfull}
