-- A source that is cut has the pages of its parts, set by themselves (`whole_set`, `parts_set`).
use Rattle.std.proofs.Common.{◌≡◌, ℕ, ◌+◌, ◌≤◌, List, [], ◌∷◌, ◌++◌, length, refl, sym, ◌∙◌, ap, subst, ℤ, Result, Ok, Err, inl, inr}
use Rattle.std.specs.Prelude.{◌⊎◌, map}
use Rattle.mt_scaled.specs.Results.{◌>>=◌}
use Rattle.mt_scaled.specs.declared.unit.Units.{Units}
use Rattle.mt_family.specs.SetValue.{SetValue}
use Rattle.mt_family.specs.Sets.{units_of}
use Rattle.mt_box.specs.declared.place.Place.{Place}
use Rattle.mt_dvi.specs.Limits.{max_places}
use Rattle.mt_dvi.specs.WrittenPlaces.{all_places}
use Rattle.mt_reader.specs.Cuts.{AreAlike, IsTooMuch, answer_behind, later_pages}
use Rattle.mt_reader.specs.Documents.{DocumentAnswer, DocumentState, document}
use Rattle.mt_reader.specs.Sources.{source_document, word_token}
use Rattle.mt_reader.proofs.CutSources.{cut_source, first_source, second_source}
use Rattle.mt_rules.specs.declared.document.Formula.{Formula}
use Rattle.mt_status.specs.declared.status.Status.{Status}
use Rattle.mt_pages.specs.Cuts.{IsCut}
use Rattle.mt_pages.specs.Documents.{document_from}
use Rattle.mt_pages.specs.Pages.{document_pages, source_pages}
use Rattle.mt_pages.proofs.CutPlaces.{parts_placed, whole_placed}

module _ (set : SetValue) (width : ℤ) where
  abbrev set_answer : DocumentAnswer → Result (List (List Place)) Status
  set_answer answer = document_from answer >>= document_pages set width

  answer_set : (bytes : List ℕ) → source_pages set width bytes ≡ set_answer (source_document (units_of set) bytes)
  unfolding source_pages
  answer_set bytes = refl

  abbrev Split : List (List Formula) → DocumentAnswer → List (List Place) → Type 0
  Split first second p = (pages : List (List Place)) × (more : List (List Place)) × (document_pages set width first ≡ Ok pages) × (set_answer second ≡ Ok more) × (p ≡ pages ++ more)

  split : (w q d : DocumentAnswer) (after : DocumentState) (k : ℕ) (p : List (List Place)) → IsTooMuch w ⊎ (w ≡ answer_behind after k d) → AreAlike q d → set_answer w ≡ Ok p → Split after.pages q p
  split (Err fault) q d after k p cut alike e = absurd (cc)
  split (Ok w) q d after k p (inl much) alike e = absurd much
  split (Ok w) q (Err fault) after k p (inr is) alike e = absurd (cc)
  split (Ok w) (Err fault) (Ok d) after k p (inr is) alike e = absurd alike
  split (Ok w) (Ok q) (Ok d) after k p (inr is) alike e =
      let all : w ≡ after.pages ++ later_pages after.count d = cc in
      let parts = whole_placed set width after.count after.pages d p (ap (document_pages set width) (sym all) ∙ e) in
      (parts.0, parts.1, parts.2, ap (document_pages set width) alike ∙ parts.3, parts.4)

  join : (w q d : DocumentAnswer) (after : DocumentState) (k : ℕ) (pages more : List (List Place)) → IsTooMuch w ⊎ (w ≡ answer_behind after k d) → AreAlike q d → document_pages set width after.pages ≡ Ok pages → set_answer q ≡ Ok more
      → length (all_places (pages ++ more)) ≤ max_places → IsTooMuch w ⊎ (set_answer w ≡ Ok (pages ++ more))
  join w q d after k pages more (inl much) alike first second few = inl much
  join w (Err fault) d after k pages more (inr is) alike first second few = absurd (cc)
  join w (Ok q) (Err fault) after k pages more (inr is) alike first second few = absurd alike
  join w (Ok q) (Ok d) after k pages more (inr is) alike first second few =
      inr (ap set_answer is ∙ parts_placed set width after.count after.pages d pages more first (ap (document_pages set width) (sym alike) ∙ second) few)

  module _ (lines front rest : List ℕ) (cut : IsCut (units_of set) lines front rest) where
    whole : IsTooMuch (source_document (units_of set) (lines ++ 10 ∷ rest))
        ⊎ (source_document (units_of set) (lines ++ 10 ∷ rest) ≡ answer_behind cut.after (length cut.before + 1) (document (units_of set) cut.after.tables cut.after.macros (map word_token cut.of_rest)))
    whole = cut_source (units_of set) lines rest cut.of_lines cut.of_rest cut.before cut.eject cut.after cut.whole_length cut.lines_are cut.rest_are cut.ends cut.is_eject cut.reads

    first : source_pages set width (lines ++ 10 ∷ []) ≡ document_pages set width cut.after.pages
    first = answer_set (lines ++ 10 ∷ []) ∙ ap set_answer (first_source (units_of set) lines cut.of_lines cut.before cut.eject cut.after cut.first_length cut.lines_are cut.ends cut.is_eject cut.reads)

    second : AreAlike (source_document (units_of set) (front ++ 10 ∷ rest)) (document (units_of set) cut.after.tables cut.after.macros (map word_token cut.of_rest))
    second = second_source (units_of set) front rest cut.of_front cut.of_rest cut.defined cut.par cut.after.tables cut.after.macros cut.second_length cut.front_are cut.rest_are cut.in_front cut.is_par cut.leaves

    pub whole_set : (p : List (List Place)) → source_pages set width (lines ++ 10 ∷ rest) ≡ Ok p
        → (pages : List (List Place)) × (more : List (List Place)) × (source_pages set width (lines ++ 10 ∷ []) ≡ Ok pages) × (source_pages set width (front ++ 10 ∷ rest) ≡ Ok more) × (p ≡ pages ++ more)
    whole_set p e =
        let parts = split (source_document (units_of set) (lines ++ 10 ∷ rest)) (source_document (units_of set) (front ++ 10 ∷ rest)) (document (units_of set) cut.after.tables cut.after.macros (map word_token cut.of_rest)) cut.after (length cut.before + 1) p
        whole second (sym (answer_set (lines ++ 10 ∷ rest)) ∙ e) in
        (parts.0, parts.1, first ∙ parts.2, answer_set (front ++ 10 ∷ rest) ∙ parts.3, parts.4)

    pub parts_set : (pages more : List (List Place)) → source_pages set width (lines ++ 10 ∷ []) ≡ Ok pages → source_pages set width (front ++ 10 ∷ rest) ≡ Ok more → length (all_places (pages ++ more)) ≤ max_places
        → IsTooMuch (source_document (units_of set) (lines ++ 10 ∷ rest)) ⊎ (source_pages set width (lines ++ 10 ∷ rest) ≡ Ok (pages ++ more))
    parts_set pages more a b few = either
        (join (source_document (units_of set) (lines ++ 10 ∷ rest)) (source_document (units_of set) (front ++ 10 ∷ rest)) (document (units_of set) cut.after.tables cut.after.macros (map word_token cut.of_rest)) cut.after (length cut.before + 1) pages more
        whole second (sym first ∙ a) (sym (answer_set (front ++ 10 ∷ rest)) ∙ b) few) where
          either : IsTooMuch (source_document (units_of set) (lines ++ 10 ∷ rest)) ⊎ (set_answer (source_document (units_of set) (lines ++ 10 ∷ rest)) ≡ Ok (pages ++ more))
              → IsTooMuch (source_document (units_of set) (lines ++ 10 ∷ rest)) ⊎ (source_pages set width (lines ++ 10 ∷ rest) ≡ Ok (pages ++ more))
          either (inl much) = inl much
          either (inr is) = inr (answer_set (lines ++ 10 ∷ rest) ∙ is)
