-- A formula that is read has a number at its side only beside the list of a display (`formula_tagged`).
use Rattle.std.proofs.Common.{◌≡◌, ℕ, ◌+◌, Bool, true, false, List, [], ◌∷◌, length, Option, Some, None, refl, subst}
use Rattle.std.specs.Prelude.{⊤}
use Rattle.mt_token.specs.declared.token.Token.{Token}
use Rattle.mt_scaled.specs.declared.unit.Units.{Units}
use Rattle.mt_rules.specs.Sequence.{Sequence, End}
use Rattle.mt_rules.specs.declared.document.Body.{Body}
use Rattle.mt_rules.specs.declared.document.Body.TheVariants.{List as ListBody}
use Rattle.mt_rules.specs.declared.document.Tag.{Tag}
use Rattle.mt_plain.specs.CodeTables.{CodeTables}
use Rattle.mt_scan.specs.declared.role.Role.{Role}
use Rattle.mt_scan.specs.declared.role.Role.TheVariants.{FractionWord, DisplayWord}
use Rattle.mt_scan.specs.Role.{role_of}
use Rattle.mt_scan.specs.Parts.{Read, Got, Fault, NoTurn, IsAnswered, then_read, after_blanks}
use Rattle.mt_formula.specs.Atoms.{append}
use Rattle.mt_formula.specs.declared.reading.ends.Ending.TheVariants.{AtEnd, AtNumber}
use Rattle.mt_formula.specs.declared.reading.fraction.FractionHead.{FractionHead}
use Rattle.mt_formula.specs.Lists.{ItemRun, ItemRunReader, fraction_list, fraction_head, list_end, denominator, after_item_run_at, after_item_run, list}
use Rattle.mt_formula.specs.Displays.{display_rows}
use Rattle.mt_formula.specs.Rules.{FormulaParts, item_run, is_at_left, with_tag, list_formula, display_at, display_here, formula}
use Rattle.mt_formula.specs.Formulas.{Reading, Reads, ReadFault, reading_of, reading}
use Rattle.mt_formula.specs.Tags.{IsTagPlaced}
use Rattle.mt_formula.specs.turns.Settling.{formula_answered}

-- ---- a list that ends where its tokens do leaves none

abbrev LeavesNone : {A : Type 0} → Read A → Type 0
LeavesNone (Got part rest) = rest ≡ []
LeavesNone (Fault cause left) = ⊤
LeavesNone NoTurn = ⊤

leaves_next : {A B : Type 0} (r : Read A) (f : A → List Token → Read B) → ((part : A) (rest : List Token) → LeavesNone (f part rest)) → LeavesNone (then_read r f)
leaves_next (Got part rest) f h = h part rest
leaves_next (Fault cause left) f h = tt
leaves_next NoTurn f h = tt

module _ (tables : CodeTables) (units : Units) where
  end_leaves : (s : Sequence) (ts : List Token) → LeavesNone (list_end tables units AtEnd s ts)
  end_leaves s [] = refl
  end_leaves s (t ∷ rest) = tt

  module _ (again : ItemRunReader) where
    denominator_leaves : (level : ℕ) (num : ItemRun) (head : FractionHead) (ts : List Token) → LeavesNone (denominator tables units again AtEnd level num head ts)
    denominator_leaves level num head ts =
        leaves_next (again level num.family None ts) (λ (den : ItemRun) (rest : List Token). list_end tables units AtEnd (fraction_list head num.items den.items) rest)
        (λ den rest. end_leaves (fraction_list head num.items den.items) rest)

    run_leaves_at : (level : ℕ) (run : ItemRun) (t : Token) (rest : List Token) (role : Role) → LeavesNone (after_item_run_at tables units again AtEnd level run t rest role)
    run_leaves_at level run t rest (FractionWord delims bar) =
        leaves_next (fraction_head tables units delims bar rest) (denominator tables units again AtEnd level run) (λ head after. denominator_leaves level run head after)
    run_leaves_at level run t rest _ = end_leaves run.items (t ∷ rest)

    run_leaves : (level : ℕ) (run : ItemRun) (ts : List Token) → LeavesNone (after_item_run tables units again AtEnd level run ts)
    run_leaves level run [] = end_leaves run.items []
    run_leaves level run (t ∷ rest) = run_leaves_at level run t rest (role_of tables t)

    list_leaves : (level : ℕ) (family : Option ℕ) (ts : List Token) → LeavesNone (list tables units again AtEnd level family ts)
    list_leaves level family ts =
        leaves_next (again level family None ts)
        (λ (s : ItemRun) (rest : List Token). after_item_run tables units again AtEnd level (record { items = append End s.items; family = s.family }) rest)
        (λ s rest. run_leaves level (record { items = append End s.items; family = s.family }) rest)

    -- ---- so a formula in the text has no number, and that of a display is beside its list

    abbrev Places : Bool → Read FormulaParts → Type 0
    Places display (Got f rest) = IsTagPlaced display f.0 f.1
    Places display (Fault cause left) = ⊤
    Places display NoTurn = ⊤

    places_next : {A : Type 0} (display : Bool) (r : Read A) (f : A → List Token → Read FormulaParts) → ((part : A) (rest : List Token) → Places display (f part rest)) → Places display (then_read r f)
    places_next display (Got part rest) f h = h part rest
    places_next display (Fault cause left) f h = tt
    places_next display NoTurn f h = tt

    text_places : (r : Read Sequence) → LeavesNone r → Places false (then_read r (with_tag tables units again))
    text_places (Got body []) e = tt
    text_places (Got body (t ∷ rest)) e = absurd (cc)
    text_places (Fault cause left) e = tt
    text_places NoTurn e = tt

    tag_places : (body : Sequence) (ts : List Token) → Places true (with_tag tables units again body ts)
    tag_places body [] = tt
    tag_places body (t ∷ rest) =
        places_next true (list tables units again AtEnd 0 None rest)
        (λ (side : Sequence) (after : List Token). Got (ListBody body, Some (record { body = side; left = is_at_left (role_of tables t) })) after) (λ side after. (refl, tt))

    list_formula_places : (display : Bool) (ts : List Token) → Places display (list_formula tables units again display ts)
    list_formula_places false ts = text_places (list tables units again AtEnd 0 None ts) (list_leaves 0 None ts)
    list_formula_places true ts = places_next true (list tables units again AtNumber 0 None ts) (with_tag tables units again) tag_places

    display_at_places : (ts rest : List Token) (role : Role) → Places true (display_at tables units again ts rest role)
    display_at_places ts rest (DisplayWord preamble left) =
        places_next true (display_rows tables units again preamble left rest) (λ (b : Body) (after : List Token). Got (b, None) after) (λ b after. tt)
    display_at_places ts rest _ = list_formula_places true ts

    display_here_places : (ts front : List Token) → Places true (display_here tables units again ts front)
    display_here_places ts [] = list_formula_places true ts
    display_here_places ts (t ∷ rest) = display_at_places ts rest (role_of tables t)

    formula_places : (display : Bool) (ts : List Token) → Places display (formula tables units again display ts)
    formula_places false ts = list_formula_places false ts
    formula_places true ts = display_here_places ts (after_blanks tables ts)

-- ---- what is read

abbrev ReadsTagPlaced : Bool → Reading → Type 0
ReadsTagPlaced display (Reads body tag) = IsTagPlaced display body tag
ReadsTagPlaced display (ReadFault cause place) = ⊤

placed_of : (tables : CodeTables) (units : Units) (again : ItemRunReader) (display : Bool) (count : ℕ) (r : Read FormulaParts) (a : IsAnswered r) → Places tables units again display r
    → ReadsTagPlaced display (reading_of count r a)
placed_of tables units again display count (Got f rest) a p = p
placed_of tables units again display count (Fault cause left) a p = tt
placed_of tables units again display count NoTurn a p = elim a [ ]

pub formula_tagged : (tables : CodeTables) (units : Units) (display : Bool) (ts : List Token) (body : Body) (tag : Option Tag) → reading tables units display ts ≡ Reads body tag → IsTagPlaced display body tag
formula_tagged tables units display ts body tag e =
    subst (ReadsTagPlaced display) e
    (placed_of tables units (item_run tables units (length ts + 1)) display (length ts) (formula tables units (item_run tables units (length ts + 1)) display ts) (formula_answered tables units display ts)
    (formula_places tables units (item_run tables units (length ts + 1)) display ts))
