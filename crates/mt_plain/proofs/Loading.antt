-- Macros are put in, one definition after the other.
use Rattle.std.proofs.Common.{◌≡◌, ℕ, ◌+◌, ◌<◌, ◌≤◌, Bool, true, false, ◌⊎◌, List, [], ◌∷◌, ◌++◌, map, length, get_or, drop, Some, None, Ok, refl, sym, ◌∙◌, ap, subst, inl, inr, true≢false, nat_le, leb-true, drop-cons, drop_of_length-le, add-one}
use Rattle.std.specs.Borrow.{Bor}
use Rattle.std.specs.Option.{option_map, is_some}
use Rattle.std.specs.List.{list_all}
use Rattle.std.specs.Str.{bytes_eq}
use Rattle.std.specs.Map.{lookup}
use Rattle.std.proofs.lemmas.List.{length-map}
use Rattle.std.proofs.lemmas.Bool.{false_from_ne_true}
use Rattle.std.proofs.lemmas.Map.Entries.{lookup_head, lookup_tail}
use Rattle.std.proofs.lemmas.Slice.Eq.{bytes_eq-Decides}
use Rattle.mt_token.specs.Tokens.{source_tokens, spanned}
use Rattle.mt_macro.specs.Table.{Table, macro_of, with_macro, is_own}
use Rattle.mt_macro.specs.Definition.{body_fault}
use Rattle.mt_plain.specs.MacroTexts.{MacroTexts, accent_macros, delimiter_macros, other_macros, family_macros, function_macros, limit_macros, macro_texts}
use Rattle.mt_plain.specs.PlainMacros.{lent_texts, body_of, macro_with, newest_first, HasMacros, PutsIn, IsBodyText, AreBodyTexts, with_macros, plain_table}
use Rattle.mt_plain.proofs.Searching.{mapped_at, first, second}

-- so many of a list are put in
pub record Loading (old now : Table) (list : List (Bor (List ℕ) × Bor (List ℕ))) (at : ℕ) : Type 0 where
  pub is : with_macros now (lent_texts (drop at list)) ≡ with_macros old (lent_texts list)
  pub has : (done : MacroTexts) → HasMacros old done → (so_far : MacroTexts) × HasMacros now so_far × (newest_first (lent_texts (drop at list)) so_far ≡ newest_first (lent_texts list) done)

pub loading_none : (old : Table) (list : List (Bor (List ℕ) × Bor (List ℕ))) → Loading old old list 0
loading_none old list = record { is = refl; has = λ done has. (done, has, refl) }

pub loading_one : (old now new : Table) (list : List (Bor (List ℕ) × Bor (List ℕ))) (at : ℕ) (e : Bor (List ℕ) × Bor (List ℕ)) → Loading old now list at → at < length list → PutsIn now new (((get_or list at e).0.now, (get_or list at e).1.now) ∷ []) → Loading old new list (at + 1)
loading_one old now new list at e going within adds =
    let first : drop at list ≡ get_or list at e ∷ drop (at + 1) list = rw add-one (drop-cons list at e within) in
    record {
      is = ap (λ t. with_macros t (lent_texts (drop (at + 1) list))) adds.is ∙ sym (ap (λ l. with_macros now (lent_texts l)) first) ∙ going.is;
      has = λ done has.
          let before = going.has done has in
          (((get_or list at e).0.now, (get_or list at e).1.now) ∷ before.0, adds.has before.0 before.1, sym (ap (λ l. newest_first (lent_texts l) before.0) first) ∙ before.2);
    }

pub body_at : (list : List (Bor (List ℕ) × Bor (List ℕ))) (at : ℕ) (e : Bor (List ℕ) × Bor (List ℕ)) → at < length list → AreBodyTexts (lent_texts list) → IsBodyText (get_or list at e).1.now
body_at list at e within are =
    let same : get_or (lent_texts list) at (e.0.now, e.1.now) ≡ ((get_or list at e).0.now, (get_or list at e).1.now) = mapped_at (λ (d : Bor (List ℕ) × Bor (List ℕ)). (d.0.now, d.1.now)) list at e (e.0.now, e.1.now) within in
    subst IsBodyText (ap (λ (d : List ℕ × List ℕ). d.1) same) (are at (e.0.now, e.1.now) (simp length-map within))

pub loading_all : (old now : Table) (list : List (Bor (List ℕ) × Bor (List ℕ))) (at : ℕ) → Loading old now list at → length list ≤ at → PutsIn old now (lent_texts list)
loading_all old now list at going over =
    let none : drop at list ≡ [] = drop_of_length-le list over in
    record {
      is = sym (ap (λ l. with_macros now (lent_texts l)) none) ∙ going.is;
      has = λ done has.
          let all = going.has done has in
          let P : MacroTexts → Type 0 = λ ds. HasMacros now ds in
          subst P (sym (ap (λ l. newest_first (lent_texts l) all.0) none) ∙ all.2) all.1;
    }

abbrev named : List ℕ → List ℕ → Bool
named name n = bytes_eq name n

-- two lists of names and texts that have the same for each name
module _ (xs ys : MacroTexts) where
  abbrev AllFound : MacroTexts → Type 0
  AllFound [] = Unit {0}
  AllFound (d ∷ ds) = (lookup (named d.0) ys ≡ Some d.1) × AllFound ds

  all_found : (ds : MacroTexts) → map (λ (d : List ℕ × List ℕ). lookup (named d.0) ys) ds ≡ map (λ (d : List ℕ × List ℕ). Some d.1) ds → AllFound ds
  all_found [] e = tt
  all_found (d ∷ ds) e = (ap (λ l. get_or l 0 None) e, all_found ds (ap (λ l. drop 1 l) e))

  agree : (name : List ℕ) (ds : MacroTexts) → AllFound ds → (lookup (named name) ys ≡ lookup (named name) ds) ⊎ (lookup (named name) ds ≡ None)
  agree name [] found = inr refl
  agree name (d ∷ ds) found = by (agree name ds found.1) (bytes_eq name d.0) refl
    where
      by : (lookup (named name) ys ≡ lookup (named name) ds) ⊎ (lookup (named name) ds ≡ None) → (b : Bool) → bytes_eq name d.0 ≡ b → (lookup (named name) ys ≡ lookup (named name) (d ∷ ds)) ⊎ (lookup (named name) (d ∷ ds) ≡ None)
      by rest true e = inl (ap (λ n. lookup (named n) ys) ((bytes_eq-Decides name d.0).0 e) ∙ found.0 ∙ sym (lookup_head (named name) d ds e))
      by rest false e = elim rest [ inl same ↦ inl (same ∙ sym (lookup_tail (named name) d ds e)) | inr none ↦ inr (lookup_tail (named name) d ds e ∙ none) ]

  absent : (name : List ℕ) → lookup (named name) xs ≡ None → (ds : MacroTexts) → list_all (λ (d : List ℕ × List ℕ). is_some (lookup (named d.0) xs)) ds ≡ true → lookup (named name) ds ≡ None
  absent name none [] all = refl
  absent name none (d ∷ ds) all = lookup_tail (named name) d ds (false_from_ne_true _ (λ same. true≢false (sym (first _ _ all) ∙ ap (λ n. is_some (lookup (named n) xs)) (sym ((bytes_eq-Decides name d.0).0 same)) ∙ ap is_some none))) ∙ absent name none ds (second _ _ all)

  pub same_lookup : map (λ (d : List ℕ × List ℕ). lookup (named d.0) ys) xs ≡ map (λ (d : List ℕ × List ℕ). Some d.1) xs → list_all (λ (d : List ℕ × List ℕ). is_some (lookup (named d.0) xs)) ys ≡ true → (name : List ℕ) → lookup (named name) ys ≡ lookup (named name) xs
  same_lookup right whole name = elim (agree name xs (all_found xs right)) [ inl same ↦ same | inr none ↦ absent name none ys whole ∙ sym none ]

-- the last definition of a name is the first one, since no name is defined twice
in_either_order : (table : Table) → HasMacros table (newest_first macro_texts []) → HasMacros table macro_texts
unfolding accent_macros delimiter_macros other_macros family_macros function_macros limit_macros macro_texts
in_either_order table has name = has name ∙ ap (λ found. option_map macro_with found) (same_lookup macro_texts (newest_first macro_texts []) refl refl name)

with_macros-append : (table : Table) (ds es : MacroTexts) → with_macros table (ds ++ es) ≡ with_macros (with_macros table ds) es
with_macros-append table [] es = refl
with_macros-append table (d ∷ ds) es = with_macros-append (with_macro table d.0 (record { own = is_own (macro_of table d.0); params = 0; body = body_of d.1 })) ds es

two_put : (old mid new : Table) (ds es : MacroTexts) → PutsIn old mid ds → PutsIn mid new es → PutsIn old new (ds ++ es)
two_put old mid new ds es p q = record {
  is = q.is ∙ ap (λ t. with_macros t es) p.is ∙ sym (with_macros-append old ds es);
  has = λ done has. subst (HasMacros new) (sym (newest_first-append ds es done)) (q.has (newest_first ds done) (p.has done has));
}
  where
    newest_first-append : (xs ys done : MacroTexts) → newest_first (xs ++ ys) done ≡ newest_first ys (newest_first xs done)
    newest_first-append [] ys done = refl
    newest_first-append (x ∷ xs) ys done = newest_first-append xs ys (x ∷ done)

-- all macros, group by group
module _ (one two three four five six : Table) where
  pub all_put : (none : Table) (a b c d e f : MacroTexts) → none ≡ [] → a ≡ accent_macros → b ≡ delimiter_macros → c ≡ other_macros → d ≡ family_macros → e ≡ function_macros → f ≡ limit_macros
      → PutsIn none one a → PutsIn one two b → PutsIn two three c → PutsIn three four d → PutsIn four five e → PutsIn five six f → PutsIn [] six macro_texts
  unfolding macro_texts
  all_put none a b c d e f empty ea eb ec ed ee ef pa pb pc pd pe pf =
      let all : PutsIn none six (a ++ b ++ c ++ d ++ e ++ f) = two_put none five six _ _ (two_put none four five _ _ (two_put none three four _ _ (two_put none two three _ _ (two_put none one two _ _ pa pb) pc) pd) pe) pf in
      subst (λ (t : Table). PutsIn t six macro_texts) empty (subst (PutsIn none six) (rw (ea, eb, ec, ed, ee, ef) refl) all)

pub is_plain : (table : Table) → PutsIn [] table macro_texts → table ≡ plain_table
unfolding plain_table
is_plain table put = put.is

pub has_plain : (table : Table) → PutsIn [] table macro_texts → HasMacros table macro_texts
has_plain table put = in_either_order table (put.has [] (λ name. refl))

-- texts of bodies, by evaluation
module _ (ds : MacroTexts) where
  pub are_body_texts : map (λ (d : List ℕ × List ℕ). source_tokens d.1) ds ≡ map (λ (d : List ℕ × List ℕ). Ok (map spanned (body_of d.1))) ds
      → map (λ (d : List ℕ × List ℕ). body_fault 0 (body_of d.1)) ds ≡ map (λ (d : List ℕ × List ℕ). None) ds
      → map (λ (d : List ℕ × List ℕ). nat_le (length (body_of d.1)) 4294967296) ds ≡ map (λ (d : List ℕ × List ℕ). true) ds
      → AreBodyTexts ds
  are_body_texts lexes faultless short k d within = record {
    lexes = sym (mapped_at (λ (d : List ℕ × List ℕ). source_tokens d.1) ds k d (Ok []) within) ∙ ap (λ l. get_or l k (Ok [])) lexes ∙ mapped_at (λ (d : List ℕ × List ℕ). Ok (map spanned (body_of d.1))) ds k d (Ok []) within;
    faultless = sym (mapped_at (λ (d : List ℕ × List ℕ). body_fault 0 (body_of d.1)) ds k d None within) ∙ ap (λ l. get_or l k None) faultless ∙ mapped_at (λ (d : List ℕ × List ℕ). None) ds k d None within;
    short = leb-true _ _ (sym (mapped_at (λ (d : List ℕ × List ℕ). nat_le (length (body_of d.1)) 4294967296) ds k d true within) ∙ ap (λ l. get_or l k true) short ∙ mapped_at (λ (d : List ℕ × List ℕ). true) ds k d true within);
  }

pub accent_texts_lex : AreBodyTexts accent_macros
unfolding accent_macros body_of
accent_texts_lex = are_body_texts accent_macros refl refl refl

pub delimiter_texts_lex : AreBodyTexts delimiter_macros
unfolding delimiter_macros body_of
delimiter_texts_lex = are_body_texts delimiter_macros refl refl refl

pub other_texts_lex : AreBodyTexts other_macros
unfolding other_macros body_of
other_texts_lex = are_body_texts other_macros refl refl refl

pub family_texts_lex : AreBodyTexts family_macros
unfolding family_macros body_of
family_texts_lex = are_body_texts family_macros refl refl refl

pub function_texts_lex : AreBodyTexts function_macros
unfolding function_macros body_of
function_texts_lex = are_body_texts function_macros refl refl refl

pub limit_texts_lex : AreBodyTexts limit_macros
unfolding limit_macros body_of
limit_texts_lex = are_body_texts limit_macros refl refl refl

pub all_texts_lex : map (λ (d : List ℕ × List ℕ). source_tokens d.1) macro_texts ≡ map (λ (d : List ℕ × List ℕ). Ok (map spanned (body_of d.1))) macro_texts
unfolding accent_macros delimiter_macros other_macros family_macros function_macros limit_macros macro_texts body_of
all_texts_lex = refl
