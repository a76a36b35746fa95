-- One definition of a font more.
use Rattle.std.proofs.Common.{◌≡◌, ℕ, List, [], ◌∷◌, ◌++◌, refl, sym, ◌∙◌, ap, arith}
use Rattle.std.specs.Prelude.{Option, Some, None, Bool, true, false, ◌==◌, ◌&&◌, cond}
use Rattle.std.specs.Option.{option_map, option_or}
use Rattle.std.specs.Ordering.{nat_cmp}
use Rattle.std.specs.BTreeMap.{BTreeMap, get, is_at}
use Rattle.std.specs.Str.{bytes_eq}
use Rattle.std.proofs.lemmas.Bool.Decides.{nat_tests}
use Rattle.std.proofs.lemmas.List.Folds.{find-append}
use Rattle.mt_family.specs.SetValue.{SetValue}
use Rattle.mt_dvi.specs.Codes.{Definition}
use Rattle.mt_dvi.specs.Fonts.{first_definition}
use Rattle.mt_dvi.specs.File.{agrees}
use Rattle.mt_dviread.specs.declared.numbered.DefinedFont.{DefinedFont}
use Rattle.mt_dviread.specs.declared.definitions.Definitions.{Definitions}
use Rattle.mt_dviread.specs.inner.Numbered.{font_at}
use Rattle.mt_dviread.specs.inner.Defined.{Known, Knows, known_font, known_at, known_of}

or_none : {A : Type 0} (o : Option A) → option_or o None ≡ o
or_none None = refl
or_none (Some x) = refl

number_is : (d : Definition) (n : ℕ) → (d.number == n) ≡ true → d.number ≡ n
number_is d n e = grind (arith, nat_tests)

appended : (definitions : List Definition) (d : Definition) (n : ℕ) → first_definition (definitions ++ d ∷ []) n ≡ option_or (first_definition definitions n) (first_definition (d ∷ []) n)
appended definitions d n = find-append (λ (x : Definition). x.number == n) definitions (d ∷ [])

one_is : (d : Definition) (n : ℕ) → (d.number == n) ≡ true → first_definition (d ∷ []) n ≡ Some d
one_is d n e = rw e refl

one_is_not : (d : Definition) (n : ℕ) → (d.number == n) ≡ false → first_definition (d ∷ []) n ≡ None
one_is_not d n e = rw e refl

-- a second definition of a number changes nothing
same_first : (definitions : List Definition) (d before : Definition) (n : ℕ) (b : Bool) → (d.number == n) ≡ b → first_definition definitions d.number ≡ Some before → first_definition (definitions ++ d ∷ []) n ≡ first_definition definitions n
same_first definitions d before n true e is =
    let there : first_definition definitions n ≡ Some before = ap (first_definition definitions) (sym (number_is d n e)) ∙ is in
    appended definitions d n ∙ ap (λ (o : Option Definition). option_or o (first_definition (d ∷ []) n)) there ∙ sym there
same_first definitions d before n false e is =
    appended definitions d n ∙ ap (option_or (first_definition definitions n)) (one_is_not d n e) ∙ or_none (first_definition definitions n)

-- what the reader keeps of a number is what its first definition says
agrees_with : (fonts : SetValue) (d : Definition) (o : Option Definition) (k : Known) → option_map (known_of fonts) o ≡ Some k → agrees d o ≡ (bytes_eq d.name k.name && (d.size == k.size))
agrees_with fonts d None k e = absurd (cc)
agrees_with fonts d (Some before) k e =
    let same : known_of fonts before ≡ k = cc in
    ap (λ (x : Known). bytes_eq d.name x.name && (d.size == x.size)) same

pub agrees_kept : (fonts : SetValue) (kept : Definitions) (definitions : List Definition) (d : Definition) (k : Known) → Knows fonts kept definitions → known_at kept d.number ≡ Some k → agrees d (first_definition definitions d.number) ≡ (bytes_eq d.name k.name && (d.size == k.size))
agrees_kept fonts kept definitions d k knows is = agrees_with fonts d (first_definition definitions d.number) k (sym (knows d.number) ∙ is)

knows_again_by : (fonts : SetValue) (kept : Definitions) (definitions : List Definition) (d : Definition) (k : Known) (o : Option Definition) → Knows fonts kept definitions → first_definition definitions d.number ≡ o → option_map (known_of fonts) o ≡ Some k → Knows fonts kept (definitions ++ d ∷ [])
knows_again_by fonts kept definitions d k None knows is some = absurd (cc)
knows_again_by fonts kept definitions d k (Some before) knows is some = λ n. knows n ∙ ap (option_map (known_of fonts)) (sym (same_first definitions d before n (d.number == n) refl is))

pub knows_again : (fonts : SetValue) (kept : Definitions) (definitions : List Definition) (d : Definition) (k : Known) → Knows fonts kept definitions → known_at kept d.number ≡ Some k → Knows fonts kept (definitions ++ d ∷ [])
knows_again fonts kept definitions d k knows is = knows_again_by fonts kept definitions d k (first_definition definitions d.number) knows refl (sym (knows d.number) ∙ is)

-- a number that is new
at_key : (a b : ℕ) → is_at (nat_cmp a) b ≡ (a == b)
at_key a b = grind (arith, nat_tests)

none_mapped : {A B : Type 0} (f : A → B) (o : Option A) → option_map f o ≡ None → o ≡ None
none_mapped f None e = refl
none_mapped f (Some x) e = absurd (cc)

knows_more_at : (fonts : SetValue) (old new : Definitions) (entry : DefinedFont) (definitions : List Definition) (d : Definition) (n : ℕ) (b : Bool) → (d.number == n) ≡ b → Knows fonts old definitions → first_definition definitions d.number ≡ None
    → get nat_cmp new.fonts.by_number n ≡ cond (is_at (nat_cmp d.number) n) (Some entry) (get nat_cmp old.fonts.by_number n) → known_font entry ≡ known_of fonts d → known_at new n ≡ option_map (known_of fonts) (first_definition (definitions ++ d ∷ []) n)
knows_more_at fonts old new entry definitions d n true e knows none put same =
    let there : first_definition definitions n ≡ None = ap (first_definition definitions) (sym (number_is d n e)) ∙ none in
    let first : first_definition (definitions ++ d ∷ []) n ≡ Some d = appended definitions d n ∙ ap (λ (o : Option Definition). option_or o (first_definition (d ∷ []) n)) there ∙ one_is d n e in
    let is : get nat_cmp new.fonts.by_number n ≡ Some entry = put ∙ ap (λ (t : Bool). cond t (Some entry) (get nat_cmp old.fonts.by_number n)) (at_key d.number n ∙ e) in
    ap (option_map known_font) is ∙ ap Some same ∙ sym (ap (option_map (known_of fonts)) first)
knows_more_at fonts old new entry definitions d n false e knows none put same =
    let first : first_definition (definitions ++ d ∷ []) n ≡ first_definition definitions n = appended definitions d n ∙ ap (option_or (first_definition definitions n)) (one_is_not d n e) ∙ or_none (first_definition definitions n) in
    let is : get nat_cmp new.fonts.by_number n ≡ get nat_cmp old.fonts.by_number n = put ∙ ap (λ (t : Bool). cond t (Some entry) (get nat_cmp old.fonts.by_number n)) (at_key d.number n ∙ e) in
    ap (option_map known_font) is ∙ knows n ∙ sym (ap (option_map (known_of fonts)) first)

pub first_is_none : (fonts : SetValue) (kept : Definitions) (definitions : List Definition) (n : ℕ) → Knows fonts kept definitions → known_at kept n ≡ None → first_definition definitions n ≡ None
first_is_none fonts kept definitions n knows e = none_mapped (known_of fonts) (first_definition definitions n) (sym (knows n) ∙ e)

pub knows_more : (fonts : SetValue) (old new : Definitions) (entry : DefinedFont) (definitions : List Definition) (d : Definition) → Knows fonts old definitions → known_at old d.number ≡ None
    → ((n : ℕ) → get nat_cmp new.fonts.by_number n ≡ cond (is_at (nat_cmp d.number) n) (Some entry) (get nat_cmp old.fonts.by_number n)) → known_font entry ≡ known_of fonts d → Knows fonts new (definitions ++ d ∷ [])
knows_more fonts old new entry definitions d knows none put same =
    λ n. knows_more_at fonts old new entry definitions d n (d.number == n) refl knows (first_is_none fonts old definitions d.number knows none) (put n) same

pub same_known : (n m : List ℕ) (s t : ℕ) (f g : Option ℕ) → m ≡ n → t ≡ s → f ≡ g → record { name = n; size = s; font = f } ≡ (let k : Known = record { name = m; size = t; font = g } in k)
same_known n m s t f g name size font =
    ap (λ (x : List ℕ). let k : Known = record { name = x; size = s; font = f } in k) (sym name) ∙ ap (λ (x : ℕ). let k : Known = record { name = m; size = x; font = f } in k) (sym size) ∙ ap (λ (x : Option ℕ). let k : Known = record { name = m; size = t; font = x } in k) font

-- where nothing is defined
pub none_at : (fonts : BTreeMap ℕ DefinedFont) (n : ℕ) → fonts.entries ≡ [] → font_at fonts n ≡ None
none_at fonts n e = rw e refl
