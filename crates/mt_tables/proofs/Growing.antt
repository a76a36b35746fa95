-- Words and macros under a table of names that grows.
use Rattle.std.proofs.Common.{◌≡◌, ℕ, zero, suc, ◌<◌, ◌≤◌, Bool, true, false, ◌⊎◌, inl, inr, List, [], ◌∷◌, ◌++◌, length, map, refl, sym, ap, subst, ◌∙◌, arith, cond}
use Rattle.std.specs.Prelude.{Option, Some, None, slice_get, ◌||◌, unwrap_or}
use Rattle.std.specs.List.{AllByRecursion, list_any}
use Rattle.std.specs.Str.{bytes_eq}
use Rattle.std.specs.Map.{keys_of}
use Rattle.std.specs.List.Sorted.{IsStrictlySortedBy}
use Rattle.std.specs.Cmp.Lexicographic.{slice_cmp}
use Rattle.std.specs.Ordering.{nat_cmp}
use Rattle.std.proofs.lemmas.Bool.{false≢true}
use Rattle.std.proofs.lemmas.List.{length-append, get_or_append_left}
use Rattle.std.proofs.lemmas.Option.{slice_get_past}
use Rattle.std.proofs.lemmas.Slice.Eq.{bytes_eq-Decides}
use Rattle.mt_token.specs.declared.token.TokenKind.{TokenKind}
use Rattle.mt_token.specs.Tokens.{Spanned}
use Rattle.mt_token.proofs.Same.{same_token}
use Rattle.mt_macro.specs.declared.table.Macro.{Macro}
use Rattle.mt_macro.specs.Table.{Table, macro_of}
use Rattle.mt_lexicon.specs.declared.word.Word.{Word}
use Rattle.mt_lexicon.specs.declared.word.WordKind.{WordKind}
use Rattle.mt_lexicon.specs.declared.word.WordKind.TheVariants.{Name, Char, Space}
use Rattle.mt_lexicon.specs.Code.{name_number}
use Rattle.mt_lexicon.specs.Meaning.{NameTable, Extends, IsDistinct, kind_of, named_kind, token_of, Known, KnownKind}
use Rattle.mt_tables.specs.declared.kept.KeptMacro.{KeptMacro}
use Rattle.mt_tables.specs.inner.KeptMacros.{macro_of_kept, macro_or_none, found_macro, kept_at, kept_or_none, name_at, entry_of, table_of, IsKnownBody, AreMacros}

get_append : (old more : NameTable) (n : ℕ) → n < length old → slice_get (old ++ more) n ≡ slice_get old n
get_append [] more n h = absurd (omega (arith, h))
get_append (x ∷ old) more zero h = refl
get_append (x ∷ old) more (suc n) h = get_append old more n (omega (arith, h))

pub known_append : (old more : NameTable) (w : WordKind) → KnownKind old w → KnownKind (old ++ more) w
known_append old more (Name high low) h = rw (length-append old more) (omega (arith, h))
known_append old more (Char c) h = tt
known_append old more Space h = tt

pub kind_append : (old more : NameTable) (w : WordKind) → KnownKind old w → kind_of (old ++ more) w ≡ kind_of old w
kind_append old more (Name high low) h = ap named_kind (get_append old more (name_number high low) h)
kind_append old more (Char c) h = refl
kind_append old more Space h = refl

-- a word that is known keeps its token
token_append : (old more : NameTable) (w : Word) → Known old w → token_of (old ++ more) w ≡ token_of old w
token_append old more w h = same_token (token_of (old ++ more) w) (token_of old w) (ap (λ (k : TokenKind). let s : Spanned = record { kind = k; start = 0; end = 0 } in s) (kind_append old more w.kind h))

pub tokens_append : (old more : NameTable) (ws : List Word) → AllByRecursion (Known old) ws → map (token_of (old ++ more)) ws ≡ map (token_of old) ws
tokens_append old more [] h = refl
tokens_append old more (w ∷ ws) h = ap (λ t. t ∷ map (token_of (old ++ more)) ws) (token_append old more w h.0) ∙ ap (λ ts. token_of old w ∷ ts) (tokens_append old more ws h.1)

pub all_known : (old more : NameTable) (ws : List Word) → AllByRecursion (Known old) ws → AllByRecursion (Known (old ++ more)) ws
all_known old more [] h = tt
all_known old more (w ∷ ws) h = (known_append old more w.kind h.0, all_known old more ws h.1)

body_append : (old more : NameTable) (k : Option KeptMacro) → IsKnownBody old k → IsKnownBody (old ++ more) k
body_append old more None h = tt
body_append old more (Some k) h = (all_known old more k.body.items h.0, h.1)

bodies_append : (old more : NameTable) (ks : List (Option KeptMacro)) → AllByRecursion (IsKnownBody old) ks → AllByRecursion (IsKnownBody (old ++ more)) ks
bodies_append old more [] h = tt
bodies_append old more (k ∷ ks) h = (body_append old more k h.0, bodies_append old more ks h.1)

kept_append : (old more : NameTable) (k : KeptMacro) → IsKnownBody old (Some k) → macro_of_kept (old ++ more) k ≡ macro_of_kept old k
kept_append old more k h = ap (λ b. let m : Macro = record { own = k.own; params = k.params; body = b } in m) (tokens_append old more k.body.items h.0)

none_append : (old more : NameTable) (k : Option KeptMacro) → IsKnownBody old k → macro_or_none (old ++ more) k ≡ macro_or_none old k
none_append old more None h = refl
none_append old more (Some k) h = kept_append old more k h

found_append : (old more : NameTable) (k : Option KeptMacro) → IsKnownBody old k → found_macro (old ++ more) k ≡ found_macro old k
found_append old more None h = refl
found_append old more (Some k) h = ap Some (kept_append old more k h)

pub known_at : (names : NameTable) (ks : List (Option KeptMacro)) (n : ℕ) → AllByRecursion (IsKnownBody names) ks → IsKnownBody names (kept_at ks n)
known_at names [] n h = tt
known_at names (k ∷ ks) zero h = h.0
known_at names (k ∷ ks) (suc n) h = known_at names ks n h.1

entry_append : (old more : NameTable) (ks : List (Option KeptMacro)) (n : ℕ) → AllByRecursion (IsKnownBody old) ks → n < length old → entry_of (old ++ more) ks n ≡ entry_of old ks n
entry_append old more ks n h l =
    ap (λ (x : List ℕ). (x, macro_or_none (old ++ more) (kept_at ks n))) (get_or_append_left old more [] n l)
    ∙ ap (λ (x : Macro). (name_at old n, x)) (none_append old more (kept_at ks n) (known_at old ks n h))

table_append : (old more : NameTable) (ks : List (Option KeptMacro)) (order : List ℕ) → AllByRecursion (IsKnownBody old) ks → AllByRecursion (λ n. n < length old) order → table_of (old ++ more) ks order ≡ table_of old ks order
table_append old more ks [] h l = refl
table_append old more ks (n ∷ order) h l =
    ap (λ e. e ∷ table_of (old ++ more) ks order) (entry_append old more ks n h l.0) ∙ ap (λ t. entry_of old ks n ∷ t) (table_append old more ks order h l.1)

-- the macros stay when names are added
pub table_kept : (old new : NameTable) (ks : List (Option KeptMacro)) (order : List ℕ) → Extends old new → AreMacros old ks order → table_of new ks order ≡ table_of old ks order
table_kept old new ks order e h = rw e.1 (table_append old e.0 ks order h.known h.listed)

-- names that are apart
pub some_is : {X : Type 0} (s r : X) → Some s ≡ Some r → s ≡ r
some_is s r e = ap (λ o. unwrap_or o s) e

or_left : (a b : Bool) → (a || b) ≡ false → a ≡ false
or_left true b h = absurd (cc)
or_left false b h = refl

or_right : (a b : Bool) → (a || b) ≡ false → b ≡ false
or_right true b h = absurd (cc)
or_right false b h = h

not_at : (n : List ℕ) (ns : NameTable) (i : ℕ) (m : List ℕ) → list_any (bytes_eq n) ns ≡ false → slice_get ns i ≡ Some m → bytes_eq n m ≡ false
not_at n [] i m h e = absurd (cc)
not_at n (x ∷ ns) zero m h e = rw (sym (some_is x m e)) (or_left (bytes_eq n x) _ h)
not_at n (x ∷ ns) (suc i) m h e = not_at n ns i m (or_right (bytes_eq n x) _ h) e

equal_itself : (n : List ℕ) → bytes_eq n n ≡ true
equal_itself n = (bytes_eq-Decides n n).1 refl

-- a name has one number
pub one_number : (ns : NameTable) (i j : ℕ) (name : List ℕ) → IsDistinct ns → slice_get ns i ≡ Some name → slice_get ns j ≡ Some name → i ≡ j
one_number [] i j name d a b = absurd (cc)
one_number (n ∷ ns) zero zero name d a b = refl
one_number (n ∷ ns) zero (suc j) name d a b =
    absurd (false≢true (sym (not_at n ns j name d.0 b) ∙ (ap (bytes_eq n) (sym (some_is n name a)) ∙ equal_itself n)))
one_number (n ∷ ns) (suc i) zero name d a b =
    absurd (false≢true (sym (not_at n ns i name d.0 a) ∙ (ap (bytes_eq n) (sym (some_is n name b)) ∙ equal_itself n)))
one_number (n ∷ ns) (suc i) (suc j) name d a b = ap suc (one_number ns i j name d.1 a b)

pub name_there : (ns : NameTable) (i : ℕ) → i < length ns → slice_get ns i ≡ Some (name_at ns i)
name_there [] i h = absurd (omega (arith, h))
name_there (n ∷ ns) zero h = refl
name_there (n ∷ ns) (suc i) h = name_there ns i (omega (arith, h))

-- numbers that are apart have names that are apart
pub apart : (ns : NameTable) (i j : ℕ) (name : List ℕ) (b : Bool) → IsDistinct ns → slice_get ns i ≡ Some name → j < length ns → (i ≡ j → ⊥) → bytes_eq name (name_at ns j) ≡ b → b ≡ false
apart ns i j name false d a l not e = refl
apart ns i j name true d a l not e =
    absurd (not (one_number ns i j name d a (name_there ns j l ∙ ap Some (sym ((bytes_eq-Decides name (name_at ns j)).0 e)))))

-- a name that none of these numbers has is in no entry
pub absent : (names : NameTable) (ks : List (Option KeptMacro)) (order : List ℕ) (n : ℕ) (name : List ℕ) → IsDistinct names → slice_get names n ≡ Some name → AllByRecursion (λ j. (j < length names) × (n ≡ j → ⊥)) order → macro_of (table_of names ks order) name ≡ None
absent names ks [] n name d e h = refl
absent names ks (j ∷ order) n name d e h =
    ap (λ b. cond b (Some (macro_or_none names (kept_at ks j))) (macro_of (table_of names ks order) name)) (apart names n j name _ d e h.0.0 h.0.1 refl)
    ∙ absent names ks order n name d e h.1

below : (old new : NameTable) (n : ℕ) (order : List ℕ) → length old ≤ n → length old ≤ length new → AllByRecursion (λ j. j < length old) order → AllByRecursion (λ j. (j < length new) × (n ≡ j → ⊥)) order
below old new n [] h k l = tt
below old new n (j ∷ order) h k l = ((omega (arith, l.0, k), λ e. omega (arith, e, l.0, h)), below old new n order h k l.1)

none_kept : (ks : List (Option KeptMacro)) (n : ℕ) → length ks ≤ n → kept_at ks n ≡ None
none_kept ks n h = ap kept_or_none (slice_get_past ks n h)

pub either : (a b : ℕ) → (a < b) ⊎ (b ≤ a)
either zero zero = inr (omega arith)
either zero (suc b) = inl (omega arith)
either (suc a) zero = inr (omega arith)
either (suc a) (suc b) = elim (either a b) [ inl h ↦ inl (omega (arith, h)) | inr h ↦ inr (omega (arith, h)) ]

found_more : (old more : NameTable) (ks : List (Option KeptMacro)) (order : List ℕ) → AreMacros old ks order → IsDistinct (old ++ more) → (n : ℕ) (name : List ℕ) → slice_get (old ++ more) n ≡ Some name
    → macro_of (table_of (old ++ more) ks order) name ≡ found_macro (old ++ more) (kept_at ks n)
found_more old more ks order h d n name e = elim (either n (length old)) [
  | inl l ↦ ap (λ t. macro_of t name) (table_append old more ks order h.known h.listed)
      ∙ (h.found n name (sym (get_append old more n l) ∙ e) ∙ sym (found_append old more (kept_at ks n) (known_at old ks n h.known)))
  | inr g ↦ absent (old ++ more) ks order n name d e (below old (old ++ more) n order g (rw (length-append old more) (omega arith)) h.listed)
      ∙ sym (ap (found_macro (old ++ more)) (none_kept ks n (omega (arith, g, h.within))))
]

listed_more : (old more : NameTable) (order : List ℕ) → AllByRecursion (λ j. j < length old) order → AllByRecursion (λ j. j < length (old ++ more)) order
listed_more old more [] l = tt
listed_more old more (j ∷ order) l = (rw (length-append old more) (omega (arith, l.0)), listed_more old more order l.1)

macros_append : (old more : NameTable) (ks : List (Option KeptMacro)) (order : List ℕ) → AreMacros old ks order → IsDistinct (old ++ more) → AreMacros (old ++ more) ks order
macros_append old more ks order h d =
    let same = table_append old more ks order h.known h.listed in
    record {
      distinct = d;
      within = rw (length-append old more) (omega (arith, h.within));
      known = bodies_append old more ks h.known;
      listed = listed_more old more order h.listed;
      sorted = subst (λ (t : Table). IsStrictlySortedBy (slice_cmp nat_cmp) (keys_of t)) (sym same) h.sorted;
      found = found_more old more ks order h d;
    }

pub macros_kept : (old new : NameTable) (ks : List (Option KeptMacro)) (order : List ℕ) → Extends old new → (IsDistinct old → IsDistinct new) → AreMacros old ks order → AreMacros new ks order
macros_kept old new ks order e d h =
    subst (λ (ns : NameTable). AreMacros ns ks order) (sym e.1) (macros_append old e.0 ks order h (subst IsDistinct e.1 (d h.distinct)))

-- a number that no name has is read as a Space
pub read_as_space : (names : NameTable) (s w : Word) (high low : ℕ) → s.kind ≡ Space → w.kind ≡ Name high low → length names ≤ name_number high low → token_of names s ≡ token_of names w
read_as_space names s w high low a b h =
    same_token (token_of names s) (token_of names w)
    (ap (λ (k : WordKind). let t : Spanned = record { kind = kind_of names k; start = 0; end = 0 } in t) a
    ∙ (ap (λ (o : Option (List ℕ)). let t : Spanned = record { kind = named_kind o; start = 0; end = 0 } in t) (sym (slice_get_past names (name_number high low) h))
    ∙ ap (λ (k : WordKind). let t : Spanned = record { kind = kind_of names k; start = 0; end = 0 } in t) (sym b)))
