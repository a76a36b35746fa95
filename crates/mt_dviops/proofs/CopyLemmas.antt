-- An opcode of a page that is copied does in another file what it did (`one_more`).
use Rattle.std.proofs.Common.{◌≡◌, ℕ, ◌+◌, ◌<◌, ◌≤◌, List, [], ◌∷◌, ◌++◌, length, refl, sym, ◌∙◌, ap, subst, arith, length-append, append_assoc}
use Rattle.std.specs.Prelude.{Bool, true, false, nat_lt, nat_le, Option, Some, None, Ok, Err, max, All, if◌then◌else◌}
use Rattle.std.proofs.lemmas.Bool.Decides.{nat_tests}
use Rattle.mt_family.specs.SetValue.{SetValue}
use Rattle.mt_dvi.specs.Limits.{max_places}
use Rattle.mt_dvi.specs.Codes.{Definition, operand_size, operation}
use Rattle.mt_dvi.specs.Machine.{TooMany, OutOfRange, Machine, WrittenPlace, Effects, is_outside}
use Rattle.mt_dvi.specs.File.{File, Page, Continuation, Continues, Fails, advance, effect_step, file_step, place_step, reading}
use Rattle.mt_dvi.proofs.Prefix.{skipped, take_front, drop_front}
use Rattle.mt_dviops.specs.Source.{SourcePage}
use Rattle.mt_dviops.specs.Repeats.{Repeats, SelectsOwn, begun, in_copy}

long_enough : (xs ys : List ℕ) → nat_lt (length (xs ++ ys)) (length xs) ≡ false
long_enough xs ys = let e : length (xs ++ ys) ≡ length xs + length ys = length-append xs ys in grind (arith, nat_tests)

-- an opcode is read, whatever follows it
pub read_one : (fonts : SetValue) (file next : File) (code : ℕ) (operands rest : List ℕ) → operand_size code (operands ++ rest) ≡ length operands
    → file_step fonts file (operation code operands) rest ≡ Continues next
    → reading fonts file 0 (code ∷ (operands ++ rest)) ≡ reading fonts (advance next (length operands + 1)) 0 rest
unfolding reading
read_one fonts file next code operands rest size is = rw (size, long_enough operands rest, take_front operands rest, drop_front operands rest, is) (skipped fonts (advance next (length operands + 1)) operands rest)

pub max_zero : (a : ℕ) → max a 0 ≡ a
max_zero a = omega arith

max_three : (a b c : ℕ) → max (max a b) c ≡ max a (max b c)
max_three a b c = omega arith

pub max_same : (a b : ℕ) → b ≤ a → max a b ≡ a
max_same a b le = omega (arith, le)

-- what an operation of the page comes to in the other file
abbrev pub Copies : File → ℕ → ℕ → Continuation → File → Type 0
Copies base depth at continuation next = continuation ≡ Continues (advance (in_copy base next.machine next.page (max depth (length next.machine.saved))) at)

abbrev after_none : File → Machine → File
after_none file m = record file { machine = m; deepest = max file.deepest (length m.saved) }

abbrev after_some : File → Machine → WrittenPlace → File
after_some file m place = record file {
  machine = m;
  deepest = max file.deepest (length m.saved);
  place_count = file.place_count + 1;
  page = record (file.page) { places = file.page.places ++ place ∷ [] };
}

pub continues_same : (a b : File) → Continues a ≡ Continues b → a ≡ b
continues_same a b e = cc

place_copied : (base file next : File) (m : Machine) (place : Option WrittenPlace) (depth at : ℕ) → place_step file m place ≡ Continues next → base.place_count + length next.page.places ≤ max_places
    → Copies base depth at (place_step (advance (in_copy base file.machine file.page depth) at) m place) next
place_copied base file next m None depth at is few =
    let e : after_none file m ≡ next = continues_same _ _ is in
    subst (λ (n : File). Copies base depth at (place_step (advance (in_copy base file.machine file.page depth) at) m None) n) e
    (rw (max_three base.deepest depth (length m.saved)) refl)
place_copied base file next m (Some place) depth at is few = full (nat_le max_places file.place_count) refl is where
  there : Continuation
  there = place_step (advance (in_copy base file.machine file.page depth) at) m (Some place)

  full : (b : Bool) → nat_le max_places file.place_count ≡ b → (if b then Fails TooMany else Continues (after_some file m place)) ≡ Continues next → Copies base depth at there next
  full true e is = absurd (cc)
  full false e is =
      let n : after_some file m place ≡ next = continues_same _ _ is in
      let long : base.place_count + length file.page.places + 1 ≡ base.place_count + length (file.page.places ++ place ∷ []) = omega (arith, length-append file.page.places (place ∷ [])) in
      let bound : base.place_count + length (file.page.places ++ place ∷ []) ≤ max_places = subst (λ (f : File). base.place_count + length f.page.places ≤ max_places) (sym n) few in
      let room : nat_le max_places (base.place_count + length file.page.places) ≡ false = grind (arith, nat_tests) in
      subst (λ (f : File). Copies base depth at there f) n
      (rw (room, max_three base.deepest depth (length m.saved), long) refl)

pub effect_copied : (base file next : File) (e : Effects) (depth at : ℕ) → effect_step file e ≡ Continues next → base.place_count + length next.page.places ≤ max_places
    → Copies base depth at (effect_step (advance (in_copy base file.machine file.page depth) at) e) next
effect_copied base file next (Err cause) depth at is few = absurd (cc)
effect_copied base file next (Ok effect) depth at is few = outside (is_outside effect.machine) is where
  outside : (b : Bool) → (if b then Fails OutOfRange else place_step file effect.machine effect.place) ≡ Continues next
      → Copies base depth at (if b then Fails OutOfRange else place_step (advance (in_copy base file.machine file.page depth) at) effect.machine effect.place) next
  outside true is = absurd (cc)
  outside false is = place_copied base file next effect.machine effect.place depth at is few

-- an operation of a page adds no count and takes no place away, and the file stays in the page
pub record Kept (file next : File) : Type 0 where
  pub counts : next.page.counts ≡ file.page.counts
  pub fewer : length file.page.places ≤ length next.page.places
  pub phase : next.phase ≡ file.phase
  pub pages : next.pages ≡ file.pages

pub kept_same : (file next : File) → next.page ≡ file.page → next.phase ≡ file.phase → next.pages ≡ file.pages → Kept file next
kept_same file next e p q = record { counts = ap (λ (q : Page). q.counts) e; fewer = omega (arith, ap (λ (q : Page). length q.places) e); phase = p; pages = q }

place_kept : (file next : File) (m : Machine) (place : Option WrittenPlace) → place_step file m place ≡ Continues next → Kept file next
place_kept file next m None is = let e : after_none file m ≡ next = continues_same _ _ is in subst (λ (n : File). Kept file n) e (kept_same file (after_none file m) refl refl refl)
place_kept file next m (Some place) is = full (nat_le max_places file.place_count) is where
  full : (b : Bool) → (if b then Fails TooMany else Continues (after_some file m place)) ≡ Continues next → Kept file next
  full true is = absurd (cc)
  full false is =
      let e : after_some file m place ≡ next = continues_same _ _ is in
      subst (λ (n : File). Kept file n) e (record { counts = refl; fewer = omega (arith, length-append file.page.places (place ∷ [])); phase = refl; pages = refl })

pub effect_kept : (file next : File) (e : Effects) → effect_step file e ≡ Continues next → Kept file next
effect_kept file next (Err cause) is = absurd (cc)
effect_kept file next (Ok effect) is = outside (is_outside effect.machine) is where
  outside : (b : Bool) → (if b then Fails OutOfRange else place_step file effect.machine effect.place) ≡ Continues next → Kept file next
  outside true is = absurd (cc)
  outside false is = place_kept file next effect.machine effect.place is

-- one opcode more
pub append_opcode : (fonts : SetValue) (copy more : SourcePage) (m m' : Machine) (page page' : Page) (code : ℕ) (o : List ℕ)
    → more.body ≡ copy.body ++ code ∷ o
    → page'.counts ≡ page.counts
    → length page.places ≤ length page'.places
    → length m'.saved ≤ more.depth
    → All (λ (n : ℕ). n < length fonts.fonts) more.selected
    → ((definitions : List Definition) → All (SelectsOwn fonts definitions) more.selected → All (SelectsOwn fonts definitions) copy.selected)
    → ((rest : List ℕ) → operand_size code (o ++ rest) ≡ length o)
    → ((base : File) (at : ℕ) (rest : List ℕ) → All (SelectsOwn fonts base.fonts) more.selected → base.place_count + length page'.places ≤ max_places
    → file_step fonts (advance (in_copy base m page copy.depth) at) (operation code o) rest ≡ Continues (advance (in_copy base m' page' more.depth) at))
    → Repeats fonts copy m page → Repeats fonts more m' page'
append_opcode fonts copy more m m' page page' code o body counts fewer deep there sub size does repeats = record {
  deep = deep;
  there = there;
  reads = λ base rest all few.
      let long : base.at + length copy.body + (length o + 1) ≡ base.at + length more.body = omega (arith, ap length body, length-append copy.body (code ∷ o)) in
      ap (λ (l : List ℕ). reading fonts (begun base page'.counts) 0 (l ++ rest)) body
      ∙ ap (λ (l : List ℕ). reading fonts (begun base l) 0 ((copy.body ++ code ∷ o) ++ rest)) counts
      ∙ ap (λ (l : List ℕ). reading fonts (begun base page.counts) 0 l) (append_assoc copy.body (code ∷ o) rest)
      ∙ repeats.reads base (code ∷ (o ++ rest)) (sub base.fonts all) (omega (arith, few, fewer))
      ∙ read_one fonts (advance (in_copy base m page copy.depth) (length copy.body)) (advance (in_copy base m' page' more.depth) (length copy.body)) code o rest (size rest) (does base (length copy.body) rest all few)
      ∙ ap (λ (n : ℕ). reading fonts (record (in_copy base m' page' more.depth) { at = n }) 0 rest) long;
}
