-- Fonts that are defined (`introduced`) and selected (`chosen`).
use Rattle.std.proofs.Common.{◌≡◌, ℕ, ◌+◌, ◌<◌, ◌≤◌, List, [], ◌∷◌, ◌++◌, zero, suc, length, refl, ◌∙◌, ap, subst, arith}
use Rattle.std.specs.Prelude.{pos, nat_abs, true, false, Bool, Option, Some, None, nat_lt, slice_get, map, ◌==◌, if◌then◌else◌, All, IsTrue, ◌||◌}
use Rattle.std.proofs.lemmas.Bool.Decides.{nat_tests}
use Rattle.std.proofs.lemmas.Int.{ints}
use Rattle.mt_tfm.specs.Font.{Metrics, IsSoundFont}
use Rattle.std.proofs.lemmas.List.{map-append, append-nil}
use Rattle.mt_dvi.specs.Codes.{Define, Definition, Select}
use Rattle.mt_dvi.specs.writer.Emits.{Emits}
use Rattle.mt_dvi.specs.File.{Continues, file_step}
use Rattle.mt_dvi.specs.Lean.{is_same_font}
use Rattle.mt_dvi.specs.Fonts.{metrics_at, first_definition, definition_of}
use Rattle.mt_dvi.specs.writer.LeadsTo.{Reached, in_page, is_among, ones, with_definitions, with_number, with_opcodes}
use Rattle.mt_dvi.specs.writer.Stands.{Chosen, Lowered, StandsWith}
use Rattle.mt_dvi.specs.Machine.{is_far}
use Rattle.mt_family.specs.Fields.{is_name}
use Rattle.mt_family.specs.ListFacts.{IsFontLine}
use Rattle.mt_family.specs.SetValue.{IsSet, SetValue, name_in, number_named}
use Rattle.mt_family.specs.declared.list.FontLine.{FontLine}
use Rattle.mt_dvi.specs.declared.page.Cursor.{Cursor}
use Rattle.mt_dvi.proofs.Prefix.{leads_next}
use Rattle.mt_dvi.proofs.LeanLemmas.{lean_later, lean_next}
use Rattle.mt_dvi.proofs.MoveLemmas.{at_page, own_opcode}

pub defined_is : (fonts : SetValue) (numbers : List ℕ) (n : ℕ) → first_definition (map (definition_of fonts) numbers) n ≡ (if is_among numbers n then Some (definition_of fonts n) else None)
defined_is fonts [] n = refl
defined_is fonts (m ∷ numbers) n = first_is (m == n) (λ (e : (m == n) ≡ true). same m n e) (defined_is fonts numbers n) where
  same : (m n : ℕ) → (m == n) ≡ true → definition_of fonts m ≡ definition_of fonts n
  same m n e = ap (definition_of fonts) (grind (arith, nat_tests))

  first_is : (b : Bool) → (b ≡ true → definition_of fonts m ≡ definition_of fonts n) → first_definition (map (definition_of fonts) numbers) n ≡ (if is_among numbers n then Some (definition_of fonts n) else None)
      → (if b then Some (definition_of fonts m) else first_definition (map (definition_of fonts) numbers) n) ≡ (if (b || is_among numbers n) then Some (definition_of fonts n) else None)
  first_is true e ih = ap Some (e refl)
  first_is false e ih = ih

-- a definition is read
step_define : (fonts : SetValue) (reached : Reached) (c : Cursor) (numbers : List ℕ) (n : ℕ) (rest : List ℕ) → is_among numbers n ≡ false
    → file_step fonts (in_page (with_definitions fonts reached numbers) c).file (Define (definition_of fonts n)) rest ≡ Continues (in_page (with_definitions fonts reached (numbers ++ n ∷ [])) c).file
step_define fonts reached c numbers n rest new =
    let e : first_definition (map (definition_of fonts) numbers ++ []) n ≡ None = ap (λ (l : List Definition). first_definition l n) (append-nil (map (definition_of fonts) numbers)) ∙ defined_is fonts numbers n ∙ ap (λ (b : Bool). if b then Some (definition_of fonts n) else None) new in
    rw (e, map-append (definition_of fonts) numbers (n ∷ [])) refl

pub ones_append : (xs ys : List ℕ) → ones (xs ++ ys) ≡ ones xs ++ ones ys
ones_append [] ys = refl
ones_append (x ∷ xs) ys = ap (λ (l : List ℕ). 1 ∷ l) (ones_append xs ys)

pub introduced : (fonts : SetValue) (old new : List ℕ) (numbers : List ℕ) (n : ℕ) → Emits 271 old new (Define (definition_of fonts n)) → is_among numbers n ≡ false
    → (reached : Reached) → (c : Cursor) → StandsWith fonts old reached numbers c Lowered → StandsWith fonts new reached (numbers ++ n ∷ []) c Lowered
introduced fonts old new numbers n emits fresh reached c stands =
    let o = own_opcode (Define (definition_of fonts n)) c c in
    record {
      page = stands.page ++ o ∷ [];
      lean = lean_next stands.page o c c Lowered Lowered stands.lean (stands.lean.moves ++ []) (rw (append-nil stands.lean.moves) stands.lean.allows) refl
          (λ rest e. tt) (λ rest e. refl) (λ rest. refl) (λ rest. refl) (λ rest. refl);
      leads = leads_next fonts old new (in_page (with_opcodes (with_definitions fonts reached numbers) stands.page) c) (in_page (with_opcodes (with_definitions fonts reached (numbers ++ n ∷ [])) (stands.page ++ o ∷ [])) c) (Define (definition_of fonts n)) 271 stands.leads emits
          (λ rest. step_define fonts (at_page old reached stands.page) c numbers n rest fresh) (rw (ones_append numbers (n ∷ [])) refl);
    }

pub added_new : (numbers : List ℕ) (n : ℕ) → is_among numbers n ≡ false → numbers ++ n ∷ [] ≡ with_number numbers n
added_new numbers n fresh = rw fresh refl

pub added_old : (numbers : List ℕ) (n : ℕ) → is_among numbers n ≡ true → numbers ≡ with_number numbers n
added_old numbers n fresh = rw fresh refl

-- a selection is read
step_select : (fonts : SetValue) (reached : Reached) (c : Cursor) (numbers : List ℕ) (n : ℕ) (rest : List ℕ) → is_among numbers n ≡ true
    → number_named fonts (definition_of fonts n).name (pos (definition_of fonts n).size) ≡ Some n → is_far c.h ≡ false → is_far c.v ≡ false
    → file_step fonts (in_page (with_definitions fonts reached numbers) c).file (Select n) rest ≡ Continues (in_page (with_definitions fonts reached numbers) (record c { font = Some n })).file
step_select fonts reached c numbers n rest known place h v =
    let e : first_definition (map (definition_of fonts) numbers) n ≡ Some (definition_of fonts n) = defined_is fonts numbers n ∙ ap (λ (b : Bool). if b then Some (definition_of fonts n) else None) known in
    rw (e, place, h, v) refl

-- two lists of one length have a font and a line at each place
paired : (fonts : List Metrics) (lines : List FontLine) (n : ℕ) → length fonts ≡ length lines → n < length fonts
    → (m : Metrics) × (slice_get fonts n ≡ Some m) × (line : FontLine) × (slice_get lines n ≡ Some line)
paired [] lines n same lt = absurd (omega arith)
paired (m ∷ fonts) [] n same lt = absurd (omega (arith, same))
paired (m ∷ fonts) (line ∷ lines) zero same lt = (m, refl, line, refl)
paired (m ∷ fonts) (line ∷ lines) (suc n) same lt = paired fonts lines n (omega (arith, same)) (omega arith)

-- what all keep, each keeps
kept : {X : Type 0} (P : X → Type 0) (lines : List X) (n : ℕ) (line : X) → All P lines → slice_get lines n ≡ Some line → P line
kept P [] n line all is = absurd (cc)
kept P (first ∷ lines) zero line all is = let same : first ≡ line = cc in subst P same (all 0 first (omega arith))
kept P (first ∷ lines) (suc n) line all is = kept P lines n line (λ k d lt. all (suc k) d (omega arith)) is

-- a font of the set can be defined, and its definition leads back to it
pub record IsListed (fonts : SetValue) (n : ℕ) : Type 0 where
  pub metrics : Metrics
  pub metrics_is : metrics_at fonts n ≡ Some metrics
  pub line : FontLine
  pub line_is : slice_get fonts.lines n ≡ Some line
  pub short : length line.name ≤ 64
  pub found : number_named fonts (definition_of fonts n).name (pos (definition_of fonts n).size) ≡ Some n

short_name : (name : List ℕ) → IsTrue (is_name name) → length name ≤ 64
short_name name is = grind (arith, nat_tests)

pub same_some : {xs ys : List ℕ} → Some xs ≡ Some ys → xs ≡ ys
same_some e = cc

pub listed : (fonts : SetValue) (n : ℕ) → IsSet fonts → n < length fonts.fonts → IsListed fonts n
listed fonts n set lt =
    let p = paired fonts.fonts fonts.lines n set.loaded.count lt in
    let m = p.0 in
    let line = p.2 in
    let facts = kept IsFontLine fonts.lines n line set.list.each p.3 in
    let sound = kept IsSoundFont fonts.fonts n m set.sound p.1 in
    let size : pos (nat_abs m.at) ≡ m.at = omega (arith, ints, sound.at.0) in
    let name : name_in fonts.lines n ≡ Some line.name = rw p.3 refl in
    record {
      metrics = m;
      metrics_is = p.1;
      line = line;
      line_is = p.3;
      short = short_name line.name facts.name;
      found = rw (p.1, p.3, size) (set.named n line.name m name p.1);
    }

below : (n : ℕ) → n < 64 → nat_lt (171 + n) 235 ≡ true
below n lt = grind (arith, nat_tests)

-- a font is selected that was not
pub chosen : (fonts : SetValue) (old new : List ℕ) (numbers : List ℕ) (n : ℕ) (c : Cursor) → Emits 1 old new (Select n) → IsSet fonts → n < length fonts.fonts → n < 64 → is_among numbers n ≡ true → is_far c.h ≡ false → is_far c.v ≡ false
    → is_same_font c.font (Some n) ≡ false
    → (reached : Reached) → StandsWith fonts old reached numbers c Lowered → StandsWith fonts new reached numbers (record c { font = Some n }) Chosen
chosen fonts old new numbers n c emits good lt few known h v other reached stands =
    let next : Cursor = record c { font = Some n } in
    let o = own_opcode (Select n) c next in
    record {
      page = stands.page ++ o ∷ [];
      lean = lean_next stands.page o c next Lowered Chosen stands.lean (stands.lean.moves ++ []) (rw (append-nil stands.lean.moves) stands.lean.allows) (rw (below n few) refl)
          (λ rest e. tt) (λ rest e. rw (e, other) refl) (λ rest. refl) (λ rest. refl) (λ rest. refl);
      leads = leads_next fonts old new (in_page (with_opcodes (with_definitions fonts reached numbers) stands.page) c) (in_page (with_opcodes (with_definitions fonts reached numbers) (stands.page ++ o ∷ [])) next) (Select n) 1 stands.leads emits
          (λ rest. step_select fonts (at_page old reached stands.page) c numbers n rest known (listed fonts n good lt).found h v) refl;
    }

-- the font is selected already
pub still_chosen : (fonts : SetValue) (out : List ℕ) (numbers : List ℕ) (n : ℕ) (c : Cursor) → c.font ≡ Some n
    → (reached : Reached) → StandsWith fonts out reached numbers c Lowered → StandsWith fonts out reached numbers (record c { font = Some n }) Chosen
still_chosen fonts out numbers n c same reached stands =
    subst (λ (font : Option ℕ). StandsWith fonts out reached numbers (record c { font = font }) Chosen) same
    (record { page = stands.page; lean = lean_later stands.page c Lowered Chosen stands.lean stands.lean.moves refl stands.lean.allows (λ rest e. tt); leads = stands.leads })

last_among : (numbers : List ℕ) (n : ℕ) → is_among (numbers ++ n ∷ []) n ≡ true
last_among [] n = grind (arith, nat_tests)
last_among (m ∷ numbers) n = either (m == n) (last_among numbers n) where
  either : (b : Bool) → is_among (numbers ++ n ∷ []) n ≡ true → (b || is_among (numbers ++ n ∷ []) n) ≡ true
  either true e = refl
  either false e = e

pub added_among : (numbers : List ℕ) (n : ℕ) → is_among (with_number numbers n) n ≡ true
added_among numbers n = by_test (is_among numbers n) refl where
  by_test : (b : Bool) → is_among numbers n ≡ b → is_among (if b then numbers else numbers ++ n ∷ []) n ≡ true
  by_test true e = e
  by_test false e = last_among numbers n
