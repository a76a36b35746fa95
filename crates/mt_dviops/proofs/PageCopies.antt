-- The opcodes of a page, copied one after another, do in another file what they did (`one_more`).
use Rattle.std.proofs.Common.{◌≡◌, ℕ, zero, suc, ◌+◌, ◌<◌, ◌≤◌, List, [], ◌∷◌, ◌++◌, length, take, refl, sym, ◌∙◌, ap, subst, arith, length-append}
use Rattle.std.specs.Prelude.{pos, Bool, true, false, Option, Some, None, Ok, max, All, if◌then◌else◌, ⊤}
use Rattle.std.proofs.lemmas.Bool.Decides.{nat_tests}
use Rattle.std.proofs.lemmas.List.{get_or_append_left}
use Rattle.std.proofs.Math.Seq.{get_or-append_seam}
use Rattle.mt_family.specs.SetValue.{SetValue, number_named}
use Rattle.mt_dvi.specs.Opcodes.{fnt_num_0}
use Rattle.mt_dvi.specs.Codes.{Definition, operand_size, operation, Operation, Char, Rule, Nop, Bop, Eop, Push, Pop, Right, Down, Set, Add, Select, Special, Define, Pre, Post, PostPost, Undefined}
use Rattle.mt_dvi.specs.Fonts.{first_definition}
use Rattle.mt_dvi.specs.Machine.{Machine, Effect, Effects, BadOpcode, OutOfRange, UnknownFont, is_outside, perform, select_effect, select_font, select_without_area, without_place}
use Rattle.mt_dvi.specs.File.{File, InPage, Continues, Fails, advance, can_define, effect_step, file_step, in_page_step, place_step, special_at}
use Rattle.mt_dviops.specs.Source.{SourcePage, copy_opcode, copy_selection}
use Rattle.mt_dviops.specs.Repeats.{Repeats, SelectsOwn, in_copy}
use Rattle.mt_dviops.proofs.CopyLemmas.{append_opcode, continues_same, effect_copied, effect_kept, max_same}

-- the numbers that the set gives are those of its fonts, and fit fnt_num
abbrev pub IsSmall : SetValue → Type 0
IsSmall fonts = (name : List ℕ) (size n : ℕ) → number_named fonts name (pos size) ≡ Some n → (n < 64) × (n < length fonts.fonts)

snoc_all : (P : ℕ → Type 0) (numbers : List ℕ) (n : ℕ) → All P numbers → P n → All P (numbers ++ n ∷ [])
snoc_all P [] n all is zero d lt = is
snoc_all P [] n all is (suc k) d lt = absurd (omega arith)
snoc_all P (m ∷ numbers) n all is zero d lt = all 0 d (omega arith)
snoc_all P (m ∷ numbers) n all is (suc k) d lt = snoc_all P numbers n (λ i e l. all (suc i) e (omega arith)) is k d (omega arith)

left_all : (fonts : SetValue) (numbers : List ℕ) (n : ℕ) (definitions : List Definition) → All (SelectsOwn fonts definitions) (numbers ++ n ∷ []) → All (SelectsOwn fonts definitions) numbers
left_all fonts numbers n definitions all = λ k d lt. subst (SelectsOwn fonts definitions) (get_or_append_left numbers (n ∷ []) d k lt) (all k d (omega (arith, lt, length-append numbers (n ∷ []))))

last_of_all : (fonts : SetValue) (numbers : List ℕ) (n : ℕ) (definitions : List Definition) → All (SelectsOwn fonts definitions) (numbers ++ n ∷ []) → SelectsOwn fonts definitions n
last_of_all fonts numbers n definitions all = subst (SelectsOwn fonts definitions) (get_or-append_seam numbers n [] 0) (all (length numbers) 0 (omega (arith, length-append numbers (n ∷ []))))

-- the machine after an effect
after_effect : (file next : File) (effect : Effect) → effect_step file (Ok effect) ≡ Continues next → effect.place ≡ None → (next.machine ≡ effect.machine) × (next.page ≡ file.page)
after_effect file next effect is none = outside (is_outside effect.machine) is where
  outside : (b : Bool) → (if b then Fails OutOfRange else place_step file effect.machine effect.place) ≡ Continues next → (next.machine ≡ effect.machine) × (next.page ≡ file.page)
  outside true is = absurd (cc)
  outside false is =
      let e : Continues (record file { machine = effect.machine; deepest = max file.deepest (length effect.machine.saved) }) ≡ Continues next = subst (λ p. place_step file effect.machine p ≡ Continues next) none is in
      let n = continues_same _ _ e in
      (ap (λ (f : File). f.machine) (sym n), ap (λ (f : File). f.page) (sym n))

-- a selection that goes on has selected a font of the set
selected : (fonts : SetValue) (file next : File) (d : Option Definition) → effect_step file (select_effect fonts file.machine d) ≡ Continues next → IsSmall fonts
    → (n : ℕ) × (n < 64) × (n < length fonts.fonts) × (select_effect fonts file.machine d ≡ without_place (record (file.machine) { font = Some n }))
selected fonts file next None is small = absurd (cc)
selected fonts file next (Some d) is small = by_area d.area is where
  by_number : (r : Option ℕ) → number_named fonts d.name (pos d.size) ≡ r → effect_step file (select_font file.machine r) ≡ Continues next
      → (n : ℕ) × (n < 64) × (n < length fonts.fonts) × (select_font file.machine r ≡ without_place (record (file.machine) { font = Some n }))
  by_number None e is = absurd (cc)
  by_number (Some n) e is = let (low, there) = small d.name d.size n e in (n, low, there, refl)

  by_area : (area : List ℕ) → effect_step file (select_without_area fonts file.machine area d) ≡ Continues next
      → (n : ℕ) × (n < 64) × (n < length fonts.fonts) × (select_without_area fonts file.machine area d ≡ without_place (record (file.machine) { font = Some n }))
  by_area [] is = by_number (number_named fonts d.name (pos d.size)) refl is
  by_area (byte ∷ area) is = absurd (cc)

select_code : (n : ℕ) → n < 64 → operation (fnt_num_0 + n) [] ≡ Select n
unfolding operation
select_code n lt = grind (arith, nat_tests)

select_size : (n : ℕ) (rest : List ℕ) → n < 64 → operand_size (fnt_num_0 + n) rest ≡ 0
unfolding operand_size
select_size n rest lt = grind (arith, nat_tests)

pub length_take : (n : ℕ) (bytes : List ℕ) → n ≤ length bytes → length (take n bytes) ≡ n
length_take zero bytes le = refl
length_take (suc n) [] le = absurd (omega arith)
length_take (suc n) (b ∷ bytes) le = omega (arith, length_take n bytes (omega arith))

-- what is given of an opcode of the page
pub record Given (fonts : SetValue) (copy : SourcePage) (file next : File) (code : ℕ) (o : List ℕ) (op : Operation) : Type 0 where
  pub small : IsSmall fonts
  pub phase : file.phase ≡ InPage
  pub is : operation code o ≡ op
  pub size : (rest : List ℕ) → operand_size code (o ++ rest) ≡ length o
  pub does : in_page_step fonts file op ≡ Continues next
  pub repeats : Repeats fonts copy file.machine file.page

abbrev raw : SourcePage → File → ℕ → List ℕ → SourcePage
raw copy next code o = record copy { body = copy.body ++ code ∷ o; depth = max copy.depth (length next.machine.saved) }

le_max : (a b : ℕ) → b ≤ max a b
le_max a b = omega arith

-- an operation that looks at no definition, and nothing else is asked of it
one_effect : (fonts : SetValue) (copy : SourcePage) (file next : File) (code : ℕ) (o : List ℕ) (op : Operation) (e : Effects) → Given fonts copy file next code o op → effect_step file e ≡ Continues next
    → ((other : File) → other.phase ≡ InPage → other.machine ≡ file.machine → (rest : List ℕ) → file_step fonts other op rest ≡ effect_step other e)
    → Repeats fonts (raw copy next code o) next.machine next.page
one_effect fonts copy file next code o op e given is same =
    let kept = effect_kept file next e is in
    append_opcode fonts copy (raw copy next code o) file.machine next.machine file.page next.page code o refl kept.counts kept.fewer (le_max _ _) given.repeats.there (λ definitions all. all) given.size
    (λ base at rest all few. ap (λ (p : Operation). file_step fonts (advance (in_copy base file.machine file.page copy.depth) at) p rest) given.is
    ∙ same (advance (in_copy base file.machine file.page copy.depth) at) refl refl rest ∙ effect_copied base file next e copy.depth at is few)
    given.repeats

abbrev after_special : File → List ℕ → File
after_special file bytes = record file {
  page = record (file.page) { specials = file.page.specials ++ special_at file.machine file.page bytes ∷ [] };
}

one_special : (fonts : SetValue) (copy : SourcePage) (file next : File) (code : ℕ) (o bytes : List ℕ) → Given fonts copy file next code o (Special bytes) → Repeats fonts (raw copy next code o) next.machine next.page
one_special fonts copy file next code o bytes given = subst (λ (n : File). Repeats fonts (raw copy n code o) n.machine n.page) (continues_same _ _ given.does) here where
  here : Repeats fonts (raw copy (after_special file bytes) code o) file.machine (after_special file bytes).page
  here =
      append_opcode fonts copy (raw copy (after_special file bytes) code o) file.machine file.machine file.page (after_special file bytes).page code o refl refl (omega arith) (le_max _ _) given.repeats.there (λ definitions all. all) given.size
      (λ base at rest all few. ap (λ (p : Operation). file_step fonts (advance (in_copy base file.machine file.page copy.depth) at) p rest) given.is ∙ rw (max_same copy.depth (length file.machine.saved) given.repeats.deep) refl)
      given.repeats

one_definition : (fonts : SetValue) (copy : SourcePage) (file next : File) (code : ℕ) (o : List ℕ) (d : Definition) → Given fonts copy file next code o (Define d) → Repeats fonts copy next.machine next.page
one_definition fonts copy file next code o d given = can (can_define file d) given.does where
  can : (b : Bool) → (if b then Continues (record file { fonts = file.fonts ++ d ∷ [] }) else Fails UnknownFont) ≡ Continues next → Repeats fonts copy next.machine next.page
  can true is = subst (λ (n : File). Repeats fonts copy n.machine n.page) (continues_same _ _ is) given.repeats
  can false is = absurd (cc)

one_selection : (fonts : SetValue) (copy : SourcePage) (file next : File) (code number : ℕ) (o : List ℕ) → Given fonts copy file next code o (Select number) → Repeats fonts (copy_selection copy next.machine.font) next.machine next.page
one_selection fonts copy file next code number o given =
    let (n, lt, in_set, is) = selected fonts file next (first_definition file.fonts number) given.does given.small in
    let step : effect_step file (without_place (record (file.machine) { font = Some n })) ≡ Continues next = subst (λ (e : Effects). effect_step file e ≡ Continues next) is given.does in
    let (machine, page) = after_effect file next (record { machine = record (file.machine) { font = Some n }; place = None }) step refl in
    let kept = effect_kept file next (without_place (record (file.machine) { font = Some n })) step in
    let saved : length next.machine.saved ≤ copy.depth = subst (λ (m : Machine). length m.saved ≤ copy.depth) (sym machine) given.repeats.deep in
    subst (λ (f : Option ℕ). Repeats fonts (copy_selection copy f) next.machine next.page) (sym (ap (λ (m : Machine). m.font) machine))
    (append_opcode fonts copy (copy_selection copy (Some n)) file.machine next.machine file.page next.page (fnt_num_0 + n) [] refl kept.counts kept.fewer saved (snoc_all (λ (k : ℕ). k < length fonts.fonts) copy.selected n given.repeats.there in_set)
    (λ definitions all. left_all fonts copy.selected n definitions all) (λ rest. select_size n rest lt)
    (λ base at rest all few. ap (λ (p : Operation). file_step fonts (advance (in_copy base file.machine file.page copy.depth) at) p rest) (select_code n lt)
    ∙ ap (λ (e : Effects). effect_step (advance (in_copy base file.machine file.page copy.depth) at) e) (last_of_all fonts copy.selected n base.fonts all file.machine)
    ∙ effect_copied base file next (without_place (record (file.machine) { font = Some n })) copy.depth at step few
    ∙ ap (λ (k : ℕ). Continues (advance (in_copy base next.machine next.page k) at)) (max_same copy.depth (length next.machine.saved) saved))
    given.repeats)

-- eop ends the page, and every other operation stays in it
abbrev pub Stays : Operation → Type 0
Stays Eop = ⊥
Stays op = ⊤

-- one opcode of the page more
pub one_more : (fonts : SetValue) (copy : SourcePage) (file next : File) (code : ℕ) (o : List ℕ) (op : Operation) → Stays op → Given fonts copy file next code o op
    → Repeats fonts (copy_opcode copy op (record { code = code; operands = o; before = file; after = next })) next.machine next.page
one_more fonts copy file next code o (Char put c) stays given = one_effect fonts copy file next code o (Char put c) (perform fonts file.fonts file.machine (Char put c)) given given.does (λ other p m rest. rw (p, m) refl)
one_more fonts copy file next code o (Rule put height width) stays given = one_effect fonts copy file next code o (Rule put height width) (perform fonts file.fonts file.machine (Rule put height width)) given given.does (λ other p m rest. rw (p, m) refl)
one_more fonts copy file next code o Nop stays given = one_effect fonts copy file next code o Nop (perform fonts file.fonts file.machine Nop) given given.does (λ other p m rest. rw (p, m) refl)
one_more fonts copy file next code o Push stays given = one_effect fonts copy file next code o Push (perform fonts file.fonts file.machine Push) given given.does (λ other p m rest. rw (p, m) refl)
one_more fonts copy file next code o Pop stays given = one_effect fonts copy file next code o Pop (perform fonts file.fonts file.machine Pop) given given.does (λ other p m rest. rw (p, m) refl)
one_more fonts copy file next code o (Right by) stays given = one_effect fonts copy file next code o (Right by) (perform fonts file.fonts file.machine (Right by)) given given.does (λ other p m rest. rw (p, m) refl)
one_more fonts copy file next code o (Down by) stays given = one_effect fonts copy file next code o (Down by) (perform fonts file.fonts file.machine (Down by)) given given.does (λ other p m rest. rw (p, m) refl)
one_more fonts copy file next code o (Set register by) stays given = one_effect fonts copy file next code o (Set register by) (perform fonts file.fonts file.machine (Set register by)) given given.does (λ other p m rest. rw (p, m) refl)
one_more fonts copy file next code o (Add register) stays given = one_effect fonts copy file next code o (Add register) (perform fonts file.fonts file.machine (Add register)) given given.does (λ other p m rest. rw (p, m) refl)
one_more fonts copy file next code o (Bop counts before) stays given = absurd (let e : Fails BadOpcode ≡ Continues next = given.does in cc)
one_more fonts copy file next code o (Pre p) stays given = absurd (let e : Fails BadOpcode ≡ Continues next = given.does in cc)
one_more fonts copy file next code o (Post p) stays given = absurd (let e : Fails BadOpcode ≡ Continues next = given.does in cc)
one_more fonts copy file next code o (PostPost at version) stays given = absurd (let e : Fails BadOpcode ≡ Continues next = given.does in cc)
one_more fonts copy file next code o Undefined stays given = absurd (let e : Fails BadOpcode ≡ Continues next = given.does in cc)
one_more fonts copy file next code o Eop stays given = absurd stays
one_more fonts copy file next code o (Select number) stays given = one_selection fonts copy file next code number o given
one_more fonts copy file next code o (Special bytes) stays given = one_special fonts copy file next code o bytes given
one_more fonts copy file next code o (Define d) stays given = one_definition fonts copy file next code o d given
