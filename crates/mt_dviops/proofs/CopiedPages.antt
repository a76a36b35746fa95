-- Copied pages, read in their new file (`page_read`, `pages_read`).
use Rattle.std.proofs.Common.{◌≡◌, ℕ, ◌+◌, ◌-◌, ◌<◌, ◌≤◌, List, [], ◌∷◌, ◌++◌, length, take, drop, refl, sym, ◌∙◌, ap, subst, arith, length-append, append_assoc}
use Rattle.std.specs.Prelude.{ℤ, pos, negsuc, true, All, ⊤}
use Rattle.std.specs.Ordering.{int_eq}
use Rattle.std.proofs.lemmas.Bool.Decides.{nat_tests}
use Rattle.std.proofs.lemmas.Int.{ints}
use Rattle.std.proofs.lemmas.List.{append-nil}
use Rattle.mt_family.specs.SetValue.{SetValue}
use Rattle.mt_dvi.specs.Limits.{max_places}
use Rattle.mt_dvi.specs.Opcodes.{bop, eop}
use Rattle.mt_dvi.specs.Codes.{four_bytes, Definition, Bop, Eop, Operation, four_byte_numbers, operand_size, operation, signed, signed_of, unsigned}
use Rattle.mt_dvi.specs.File.{File, BetweenPages, advance, file_step, reading}
use Rattle.mt_dvi.specs.writer.Emits.{FitsFourBytes}
use Rattle.mt_dvi.proofs.CodeLemmas.{signed_twos}
use Rattle.mt_dvi.proofs.Prefix.{take_front, drop_front}
use Rattle.mt_dviops.specs.Source.{SourcePage}
use Rattle.mt_dvi.specs.Encoded.{signed_bytes}
use Rattle.mt_dviops.specs.Result.{greatest_page_depth, page_bytes, pages_bytes, last_bop}
use Rattle.mt_dviops.specs.Repeats.{AreCopies, IsCopy, SelectsOwn, begun, in_copy}
use Rattle.mt_dviops.specs.AfterPages.{after_page, after_pages}
use Rattle.mt_dviops.proofs.CopyLemmas.{read_one}
use Rattle.mt_dviops.proofs.Walked.{bop_size, numbers_front, pages_of_copies}

pub unsigned_four : (x : ℕ) → unsigned (four_bytes x) ≡ x
unsigned_four x = omega arith

pub signed_four : (x : ℤ) → FitsFourBytes x → signed (signed_bytes x) ≡ x
signed_four (pos n) fits = rw (unsigned_four n) (signed_twos (pos n) fits)
signed_four (negsuc n) fits = rw (unsigned_four (4294967295 - n)) (signed_twos (negsuc n) fits)

four_long : (x : ℤ) → length (signed_bytes x) ≡ 4
four_long (pos n) = refl
four_long (negsuc n) = refl

pub same_int : (x : ℤ) → int_eq x x ≡ true
same_int x = grind (arith, nat_tests, ints)

bop_says : (counts : List ℕ) (last : ℤ) → length counts ≡ 40 → FitsFourBytes last → operation bop (counts ++ signed_bytes last) ≡ Bop (four_byte_numbers 10 counts) last
unfolding operation
bop_says counts last long fits =
    let front : take 40 (counts ++ signed_bytes last) ≡ counts = subst (λ (n : ℕ). take n (counts ++ signed_bytes last) ≡ counts) long (take_front counts (signed_bytes last)) in
    let back : drop 40 (counts ++ signed_bytes last) ≡ signed_bytes last = subst (λ (n : ℕ). drop n (counts ++ signed_bytes last) ≡ signed_bytes last) long (drop_front counts (signed_bytes last)) in
    let numbers : four_byte_numbers 10 (counts ++ signed_bytes last) ≡ four_byte_numbers 10 counts =
    sym (numbers_front 10 40 (counts ++ signed_bytes last) (omega arith) (omega (arith, length-append counts (signed_bytes last), long))) ∙ ap (λ (l : List ℕ). four_byte_numbers 10 l) front in
    rw (numbers, back) (ap (Bop (four_byte_numbers 10 counts)) (signed_four last fits))

eop_says : operation eop [] ≡ Eop
unfolding operation
eop_says = refl

eop_size : (rest : List ℕ) → operand_size eop rest ≡ 0
unfolding operand_size
eop_size rest = refl

abbrev after_bop : File → List ℕ → File
after_bop base counts = begun (record base { last = pos base.at }) counts

page_begins : (fonts : SetValue) (base : File) (copy : SourcePage) (rest : List ℕ) → IsCopy fonts copy → base.phase ≡ BetweenPages → FitsFourBytes base.last
    → reading fonts base 0 (bop ∷ ((copy.counts ++ signed_bytes base.last) ++ rest)) ≡ reading fonts (begun (record base { last = pos base.at; at = base.at + 45 }) copy.page.counts) 0 rest
page_begins fonts base copy rest is phase fits =
    let o = copy.counts ++ signed_bytes base.last in
    let long : length o ≡ 44 = omega (arith, length-append copy.counts (signed_bytes base.last), four_long base.last, is.long) in
    read_one fonts base (after_bop base (four_byte_numbers 10 copy.counts)) bop o rest (bop_size (o ++ rest) ∙ sym long)
    (ap (λ (p : Operation). file_step fonts base p rest) (bop_says copy.counts base.last is.long fits) ∙ rw (phase, same_int base.last) refl)
    ∙ ap (λ (n : ℕ). reading fonts (advance (after_bop base (four_byte_numbers 10 copy.counts)) (n + 1)) 0 rest) long
    ∙ ap (λ (l : List ℕ). reading fonts (begun (record base { last = pos base.at; at = base.at + 45 }) l) 0 rest) is.counts

page_ends : (fonts : SetValue) (base : File) (copy : SourcePage) (count : ℕ) (rest : List ℕ) (is : IsCopy fonts copy)
    → reading fonts (advance (in_copy base is.machine copy.page copy.depth) count) 0 (eop ∷ rest)
    ≡ reading fonts (record (after_page base copy) { at = base.at + count + 1; last = base.last }) 0 rest
page_ends fonts base copy count rest is =
    read_one fonts (advance (in_copy base is.machine copy.page copy.depth) count) (record (after_page base copy) { at = base.at + count; last = base.last }) eop [] rest (eop_size rest)
    (ap (λ (p : Operation). file_step fonts (advance (in_copy base is.machine copy.page copy.depth) count) p rest) eop_says ∙ rw is.empty refl)

-- one page
pub page_read : (fonts : SetValue) (base : File) (copy : SourcePage) (rest : List ℕ) → IsCopy fonts copy → base.phase ≡ BetweenPages → FitsFourBytes base.last
    → All (SelectsOwn fonts base.fonts) copy.selected → base.place_count + length copy.page.places ≤ max_places
    → reading fonts base 0 (page_bytes base.last copy ++ rest) ≡ reading fonts (after_page base copy) 0 rest
page_read fonts base copy rest is phase fits all few =
    let last = signed_bytes base.last in
    let base' : File = record base { last = pos base.at; at = base.at + 45 } in
    let shape : page_bytes base.last copy ++ rest ≡ bop ∷ ((copy.counts ++ last) ++ (copy.body ++ (eop ∷ rest))) =
    ap (λ (l : List ℕ). bop ∷ l) (append_assoc (copy.counts ++ last ++ copy.body) (eop ∷ []) rest ∙ append_assoc (copy.counts ++ last) copy.body (eop ∷ rest)) in
    let long : base.at + 45 + length copy.body + 1 ≡ base.at + length (page_bytes base.last copy) =
    omega (arith, is.long, four_long base.last, length-append copy.counts last, length-append (copy.counts ++ last) copy.body, length-append (copy.counts ++ last ++ copy.body) (eop ∷ [])) in
    ap (λ (l : List ℕ). reading fonts base 0 l) shape
    ∙ page_begins fonts base copy (copy.body ++ (eop ∷ rest)) is phase fits
    ∙ is.repeats.reads base' (eop ∷ rest) all few
    ∙ page_ends fonts base' copy (length copy.body) rest is
    ∙ ap (λ (n : ℕ). reading fonts (record (after_page base copy) { at = n }) 0 rest) long

-- the places of pages
abbrev pub count_places : List SourcePage → ℕ
count_places [] = 0
count_places (copy ∷ copies) = length copy.page.places + count_places copies

abbrev pub AllSelect : SetValue → List Definition → List SourcePage → Type 0
AllSelect fonts definitions [] = ⊤
AllSelect fonts definitions (copy ∷ copies) = All (SelectsOwn fonts definitions) copy.selected × AllSelect fonts definitions copies

-- all pages
pub pages_read : (fonts : SetValue) (base : File) (copies : List SourcePage) (rest : List ℕ) → AreCopies fonts copies → base.phase ≡ BetweenPages → FitsFourBytes base.last
    → AllSelect fonts base.fonts copies → base.place_count + count_places copies ≤ max_places → base.at + length (pages_bytes base.at base.last copies) < 2147483648
    → reading fonts base 0 (pages_bytes base.at base.last copies ++ rest) ≡ reading fonts (after_pages base copies) 0 rest
pages_read fonts base [] rest are phase fits all few short = refl
pages_read fonts base (copy ∷ copies) rest (is, are) phase fits (first, all) few short =
    let one = page_bytes base.last copy in
    let more = pages_bytes (base.at + length one) (pos base.at) copies in
    let long : length (one ++ more) ≡ length one + length more = length-append one more in
    ap (λ (l : List ℕ). reading fonts base 0 l) (append_assoc one more rest)
    ∙ page_read fonts base copy (more ++ rest) is phase fits first (omega (arith, few))
    ∙ pages_read fonts (after_page base copy) copies rest are refl (omega (arith, ints, short)) all (omega (arith, few)) (omega (arith, short, long))

-- the pages that the file has then are those that the copied pages were
pub pages_after : (base : File) (copies : List SourcePage) → (after_pages base copies).pages ≡ base.pages ++ pages_of_copies copies
pages_after base [] = sym (append-nil base.pages)
pages_after base (copy ∷ copies) = pages_after (after_page base copy) copies ∙ append_assoc base.pages (copy.page ∷ []) (pages_of_copies copies)

pub last_after : (base : File) (copies : List SourcePage) → (after_pages base copies).last ≡ last_bop base.at base.last copies
last_after base [] = refl
last_after base (copy ∷ copies) = last_after (after_page base copy) copies

pub depth_after : (base : File) (copies : List SourcePage) → (after_pages base copies).deepest ≡ greatest_page_depth base.deepest copies
depth_after base [] = refl
depth_after base (copy ∷ copies) = depth_after (after_page base copy) copies

pub at_after : (base : File) (copies : List SourcePage) → (after_pages base copies).at ≡ base.at + length (pages_bytes base.at base.last copies)
at_after base [] = omega arith
at_after base (copy ∷ copies) =
    let one = page_bytes base.last copy in
    let more = pages_bytes (base.at + length one) (pos base.at) copies in
    omega (arith, at_after (after_page base copy) copies, length-append one more)
