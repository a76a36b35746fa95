-- A file of copied pages, read from its first byte to its last (`copy_read`).
use Rattle.std.proofs.Common.{◌≡◌, ℕ, zero, suc, ◌+◌, ◌-◌, ◌*◌, ◌/◌, ◌%◌, ◌<◌, ◌≤◌, List, [], ◌∷◌, ◌++◌, length, refl, sym, ◌∙◌, ap, arith, length-append, append_assoc}
use Rattle.std.specs.Prelude.{ℤ, pos, negsuc, Bool, true, false, nat_lt, nat_le, int_lt, Some, None, Ok, map, replicate, ◌==◌, if◌then◌else◌}
use Rattle.std.specs.List.{list_all}
use Rattle.std.specs.Str.{bytes_eq}
use Rattle.std.proofs.lemmas.Bool.Decides.{nat_tests}
use Rattle.std.proofs.lemmas.Int.{ints}
use Rattle.std.proofs.lemmas.List.{append-nil, map-append}
use Rattle.mt_family.specs.SetValue.{SetValue}
use Rattle.mt_dvi.specs.Codes.{four_bytes, Definition, Operation, Post, PostPost, Postamble, Pre, operand_size, operation, signed, unsigned}
use Rattle.mt_dvi.specs.Fonts.{definition_of, first_definition}
use Rattle.mt_dvi.specs.File.{File, Page, Phase, AfterPost, BetweenPages, Continues, agrees, at_start, file_step, read, reading}
use Rattle.mt_dvi.specs.writer.Emits.{FitsFourBytes}
use Rattle.mt_dvi.specs.writer.LeadsTo.{is_among}
use Rattle.mt_dvi.proofs.CodeLemmas.{code_define, code_post_post}
use Rattle.mt_dvi.proofs.Prefix.{one_step}
use Rattle.mt_dvi.proofs.FontLemmas.{defined_is}
use Rattle.mt_dviops.specs.Source.{SourcePage}
use Rattle.mt_dvi.specs.Encoded.{definition_bytes, pre_bytes, scale_bytes, signed_bytes, two_bytes}
use Rattle.mt_dviops.specs.Result.{post_post_bytes, before_post, greatest_page_depth, last_bop, page_bytes, pages_bytes, places_on, selected_fonts, copied_bytes, definitions_bytes, post_bytes}
use Rattle.mt_dviops.proofs.CopyLemmas.{read_one}
use Rattle.mt_dvi.specs.Limits.{max_places}
use Rattle.mt_dvi.specs.Edges.{greatest_edge, lower_edge, right_edge}
use Rattle.mt_dviops.specs.AfterPages.{after_page, after_pages}
use Rattle.mt_dviops.specs.Repeats.{AreCopies}
use Rattle.mt_dviops.proofs.Walked.{pages_of_copies}
use Rattle.mt_dviops.proofs.CopiedPages.{AllSelect, at_after, count_places, depth_after, last_after, pages_after, pages_read, signed_four, unsigned_four, same_int}

abbrev after_pre : ℕ → File
after_pre n = record at_start { at = 15; phase = BetweenPages; mag = pos n }

pre_read : (fonts : SetValue) (n : ℕ) (rest : List ℕ) → 0 < n → n < 2147483648 → reading fonts at_start 0 (pre_bytes (pos n) ++ rest) ≡ reading fonts (after_pre n) 0 rest
unfolding operation operand_size
pre_read fonts n rest low high =
    let e : signed (four_bytes n) ≡ pos n = signed_four (pos n) high in
    let p : int_lt (pos 0) (pos n) ≡ true = grind (arith, nat_tests, ints) in
    read_one fonts at_start (record (after_pre n) { at = 0 }) 247 (2 ∷ scale_bytes (pos n) ++ 0 ∷ []) rest refl (does e p) where
      does : signed (four_bytes n) ≡ pos n → int_lt (pos 0) (pos n) ≡ true → file_step fonts at_start (operation 247 (2 ∷ scale_bytes (pos n) ++ 0 ∷ [])) rest ≡ Continues (record (after_pre n) { at = 0 })
      does e p = ap (λ (m : ℤ). file_step fonts at_start (Pre (record { version = 2; num = 25400000; den = 473628672; mag = m; comment = [] })) rest) e ∙ rw p refl

same_nat : (n : ℕ) → (n == n) ≡ true
same_nat n = grind (arith, nat_tests)

same_bytes : (xs : List ℕ) → bytes_eq xs xs ≡ true
same_bytes [] = refl
same_bytes (x ∷ xs) = rw (same_nat x) (same_bytes xs)

-- a definition of the set agrees with those of the set
agrees_own : (fonts : SetValue) (numbers : List ℕ) (n : ℕ) → agrees (definition_of fonts n) (first_definition (map (definition_of fonts) numbers) n) ≡ true
agrees_own fonts numbers n = rw (defined_is fonts numbers n) (either (is_among numbers n)) where
  either : (b : Bool) → agrees (definition_of fonts n) (if b then Some (definition_of fonts n) else None) ≡ true
  either true = rw (same_bytes (definition_of fonts n).name, same_nat (definition_of fonts n).size) refl
  either false = refl

abbrev defining : SetValue → File → List ℕ → ℕ → File
defining fonts base numbers at = record base { phase = BetweenPages; fonts = map (definition_of fonts) numbers; again = []; at = at }

abbrev defining_again : SetValue → File → List ℕ → List ℕ → ℕ → File
defining_again fonts base numbers again at = record base { phase = AfterPost; fonts = map (definition_of fonts) numbers; again = map (definition_of fonts) again; at = at }

define_read : (fonts : SetValue) (base : File) (numbers : List ℕ) (n at : ℕ) (rest : List ℕ)
    → reading fonts (defining fonts base numbers at) 0 (definition_bytes (definition_of fonts n) ++ rest) ≡ reading fonts (defining fonts base (numbers ++ n ∷ []) (at + length (definition_bytes (definition_of fonts n)))) 0 rest
define_read fonts base numbers n at rest =
    let d = definition_of fonts n in
    let code = code_define n d.checksum d.size d.design d.name in
    let can : agrees d (first_definition (map (definition_of fonts) numbers ++ []) n) ≡ true = ap (λ (l : List Definition). agrees d (first_definition l n)) (append-nil (map (definition_of fonts) numbers)) ∙ agrees_own fonts numbers n in
    let long : at + (length code.operands + 1) ≡ at + length (definition_bytes d) = omega (arith, ap length code.is) in
    ap (λ (l : List ℕ). reading fonts (defining fonts base numbers at) 0 (l ++ rest)) code.is
    ∙ read_one fonts (defining fonts base numbers at) (defining fonts base (numbers ++ n ∷ []) at) code.code code.operands rest (code.size rest)
    (ap (λ (p : Operation). file_step fonts (defining fonts base numbers at) p rest) code.reads ∙ rw (can, map-append (definition_of fonts) numbers (n ∷ [])) refl)
    ∙ ap (λ (k : ℕ). reading fonts (defining fonts base (numbers ++ n ∷ []) k) 0 rest) long

define_again_read : (fonts : SetValue) (base : File) (numbers again : List ℕ) (n at : ℕ) (rest : List ℕ)
    → reading fonts (defining_again fonts base numbers again at) 0 (definition_bytes (definition_of fonts n) ++ rest) ≡ reading fonts (defining_again fonts base numbers (again ++ n ∷ []) (at + length (definition_bytes (definition_of fonts n)))) 0 rest
define_again_read fonts base numbers again n at rest =
    let d = definition_of fonts n in
    let code = code_define n d.checksum d.size d.design d.name in
    let can : agrees d (first_definition (map (definition_of fonts) numbers ++ map (definition_of fonts) again) n) ≡ true =
    ap (λ (l : List Definition). agrees d (first_definition l n)) (sym (map-append (definition_of fonts) numbers again)) ∙ agrees_own fonts (numbers ++ again) n in
    let long : at + (length code.operands + 1) ≡ at + length (definition_bytes d) = omega (arith, ap length code.is) in
    ap (λ (l : List ℕ). reading fonts (defining_again fonts base numbers again at) 0 (l ++ rest)) code.is
    ∙ read_one fonts (defining_again fonts base numbers again at) (defining_again fonts base numbers (again ++ n ∷ []) at) code.code code.operands rest (code.size rest)
    (ap (λ (p : Operation). file_step fonts (defining_again fonts base numbers again at) p rest) code.reads ∙ rw (can, map-append (definition_of fonts) again (n ∷ [])) refl)
    ∙ ap (λ (k : ℕ). reading fonts (defining_again fonts base numbers (again ++ n ∷ []) k) 0 rest) long

definitions_read : (fonts : SetValue) (base : File) (numbers more : List ℕ) (at : ℕ) (rest : List ℕ)
    → reading fonts (defining fonts base numbers at) 0 (definitions_bytes fonts more ++ rest) ≡ reading fonts (defining fonts base (numbers ++ more) (at + length (definitions_bytes fonts more))) 0 rest
definitions_read fonts base numbers [] at rest = rw (append-nil numbers, plus at) refl where
  plus : (n : ℕ) → n + 0 ≡ n
  plus n = omega arith
definitions_read fonts base numbers (n ∷ more) at rest =
    let one = definition_bytes (definition_of fonts n) in
    let later = definitions_bytes fonts more in
    let long : at + length one + length later ≡ at + length (one ++ later) = omega (arith, length-append one later) in
    ap (λ (l : List ℕ). reading fonts (defining fonts base numbers at) 0 l) (append_assoc one later rest)
    ∙ define_read fonts base numbers n at (later ++ rest)
    ∙ definitions_read fonts base (numbers ++ n ∷ []) more (at + length one) rest
    ∙ ap (λ (l : List ℕ). reading fonts (defining fonts base l (at + length one + length later)) 0 rest) (append_assoc numbers (n ∷ []) more)
    ∙ ap (λ (k : ℕ). reading fonts (defining fonts base (numbers ++ n ∷ more) k) 0 rest) long

definitions_again_read : (fonts : SetValue) (base : File) (numbers again more : List ℕ) (at : ℕ) (rest : List ℕ)
    → reading fonts (defining_again fonts base numbers again at) 0 (definitions_bytes fonts more ++ rest) ≡ reading fonts (defining_again fonts base numbers (again ++ more) (at + length (definitions_bytes fonts more))) 0 rest
definitions_again_read fonts base numbers again [] at rest = rw (append-nil again, plus at) refl where
  plus : (n : ℕ) → n + 0 ≡ n
  plus n = omega arith
definitions_again_read fonts base numbers again (n ∷ more) at rest =
    let one = definition_bytes (definition_of fonts n) in
    let later = definitions_bytes fonts more in
    let long : at + length one + length later ≡ at + length (one ++ later) = omega (arith, length-append one later) in
    ap (λ (l : List ℕ). reading fonts (defining_again fonts base numbers again at) 0 l) (append_assoc one later rest)
    ∙ define_again_read fonts base numbers again n at (later ++ rest)
    ∙ definitions_again_read fonts base numbers (again ++ n ∷ []) more (at + length one) rest
    ∙ ap (λ (l : List ℕ). reading fonts (defining_again fonts base numbers l (at + length one + length later)) 0 rest) (append_assoc again (n ∷ []) more)
    ∙ ap (λ (k : ℕ). reading fonts (defining_again fonts base numbers (again ++ n ∷ more) k) 0 rest) long

abbrev own_post : ℤ → ℤ → ℕ → ℕ → ℕ → ℕ → Postamble
own_post last mag tallest widest depth pages = record { last = last; num = 25400000; den = 473628672; mag = mag; tallest = tallest; widest = widest; depth = depth; pages = pages }

abbrev post_operands : ℤ → ℕ → ℕ → ℕ → ℕ → ℕ → List ℕ
post_operands last n t w d k = signed_bytes last ++ scale_bytes (pos n) ++ four_bytes t ++ four_bytes w ++ two_bytes d ++ two_bytes k

two_whole : (n : ℕ) → 256 * (n / 256) + n % 256 ≡ n
two_whole n = omega arith

post_rest : (l : ℤ) (n t w d k : ℕ) → n < 2147483648 → Post (own_post l (signed (four_bytes n)) (unsigned (four_bytes t)) (unsigned (four_bytes w)) (256 * (d / 256) + d % 256) (256 * (k / 256) + k % 256)) ≡ Post (own_post l (pos n) t w d k)
post_rest l n t w d k lt =
    ap (λ (m : ℤ). Post (own_post l m (unsigned (four_bytes t)) (unsigned (four_bytes w)) (256 * (d / 256) + d % 256) (256 * (k / 256) + k % 256))) (signed_four (pos n) lt)
    ∙ ap (λ (x : ℕ). Post (own_post l (pos n) x (unsigned (four_bytes w)) (256 * (d / 256) + d % 256) (256 * (k / 256) + k % 256))) (unsigned_four t)
    ∙ ap (λ (x : ℕ). Post (own_post l (pos n) t x (256 * (d / 256) + d % 256) (256 * (k / 256) + k % 256))) (unsigned_four w)
    ∙ ap (λ (x : ℕ). Post (own_post l (pos n) t w x (256 * (k / 256) + k % 256))) (two_whole d)
    ∙ ap (λ (x : ℕ). Post (own_post l (pos n) t w d x)) (two_whole k)

post_says : (last : ℤ) (n t w d k : ℕ) → FitsFourBytes last → n < 2147483648 → operation 248 (post_operands last n t w d k) ≡ Post (own_post last (pos n) t w d k)
unfolding operation
post_says (pos x) n t w d k fits lt =
    ap (λ (l : ℤ). Post (own_post l (signed (four_bytes n)) (unsigned (four_bytes t)) (unsigned (four_bytes w)) (256 * (d / 256) + d % 256) (256 * (k / 256) + k % 256))) (signed_four (pos x) fits) ∙ post_rest (pos x) n t w d k lt
post_says (negsuc x) n t w d k fits lt =
    ap (λ (l : ℤ). Post (own_post l (signed (four_bytes n)) (unsigned (four_bytes t)) (unsigned (four_bytes w)) (256 * (d / 256) + d % 256) (256 * (k / 256) + k % 256))) (signed_four (negsuc x) fits) ∙ post_rest (negsuc x) n t w d k lt

post_long : (last : ℤ) (n t w d k : ℕ) → length (post_operands last n t w d k) ≡ 28
post_long (pos x) n t w d k = refl
post_long (negsuc x) n t w d k = refl

post_size : (o : List ℕ) → operand_size 248 o ≡ 28
unfolding operand_size
post_size o = refl

-- post is read
post_read : (fonts : SetValue) (file : File) (n t w d k : ℕ) (rest : List ℕ) → file.phase ≡ BetweenPages → FitsFourBytes file.last → n < 2147483648 → file.mag ≡ pos n → file.deepest ≤ d → length file.pages ≡ k
    → reading fonts file 0 ((248 ∷ post_operands file.last n t w d k) ++ rest) ≡ reading fonts (record file { phase = AfterPost; post = own_post file.last (pos n) t w d k; post_at = file.at; at = file.at + 29 }) 0 rest
post_read fonts file n t w d k rest phase fits lt mag deep pages =
    let o = post_operands file.last n t w d k in
    let depth : nat_le file.deepest d ≡ true = grind (arith, nat_tests) in
    read_one fonts file (record file { phase = AfterPost; post = own_post file.last (pos n) t w d k; post_at = file.at }) 248 o rest (post_size (o ++ rest) ∙ sym (post_long file.last n t w d k))
    (ap (λ (p : Operation). file_step fonts file p rest) (post_says file.last n t w d k fits lt) ∙ rw (phase, same_int file.last, mag, same_int (pos n), depth, pages, same_nat k) refl)
    ∙ ap (λ (x : ℕ). reading fonts (record file { phase = AfterPost; post = own_post file.last (pos n) t w d k; post_at = file.at; at = file.at + (x + 1) }) 0 rest) (post_long file.last n t w d k)

abbrev padding : ℕ → List ℕ
padding n = replicate n 223

all_padding : (n : ℕ) → list_all (λ (b : ℕ). b == 223) (padding n) ≡ true
all_padding zero = refl
all_padding (suc n) = all_padding n

length_same : (n : ℕ) → length (padding n) ≡ n
length_same zero = refl
length_same (suc n) = omega (arith, length_same n)

-- post_post and the bytes after it are read
end_read : (fonts : SetValue) (file : File) (n : ℕ) → file.phase ≡ AfterPost → 4 ≤ n
    → reading fonts file 0 ((249 ∷ four_bytes file.post_at ++ 2 ∷ []) ++ padding n) ≡ Ok (record file { tail = n })
end_read fonts file n phase le =
    let short : nat_lt (length (padding n)) 4 ≡ false = let l = length_same n in grind (arith, nat_tests) in
    one_step fonts file (249 ∷ four_bytes file.post_at ++ 2 ∷ []) (padding n) (PostPost file.post_at 2) (code_post_post file.post_at)
    ∙ rw (phase, short, same_nat file.post_at, all_padding n, length_same n) refl

-- these bytes lead from one file to another, whatever follows them
abbrev Leads : SetValue → File → List ℕ → File → Type 0
Leads fonts from bytes to = (rest : List ℕ) → reading fonts from 0 (bytes ++ rest) ≡ reading fonts to 0 rest

joined : (fonts : SetValue) (f g h : File) (a b : List ℕ) → Leads fonts f a g → Leads fonts g b h → Leads fonts f (a ++ b) h
joined fonts f g h a b one two = λ rest. ap (λ (l : List ℕ). reading fonts f 0 l) (append_assoc a b rest) ∙ one (b ++ rest) ∙ two rest

-- what the pages leave as it was
phase_after : (base : File) (copies : List SourcePage) → base.phase ≡ BetweenPages → (after_pages base copies).phase ≡ BetweenPages
phase_after base [] e = e
phase_after base (copy ∷ copies) e = phase_after (after_page base copy) copies refl

mag_after : (base : File) (copies : List SourcePage) → (after_pages base copies).mag ≡ base.mag
mag_after base [] = refl
mag_after base (copy ∷ copies) = mag_after (after_page base copy) copies

fonts_after : (base : File) (copies : List SourcePage) → (after_pages base copies).fonts ≡ base.fonts
fonts_after base [] = refl
fonts_after base (copy ∷ copies) = fonts_after (after_page base copy) copies

again_after : (base : File) (copies : List SourcePage) → (after_pages base copies).again ≡ base.again
again_after base [] = refl
again_after base (copy ∷ copies) = again_after (after_page base copy) copies

last_fits : (base : File) (copies : List SourcePage) → FitsFourBytes base.last → base.at + length (pages_bytes base.at base.last copies) < 2147483648 → FitsFourBytes (after_pages base copies).last
last_fits base [] fits short = fits
last_fits base (copy ∷ copies) fits short =
    let one = page_bytes base.last copy in
    let more = pages_bytes (base.at + length one) (pos base.at) copies in
    last_fits (after_page base copy) copies (omega (arith, ints, short)) (omega (arith, short, length-append one more))

count_pages : (copies : List SourcePage) → length (pages_of_copies copies) ≡ length copies
count_pages [] = refl
count_pages (copy ∷ copies) = omega (arith, count_pages copies)

as_defining : (fonts : SetValue) (file : File) (numbers : List ℕ) → file.phase ≡ AfterPost → file.fonts ≡ map (definition_of fonts) numbers → file.again ≡ [] → file ≡ defining_again fonts file numbers [] file.at
as_defining fonts file numbers p f a =
    ap (λ (x : Phase). record file { phase = x }) p
    ∙ ap (λ (x : List Definition). record file { phase = AfterPost; fonts = x }) f
    ∙ ap (λ (x : List Definition). record file { phase = AfterPost; fonts = map (definition_of fonts) numbers; again = x }) a

-- the file of copied pages is read to its end, and its pages are those that the copied pages were
pub record CopyRead (fonts : SetValue) (bytes : List ℕ) (pages : List SourcePage) : Type 0 where
  pub file : File
  pub reads : read fonts bytes ≡ Ok file
  pub pages_are : file.pages ≡ pages_of_copies pages

pub copy_read : (fonts : SetValue) (n : ℕ) (pages : List SourcePage) → AreCopies fonts pages → 0 < n → n < 2147483648
    → AllSelect fonts (map (definition_of fonts) (selected_fonts fonts pages)) pages → count_places pages ≤ max_places → length (before_post fonts (pos n) pages) < 2147483648
    → CopyRead fonts (copied_bytes fonts (pos n) pages) pages
unfolding copied_bytes read
copy_read fonts n pages are low high all few short =
    let numbers = selected_fonts fonts pages in
    let defs = definitions_bytes fonts numbers in
    let head = pre_bytes (pos n) ++ defs in
    let body = pages_bytes (length head) (negsuc 0) pages in
    let before = head ++ body in
    let base : File = defining fonts (after_pre n) numbers (length head) in
    let after : File = after_pages base pages in
    let t = greatest_edge (lower_edge fonts) 0 (places_on pages) in
    let w = greatest_edge (right_edge fonts) 0 (places_on pages) in
    let d = greatest_page_depth 0 pages in
    let k = length pages in
    let head_long : 15 + length defs ≡ length head = omega (arith, length-append (pre_bytes (pos n)) defs) in
    let before_long : length before ≡ length head + length body = length-append head body in
    let to_base : Leads fonts at_start head base = joined fonts at_start (after_pre n) base (pre_bytes (pos n)) defs (λ rest. pre_read fonts n rest low high)
    (λ rest. definitions_read fonts (after_pre n) [] numbers 15 rest ∙ ap (λ (x : ℕ). reading fonts (defining fonts (after_pre n) numbers x) 0 rest) head_long) in
    let room : length head + length body < 2147483648 = omega (arith, short, before_long) in
    let to_after : Leads fonts base body after = λ rest. pages_read fonts base pages rest are refl (omega (arith, ints)) all (omega (arith, few)) room in
    let last : after.last ≡ last_bop (length head) (negsuc 0) pages = last_after base pages in
    let file : File = record after { phase = AfterPost; post = own_post after.last (pos n) t w d k; post_at = after.at; at = after.at + 29 } in
    let count : length after.pages ≡ k = ap (λ (l : List Page). length l) (pages_after base pages) ∙ count_pages pages in
    let deep : after.deepest ≤ d = omega (arith, depth_after base pages) in
    let to_file : Leads fonts after (post_bytes fonts (pos n) (last_bop (length head) (negsuc 0) pages) pages) file = λ rest.
    ap (λ (l : ℤ). reading fonts after 0 ((248 ∷ post_operands l n t w d k) ++ rest)) (sym last)
    ∙ post_read fonts after n t w d k rest (phase_after base pages refl) (last_fits base pages (omega (arith, ints)) room) high (mag_after base pages) deep count in
    let same : file ≡ defining_again fonts file numbers [] file.at = as_defining fonts file numbers refl (fonts_after base pages) (again_after base pages) in
    let end : File = defining_again fonts file numbers numbers (file.at + length defs) in
    let to_end : Leads fonts file defs end = λ rest. ap (λ (f : File). reading fonts f 0 (defs ++ rest)) same ∙ definitions_again_read fonts file numbers [] numbers file.at rest in
    let whole : List ℕ = before ++ post_bytes fonts (pos n) (last_bop (length head) (negsuc 0) pages) pages ++ defs in
    let to_whole : Leads fonts at_start whole end = joined fonts at_start file end (before ++ post_bytes fonts (pos n) (last_bop (length head) (negsuc 0) pages) pages) defs
    (joined fonts at_start after file before (post_bytes fonts (pos n) (last_bop (length head) (negsuc 0) pages) pages) (joined fonts at_start base after head body to_base to_after) to_file) to_end in
    let post_at : length before ≡ end.post_at = before_long ∙ sym (at_after base pages) in
    let foot : List ℕ = post_post_bytes (length before) in
    let m : ℕ = 4 + (4 - length (whole ++ foot) % 4) % 4 in
    record {
      file = record end { tail = m };
      reads =
          ap (λ (l : List ℕ). reading fonts at_start 0 l) (append_assoc whole foot (padding m))
          ∙ to_whole (foot ++ padding m)
          ∙ ap (λ (x : ℕ). reading fonts end 0 ((249 ∷ four_bytes x ++ 2 ∷ []) ++ padding m)) post_at
          ∙ end_read fonts end m refl (omega arith);
      pages_are = pages_after base pages;
    }
