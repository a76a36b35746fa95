-- Files that are joined, one after another (`files_start`, `files_next`, `files_fail`, `files_end`).
use Rattle.std.proofs.Common.{◌≡◌, ℕ, zero, suc, ◌+◌, ◌<◌, ◌≤◌, List, [], ◌∷◌, ◌++◌, length, take, drop, get_or, refl, sym, ◌∙◌, ap, subst, arith, append_assoc, length-append}
use Rattle.std.specs.Prelude.{pos, Ok, Err, Bool, true, false, if◌then◌else◌}
use Rattle.std.proofs.lemmas.List.{append-nil, take_all, take_more}
use Rattle.mt_scaled.specs.Results.{◌>>=◌}
use Rattle.mt_family.specs.SetValue.{SetValue}
use Rattle.mt_dviops.specs.declared.copies.Copies.{Copies}
use Rattle.mt_dviops.specs.declared.page.PageCopy.{PageCopy}
use Rattle.mt_dviops.specs.Source.{SourceFile, SourcePage, empty_source, source_file_of}
use Rattle.mt_dviops.specs.Copied.{CopyAnswer, Refusal, all_pages, file_answer, files_answer}
use Rattle.mt_dviops.specs.inner.Chosen.{AllHold}
use Rattle.mt_dviops.specs.inner.Copies.{Holds}
use Rattle.mt_dviops.specs.inner.Shown.{AreShown, Shows}
use Rattle.mt_dviops.proofs.ShownBytes.{shown_more}

abbrev pub with_files : List SourceFile → CopyAnswer (List SourceFile) → CopyAnswer (List SourceFile)
with_files list answer = answer >>= (λ more. Ok (list ++ more))

-- what is left of the files gives the whole
pub record LeftFiles (fonts : SetValue) (files : List (List ℕ)) (sources : List Copies) (i : ℕ) : Type 0 where
  pub list : List SourceFile
  pub held : AllHold fonts sources list
  pub count : length sources ≡ i
  pub within : i ≤ length files
  pub left : files_answer fonts 0 files ≡ with_files list (files_answer fonts i (drop i files))

same_files : (a : CopyAnswer (List SourceFile)) → a ≡ with_files [] a
same_files (Ok files) = refl
same_files (Err refusal) = refl

pub files_start : (fonts : SetValue) (files : List (List ℕ)) (sources : List Copies) → sources ≡ [] → LeftFiles fonts files sources 0
files_start fonts files sources e = subst (λ (l : List Copies). LeftFiles fonts files l 0) (sym e)
    (record { list = []; held = tt; count = refl; within = omega arith; left = same_files (files_answer fonts 0 files) })

-- what a push that goes well gives
pub pushed : (good : Bool) (new old more : List Copies) → good ≡ true → new ≡ (if good then old ++ more else old) → new ≡ old ++ more
pushed true new old more t e = e
pushed false new old more t e = absurd (cc)

hold_more : (fonts : SetValue) (copies : List Copies) (list : List SourceFile) (c : Copies) (s : SourceFile) → AllHold fonts copies list → Holds fonts c s → AllHold fonts (copies ++ c ∷ []) (list ++ s ∷ [])
hold_more fonts [] [] c s all one = (one, tt)
hold_more fonts [] (x ∷ list) c s all one = absurd all
hold_more fonts (x ∷ copies) [] c s all one = absurd all
hold_more fonts (x ∷ copies) (y ∷ list) c s (first, all) one = (first, hold_more fonts copies list c s all one)

one_with : (list : List SourceFile) (s : SourceFile) (a : CopyAnswer (List SourceFile)) → with_files list (a >>= (λ more. Ok (s ∷ more))) ≡ with_files (list ++ s ∷ []) a
one_with list s (Ok more) = ap (λ (l : List SourceFile). let r : CopyAnswer (List SourceFile) = Ok l in r) (sym (append_assoc list (s ∷ []) more))
one_with list s (Err refusal) = refl

drop_one : (files : List (List ℕ)) (i : ℕ) (d : List ℕ) → i < length files → drop i files ≡ get_or files i d ∷ drop (suc i) files
drop_one [] i d lt = absurd (omega arith)
drop_one (f ∷ files) zero d lt = refl
drop_one (f ∷ files) (suc i) d lt = drop_one files i d (omega arith)

drop_next : (files : List (List ℕ)) (i : ℕ) (d : List ℕ) → i < length files → drop i files ≡ get_or files i d ∷ drop (i + 1) files
drop_next files i d lt = let e : suc i ≡ i + 1 = omega arith in drop_one files i d lt ∙ ap (λ (k : ℕ). get_or files i d ∷ drop k files) e

pub files_next : (fonts : SetValue) (files : List (List ℕ)) (sources new : List Copies) (i : ℕ) (file : List ℕ) (c : Copies) (s : SourceFile) → i < length files → file ≡ get_or files i file → LeftFiles fonts files sources i
    → source_file_of fonts file ≡ Ok s → Holds fonts c s → new ≡ sources ++ c ∷ [] → LeftFiles fonts files new (i + 1)
files_next fonts files sources new i file c s lt at so_far is holds more =
    let cut : drop i files ≡ file ∷ drop (i + 1) files = drop_next files i file lt ∙ ap (λ (f : List ℕ). f ∷ drop (i + 1) files) (sym at) in
    let step : files_answer fonts i (file ∷ drop (i + 1) files) ≡ (files_answer fonts (i + 1) (drop (i + 1) files) >>= (λ files. Ok (s ∷ files))) = rw is refl in
    subst (λ (l : List Copies). LeftFiles fonts files l (i + 1)) (sym more) (record {
      list = so_far.list ++ s ∷ [];
      held = hold_more fonts sources so_far.list c s so_far.held holds;
      count = length-append sources (c ∷ []) ∙ ap (λ (k : ℕ). k + 1) so_far.count;
      within = omega (arith, lt);
      left = so_far.left ∙ ap (λ (l : List (List ℕ)). with_files so_far.list (files_answer fonts i l)) cut ∙ ap (with_files so_far.list) step ∙ one_with so_far.list s (files_answer fonts (i + 1) (drop (i + 1) files));
    })

pub files_fail : (fonts : SetValue) (files : List (List ℕ)) (sources : List Copies) (i : ℕ) (file : List ℕ) (r : Refusal) → i < length files → file ≡ get_or files i file → LeftFiles fonts files sources i
    → file_answer i (source_file_of fonts file) ≡ Err r → files_answer fonts 0 files ≡ Err r
files_fail fonts files sources i file r lt at so_far is =
    let cut : drop i files ≡ file ∷ drop (i + 1) files = drop_next files i file lt ∙ ap (λ (f : List ℕ). f ∷ drop (i + 1) files) (sym at) in
    let step : files_answer fonts i (file ∷ drop (i + 1) files) ≡ Err r = rw is refl in
    so_far.left ∙ ap (λ (l : List (List ℕ)). with_files so_far.list (files_answer fonts i l)) cut ∙ ap (with_files so_far.list) step

drop_all : (files : List (List ℕ)) (i : ℕ) → length files ≤ i → drop i files ≡ []
drop_all [] zero le = refl
drop_all [] (suc i) le = refl
drop_all (f ∷ files) zero le = absurd (omega arith)
drop_all (f ∷ files) (suc i) le = drop_all files i (omega arith)

pub files_end : (fonts : SetValue) (files : List (List ℕ)) (sources : List Copies) (i : ℕ) → length files ≤ i → (so_far : LeftFiles fonts files sources i) → files_answer fonts 0 files ≡ Ok so_far.list
files_end fonts files sources i le so_far =
    so_far.left ∙ ap (λ (l : List (List ℕ)). with_files so_far.list (files_answer fonts i l)) (drop_all files i le) ∙ ap (λ (l : List SourceFile). let r : CopyAnswer (List SourceFile) = Ok l in r) (append-nil so_far.list)

-- the pages of a file, and of all files, are shown
pub file_next : (fonts : SetValue) (copies new : List PageCopy) (pages more : List SourcePage) (k : ℕ) (copy : PageCopy) → k < length more → AreShown fonts copies (pages ++ take k more) → Shows fonts copy (get_or more k (empty_source []))
    → new ≡ copies ++ copy ∷ [] → AreShown fonts new (pages ++ take (k + 1) more)
file_next fonts copies new pages more k copy lt are is e =
    let x = get_or more k (empty_source []) in
    let s : pages ++ take (k + 1) more ≡ (pages ++ take k more) ++ x ∷ [] = ap (λ (l : List SourcePage). pages ++ l) (take_more more k (empty_source []) lt) ∙ sym (append_assoc pages (take k more) (x ∷ [])) in
    subst (λ (l : List PageCopy). AreShown fonts l (pages ++ take (k + 1) more)) (sym e)
    (subst (AreShown fonts (copies ++ copy ∷ [])) (sym s) (shown_more fonts copies (pages ++ take k more) copy x are is))

pub file_whole : (fonts : SetValue) (copies : List PageCopy) (pages more : List SourcePage) (k : ℕ) → length more ≤ k → AreShown fonts copies (pages ++ take k more) → AreShown fonts copies (pages ++ more)
file_whole fonts copies pages more k le are = subst (λ (l : List SourcePage). AreShown fonts copies (pages ++ l)) (take_all k more le) are

pages_more : (files : List SourceFile) (file : SourceFile) → all_pages (files ++ file ∷ []) ≡ all_pages files ++ file.pages
pages_more [] file = append-nil file.pages
pages_more (f ∷ files) file = ap (λ (l : List SourcePage). f.pages ++ l) (pages_more files file) ∙ sym (append_assoc f.pages (all_pages files) file.pages)

pub hold_long : (fonts : SetValue) (copies : List Copies) (files : List SourceFile) → AllHold fonts copies files → length copies ≡ length files
hold_long fonts [] [] all = refl
hold_long fonts [] (x ∷ files) all = absurd all
hold_long fonts (c ∷ copies) [] all = absurd all
hold_long fonts (c ∷ copies) (x ∷ files) (one, all) = omega (arith, hold_long fonts copies files all)

pub hold_at : (fonts : SetValue) (copies : List Copies) (files : List SourceFile) (i : ℕ) (c : Copies) (s : SourceFile) → AllHold fonts copies files → i < length copies → Holds fonts (get_or copies i c) (get_or files i s)
hold_at fonts [] files i c s all lt = absurd (omega arith)
hold_at fonts (x ∷ copies) [] i c s all lt = absurd all
hold_at fonts (x ∷ copies) (y ∷ files) zero c s (one, all) lt = one
hold_at fonts (x ∷ copies) (y ∷ files) (suc i) c s (one, all) lt = hold_at fonts copies files i c s all (omega arith)

no_file : SourceFile
no_file = record { mag = pos 0; pages = [] }

pub all_next : (fonts : SetValue) (copies : List Copies) (files : List SourceFile) (i : ℕ) (source : Copies) (old new : List PageCopy) → AllHold fonts copies files → i < length copies → source ≡ get_or copies i source
    → AreShown fonts old (all_pages (take i files))
    → ((file : SourceFile) (pages : List SourcePage) → Holds fonts source file → AreShown fonts old pages → AreShown fonts new (pages ++ file.pages)) → AreShown fonts new (all_pages (take (i + 1) files))
all_next fonts copies files i source old new all lt at are step =
    let file = get_or files i no_file in
    let n = hold_long fonts copies files all in
    let e : all_pages (take (i + 1) files) ≡ all_pages (take i files) ++ file.pages = ap all_pages (take_more files i no_file (omega (arith, n, lt))) ∙ pages_more (take i files) file in
    let holds : Holds fonts source file = subst (λ (c : Copies). Holds fonts c file) (sym at) (hold_at fonts copies files i source no_file all lt) in
    subst (AreShown fonts new) (sym e) (step file (all_pages (take i files)) holds are)

pub all_whole : (fonts : SetValue) (copies : List Copies) (files : List SourceFile) (i : ℕ) (chosen : List PageCopy) → AllHold fonts copies files → length copies ≤ i → AreShown fonts chosen (all_pages (take i files)) → AreShown fonts chosen (all_pages files)
all_whole fonts copies files i chosen all le are =
    let n = hold_long fonts copies files all in
    subst (λ (l : List SourceFile). AreShown fonts chosen (all_pages l)) (take_all i files (omega (arith, n, le))) are
