-- Runs of glyphs: their characters, their tests, and the first of them.
use Rattle.std.proofs.Common.{◌≡◌, ◌≤◌, ◌<◌, ◌+◌, ℕ, zero, suc, List, [], ◌∷◌, ◌++◌, length, drop, ℤ, pos, All, replicate, refl, arith, ap, sym, ◌∙◌, subst, Bool, true, false, get_or, add-one}
use Rattle.std.proofs.Math.Seq.{drop-cons}
use Rattle.std.specs.Prelude.{Option, is_some, Ok, Err, Some, None, ⊤, ◌==◌, if◌then◌else◌}
use Rattle.std.specs.List.{slice_get}
use Rattle.std.proofs.lemmas.Bool.Decides.{nat_tests}
use Rattle.std.proofs.lemmas.List.Elements.{All-nil, All-cons, All-head, All-tail}
use Rattle.std.proofs.lemmas.List.{drop_all}
use Rattle.mt_tfm.specs.declared.recipe.Recipe.{Recipe}
use Rattle.mt_tfm.specs.Font.{Metrics, height_of}
use Rattle.mt_box.proofs.Lists.{nil_right}
use Rattle.mt_rules.specs.Setting.{Setting, SettingFault, Overflow, ◌>>◌, pass_unless, test_extents}
use Rattle.mt_rules.specs.Symbols.{extents_without_italic}
use Rattle.mt_rules.specs.Extensibles.{recipe_piece, recipe_pieces, first_height, test_glyphs}
use Rattle.mt_delim.specs.declared.extensible.Run.{Run}
use Rattle.mt_delim.specs.declared.extensible.Run.TheVariants.{Piece, Repeats}
use Rattle.mt_delim.specs.inner.Runs.{run_glyphs, glyphs_of}
use Rattle.mt_delim.proofs.Pieces.{There}

-- ---- the runs of a recipe

-- below is how often the repeat comes below the middle
pub runs_are : (r : Recipe) (n below : ℕ) → below ≡ (if r.middle == 0 then 0 else n)
    → glyphs_of (Piece r.top ∷ Repeats r.repeat n ∷ Piece r.middle ∷ Repeats r.repeat below ∷ Piece r.bottom ∷ []) ≡ recipe_pieces r n
runs_are r n below e = by_middle (r.middle == 0) (recipe_piece r.top) (recipe_piece r.bottom) e
  where
    by_middle : (b : Bool) (top bottom : List ℕ) → below ≡ (if b then 0 else n)
        → top ++ (replicate n r.repeat ++ ((if b then [] else r.middle ∷ []) ++ (replicate below r.repeat ++ (bottom ++ [])))) ≡ (if b then top ++ (replicate n r.repeat ++ bottom) else top ++ (replicate n r.repeat ++ ((if b then [] else r.middle ∷ []) ++ (replicate n r.repeat ++ bottom))))
    by_middle true top bottom e = ap (λ xs. top ++ (replicate n r.repeat ++ xs)) (ap (λ k. replicate k r.repeat ++ (bottom ++ [])) e ∙ nil_right bottom)
    by_middle false top bottom e = ap (λ xs. top ++ (replicate n r.repeat ++ (r.middle ∷ xs))) (ap (λ k. replicate k r.repeat ++ (bottom ++ [])) e ∙ ap (λ xs. replicate n r.repeat ++ xs) (nil_right bottom))

-- ---- their characters

pub one_piece : (c : ℕ) → (c ≡ 0 → ⊥) → recipe_piece c ≡ c ∷ []
one_piece c some =
    let other : (c == 0) ≡ false = grind (arith, nat_tests) in
    ap (λ b. if b then [] else c ∷ []) other

pub piece_there : (m : Metrics) (c : ℕ) → (c ≡ 0 → ⊥) → All (There m) (recipe_piece c) → There m c
piece_there m c some h = All-head (There m) c [] (subst (λ cs. All (There m) cs) (one_piece c some) h)

pub parted : (P : ℕ → Type 0) (xs ys : List ℕ) → All P (xs ++ ys) → All P xs × All P ys
parted P [] ys h = (All-nil P, h)
parted P (x ∷ xs) ys h =
    let both = parted P xs ys (All-tail P x (xs ++ ys) h) in
    (All-cons P x xs (All-head P x (xs ++ ys) h) both.0, both.1)

passed : (test next : Setting ⊤) → (test >> next) ≡ Ok tt → (test ≡ Ok tt) × (next ≡ Ok tt)
passed (Ok u) next e = (refl, e)
passed (Err fault) next e = absurd (cc)

tested_on : (m : Metrics) (cs ds : List ℕ) → test_glyphs m cs ≡ Ok tt → test_glyphs m (cs ++ ds) ≡ test_glyphs m ds
tested_on m [] ds e = refl
tested_on m (c ∷ cs) ds e =
    let both = passed (test_extents (extents_without_italic m c)) (test_glyphs m cs) e in
    ap (λ s. s >> test_glyphs m (cs ++ ds)) both.0 ∙ tested_on m cs ds both.1

fails_on : (m : Metrics) (cs ds : List ℕ) (fault : SettingFault) → test_glyphs m cs ≡ Err fault → test_glyphs m (cs ++ ds) ≡ Err fault
fails_on m [] ds fault e = absurd (cc)
fails_on m (c ∷ cs) ds fault e = by_test (test_extents (extents_without_italic m c)) (test_glyphs m cs) (test_glyphs m (cs ++ ds)) (fails_on m cs ds fault) e
  where
    by_test : (test next all : Setting ⊤) → (next ≡ Err fault → all ≡ Err fault) → (test >> next) ≡ Err fault → (test >> all) ≡ Err fault
    by_test (Ok u) next all k e = k e
    by_test (Err other) next all k e = e

first_none : (cs : List ℕ) → slice_get cs 0 ≡ None → cs ≡ []
first_none [] e = refl
first_none (c ∷ cs) e = absurd (cc)

first_some : (m : Metrics) (c : ℕ) (cs ds : List ℕ) → slice_get cs 0 ≡ Some c → All (There m) cs → There m c × (height_of m c ≡ first_height m (cs ++ ds))
first_some m c [] ds e h = absurd (cc)
first_some m c (d ∷ cs) ds e h =
    let same : d ≡ c = cc in
    (subst (λ x. There m x) same (All-head (There m) d cs h), ap (λ x. height_of m x) (sym same))

-- ---- the tests of a run

alone : (test : Setting ⊤) → (test >> Ok tt) ≡ test
alone (Ok u) = refl
alone (Err fault) = refl

twice : (test : Setting ⊤) → (test >> test) ≡ test
twice (Ok u) = refl
twice (Err fault) = refl

repeats_tested : (m : Metrics) (n c : ℕ) → test_glyphs m (replicate (suc n) c) ≡ test_extents (extents_without_italic m c)
repeats_tested m zero c = alone (test_extents (extents_without_italic m c))
repeats_tested m (suc n) c =
    ap (λ s. test_extents (extents_without_italic m c) >> s) (repeats_tested m n c) ∙ twice (test_extents (extents_without_italic m c))

-- that of its first glyph
pub run_tested : (m : Metrics) (r : Run) (c : ℕ) → slice_get (run_glyphs r) 0 ≡ Some c → test_glyphs m (run_glyphs r) ≡ test_extents (extents_without_italic m c)
run_tested m (Piece d) c e = by_none (d == 0) e
  where
    by_none : (b : Bool) → slice_get (if b then [] else d ∷ []) 0 ≡ Some c → test_glyphs m (if b then [] else d ∷ []) ≡ test_extents (extents_without_italic m c)
    by_none true e = absurd (cc)
    by_none false e =
        let same : d ≡ c = cc in
        alone (test_extents (extents_without_italic m d)) ∙ ap (λ x. test_extents (extents_without_italic m x)) same
run_tested m (Repeats d zero) c e = absurd (cc)
run_tested m (Repeats d (suc n)) c e =
    let same : d ≡ c = cc in
    repeats_tested m n d ∙ ap (λ x. test_extents (extents_without_italic m x)) same

pub run_untested : (m : Metrics) (r : Run) → slice_get (run_glyphs r) 0 ≡ None → test_glyphs m (run_glyphs r) ≡ Ok tt
run_untested m r none = ap (λ cs. test_glyphs m cs) (first_none (run_glyphs r) none)

pub run_there : (m : Metrics) (r : Run) (c : ℕ) → slice_get (run_glyphs r) 0 ≡ Some c → All (There m) (run_glyphs r) → There m c
run_there m r c some h = (first_some m c (run_glyphs r) [] some h).0

-- what is left of all tests
pub record Testing (m : Metrics) (runs rest : List Run) : Type 0 where
  pub same : test_glyphs m (glyphs_of rest) ≡ test_glyphs m (glyphs_of runs)
  pub there : All (There m) (glyphs_of rest)

pub testing_start : (m : Metrics) (runs : List Run) → All (There m) (glyphs_of runs) → Testing m runs runs
testing_start m runs there = record { same = refl; there = there }

pub testing_there : (m : Metrics) (runs rest rest' : List Run) (r : Run) → Testing m runs rest → rest ≡ r ∷ rest' → All (There m) (run_glyphs r)
testing_there m runs rest rest' r h e =
    let h' : Testing m runs (r ∷ rest') = subst (λ rs. Testing m runs rs) e h in
    (parted (There m) (run_glyphs r) (glyphs_of rest') h'.there).0

testing_step : (m : Metrics) (runs rest rest' : List Run) (r : Run) → Testing m runs rest → rest ≡ r ∷ rest' → test_glyphs m (run_glyphs r) ≡ Ok tt → Testing m runs rest'
testing_step m runs rest rest' r h e passes =
    let h' : Testing m runs (r ∷ rest') = subst (λ rs. Testing m runs rs) e h in
    record {
      same = sym (tested_on m (run_glyphs r) (glyphs_of rest') passes) ∙ h'.same;
      there = (parted (There m) (run_glyphs r) (glyphs_of rest') h'.there).1;
    }

testing_found : (m : Metrics) (runs rest rest' : List Run) (r : Run) (fault : SettingFault) → Testing m runs rest → rest ≡ r ∷ rest' → test_glyphs m (run_glyphs r) ≡ Err fault → test_glyphs m (glyphs_of runs) ≡ Err fault
testing_found m runs rest rest' r fault h e fails =
    let h' : Testing m runs (r ∷ rest') = subst (λ rs. Testing m runs rs) e h in
    sym h'.same ∙ fails_on m (run_glyphs r) (glyphs_of rest') fault fails

-- a run that fails, and one that passes
pub testing_out : (m : Metrics) (runs rest rest' : List Run) (r : Run) (out : Option ℤ) (some : Bool) → Testing m runs rest → rest ≡ r ∷ rest' → test_glyphs m (run_glyphs r) ≡ pass_unless out → some ≡ is_some out → some ≡ true → test_glyphs m (glyphs_of runs) ≡ pass_unless out
testing_out m runs rest rest' r None some h e test is t = absurd (cc)
testing_out m runs rest rest' r (Some value) some h e test is t = testing_found m runs rest rest' r (Overflow value) h e test

pub testing_on : (m : Metrics) (runs rest rest' : List Run) (r : Run) (out : Option ℤ) (some : Bool) → Testing m runs rest → rest ≡ r ∷ rest' → test_glyphs m (run_glyphs r) ≡ pass_unless out → some ≡ is_some out → some ≡ false → Testing m runs rest'
testing_on m runs rest rest' r None some h e test is t = testing_step m runs rest rest' r h e test
testing_on m runs rest rest' r (Some value) some h e test is t = absurd (cc)

pub testing_end : (m : Metrics) (runs : List Run) (i : ℕ) → Testing m runs (drop i runs) → length runs ≤ i → test_glyphs m (glyphs_of runs) ≡ Ok tt
testing_end m runs i h le =
    let h' : Testing m runs [] = subst (λ rs. Testing m runs rs) (drop_all i runs le) h in
    sym h'.same

-- ---- the first glyph

pub record Seeking (m : Metrics) (runs rest : List Run) : Type 0 where
  pub same : first_height m (glyphs_of rest) ≡ first_height m (glyphs_of runs)
  pub there : All (There m) (glyphs_of rest)

pub seeking_step : (m : Metrics) (runs rest rest' : List Run) (r : Run) → Seeking m runs rest → rest ≡ r ∷ rest' → slice_get (run_glyphs r) 0 ≡ None → Seeking m runs rest'
seeking_step m runs rest rest' r h e none =
    let h' : Seeking m runs (r ∷ rest') = subst (λ rs. Seeking m runs rs) e h in
    let own : run_glyphs r ++ glyphs_of rest' ≡ glyphs_of rest' = ap (λ cs. cs ++ glyphs_of rest') (first_none (run_glyphs r) none) in
    record { same = sym (ap (λ cs. first_height m cs) own) ∙ h'.same; there = subst (λ cs. All (There m) cs) own h'.there }

pub seeking_found : (m : Metrics) (runs rest rest' : List Run) (r : Run) (c : ℕ) → Seeking m runs rest → rest ≡ r ∷ rest' → slice_get (run_glyphs r) 0 ≡ Some c → There m c × (height_of m c ≡ first_height m (glyphs_of runs))
seeking_found m runs rest rest' r c h e some =
    let h' : Seeking m runs (r ∷ rest') = subst (λ rs. Seeking m runs rs) e h in
    let found = first_some m c (run_glyphs r) (glyphs_of rest') some (parted (There m) (run_glyphs r) (glyphs_of rest') h'.there).0 in
    (found.0, found.1 ∙ h'.same)

pub seeking_end : (m : Metrics) (runs : List Run) (i : ℕ) → Seeking m runs (drop i runs) → length runs ≤ i → pos 0 ≡ first_height m (glyphs_of runs)
seeking_end m runs i h le =
    let h' : Seeking m runs [] = subst (λ rs. Seeking m runs rs) (drop_all i runs le) h in
    h'.same

-- ---- the next run

abbrev pub no_run : Run
no_run = Piece 0

pub item_of : (runs : List Run) (i : ℕ) (d : Run) → i < length runs → drop i runs ≡ get_or runs i d ∷ drop (i + 1) runs
item_of runs i d lt = rw (add-one) (drop-cons runs i d lt)
