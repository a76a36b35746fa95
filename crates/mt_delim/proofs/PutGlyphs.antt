-- Runs of glyphs on marks, one below the other.
use Rattle.std.proofs.Common.{◌≡◌, ◌≤◌, ◌+◌, ◌*◌, ◌^◌, ℕ, zero, suc, List, [], ◌∷◌, ◌++◌, length, drop, ℤ, pos, neg_ℤ, ◌+ℤ◌, ◌-ℤ◌, ◌*ℤ◌, All, replicate, refl, arith, ap, sym, ◌∙◌, subst, append_assoc}
use Rattle.std.proofs.lemmas.Int.{ints}
use Rattle.std.proofs.lemmas.List.{append-nil, drop_all}
use Rattle.mt_scaled.specs.Number.{Within}
use Rattle.mt_tfm.specs.Font.{Metrics, height_of}
use Rattle.mt_box.specs.declared.place.Place.{Place}
use Rattle.mt_box.specs.declared.node.Mark.TheVariants as mark
use Rattle.mt_box.specs.declared.marks.moves.Move.{Move}
use Rattle.mt_box.specs.Limits.{max_repeats}
use Rattle.mt_box.specs.Unfold.{marks, stacked}
use Rattle.mt_box.specs.marks.Layers.{put_on}
use Rattle.mt_box.proofs.Equalities.{glyph_eq}
use Rattle.mt_rules.specs.Symbols.{height_plus_depth}
use Rattle.mt_rules.specs.Extensibles.{recipe_piece, glyphs_total, glyphs_places}
use Rattle.mt_delim.specs.declared.extensible.Run.{Run}
use Rattle.mt_delim.specs.inner.Runs.{run_glyphs, glyphs_of, IsFew, AreFew}
use Rattle.mt_delim.proofs.Pieces.{There}
use Rattle.mt_delim.proofs.Runs.{one_piece, parted}

place_first : {p q : Place} {ps qs : List Place} → p ≡ q → ps ≡ qs → p ∷ ps ≡ q ∷ qs
place_first e f = cc

-- ---- the mark of a run

-- its first glyph has its top so far below the baseline
pub piece_marks : (number : ℕ) (m : Metrics) (c : ℕ) (depth : ℤ) (at : Move) → (c ≡ 0 → ⊥) → at.right ≡ pos 0 → pos 0 -ℤ at.up ≡ depth +ℤ height_of m c → marks (mark.Glyph number c) at.right (pos 0 -ℤ at.up) ≡ glyphs_places number m (neg_ℤ depth) (recipe_piece c)
piece_marks number m c depth at some h v =
    place_first (glyph_eq h (omega (arith, ints, v))) refl ∙ ap (λ cs. glyphs_places number m (neg_ℤ depth) cs) (sym (one_piece c some))

repeats_places : (number : ℕ) (m : Metrics) (n c : ℕ) (step h v y : ℤ) → step ≡ height_plus_depth m c → h ≡ pos 0 → v ≡ height_of m c -ℤ y → stacked number c step n h v ≡ glyphs_places number m y (replicate n c)
repeats_places number m zero c step h v y s e f = refl
repeats_places number m (suc n) c step h v y s e f =
    place_first (glyph_eq e f) (repeats_places number m n c step h (v +ℤ step) (y -ℤ height_plus_depth m c) s e (omega (arith, ints, s, f)))

pub repeats_marks : (number : ℕ) (m : Metrics) (n c : ℕ) (step depth : ℤ) (at : Move) → at.right ≡ pos 0 → pos 0 -ℤ at.up ≡ depth +ℤ height_of m c → step ≡ height_plus_depth m c → marks (mark.Stack number c step n) at.right (pos 0 -ℤ at.up) ≡ glyphs_places number m (neg_ℤ depth) (replicate n c)
repeats_marks number m n c step depth at h v s = repeats_places number m n c step at.right (pos 0 -ℤ at.up) (neg_ℤ depth) s h (omega (arith, ints, v))

-- ---- how far it reaches downward

pub piece_total : (m : Metrics) (c : ℕ) → (c ≡ 0 → ⊥) → height_plus_depth m c ≡ glyphs_total m (recipe_piece c)
piece_total m c some =
    let one : height_plus_depth m c ≡ height_plus_depth m c +ℤ pos 0 = omega (arith, ints) in
    one ∙ ap (λ cs. glyphs_total m cs) (sym (one_piece c some))

one_more : (d : ℤ) (n : ℕ) → d *ℤ pos (suc n) ≡ d +ℤ (d *ℤ pos n)
one_more d n = grind (arith, ints)

pub repeats_total : (m : Metrics) (n c : ℕ) → height_plus_depth m c *ℤ pos n ≡ glyphs_total m (replicate n c)
repeats_total m zero c = omega (arith, ints)
repeats_total m (suc n) c = one_more (height_plus_depth m c) n ∙ ap (λ z. height_plus_depth m c +ℤ z) (repeats_total m n c)

-- ---- runs one after the other

put_more : (xs ys : List Place) (ls : List (List Place)) → put_on ys (put_on xs ls) ≡ put_on (xs ++ ys) ls
put_more xs ys [] = refl
put_more xs ys (l ∷ ls) = ap (λ r. r ∷ ls) (append_assoc l xs ys)

pub put_none : (ls : List (List Place)) → ls ≡ put_on [] ls
put_none [] = refl
put_none (l ∷ ls) = ap (λ r. r ∷ ls) (sym (append-nil l))

places_on : (number : ℕ) (m : Metrics) (y : ℤ) (cs ds : List ℕ) → glyphs_places number m y (cs ++ ds) ≡ glyphs_places number m y cs ++ glyphs_places number m (y -ℤ glyphs_total m cs) ds
places_on number m y [] ds = ap (λ z. glyphs_places number m z ds) (omega (arith, ints))
places_on number m y (c ∷ cs) ds =
    let e : (y -ℤ height_plus_depth m c) -ℤ glyphs_total m cs ≡ y -ℤ (height_plus_depth m c +ℤ glyphs_total m cs) = omega (arith, ints) in
    place_first refl (places_on number m (y -ℤ height_plus_depth m c) cs ds
    ∙ ap (λ z. glyphs_places number m (y -ℤ height_plus_depth m c) cs ++ glyphs_places number m z ds) e)

total_on : (m : Metrics) (cs ds : List ℕ) → glyphs_total m (cs ++ ds) ≡ glyphs_total m cs +ℤ glyphs_total m ds
total_on m [] ds = omega (arith, ints)
total_on m (c ∷ cs) ds = omega (arith, ints, total_on m cs ds)

-- what is left to put, below what is there
pub record RunsPut (number : ℕ) (m : Metrics) (runs : List Run) (i : ℕ) (rest : List Run) (height depth : ℤ) (old now : List (List Place)) : Type 0 where
  pub marks : put_on (glyphs_places number m (neg_ℤ depth) (glyphs_of rest)) now ≡ put_on (glyphs_places number m height (glyphs_of runs)) old
  pub total : depth +ℤ glyphs_total m (glyphs_of rest) ≡ glyphs_total m (glyphs_of runs) -ℤ height
  pub there : All (There m) (glyphs_of rest)
  pub few : AreFew rest
  pub near : Within (2 ^ 31 + 2 ^ 44 * i) depth
  pub count : i + length rest ≤ 5

pub runs_start : (number : ℕ) (m : Metrics) (runs : List Run) (height depth : ℤ) (old : List (List Place)) → depth ≡ neg_ℤ height → All (There m) (glyphs_of runs) → AreFew runs → length runs ≤ 5 → Within (2 ^ 31) height → RunsPut number m runs 0 runs height depth old old
runs_start number m runs height depth old e there few count near =
    let back : neg_ℤ depth ≡ height = omega (arith, ints, e) in
    record {
      marks = ap (λ y. put_on (glyphs_places number m y (glyphs_of runs)) old) back;
      total = omega (arith, ints, e);
      there = there;
      few = few;
      near = record { low = omega (arith, ints, e, near.high); high = omega (arith, ints, e, near.low) };
      count = omega (arith, count);
    }

-- what the next run asks for
pub record RunFits (m : Metrics) (r : Run) (depth : ℤ) : Type 0 where
  pub there : All (There m) (run_glyphs r)
  pub few : IsFew r
  pub near : Within (2 ^ 50) depth

pub next_fits : (number : ℕ) (m : Metrics) (runs : List Run) (i : ℕ) (rest rest' : List Run) (r : Run) (height depth : ℤ) (old now : List (List Place)) → RunsPut number m runs i rest height depth old now → rest ≡ r ∷ rest' → RunFits m r depth
next_fits number m runs i rest rest' r height depth old now h e =
    let h' : RunsPut number m runs i (r ∷ rest') height depth old now = subst (λ rs. RunsPut number m runs i rs height depth old now) e h in
    record {
      there = (parted (There m) (run_glyphs r) (glyphs_of rest') h'.there).0;
      few = h'.few.0;
      near = record { low = omega (arith, ints, h'.near.low, h'.count); high = omega (arith, ints, h'.near.high, h'.count) };
    }

pub runs_step : (number : ℕ) (m : Metrics) (runs : List Run) (i : ℕ) (rest rest' : List Run) (r : Run) (height depth depth' : ℤ) (old now now' : List (List Place)) → RunsPut number m runs i rest height depth old now → rest ≡ r ∷ rest'
    → now' ≡ put_on (glyphs_places number m (neg_ℤ depth) (run_glyphs r)) now → depth' ≡ depth +ℤ glyphs_total m (run_glyphs r) → Within (max_repeats * 2 ^ 32) (depth' -ℤ depth) → RunsPut number m runs (i + 1) rest' height depth' old now'
runs_step number m runs i rest rest' r height depth depth' old now now' h e put d near =
    let h' : RunsPut number m runs i (r ∷ rest') height depth old now = subst (λ rs. RunsPut number m runs i rs height depth old now) e h in
    let own = run_glyphs r in
    let low : neg_ℤ depth' ≡ neg_ℤ depth -ℤ glyphs_total m own = omega (arith, ints, d) in
    record {
      marks = ap (λ ls. put_on (glyphs_places number m (neg_ℤ depth') (glyphs_of rest')) ls) put
          ∙ (put_more (glyphs_places number m (neg_ℤ depth) own) (glyphs_places number m (neg_ℤ depth') (glyphs_of rest')) now
          ∙ (ap (λ y. put_on (glyphs_places number m (neg_ℤ depth) own ++ glyphs_places number m y (glyphs_of rest')) now) low
          ∙ (ap (λ ps. put_on ps now) (sym (places_on number m (neg_ℤ depth) own (glyphs_of rest'))) ∙ h'.marks)));
      total = omega (arith, ints, d, h'.total, total_on m own (glyphs_of rest'));
      there = (parted (There m) own (glyphs_of rest') h'.there).1;
      few = h'.few.1;
      near = record { low = omega (arith, ints, h'.near.low, near.low); high = omega (arith, ints, h'.near.high, near.high) };
      count = omega (arith, h'.count);
    }

pub record RunsArePut (number : ℕ) (m : Metrics) (runs : List Run) (height depth : ℤ) (old now : List (List Place)) : Type 0 where
  pub marks : now ≡ put_on (glyphs_places number m height (glyphs_of runs)) old
  pub total : depth ≡ glyphs_total m (glyphs_of runs) -ℤ height

pub runs_end : (number : ℕ) (m : Metrics) (runs : List Run) (i : ℕ) (height depth : ℤ) (old now : List (List Place)) → RunsPut number m runs i (drop i runs) height depth old now → length runs ≤ i → RunsArePut number m runs height depth old now
runs_end number m runs i height depth old now h le =
    let h' : RunsPut number m runs i [] height depth old now = subst (λ rs. RunsPut number m runs i rs height depth old now) (drop_all i runs le) h in
    record { marks = put_none now ∙ h'.marks; total = omega (arith, ints, h'.total) }
