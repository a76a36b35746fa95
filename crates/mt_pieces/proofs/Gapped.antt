-- Kerns and spaces put between pieces: they have no layers, so the layers stay.
use Rattle.std.proofs.Common.{◌≡◌, ℕ, ◌+◌, ◌-◌, ◌≤◌, ◌<◌, get_or, min, true, List, [], ◌∷◌, ◌++◌, Result, Ok, Err, OnOk, length, length-append, reverse, take, drop, append_assoc, refl, arith, sym, ◌∙◌, ap, subst}
use Rattle.std.specs.Prelude.{⊤}
use Rattle.std.specs.declared.alloc.AllocError.{AllocError}
use Rattle.std.proofs.lemmas.List.{append-nil, drop_at, drop_min, drop-drop, get_or_append_left, get_or-drop, length-drop, length-reverse, length-take, reverse-append, take_at, take_min, take_more, take-append-drop, take-append-le, drop-append-le}
use Rattle.mt_box.specs.declared.place.Place.{Place}
use Rattle.mt_box.specs.declared.marks.row.RowPart.{RowPart}
use Rattle.mt_box.specs.Rows.{PieceValue}
use Rattle.mt_pieces.specs.declared.gaps.Gap.{Gap}
use Rattle.mt_pieces.specs.declared.gaps.Gap.TheVariants as gap
use Rattle.mt_pieces.specs.declared.gaps.Run.{Run}
use Rattle.mt_pieces.specs.Gaps.{gap_pieces, with_gaps, GapFits, AllRunsFit}
use Rattle.mt_pieces.specs.inner.GapParts.{gap_parts, is_no_gap}
use Rattle.std.proofs.Math.Seq.{take-add}
use Rattle.mt_pieces.specs.inner.View.{AreLaid, pieces_back}
use Rattle.mt_pieces.proofs.Laid.{length_back}
use Rattle.mt_pieces.proofs.Moved.{under_all, whole_under}

-- ---- one gap

gap_back : (g : Gap) (ls : List (List Place)) → pieces_back (reverse (gap_parts g)) ls ≡ gap_pieces g
gap_back gap.None ls = refl
gap_back (gap.Kern w) ls = refl
gap_back (gap.Space s) ls = refl

gap_under : (g : Gap) (ls : List (List Place)) → under_all (reverse (gap_parts g)) ls ≡ ls
gap_under gap.None ls = refl
gap_under (gap.Kern w) ls = refl
gap_under (gap.Space s) ls = refl

gap_laid : (g : Gap) (fs : List RowPart) (ls : List (List Place)) → GapFits g → AreLaid fs ls → AreLaid (reverse (gap_parts g) ++ fs) ls
gap_laid gap.None fs ls fit h = h
gap_laid (gap.Kern w) fs ls fit h = (fit, h)
gap_laid (gap.Space s) fs ls fit h = ((fit.0, fit.1), h)

gap_length : (g : Gap) → length (gap_pieces g) ≡ length (gap_parts g)
gap_length gap.None = refl
gap_length (gap.Kern w) = refl
gap_length (gap.Space s) = refl

-- before other parts, the last of which comes first
behind_laid : (bs fs : List RowPart) (g : Gap) (ls : List (List Place)) → GapFits g → AreLaid (bs ++ fs) ls → AreLaid (bs ++ (reverse (gap_parts g) ++ fs)) ls
behind_laid [] fs g ls fit h = gap_laid g fs ls fit h
behind_laid (b ∷ bs) fs g ls fit h = (h.0, behind_laid bs fs g _ fit h.1)

behind_back : (bs fs : List RowPart) (g : Gap) (ls : List (List Place))
    → pieces_back (bs ++ (reverse (gap_parts g) ++ fs)) ls ≡ pieces_back fs (under_all bs ls) ++ (gap_pieces g ++ pieces_back bs ls)
behind_back bs fs g ls =
    let below = under_all bs ls in
    whole_under bs (reverse (gap_parts g) ++ fs) ls
    ∙ (ap (λ z. z ++ pieces_back bs ls)
    (whole_under (reverse (gap_parts g)) fs below ∙ (ap (λ z. pieces_back fs z ++ pieces_back (reverse (gap_parts g)) below) (gap_under g below) ∙ ap (λ z. pieces_back fs below ++ z) (gap_back g below)))
    ∙ append_assoc (pieces_back fs below) (gap_pieces g) (pieces_back bs ls))

-- ---- the gap of a run, and its pieces

reversed : (before gs qs : List RowPart) → reverse (before ++ (gs ++ qs)) ≡ reverse qs ++ (reverse gs ++ reverse before)
reversed before gs qs =
    reverse-append before (gs ++ qs) ∙ (ap (λ z. z ++ reverse before) (reverse-append gs qs) ∙ append_assoc (reverse qs) (reverse gs) (reverse before))

-- the pieces before a place and those from there on
record Apart (before qs : List RowPart) (ls : List (List Place)) (vb vq : List PieceValue) : Type 0 where
  pub front : pieces_back (reverse before) (under_all (reverse qs) ls) ≡ vb
  pub back : pieces_back (reverse qs) ls ≡ vq

apart : (before qs : List RowPart) (ls : List (List Place)) (vb vq : List PieceValue) → pieces_back (reverse (before ++ qs)) ls ≡ vb ++ vq → length vb ≡ length before → Apart before qs ls vb vq
apart before qs ls vb vq v n =
    let front = pieces_back (reverse before) (under_all (reverse qs) ls) in
    let whole : front ++ pieces_back (reverse qs) ls ≡ vb ++ vq = sym (ap (λ z. pieces_back z ls) (reverse-append before qs) ∙ whole_under (reverse qs) (reverse before) ls) ∙ v in
    let m : length front ≡ length before = length_back (reverse before) (under_all (reverse qs) ls) ∙ length-reverse before in
    record {
      front = sym (take_at front (pieces_back (reverse qs) ls) (length before) m) ∙ (ap (take (length before)) whole ∙ take_at vb vq (length before) n);
      back = sym (drop_at front (pieces_back (reverse qs) ls) (length before) m) ∙ (ap (drop (length before)) whole ∙ drop_at vb vq (length before) n);
    }

-- the parts with the gaps have the same layers
pub record Spread (runs : List Run) (before qs : List RowPart) (ls : List (List Place)) (vb vq : List PieceValue) : Type 0 where
  pub laid : AreLaid (reverse (before ++ with_gaps gap_parts runs qs)) ls
  pub view : pieces_back (reverse (before ++ with_gaps gap_parts runs qs)) ls ≡ vb ++ with_gaps gap_pieces runs vq

-- the parts before those of the next run
passed : {A : Type 0} (before gs qs : List A) (n : ℕ) → (before ++ (gs ++ take n qs)) ++ drop n qs ≡ before ++ (gs ++ qs)
passed before gs qs n =
    append_assoc before (gs ++ take n qs) (drop n qs) ∙ ap (λ z. before ++ z) (append_assoc gs (take n qs) (drop n qs) ∙ ap (λ z. gs ++ z) (take-append-drop n qs))

joined : {A : Type 0} (before gs ms rest : List A) → (before ++ (gs ++ ms)) ++ rest ≡ before ++ (gs ++ (ms ++ rest))
joined before gs ms rest = append_assoc before (gs ++ ms) rest ∙ ap (λ z. before ++ z) (append_assoc gs ms rest)

pub spread : (runs : List Run) (before qs : List RowPart) (ls : List (List Place)) (vb vq : List PieceValue)
    → AllRunsFit runs → AreLaid (reverse (before ++ qs)) ls → pieces_back (reverse (before ++ qs)) ls ≡ vb ++ vq → length vb ≡ length before → Spread runs before qs ls vb vq
spread [] before qs ls vb vq fit h v n = record { laid = h; view = v }
spread (run ∷ runs) before qs ls vb vq fit h v n =
    let gs = gap_parts run.gap in
    let vs = gap_pieces run.gap in
    let a = apart before qs ls vb vq v n in
    let whole = ap reverse (passed before gs qs run.count) ∙ reversed before gs qs in
    let laid = subst (λ z. AreLaid z ls) (sym whole) (behind_laid (reverse qs) (reverse before) run.gap ls fit.0 (subst (λ z. AreLaid z ls) (reverse-append before qs) h)) in
    let view : pieces_back (reverse ((before ++ (gs ++ take run.count qs)) ++ drop run.count qs)) ls ≡ (vb ++ (vs ++ take run.count vq)) ++ drop run.count vq =
    ap (λ z. pieces_back z ls) whole
    ∙ (behind_back (reverse qs) (reverse before) run.gap ls
    ∙ (ap (λ z. z ++ (vs ++ pieces_back (reverse qs) ls)) a.front ∙ (ap (λ z. vb ++ (vs ++ z)) a.back ∙ sym (passed vb vs vq run.count)))) in
    let many : length vq ≡ length qs = sym (ap length a.back) ∙ (length_back (reverse qs) ls ∙ length-reverse qs) in
    let long : length (vb ++ (vs ++ take run.count vq)) ≡ length (before ++ (gs ++ take run.count qs)) =
    omega (arith, n, gap_length run.gap, many, length-append vb (vs ++ take run.count vq), length-append vs (take run.count vq), length-append before (gs ++ take run.count qs), length-append gs (take run.count qs), length-take run.count vq, length-take run.count qs) in
    let s = spread runs (before ++ (gs ++ take run.count qs)) (drop run.count qs) ls (vb ++ (vs ++ take run.count vq)) (drop run.count vq) fit.1 laid view long in
    let e = joined before gs (take run.count qs) (with_gaps gap_parts runs (drop run.count qs)) in
    record {
      laid = subst (λ z. AreLaid (reverse z) ls) e s.laid;
      view = ap (λ z. pieces_back (reverse z) ls) (sym e) ∙ (s.view ∙ joined vb vs (take run.count vq) (with_gaps gap_pieces runs (drop run.count vq)));
    }

-- of the parts from a number on
pub spread_from : (runs : List Run) (first : ℕ) (ps : List RowPart) (ls : List (List Place)) (now : List PieceValue)
    → AllRunsFit runs → AreLaid (reverse ps) ls → pieces_back (reverse ps) ls ≡ now → Spread runs (take first ps) (drop first ps) ls (take first now) (drop first now)
spread_from runs first ps ls now fit h v =
    let e = take-append-drop first ps in
    let many : length now ≡ length ps = sym (ap length v) ∙ (length_back (reverse ps) ls ∙ length-reverse ps) in
    spread runs (take first ps) (drop first ps) ls (take first now) (drop first now) fit (subst (λ z. AreLaid (reverse z) ls) (sym e) h)
    (ap (λ z. pieces_back (reverse z) ls) e ∙ (v ∙ sym (take-append-drop first now)))
    (omega (arith, many, length-take first now, length-take first ps))

-- ---- the runs before the first gap

no_gap : (g : Gap) → is_no_gap g ≡ true → g ≡ gap.None
no_gap gap.None e = refl
no_gap (gap.Kern w) e = absurd (cc)
no_gap (gap.Space s) e = absurd (cc)

-- they stay where they are
lead_more : (parts : List RowPart) (rest rest' : List Run) (run : Run) (from from' end : ℕ) → rest ≡ run ∷ rest' → run.gap ≡ gap.None → end ≡ length parts → from' ≡ min (from + run.count) end
    → take from parts ++ with_gaps gap_parts rest (drop from parts) ≡ take from' parts ++ with_gaps gap_parts rest' (drop from' parts)
lead_more parts rest rest' run from from' end e g m k =
    let own = take run.count (drop from parts) in
    let after = with_gaps gap_parts rest' (drop run.count (drop from parts)) in
    let next : min (from + run.count) (length parts) ≡ from' = omega (arith, k, m) in
    let behind : drop run.count (drop from parts) ≡ drop from' parts = drop-drop run.count from parts ∙ (sym (drop_min (from + run.count) parts) ∙ ap (λ j. drop j parts) next) in
    let before : take from parts ++ own ≡ take from' parts = sym (take-add from run.count parts) ∙ (sym (take_min (from + run.count) parts) ∙ ap (λ j. take j parts) next) in
    ap (λ rs. take from parts ++ with_gaps gap_parts rs (drop from parts)) e
    ∙ (ap (λ x. take from parts ++ (gap_parts x ++ (own ++ after))) g
    ∙ (sym (append_assoc (take from parts) own after) ∙ (ap (λ z. z ++ after) before ∙ ap (λ z. take from' parts ++ with_gaps gap_parts rest' z) behind)))

-- the runs from a number on, where the parts before theirs stay
pub record LeadSoFar (runs : List Run) (first end : ℕ) (rest : List Run) (start : ℕ) : Type 0 where
  pub low : start ≤ end
  pub is : (parts : List RowPart) → end ≡ length parts → take first parts ++ with_gaps gap_parts runs (drop first parts) ≡ take start parts ++ with_gaps gap_parts rest (drop start parts)

pub lead_start : (runs : List Run) (first end start : ℕ) → start ≡ min first end → LeadSoFar runs first end runs start
lead_start runs first end start e = record {
  low = omega (arith, e);
  is = λ parts m.
      let k : min first (length parts) ≡ start = omega (arith, e, m) in
      ap (λ z. z ++ with_gaps gap_parts runs (drop first parts)) (sym (take_min first parts))
      ∙ (ap (λ z. take (min first (length parts)) parts ++ with_gaps gap_parts runs z) (sym (drop_min first parts)) ∙ ap (λ j. take j parts ++ with_gaps gap_parts runs (drop j parts)) k);
}

pub lead_step : (runs : List Run) (first end : ℕ) (rest rest' : List Run) (run : Run) (start start' : ℕ) → LeadSoFar runs first end rest start → rest ≡ run ∷ rest' → is_no_gap run.gap ≡ true → start' ≡ min (start + run.count) end → LeadSoFar runs first end rest' start'
lead_step runs first end rest rest' run start start' s e g k = record {
  low = omega (arith, k);
  is = λ parts m. s.is parts m ∙ lead_more parts rest rest' run start start' end e (no_gap run.gap g) m k;
}

-- what the call that puts the others answers
pub lead_put : (r : Result ⊤ AllocError) (runs rest : List Run) (first start end count : ℕ) (old new : List RowPart) → ((parts : List RowPart) → end ≡ length parts → take first parts ++ with_gaps gap_parts runs (drop first parts) ≡ take start parts ++ with_gaps gap_parts (drop count runs) (drop start parts))
    → end ≡ length old → rest ≡ drop count runs → OnOk r (new ≡ take start old ++ with_gaps gap_parts rest (drop start old)) → OnOk r (new ≡ take first old ++ with_gaps gap_parts runs (drop first old))
lead_put (Ok u) runs rest first start end count old new is m e n = n ∙ (ap (λ rs. take start old ++ with_gaps gap_parts rs (drop start old)) e ∙ sym (is old m))
lead_put (Err fault) runs rest first start end count old new is m e n = tt

-- ---- run after run, behind all parts

-- what is behind the old parts does not change which these are
behind_same : {A : Type 0} (old done : List A) (from end : ℕ) → from ≤ end → end ≡ length old → take (end - from) (drop from (old ++ done)) ≡ drop from old
behind_same old done from end le e =
    ap (take (end - from)) (drop-append-le from old done (omega (arith, le, e)))
    ∙ take_at (drop from old) done (end - from) (omega (arith, length-drop from old, e))

-- parts copied one by one
pub copied_more : {A : Type 0} (old now now' : List A) (start i : ℕ) (x : A) → start ≤ i → i < length old → now ≡ old ++ take (i - start) (drop start old) → x ≡ get_or now i x → now' ≡ now ++ x ∷ []
    → now' ≡ old ++ take (i + 1 - start) (drop start old)
copied_more old now now' start i x low lt e read n =
    let done = take (i - start) (drop start old) in
    let next : take (i + 1 - start) (drop start old) ≡ done ++ x ∷ [] =
    ap (λ k. take k (drop start old)) (let k : i + 1 - start ≡ (i - start) + 1 = omega (arith, low) in k)
    ∙ (take_more (drop start old) (i - start) x (omega (arith, low, lt, length-drop start old))
    ∙ ap (λ y. done ++ y ∷ []) (get_or-drop start old (i - start) x ∙ (ap (λ k. get_or old k x) (let k : start + (i - start) ≡ i = omega (arith, low) in k) ∙ (sym (get_or_append_left old done x i lt) ∙ (ap (λ l. get_or l i x) (sym e) ∙ sym read))))) in
    n ∙ (ap (λ l. l ++ x ∷ []) e ∙ (append_assoc old done (x ∷ []) ∙ ap (λ l. old ++ l) (sym next)))

-- the parts of the runs before are behind all, and those of the others begin at a number
pub record SpreadSoFar (runs : List Run) (start : ℕ) (old now : List RowPart) (rest : List Run) (from : ℕ) : Type 0 where
  pub done : List RowPart
  pub stays : now ≡ old ++ done
  pub whole : with_gaps gap_parts runs (drop start old) ≡ done ++ with_gaps gap_parts rest (drop from old)
  pub low : from ≤ length old

pub spread_start : (runs : List Run) (start : ℕ) (old now : List RowPart) → start ≤ length old → now ≡ old → SpreadSoFar runs start old now runs start
spread_start runs start old now le e = record { done = []; stays = e ∙ sym (append-nil old); whole = refl; low = le }

pub spread_step : (runs : List Run) (start : ℕ) (old now now' : List RowPart) (rest rest' : List Run) (run : Run) (from from' end : ℕ) → SpreadSoFar runs start old now rest from → rest ≡ run ∷ rest' → end ≡ length old
    → now' ≡ now ++ (gap_parts run.gap ++ take run.count (take (end - from) (drop from now))) → from' ≡ min (from + run.count) end → SpreadSoFar runs start old now' rest' from'
spread_step runs start old now now' rest rest' run from from' end s e m n k =
    let gs = gap_parts run.gap in
    let more = take run.count (drop from old) in
    let taken : take (end - from) (drop from now) ≡ drop from old = ap (λ l. take (end - from) (drop from l)) s.stays ∙ behind_same old s.done from end (omega (arith, s.low, m)) m in
    let next : drop run.count (drop from old) ≡ drop from' old =
    drop-drop run.count from old ∙ (sym (drop_min (from + run.count) old) ∙ ap (λ j. drop j old) (let j : min (from + run.count) (length old) ≡ from' = omega (arith, k, m) in j)) in
    let rest_is : with_gaps gap_parts rest (drop from old) ≡ (gs ++ more) ++ with_gaps gap_parts rest' (drop from' old) =
    ap (λ r. with_gaps gap_parts r (drop from old)) e ∙ (ap (λ l. gs ++ (more ++ with_gaps gap_parts rest' l)) next ∙ sym (append_assoc gs more (with_gaps gap_parts rest' (drop from' old)))) in
    record {
      done = s.done ++ (gs ++ more);
      stays = n ∙ (ap (λ l. now ++ (gs ++ take run.count l)) taken ∙ (ap (λ l. l ++ (gs ++ more)) s.stays ∙ append_assoc old s.done (gs ++ more)));
      whole = s.whole ∙ (ap (λ l. s.done ++ l) rest_is ∙ sym (append_assoc s.done (gs ++ more) (with_gaps gap_parts rest' (drop from' old))));
      low = omega (arith, k, m);
    }

-- all runs are put, and the parts that were there go
pub spread_end : (runs : List Run) (start end : ℕ) (old now last new : List RowPart) (rest : List Run) (from : ℕ) → SpreadSoFar runs start old now rest from → rest ≡ [] → end ≡ length old → start ≤ end
    → last ≡ now ++ take (end - from) (drop from now) → new ≡ take start last ++ drop end last → new ≡ take start old ++ with_gaps gap_parts runs (drop start old)
spread_end runs start end old now last new rest from s e m le l n =
    let taken : take (end - from) (drop from now) ≡ drop from old = ap (λ z. take (end - from) (drop from z)) s.stays ∙ behind_same old s.done from end (omega (arith, s.low, m)) m in
    let all : with_gaps gap_parts runs (drop start old) ≡ s.done ++ drop from old = s.whole ∙ ap (λ r. s.done ++ with_gaps gap_parts r (drop from old)) e in
    let last_is : last ≡ old ++ with_gaps gap_parts runs (drop start old) =
    l ∙ (ap (λ z. now ++ z) taken ∙ (ap (λ z. z ++ drop from old) s.stays ∙ (append_assoc old s.done (drop from old) ∙ ap (λ z. old ++ z) (sym all)))) in
    n
    ∙ (ap (λ z. take start z ++ drop end z) last_is
    ∙ (ap (λ z. z ++ drop end (old ++ with_gaps gap_parts runs (drop start old))) (take-append-le start old (with_gaps gap_parts runs (drop start old)) (omega (arith, le, m)))
    ∙ ap (λ z. take start old ++ z) (drop_at old (with_gaps gap_parts runs (drop start old)) end (sym m))))

-- what is seen of them, or none after a fault
pub gaps_view : (r : Result ⊤ AllocError) (ps' qs : List RowPart) (ms' ls : List (List Place)) (all : List PieceValue) → OnOk r (ps' ≡ qs) → OnOk r (ms' ≡ ls) → pieces_back (reverse qs) ls ≡ all → OnOk r (pieces_back (reverse ps') ms' ≡ all)
gaps_view (Ok u) ps' qs ms' ls all q m v = ap (λ z. pieces_back (reverse z) ms') q ∙ (ap (pieces_back (reverse qs)) m ∙ v)
gaps_view (Err e) ps' qs ms' ls all q m v = tt
