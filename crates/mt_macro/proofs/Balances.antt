-- Parts of arguments.
use Rattle.std.proofs.Common.{◌≡◌, ℕ, zero, suc, ◌+◌, ◌-◌, ◌<◌, ◌≤◌, Bool, true, false, List, [], ◌∷◌, ◌++◌, length, take, drop, map, get_or, refl, sym, ap, subst, ◌∙◌, arith}
use Rattle.std.specs.Prelude.{Option, Some, None, ◌==◌, ◌&&◌}
use Rattle.std.proofs.lemmas.List.{append-nil, drop-append-le, drop-drop, take-map, drop-map, length-map}
use Rattle.mt_token.specs.declared.token.Token.{Token}
use Rattle.mt_macro.specs.Braces.{Taken, group, is_open, is_close, level_after, index_after_first}
use Rattle.mt_macro.specs.inner.Ends.{end_index, AreEnds, joined}
use Rattle.mt_macro.proofs.Indexes.{shifted, shifted_none}
use Rattle.mt_macro.proofs.Unmatched.{inside_not, level_open, level_close, level_other, true_not_false}
use Rattle.mt_macro.proofs.Ending.{joined_more, end_here, end_on, one_index, first_of, from_end, group_end, end_within}
use Rattle.mt_macro.proofs.Ending.{Leaving, leaving_group, are_ends_drop, are_ends_take, are_ends_none}
use Rattle.mt_macro.proofs.Mapped.{mapped_front, mapped_drop}
use Rattle.mt_macro.specs.declared.run.Run.{Run}
use Rattle.mt_macro.specs.declared.run.Place.{Place}
use Rattle.mt_macro.specs.declared.run.Place.TheVariants.{Given, Body, Argument, Remainder}
use Rattle.mt_macro.specs.declared.stack.Rest.{Rest}
use Rattle.mt_macro.specs.declared.closing.Closing.{Closing}
use Rattle.mt_macro.specs.declared.closing.Closing.TheVariants.{At, Open}
use Rattle.mt_macro.specs.inner.Lengths.{is_opened, IsBasic, IsWhole}
use Rattle.mt_macro.specs.inner.Closings.{Closes}
use Rattle.mt_macro.specs.inner.Runs.{Sources, part, run_tokens, tokens_at, meanings, IsRun, IsRunAt, IsBalanced, AreParts, AreRuns, AreLeft, left, left_of, place_tokens, ClosesRun, PushesAll, Pushes, ends_at, IsEndsOf}
use Rattle.mt_macro.proofs.Runs.{meanings_push, meanings_length, parts_push, run_more, tokens_more, runs_more, left_more, part_length}
use Rattle.mt_macro.proofs.Stacks.{basic_tokens, basic_bounds, basic_is_at, basic_whole, part_size}

pub pushes : (src : Sources) (old new : List Run) (r : Run) → AreParts src [] old → IsRun src (meanings src old) r → IsWhole r.place → new ≡ old ++ r ∷ [] → Pushes src old new r
pushes src old new r h k w e =
    let ms = meanings src old in
    let t = run_tokens src ms r in
    let m : meanings src new ≡ ms ++ t ∷ [] = ap (meanings src) e ∙ meanings_push src [] old r in
    let size = meanings_length src [] old in
    let same : (rest : Rest) → AreLeft src old rest → left_of src new rest ≡ left_of src old rest =
    λ rest l. ap (λ (x : List (List Token)). left src x rest.runs.items) m ∙ left_more src ms (t ∷ []) rest.runs.items l.runs in
    record {
      extends = (r ∷ [], e);
      parts_are = subst (AreParts src []) (sym e) (parts_push src [] old r h k w);
      is = λ first low. ap (λ (x : List (List Token)). joined (drop first x)) m
          ∙ (ap joined (drop-append-le first ms (t ∷ []) (omega (arith, low, size))) ∙ joined_more (drop first ms) t);
      stays = λ rest l. (
        record {
          parts_are = subst (AreParts src []) (sym e) (parts_push src [] old r h k w);
          runs = subst (λ (x : List (List Token)). AreRuns src x rest.runs.items) (sym m) (runs_more src ms (t ∷ []) rest.runs.items l.runs);
          counted = l.counted ∙ ap length (sym (same rest l));
        },
        same rest l,
      );
      knows = λ q g. (
        subst (λ (x : List (List Token)). IsRun src x q) (sym m) (run_more src ms (t ∷ []) q g),
        ap (λ (x : List (List Token)). run_tokens src x q) m ∙ tokens_more src ms (t ∷ []) q g,
      );
    }

pub pushes_none : (src : Sources) (old : List Run) (tokens : List Token) (n : ℕ) → AreParts src [] old → n ≡ 0 → PushesAll src old old (take n tokens)
pushes_none src old tokens n h z = record {
  extends = ([], sym (append-nil old));
  parts_are = h;
  is = λ first low. sym (append-nil (joined (drop first (meanings src old)))) ∙ ap (λ k. joined (drop first (meanings src old)) ++ take k tokens) (sym z);
  stays = λ rest l. (l, refl);
  knows = λ q g. (g, refl);
}

take_of_take : {A : Type 0} (i n : ℕ) (xs : List A) → i ≤ n → take i (take n xs) ≡ take i xs
take_of_take zero n xs h = refl
take_of_take (suc i) zero xs h = absurd (omega (arith, h))
take_of_take (suc i) (suc n) [] h = refl
take_of_take (suc i) (suc n) (x ∷ xs) h = ap (λ (ys : List _). x ∷ ys) (take_of_take i n xs (omega (arith, h)))

none_left : {A : Type 0} (n : ℕ) → (let xs : List A = [] in xs) ≡ take n []
none_left zero = refl
none_left (suc n) = refl

drop_of_take : {A : Type 0} (i n : ℕ) (xs : List A) → drop i (take n xs) ≡ take (n - i) (drop i xs)
drop_of_take zero n xs = ap (λ k. take k xs) (let e : n ≡ n - 0 = omega arith in e)
drop_of_take (suc i) zero xs = ap (λ k. take k (drop (suc i) xs)) (let e : 0 ≡ 0 - suc i = omega arith in e)
drop_of_take (suc i) (suc n) [] = none_left (suc n - suc i)
drop_of_take (suc i) (suc n) (x ∷ xs) = drop_of_take i n xs ∙ ap (λ k. take k (drop i xs)) (let e : n - i ≡ suc n - suc i = omega arith in e)

-- the first items of a run
pub record Front (src : Sources) (ms : List (List Token)) (r before : Run) (index : ℕ) : Type 0 where
  pub known : IsRun src ms before
  pub whole : IsWhole before.place
  pub is : run_tokens src ms before ≡ take index (run_tokens src ms r)

pub front_run : (src : Sources) (ms : List (List Token)) (r before : Run) (index : ℕ) → IsRun src ms r → IsBasic r.place → 0 < index → index < length (run_tokens src ms r)
    → before ≡ record { place = r.place; start = r.start; end = r.start + index } → Front src ms r before index
front_run src ms r before index h b low high e =
    let bounds = basic_bounds src ms r b h in
    let size = part_size r.start r.end (place_tokens src r.place) (omega (arith, bounds.0)) bounds.1 in
    let within : r.start + index ≤ r.end = omega (arith, high, ap length (basic_tokens src ms r b), size, bounds.0) in
    let made : Run = record { place = r.place; start = r.start; end = r.start + index } in
    let is : run_tokens src ms made ≡ take index (run_tokens src ms r) =
    basic_tokens src ms made b
    ∙ (ap (λ k. take k (drop r.start (place_tokens src r.place))) (let y : r.start + index - r.start ≡ index = omega arith in y)
    ∙ (sym (take_of_take index (r.end - r.start) (drop r.start (place_tokens src r.place)) (omega (arith, within)))
    ∙ ap (take index) (sym (basic_tokens src ms r b)))) in
    record {
      known = subst (IsRun src ms) (sym e) (basic_is_at src ms r.place r.start (r.start + index) r.start r.end b h (omega (arith, low)) (omega (arith, within, bounds.1)));
      whole = subst (λ (x : Run). IsWhole x.place) (sym e) (basic_whole r.place b);
      is = ap (run_tokens src ms) e ∙ is;
    }

-- the items of a run after an index
pub back_of : (src : Sources) (ms : List (List Token)) (r : Run) (index : ℕ) → IsBasic r.place → part (r.start + index + 1) r.end (place_tokens src r.place) ≡ drop (index + 1) (run_tokens src ms r)
back_of src ms r index b =
    let n : r.end - (r.start + index + 1) ≡ r.end - r.start - (index + 1) = omega arith in
    ap (λ k. take k (drop (r.start + index + 1) (place_tokens src r.place))) n
    ∙ (ap (take (r.end - r.start - (index + 1))) (ap (λ k. drop k (place_tokens src r.place)) (let y : r.start + index + 1 ≡ r.start + (index + 1) = omega arith in y)
    ∙ sym (drop-drop (index + 1) r.start (place_tokens src r.place)))
    ∙ (sym (drop_of_take (index + 1) (r.end - r.start) (drop r.start (place_tokens src r.place))) ∙ ap (drop (index + 1)) (sym (basic_tokens src ms r b))))

-- where an argument leaves its group
closes_at : (src : Sources) (ms : List (List Token)) (level : ℕ) (p : Place) (s e : ℕ) → IsRunAt src ms p s e → IsWhole p → is_opened p ≡ true → Closes level (tokens_at src ms p s e) (Open level)
closes_at src ms level Given s e h w o = absurd (true_not_false (sym o))
closes_at src ms level (Body n) s e h w o = absurd (true_not_false (sym o))
closes_at src ms level (Argument c) s e h w o = (omega arith, λ more. h.4 level more)
closes_at src ms level (Remainder c) s e h w o = absurd w

pub closes_argument : (src : Sources) (ms : List (List Token)) (level : ℕ) (r : Run) → IsRun src ms r → IsWhole r.place → is_opened r.place ≡ true → ClosesRun src ms level r (Open level)
closes_argument src ms level r h w o = closes_at src ms level r.place r.start r.end h w o

pub closes_basic : (src : Sources) (ms : List (List Token)) (level : ℕ) (r : Run) (xs : List Token) (c : Closing) → IsBasic r.place → xs ≡ run_tokens src ms r → Closes level xs c → ClosesRun src ms level r c
closes_basic src ms level r xs (At index) b e h = (b, subst (λ (ys : List Token). Closes level ys (At index)) e h)
closes_basic src ms level r xs (Open next) b e h = subst (λ (ys : List Token). Closes level ys (Open next)) e h

pub part_mapped : {T : Type 0} (f : T → Token) (s e : ℕ) (xs : List T) → map f (take (e - s) (drop s xs)) ≡ part s e (map f xs)
part_mapped f s e xs = sym (take-map f (e - s) (drop s xs)) ∙ ap (take (e - s)) (sym (drop-map f s xs))

-- tokens up to the end of a group in which they are
more_level : (m l : ℕ) (t : Token) (o c : Bool) → is_open t ≡ o → is_close t ≡ c → (m == 0) && is_close t ≡ false → level_after (m + l) t ≡ level_after m t + l
more_level m l t true c eo ec h = level_open (m + l) t eo ∙ ((let e : m + l + 1 ≡ (m + 1) + l = omega arith in e) ∙ ap (λ n. n + l) (sym (level_open m t eo)))
more_level zero l t false true eo ec h = absurd (true_not_false (sym ec ∙ h))
more_level (suc m) l t false true eo ec h = level_close (suc m + l) t eo ec ∙ ((let e : suc m + l - 1 ≡ (suc m - 1) + l = omega arith in e) ∙ ap (λ n. n + l) (sym (level_close (suc m) t eo ec)))
more_level m l t false false eo ec h = level_other (m + l) t eo ec ∙ ap (λ n. n + l) (sym (level_other m t eo ec))

not_closed : (m l : ℕ) (b : Bool) → (m == 0) && b ≡ false → (m + l == 0) && b ≡ false
not_closed zero zero b h = ap (λ n. (n == 0) && b) (let e : 0 + 0 ≡ 0 = omega arith in e) ∙ h
not_closed zero (suc l) b h = ap (λ n. (n == 0) && b) (let e : 0 + suc l ≡ suc l = omega arith in e) ∙ inside_not l b
not_closed (suc m) l b h = ap (λ n. (n == 0) && b) (let e : suc m + l ≡ suc (m + l) = omega arith in e) ∙ inside_not (m + l) b

shifted_first : (n : ℕ) (o : Option ℕ) → index_after_first (shifted n o) ≡ shifted (n + 1) o
shifted_first n None = refl
shifted_first n (Some p) = ap Some (let e : p + n + 1 ≡ p + (n + 1) = omega arith in e)

up_to_by : (m l : ℕ) (t : Token) (rest more : List Token) (n : ℕ) (b : Bool) → (m == 0) && is_close t ≡ b
    → ((k j : ℕ) → end_index k rest ≡ Some j → end_index (k + l) (take j rest ++ more) ≡ shifted j (end_index l more))
    → end_index m (t ∷ rest) ≡ Some n → end_index (m + l) (take n (t ∷ rest) ++ more) ≡ shifted n (end_index l more)
up_to_by zero l t rest more n true c again e =
    let z : 0 ≡ n = one_index 0 n (sym (end_here 0 t rest c) ∙ e) in
    subst (λ k. end_index (zero + l) (take k (t ∷ rest) ++ more) ≡ shifted k (end_index l more)) z (ap (λ k. end_index k more) (let y : 0 + l ≡ l = omega arith in y) ∙ shifted_none (end_index l more))
up_to_by (suc m) l t rest more n true c again e = absurd (true_not_false (sym c ∙ inside_not m (is_close t)))
up_to_by m l t rest more n false c again e =
    let f = first_of (end_index (level_after m t) rest) n (sym (end_on m t rest c) ∙ e) in
    let z : suc f.0 ≡ n = omega (arith, f.2) in
    subst (λ k. end_index (m + l) (take k (t ∷ rest) ++ more) ≡ shifted k (end_index l more)) z
    (end_on (m + l) t (take f.0 rest ++ more) (not_closed m l (is_close t) c)
    ∙ (ap (λ k. index_after_first (end_index k (take f.0 rest ++ more))) (more_level m l t _ _ refl refl c)
    ∙ (ap index_after_first (again (level_after m t) f.0 f.1)
    ∙ (shifted_first f.0 (end_index l more) ∙ ap (λ k. shifted k (end_index l more)) (let y : f.0 + 1 ≡ suc f.0 = omega arith in y)))))

up_to_end : (m l : ℕ) (xs more : List Token) (n : ℕ) → end_index m xs ≡ Some n → end_index (m + l) (take n xs ++ more) ≡ shifted n (end_index l more)
up_to_end m l [] more n e = absurd (cc)
up_to_end m l (t ∷ rest) more n e = up_to_by m l t rest more n _ refl (λ k j h. up_to_end k l rest more j h) e

end_inside : (xs : List Token) (n : ℕ) → end_index 0 xs ≡ Some n → n < length xs
end_inside xs n e = end_within 0 xs n e

argument_same : (a b : Taken) → (let o : Option Taken = Some a in o) ≡ Some b → a.argument ≡ b.argument
argument_same a b e = let same : a ≡ b = cc in ap (λ (x : Taken). x.argument) same

balanced_by : (xs : List Token) (o : Option ℕ) (taken : Taken) → end_index 0 xs ≡ o → from_end xs o ≡ Some taken → IsBalanced taken.argument
balanced_by xs None taken e f = absurd (cc)
balanced_by xs (Some n) taken e f =
    let same : take n xs ≡ taken.argument = argument_same _ taken f in
    subst IsBalanced same (λ level more.
    ap (λ k. end_index k (take n xs ++ more)) (let y : level ≡ 0 + level = omega arith in y) ∙ (up_to_end 0 level xs more n e ∙ ap (λ k. shifted k (end_index level more)) (sym (part_length n xs (let w = end_inside xs n e in omega (arith, w))))))

-- the tokens of a group are balanced
pub group_balanced : (xs : List Token) (taken : Taken) → group 0 xs ≡ Some taken → IsBalanced taken.argument
group_balanced xs taken e = balanced_by xs (end_index 0 xs) taken refl (sym (group_end 0 xs) ∙ e)

-- the items of a run
pub run_items : {T : Type 0} (f : T → Token) (src : Sources) (ms : List (List Token)) (r : Run) (items xs : List T) → IsBasic r.place → map f items ≡ place_tokens src r.place
    → xs ≡ part r.start r.end items → map f xs ≡ run_tokens src ms r
run_items f src ms r items xs b e p =
    ap (map f) p ∙ (part_mapped f r.start r.end items ∙ (ap (part r.start r.end) e ∙ sym (basic_tokens src ms r b)))

-- ends of lists of items
pub ends_next : {T : Type 0} (f : T → Token) (rest : List T) (x : T) (es es' : List ℕ) → 1 ≤ length rest → x ≡ get_or rest 0 x → AreEnds (map f rest) es → es' ≡ drop 1 es
    → AreEnds (map f (take (length rest - 1) (drop 1 rest))) es'
ends_next f rest x es es' h k a e =
    let after : List Token = map f (take (length rest - 1) (drop 1 rest)) in
    subst (AreEnds after) (sym e) (are_ends_drop 1 (f x ∷ after) es (subst (λ (ts : List Token). AreEnds ts es) (mapped_front f rest x h k) a))

pub ends_later : {T : Type 0} (f : T → Token) (after : List T) (n : ℕ) (es es' : List ℕ) → AreEnds (map f after) es → es' ≡ drop n es → AreEnds (map f (take (length after - n) (drop n after))) es'
ends_later f after n es es' a e =
    subst (λ (ts : List Token). AreEnds ts es') (sym (mapped_drop f after n)) (subst (AreEnds (drop n (map f after))) (sym e) (are_ends_drop n (map f after) es a))

pub leaving_later : {T : Type 0} (f : T → Token) (before level index end : ℕ) (first : List Token) (rest : List T) (x : T) → Leaving before first level index (map f rest) → 1 ≤ length rest → x ≡ get_or rest 0 x
    → (level == 0) && is_close (f x) ≡ false → is_open (f x) ≡ true → end < length (take (length rest - 1) (drop 1 rest)) → end_index 0 (map f (take (length rest - 1) (drop 1 rest))) ≡ Some end
    → Leaving before first level (index + (end + 2)) (map f (take (length (take (length rest - 1) (drop 1 rest)) - (end + 1)) (drop (end + 1) (take (length rest - 1) (drop 1 rest)))))
leaving_later f before level index end first rest x g h k c o w e =
    let after : List _ = take (length rest - 1) (drop 1 rest) in
    subst (Leaving before first level (index + (end + 2))) (sym (mapped_drop f after (end + 1)))
    (leaving_group before level index end first (map f rest) (map f after) (f x) g (mapped_front f rest x h k) c o (omega (arith, w, length-map after f)) e)

ends_at_place : (src : Sources) (p : Place) (s e : ℕ) (ends : List ℕ) → IsBasic p → AreEnds src.list ends → AreEnds (part s e (place_tokens src p)) (ends_at ends p s)
ends_at_place src Given s e ends b a = are_ends_take (e - s) (drop s src.list) (drop s ends) (are_ends_drop s src.list ends a)
ends_at_place src (Body n) s e ends b a = are_ends_none (part s e (src.body n))
ends_at_place src (Argument c) s e ends b a = absurd b
ends_at_place src (Remainder c) s e ends b a = absurd b

pub run_ends : {T : Type 0} (f : T → Token) (src : Sources) (r : Run) (items xs : List T) (ends known : List ℕ) → IsBasic r.place → map f items ≡ place_tokens src r.place
    → xs ≡ part r.start r.end items → AreEnds src.list ends → IsEndsOf ends r known → AreEnds (map f xs) known
run_ends f src r items xs ends known b e p a k =
    let same : map f xs ≡ part r.start r.end (place_tokens src r.place) = ap (map f) p ∙ (part_mapped f r.start r.end items ∙ ap (part r.start r.end) e) in
    subst (λ (ts : List Token). AreEnds ts known) (sym same) (subst (AreEnds (part r.start r.end (place_tokens src r.place))) (sym k) (ends_at_place src r.place r.start r.end ends b a))
