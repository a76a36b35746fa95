-- The last pieces, and those before them.
use Rattle.std.proofs.Common.{◌≡◌, ℕ, ℤ, pos, ◌+ℤ◌, ◌^◌, ◌≤◌, List, [], ◌∷◌, ◌++◌, length, reverse, take, drop, append_assoc, inl, inr, refl, sym, ◌∙◌, ap, subst, arith}
use Rattle.std.proofs.lemmas.List.{append-nil, reverse-append, reverse-reverse, take-append-drop, length-take-le, length-drop, length-reverse, take_all, drop_all, take_at, drop_at}
use Rattle.std.proofs.lemmas.Bool.{cases_lt}
use Rattle.std.proofs.lemmas.Int.{ints}
use Rattle.mt_scaled.specs.Number.{Within}
use Rattle.mt_box.specs.declared.place.Place.{Place}
use Rattle.mt_box.specs.declared.place.Place.TheVariants.{Glyph}
use Rattle.mt_box.specs.declared.extents.Extents.{Extents}
use Rattle.mt_box.specs.declared.marks.row.RowPiece.{RowPiece}
use Rattle.mt_box.specs.declared.marks.row.RowPart.{RowPart}
use Rattle.mt_box.specs.declared.marks.row.RowPart.TheVariants as part
use Rattle.mt_box.specs.Layout.{all_moved}
use Rattle.mt_box.specs.Rows.{PieceValue, PieceGlyph, PieceBox, PieceKern, PieceSpace}
use Rattle.mt_box.specs.marks.Layers.{top}
use Rattle.mt_box.specs.marks.RowParts.{AreParts, IsPieceOf, IsGapOf, IsNear, AllNearParts, glyph_piece, on_stack}
use Rattle.mt_rules.specs.OnMarks.{layout_with}
use Rattle.mt_pieces.specs.inner.View.{AreLaid, IsGlyphLaid, IsBoxLaid, piece_of, pieces_back, under}
use Rattle.mt_pieces.proofs.Laid.{length_back}

are_more : (ms ns : List PieceValue) (ps qs : List RowPart) (ls ks : List (List Place)) → AreParts ms ps ls → AreParts ns qs ks → AreParts (ms ++ ns) (ps ++ qs) (ls ++ ks)
are_more [] ns [] qs [] ks h k = k
are_more [] ns [] qs (l ∷ ls) ks h k = absurd h
are_more [] ns (p ∷ ps) qs ls ks h k = absurd h
are_more (m ∷ ms) ns [] qs ls ks h k = absurd h
are_more (m ∷ ms) ns (part.Glyph f c e ∷ ps) qs [] ks h k = absurd h
are_more (m ∷ ms) ns (part.Glyph f c e ∷ ps) qs (l ∷ ls) ks h k = (h.0, are_more ms ns ps qs ls ks h.1 k)
are_more (m ∷ ms) ns (part.Layout p ∷ ps) qs [] ks h k = absurd h
are_more (m ∷ ms) ns (part.Layout p ∷ ps) qs (l ∷ ls) ks h k = (h.0, are_more ms ns ps qs ls ks h.1 k)
are_more (m ∷ ms) ns (part.Gap w ∷ ps) qs ls ks h k = (h.0, are_more ms ns ps qs ls ks h.1 k)
are_more (m ∷ ms) ns (part.Space w s ∷ ps) qs ls ks h k = (h.0, are_more ms ns ps qs ls ks h.1 k)

near_more : (ps qs : List RowPart) → AllNearParts ps → AllNearParts qs → AllNearParts (ps ++ qs)
near_more [] qs h k = k
near_more (p ∷ ps) qs h k = (h.0, near_more ps qs h.1 k)

stack_more : (ls : List (List Place)) (l : List Place) (rest : List (List Place)) → on_stack (ls ++ l ∷ []) rest ≡ l ∷ on_stack ls rest
stack_more [] l rest = refl
stack_more (k ∷ ls) l rest = stack_more ls l (k ∷ rest)

-- the layers of the last parts, in their order, on those of the others
pub record Back (bs fs : List RowPart) (ls : List (List Place)) : Type 0 where
  pub layers : List (List Place)
  pub below : List (List Place)
  pub are : AreParts (pieces_back bs ls) (reverse bs) layers
  pub near : AllNearParts (reverse bs)
  pub stack : ls ≡ on_stack layers below
  pub laid : AreLaid fs below
  pub whole : pieces_back (bs ++ fs) ls ≡ pieces_back fs below ++ pieces_back bs ls

-- a character's mark moved to its place
glyph_moved : (f c : ℕ) (l : List Place) (x : ℤ) → l ≡ Glyph f c (pos 0) (pos 0) ∷ [] → all_moved x (pos 0) l ≡ Glyph f c x (pos 0) ∷ []
glyph_moved f c l x e =
    let z : pos 0 +ℤ x ≡ x = omega (arith, ints) in
    ap (all_moved x (pos 0)) e ∙ ap (λ z. Glyph f c z (pos 0) ∷ []) z

glyph_is : (f c : ℕ) (e : Extents) (l : List Place) → IsGlyphLaid f c e l → IsPieceOf (PieceGlyph f c e) (glyph_piece e) l
glyph_is f c e l h = record {
  width = refl;
  height = omega (arith, ints);
  depth = omega (arith, ints);
  places = λ x. glyph_moved f c l x h.places;
}

box_is : (p : RowPiece) (l : List Place) → IsPieceOf (PieceBox p.raise (layout_with p.extents l)) p l
box_is p l = record { width = refl; height = refl; depth = refl; places = λ x. refl }

wider : (z : ℤ) → Within (2 ^ 40) z → Within (2 ^ 48) z
wider z h = record { low = omega (arith, ints, h.low); high = omega (arith, ints, h.high) }

pub glyph_near : (f c : ℕ) (e : Extents) (l : List Place) → IsGlyphLaid f c e l → IsNear (glyph_piece e)
glyph_near f c e l h = record {
  width = h.width;
  height = wider e.height h.height;
  depth = wider e.depth h.depth;
  raise = record { low = omega (arith, ints); high = omega (arith, ints) };
}

pub box_near : (p : RowPiece) → IsBoxLaid p → IsNear p
box_near p h = record {
  width = record { low = omega (arith, ints, h.extents.width.low); high = omega (arith, ints, h.extents.width.high) };
  height = record { low = omega (arith, ints, h.extents.height.low); high = omega (arith, ints, h.extents.height.high) };
  depth = record { low = omega (arith, ints, h.extents.depth.low); high = omega (arith, ints, h.extents.depth.high) };
  raise = wider p.raise h.raise;
}

first_last : (b : RowPart) (bs : List RowPart) → reverse bs ++ b ∷ [] ≡ reverse (b ∷ bs)
first_last b bs = sym (reverse-append (b ∷ []) bs)

whole_more : (b : RowPart) (bs fs : List RowPart) (ls below : List (List Place)) → pieces_back (bs ++ fs) (under b ls) ≡ pieces_back fs below ++ pieces_back bs (under b ls)
    → pieces_back (b ∷ bs ++ fs) ls ≡ pieces_back fs below ++ pieces_back (b ∷ bs) ls
whole_more b bs fs ls below e = ap (λ r. r ++ piece_of b (top ls) ∷ []) e ∙ append_assoc (pieces_back fs below) (pieces_back bs (under b ls)) (piece_of b (top ls) ∷ [])

pub back_of : (bs fs : List RowPart) (ls : List (List Place)) → AreLaid (bs ++ fs) ls → Back bs fs ls
back_of [] fs ls h = record { layers = []; below = ls; are = tt; near = tt; stack = refl; laid = h; whole = sym (append-nil (pieces_back fs ls)) }
back_of (part.Glyph f c e ∷ bs) fs [] h = absurd h.0
back_of (part.Glyph f c e ∷ bs) fs (l ∷ ls) h =
    let b = back_of bs fs ls h.1 in
    let p : RowPart = part.Glyph f c e in
    record {
      layers = b.layers ++ l ∷ [];
      below = b.below;
      are = subst (λ z. AreParts (pieces_back (p ∷ bs) (l ∷ ls)) z (b.layers ++ l ∷ [])) (first_last p bs)
          (are_more (pieces_back bs ls) (PieceGlyph f c e ∷ []) (reverse bs) (p ∷ []) b.layers (l ∷ []) b.are (glyph_is f c e l h.0, tt));
      near = subst AllNearParts (first_last p bs) (near_more (reverse bs) (p ∷ []) b.near (glyph_near f c e l h.0, tt));
      stack = ap (λ z. l ∷ z) b.stack ∙ sym (stack_more b.layers l b.below);
      laid = b.laid;
      whole = whole_more p bs fs (l ∷ ls) b.below b.whole;
    }
back_of (part.Layout q ∷ bs) fs [] h = absurd h.0
back_of (part.Layout q ∷ bs) fs (l ∷ ls) h =
    let b = back_of bs fs ls h.1 in
    let p : RowPart = part.Layout q in
    record {
      layers = b.layers ++ l ∷ [];
      below = b.below;
      are = subst (λ z. AreParts (pieces_back (p ∷ bs) (l ∷ ls)) z (b.layers ++ l ∷ [])) (first_last p bs)
          (are_more (pieces_back bs ls) (PieceBox q.raise (layout_with q.extents l) ∷ []) (reverse bs) (p ∷ []) b.layers (l ∷ []) b.are (box_is q l, tt));
      near = subst AllNearParts (first_last p bs) (near_more (reverse bs) (p ∷ []) b.near (box_near q h.0, tt));
      stack = ap (λ z. l ∷ z) b.stack ∙ sym (stack_more b.layers l b.below);
      laid = b.laid;
      whole = whole_more p bs fs (l ∷ ls) b.below b.whole;
    }
back_of (part.Gap w ∷ bs) fs ls h =
    let b = back_of bs fs ls h.1 in
    let p : RowPart = part.Gap w in
    let gap : IsGapOf (PieceKern w) w = record { width = refl; height = refl; depth = refl; places = λ x. refl } in
    record {
      layers = b.layers;
      below = b.below;
      are = subst (λ z. AreParts (pieces_back (p ∷ bs) ls) z b.layers) (first_last p bs)
          (subst (λ z. AreParts (pieces_back (p ∷ bs) ls) (reverse bs ++ p ∷ []) z) (append-nil b.layers)
          (are_more (pieces_back bs ls) (PieceKern w ∷ []) (reverse bs) (p ∷ []) b.layers [] b.are (gap, tt)));
      near = subst AllNearParts (first_last p bs) (near_more (reverse bs) (p ∷ []) b.near (h.0, tt));
      stack = b.stack;
      laid = b.laid;
      whole = whole_more p bs fs ls b.below b.whole;
    }
back_of (part.Space w s ∷ bs) fs ls h =
    let b = back_of bs fs ls h.1 in
    let p : RowPart = part.Space w s in
    let gap : IsGapOf (PieceSpace w s) w = record { width = refl; height = refl; depth = refl; places = λ x. refl } in
    record {
      layers = b.layers;
      below = b.below;
      are = subst (λ z. AreParts (pieces_back (p ∷ bs) ls) z b.layers) (first_last p bs)
          (subst (λ z. AreParts (pieces_back (p ∷ bs) ls) (reverse bs ++ p ∷ []) z) (append-nil b.layers)
          (are_more (pieces_back bs ls) (PieceSpace w s ∷ []) (reverse bs) (p ∷ []) b.layers [] b.are (gap, tt)));
      near = subst AllNearParts (first_last p bs) (near_more (reverse bs) (p ∷ []) b.near (h.0, tt));
      stack = b.stack;
      laid = b.laid;
      whole = whole_more p bs fs ls b.below b.whole;
    }

-- the pieces from a number on, and those before it
pub record Split (ps : List RowPart) (n : ℕ) (ls : List (List Place)) (now : List PieceValue) : Type 0 where
  pub layers : List (List Place)
  pub below : List (List Place)
  pub are : AreParts (drop n now) (drop n ps) layers
  pub near : AllNearParts (drop n ps)
  pub stack : ls ≡ on_stack layers below
  pub laid : AreLaid (reverse (take n ps)) below
  pub back : pieces_back (reverse (drop n ps)) ls ≡ drop n now
  pub all : AreLaid (reverse (drop n ps) ++ reverse (take n ps)) ls
  pub front : pieces_back (reverse (take n ps)) below ≡ take n now

split_within : (ps : List RowPart) (n : ℕ) (ls : List (List Place)) (now : List PieceValue) → n ≤ length ps → AreLaid (reverse ps) ls → pieces_back (reverse ps) ls ≡ now → Split ps n ls now
split_within ps n ls now few h e =
    let bs = reverse (drop n ps) in
    let fs = reverse (take n ps) in
    let r : reverse ps ≡ bs ++ fs = ap reverse (sym (take-append-drop n ps)) ∙ reverse-append (take n ps) (drop n ps) in
    let b = back_of bs fs ls (subst (λ z. AreLaid z ls) r h) in
    let w : now ≡ pieces_back fs b.below ++ pieces_back bs ls = sym e ∙ (ap (λ z. pieces_back z ls) r ∙ b.whole) in
    let k : length (pieces_back fs b.below) ≡ n = length_back fs b.below ∙ (length-reverse (take n ps) ∙ length-take-le n ps few) in
    let back : pieces_back bs ls ≡ drop n now = sym (ap (drop n) w ∙ drop_at (pieces_back fs b.below) (pieces_back bs ls) n k) in
    let same : reverse bs ≡ drop n ps = reverse-reverse (drop n ps) in
    record {
      layers = b.layers;
      below = b.below;
      are = subst (λ z. AreParts z (drop n ps) b.layers) back (subst (λ z. AreParts (pieces_back bs ls) z b.layers) same b.are);
      near = subst AllNearParts same b.near;
      stack = b.stack;
      laid = b.laid;
      back = back;
      all = subst (λ z. AreLaid z ls) r h;
      front = sym (ap (take n) w ∙ take_at (pieces_back fs b.below) (pieces_back bs ls) n k);
    }

pub split_at : (ps : List RowPart) (n : ℕ) (ls : List (List Place)) (now : List PieceValue) → AreLaid (reverse ps) ls → pieces_back (reverse ps) ls ≡ now → Split ps n ls now
split_at ps n ls now h e = elim (cases_lt n (length ps)) [ inl few ↦ split_within ps n ls now (omega (arith, few)) h e | inr many ↦ beyond many ]
  where
    beyond : length ps ≤ n → Split ps n ls now
    beyond many =
        let s = split_within ps (length ps) ls now (omega arith) h e in
        let k : length now ≡ length ps = sym (ap length e) ∙ (length_back (reverse ps) ls ∙ length-reverse ps) in
        let none_left : drop (length ps) now ≡ drop n now = drop_all (length ps) now (omega (arith, k)) ∙ sym (drop_all n now (omega (arith, k, many))) in
        let none : drop (length ps) ps ≡ drop n ps = drop_all (length ps) ps (omega arith) ∙ sym (drop_all n ps many) in
        let all : take (length ps) ps ≡ take n ps = take_all (length ps) ps (omega arith) ∙ sym (take_all n ps many) in
        record {
          layers = s.layers;
          below = s.below;
          are = subst (λ z. AreParts z (drop n ps) s.layers) none_left
              (subst (λ z. AreParts (drop (length ps) now) z s.layers) none s.are);
          near = subst AllNearParts none s.near;
          stack = s.stack;
          laid = subst (λ z. AreLaid (reverse z) s.below) all s.laid;
          back = sym (ap (λ z. pieces_back (reverse z) ls) none) ∙ (s.back ∙ none_left);
          all = subst (λ z. AreLaid (reverse z ++ reverse (take n ps)) ls) none (subst (λ z. AreLaid (reverse (drop (length ps) ps) ++ reverse z) ls) all s.all);
          front = sym (ap (λ z. pieces_back (reverse z) s.below) all) ∙ (s.front ∙ (take_all (length ps) now (omega (arith, k)) ∙ sym (take_all n now (omega (arith, k, many)))));
        }

-- so many parts as pieces
pub few_parts : {most : ℕ} (ps qs : List RowPart) (n : ℕ) (ls : List (List Place)) (now : List PieceValue) → pieces_back (reverse ps) ls ≡ now → qs ≡ drop n ps → length (drop n now) ≤ most → length qs ≤ most
few_parts {most} ps qs n ls now e q few =
    omega (arith, ap length q, length-drop n ps, length-drop n now, sym (ap length e) ∙ (length_back (reverse ps) ls ∙ length-reverse ps), few)
