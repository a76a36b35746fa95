-- The places of nodes, and of nodes moved.
use Rattle.std.proofs.Common.{◌≡◌, ℕ, zero, suc, List, [], ◌∷◌, ◌++◌, length, take, drop, ℤ, pos, ◌+ℤ◌, ◌-ℤ◌, refl, arith, append_assoc, sym, ◌∙◌, ap, subst}
use Rattle.std.proofs.lemmas.Int.{ints}
use Rattle.std.proofs.lemmas.List.Elements.{All-append, All-take, All-drop}
use Rattle.mt_box.specs.Layout.{all_moved}
use Rattle.mt_box.specs.Placing.{lowered, all_lowered}
use Rattle.mt_box.specs.declared.place.Place.{Place}
use Rattle.mt_box.specs.declared.place.Place.TheVariants.{Glyph}
use Rattle.mt_box.specs.declared.node.Node.{Node}
use Rattle.mt_box.specs.declared.node.Mark.{Mark}
use Rattle.mt_box.specs.declared.node.Mark.TheVariants as mark
use Rattle.mt_box.specs.Unfold.{marks, stacked}
use Rattle.mt_box.specs.inner.Nodes.{node_places, nodes_moved, HasMark, AreMarks}
use Rattle.mt_box.proofs.Moved.{moved_append}

-- ---- the places of a mark, moved

glyph_before : {f c : ℕ} {h v w : ℤ} {ps qs : List Place} → v ≡ w → ps ≡ qs → (Glyph f c h v ∷ ps) ≡ Glyph f c h w ∷ qs
glyph_before p q = cc

pub marks_at : (m : Mark) {h h' v v' : ℤ} → h ≡ h' → v ≡ v' → marks m h v ≡ marks m h' v'
marks_at m p q = cc

stacked_at : (font code : ℕ) (step : ℤ) (n : ℕ) (h : ℤ) {v v' : ℤ} → v ≡ v' → stacked font code step n h v ≡ stacked font code step n h v'
stacked_at font code step n h e = cc

stacked_moved : (x y : ℤ) (font code : ℕ) (step : ℤ) (n : ℕ) (h v : ℤ) → all_moved x y (stacked font code step n h v) ≡ stacked font code step n (h +ℤ x) (v -ℤ y)
stacked_moved x y font code step zero h v = refl
stacked_moved x y font code step (suc n) h v =
    glyph_before refl (stacked_moved x y font code step n h (v +ℤ step) ∙ stacked_at font code step n (h +ℤ x) (omega (arith, ints)))

marks_moved : (x y h v : ℤ) (m : Mark) → all_moved x y (marks m h v) ≡ marks m (h +ℤ x) (v -ℤ y)
marks_moved x y h v mark.Group = refl
marks_moved x y h v (mark.Glyph font code) = refl
marks_moved x y h v (mark.Rule height width) = refl
marks_moved x y h v (mark.Stack font code step n) = stacked_moved x y font code step n h v

stacked_lowered : (x y : ℤ) (font code : ℕ) (step : ℤ) (n : ℕ) (h v : ℤ) → all_lowered x y (stacked font code step n h v) ≡ stacked font code step n (x +ℤ h) (y +ℤ v)
stacked_lowered x y font code step zero h v = refl
stacked_lowered x y font code step (suc n) h v =
    glyph_before refl (stacked_lowered x y font code step n h (v +ℤ step) ∙ stacked_at font code step n (x +ℤ h) (omega (arith, ints)))

marks_lowered : (x y h v : ℤ) (m : Mark) → all_lowered x y (marks m h v) ≡ marks m (x +ℤ h) (y +ℤ v)
marks_lowered x y h v mark.Group = refl
marks_lowered x y h v (mark.Glyph font code) = refl
marks_lowered x y h v (mark.Rule height width) = refl
marks_lowered x y h v (mark.Stack font code step n) = stacked_lowered x y font code step n h v

-- ---- the places of nodes

pub places_append : (ns ms : List Node) → node_places (ns ++ ms) ≡ node_places ns ++ node_places ms
places_append [] ms = refl
places_append (n ∷ ns) ms = ap (λ r. marks n.mark n.x (pos 0 -ℤ n.y) ++ r) (places_append ns ms) ∙ sym (append_assoc (marks n.mark n.x (pos 0 -ℤ n.y)) (node_places ns) (node_places ms))

pub places_moved : (x y : ℤ) (ns : List Node) → node_places (nodes_moved x y ns) ≡ all_moved x y (node_places ns)
places_moved x y [] = refl
places_moved x y (n ∷ ns) =
    let up : (pos 0 -ℤ n.y) -ℤ y ≡ pos 0 -ℤ (n.y +ℤ y) = omega (arith, ints) in
    let one : all_moved x y (marks n.mark n.x (pos 0 -ℤ n.y)) ≡ marks n.mark (n.x +ℤ x) (pos 0 -ℤ (n.y +ℤ y)) =
    marks_moved x y n.x (pos 0 -ℤ n.y) n.mark ∙ ap (λ v. marks n.mark (n.x +ℤ x) v) up in
    ap (λ r. marks n.mark (n.x +ℤ x) (pos 0 -ℤ (n.y +ℤ y)) ++ r) (places_moved x y ns)
    ∙ (ap (λ r. r ++ all_moved x y (node_places ns)) (sym one)
    ∙ sym (moved_append x y (marks n.mark n.x (pos 0 -ℤ n.y)) (node_places ns)))

lowered_append : (x y : ℤ) (ps qs : List Place) → all_lowered x y (ps ++ qs) ≡ all_lowered x y ps ++ all_lowered x y qs
lowered_append x y [] qs = refl
lowered_append x y (p ∷ ps) qs = ap (λ r. lowered x y p ∷ r) (lowered_append x y ps qs)

-- on a page the first node's places come first
pub first_lowered : (h v : ℤ) (n : Node) (ns : List Node) → all_lowered h v (node_places (n ∷ ns)) ≡ marks n.mark (h +ℤ n.x) (v -ℤ n.y) ++ all_lowered h v (node_places ns)
first_lowered h v n ns =
    let down : v +ℤ (pos 0 -ℤ n.y) ≡ v -ℤ n.y = omega (arith, ints) in
    lowered_append h v (marks n.mark n.x (pos 0 -ℤ n.y)) (node_places ns)
    ∙ ap (λ r. r ++ all_lowered h v (node_places ns)) (marks_lowered h v n.x (pos 0 -ℤ n.y) n.mark ∙ ap (λ z. marks n.mark (h +ℤ n.x) z) down)

-- ---- they are marks

-- after a write to a part of a list
pub kept_around : (xs items new : List Node) (a k n : ℕ) → xs ≡ items → AreMarks items → (AreMarks (take k (drop a xs)) → AreMarks new)
    → AreMarks (take n ((take a xs ++ (new ++ drop k (drop a xs))) ++ drop (length (take a xs ++ (new ++ drop k (drop a xs)))) items))
kept_around xs items new a k n e h f =
    let all : AreMarks xs = subst AreMarks (sym e) h in
    let rest = All-drop HasMark a xs all in
    let whole = take a xs ++ (new ++ drop k (drop a xs)) in
    All-take HasMark n (whole ++ drop (length whole) items) (All-append HasMark whole (drop (length whole) items)
    (All-append HasMark (take a xs) (new ++ drop k (drop a xs)) (All-take HasMark a xs all) (All-append HasMark new (drop k (drop a xs)) (f (All-take HasMark k (drop a xs) rest)) (All-drop HasMark k (drop a xs) rest)))
    (All-drop HasMark (length whole) items h))
