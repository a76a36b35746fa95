-- How far the nodes of a layout are numbered.
use Rattle.std.proofs.Common.{◌≡◌, ℕ, ◌<◌, ◌≤◌, ◌+◌, List, [], ◌∷◌, ◌++◌, length, set, get_or, refl, arith, append_assoc, length-append, sym, ◌∙◌, ap, subst}
use Rattle.std.proofs.lemmas.List.{get_or_at, set_at}
use Rattle.std.proofs.lemmas.List.Elements.{All-head, All-tail}
use Rattle.mt_scaled.specs.Number.{Within}
use Rattle.mt_box.specs.declared.node.Node.{Node}
use Rattle.mt_box.specs.inner.Boxes.{reach}
use Rattle.mt_box.specs.inner.Nodes.{node_places, HasMark, AreMarks, AreFlat}
use Rattle.mt_box.proofs.Lists.{nil_right}
use Rattle.mt_box.proofs.NodePlaces.{places_append}

-- the first i nodes have their numbers
pub record Numbering (old now : List Node) (i : ℕ) : Type 0 where
  pub front : List Node
  pub rest : List Node
  pub is : now ≡ front ++ rest
  pub here : length front ≡ i
  pub flat : AreFlat (reach 0) 0 front
  pub marks : AreMarks rest
  pub same : node_places (front ++ rest) ≡ node_places old

pub numbering_start : (nodes : List Node) → AreMarks nodes → Numbering nodes nodes 0
numbering_start nodes h = record { front = []; rest = nodes; is = refl; here = refl; flat = tt; marks = h; same = refl }

flat_last : (i k : ℕ) (ns : List Node) (n : Node) → AreFlat (reach 0) i ns → i + length ns ≡ k → AreFlat (reach 0) k (n ∷ []) → AreFlat (reach 0) i (ns ++ n ∷ [])
flat_last i k [] n h e l = subst (λ j. AreFlat (reach 0) j (n ∷ [])) (let f : k ≡ i = omega (arith, e) in f) l
flat_last i k (m ∷ ms) n h e l = (h.0, h.1, h.2, flat_last (i + 1) k ms n h.3 (omega (arith, e)) l)

pub numbering_step : (old now : List Node) (i : ℕ) (n d : Node) → Numbering old now i → i < length now → d ≡ get_or now i d → n ≡ record { x = d.x; y = d.y; mark = d.mark; after = record { 0 = i + 1 } } → Within (reach 0) d.x
    → Numbering old (set now i n) (i + 1)
numbering_step old now i n d p low at e near = by_rest p.rest p.is p.marks p.same
  where
    by_rest : (rest : List Node) → now ≡ p.front ++ rest → AreMarks rest → node_places (p.front ++ rest) ≡ node_places old → Numbering old (set now i n) (i + 1)
    by_rest [] is h same = absurd (omega (arith, low, ap length (is ∙ nil_right p.front), p.here))
    by_rest (m ∷ ms) is h same =
        let first : d ≡ m = at ∙ ap (λ (r : List Node). get_or r i d) is ∙ get_or_at p.front m ms d i p.here in
        let own : n ≡ record { x = m.x; y = m.y; mark = m.mark; after = record { 0 = i + 1 } } = rw (← first) e in
        let new : set now i n ≡ p.front ++ n ∷ ms = ap (λ (r : List Node). set r i n) is ∙ set_at p.front m ms n i p.here in
        let close : Within (reach 0) m.x = rw (← first) near in
        record {
          front = p.front ++ n ∷ [];
          rest = ms;
          is = new ∙ sym (append_assoc p.front (n ∷ []) ms);
          here = length-append p.front (n ∷ []) ∙ omega (arith, p.here);
          flat = flat_last 0 i p.front n p.flat (omega (arith, p.here)) (rw own (refl, close, All-head HasMark m ms h, tt));
          marks = All-tail HasMark m ms h;
          same = ap node_places (append_assoc p.front (n ∷ []) ms) ∙ (places_append p.front (n ∷ ms) ∙ (rw own (sym (places_append p.front (m ∷ ms))) ∙ same));
        }

pub numbering_end : (old now : List Node) (i : ℕ) → (p : Numbering old now i) → length now ≤ i → now ≡ p.front
numbering_end old now i p le = by_rest p.rest p.is
  where
    by_rest : (rest : List Node) → now ≡ p.front ++ rest → now ≡ p.front
    by_rest [] is = is ∙ nil_right p.front
    by_rest (m ∷ ms) is = absurd (omega (arith, le, p.here, ap length is, length-append p.front (m ∷ ms)))
