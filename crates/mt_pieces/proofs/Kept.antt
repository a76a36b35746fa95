-- Numbers of parts that have their layers.
use Rattle.std.proofs.Common.{ℕ, zero, suc, ℤ, pos, ◌^◌, List, [], ◌∷◌, ◌++◌, drop, reverse, sym, subst, arith}
use Rattle.std.specs.Int.{int_max}
use Rattle.std.proofs.lemmas.List.{reverse-append, reverse-reverse}
use Rattle.std.proofs.lemmas.Int.{ints, clamps}
use Rattle.mt_scaled.specs.Number.{Within}
use Rattle.mt_box.specs.declared.place.Place.{Place}
use Rattle.mt_box.specs.declared.marks.row.RowPart.{RowPart}
use Rattle.mt_box.specs.declared.marks.row.RowPart.TheVariants as part
use Rattle.mt_box.specs.marks.RowParts.{AllNearParts, part_height, part_depth, parts_max}
use Rattle.mt_pieces.specs.inner.Taken.{AllKept}
use Rattle.mt_pieces.specs.inner.View.{AreLaid}
use Rattle.mt_pieces.proofs.Split.{glyph_near, box_near}

none_within : Within (2 ^ 41) (pos 0)
none_within = record { low = omega (arith, ints); high = omega (arith, ints) }

pub laid_kept : (ps : List RowPart) (ms : List (List Place)) → AreLaid ps ms → AllKept ps
laid_kept [] ms h = tt
laid_kept (part.Glyph f c e ∷ ps) [] h = absurd h.0
laid_kept (part.Glyph f c e ∷ ps) (l ∷ ls) h = (
  record {
    near = glyph_near f c e l h.0;
    height = record { low = omega (arith, ints, h.0.height.low); high = omega (arith, ints, h.0.height.high) };
    depth = record { low = omega (arith, ints, h.0.depth.low); high = omega (arith, ints, h.0.depth.high) };
  },
  laid_kept ps ls h.1,
)
laid_kept (part.Layout p ∷ ps) [] h = absurd h.0
laid_kept (part.Layout p ∷ ps) (l ∷ ls) h = (
  record {
    near = box_near p h.0;
    height = record { low = omega (arith, ints, h.0.extents.height.low, h.0.raise.low); high = omega (arith, ints, h.0.extents.height.high, h.0.raise.high) };
    depth = record { low = omega (arith, ints, h.0.extents.depth.low, h.0.raise.high); high = omega (arith, ints, h.0.extents.depth.high, h.0.raise.low) };
  },
  laid_kept ps ls h.1,
)
laid_kept (part.Gap w ∷ ps) ms h = (record { near = h.0; height = none_within; depth = none_within }, laid_kept ps ms h.1)
laid_kept (part.Space w s ∷ ps) ms h = (record { near = h.0; height = none_within; depth = none_within }, laid_kept ps ms h.1)

kept_more : (ps qs : List RowPart) → AllKept ps → AllKept qs → AllKept (ps ++ qs)
kept_more [] qs h k = k
kept_more (p ∷ ps) qs h k = (h.0, kept_more ps qs h.1 k)

kept_back : (ps : List RowPart) → AllKept ps → AllKept (reverse ps)
kept_back [] h = tt
kept_back (p ∷ ps) h = subst AllKept (sym (reverse-append (p ∷ []) ps)) (kept_more (reverse ps) (p ∷ []) (kept_back ps h.1) (h.0, tt))

kept_drop : (n : ℕ) (ps : List RowPart) → AllKept ps → AllKept (drop n ps)
kept_drop zero ps h = h
kept_drop (suc n) [] h = tt
kept_drop (suc n) (p ∷ ps) h = kept_drop n ps h.1

-- of the parts from a number on
pub last_kept : (ps : List RowPart) (n : ℕ) (ms : List (List Place)) → AreLaid (reverse ps) ms → AllKept (drop n ps)
last_kept ps n ms h = kept_drop n ps (subst AllKept (reverse-reverse ps) (kept_back (reverse ps) (laid_kept (reverse ps) ms h)))

pub kept_near : (ps : List RowPart) → AllKept ps → AllNearParts ps
kept_near [] h = tt
kept_near (p ∷ ps) h = (h.0.near, kept_near ps h.1)

max_within : (f : RowPart → ℤ) (p : RowPart) (x : ℤ) → Within (2 ^ 41) (f p) → Within (2 ^ 41) x → Within (2 ^ 41) (int_max (f p) x)
max_within f p x h k = record { low = omega (arith, ints, clamps, h.low, k.low); high = omega (arith, ints, clamps, h.high, k.high) }

pub kept_height : (ps : List RowPart) → AllKept ps → Within (2 ^ 41) (parts_max part_height ps)
kept_height [] h = none_within
kept_height (p ∷ ps) h = max_within part_height p (parts_max part_height ps) h.0.height (kept_height ps h.1)

pub kept_depth : (ps : List RowPart) → AllKept ps → Within (2 ^ 41) (parts_max part_depth ps)
kept_depth [] h = none_within
kept_depth (p ∷ ps) h = max_within part_depth p (parts_max part_depth ps) h.0.depth (kept_depth ps h.1)
