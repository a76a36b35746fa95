use Rattle.std.proofs.Common.{◌≡◌, ◌∙◌, ap, sym, subst, arith, reverse, take}
use Rattle.std.proofs.lemmas.List.{take_all}
use Rattle.mt_box.specs.marks.Layers.{top}
use Rattle.mt_rules.specs.Limits.{limits}
use Rattle.mt_rules.specs.OnMarks.{BoxSetsOn}
use Rattle.mt_scripts.specs.LimitMarks.{limit_of}
use Rattle.mt_pieces.specs.inner.Taken.{extents_if, part_if}
use Rattle.mt_pieces.specs.inner.View.{AreLaid, pieces_back}
use Rattle.mt_pieces.proofs.Limited.{limited, told_limits}
use Rattle.mt_pieces.proofs.Settled.{packed_settled, settled_laid}
use Rattle.mt_pieces.proofs.Taken.{range_if}
use Rattle.mt_pieces.proofs.pieces.Pieces.limits.Goals as goal

pub limit_layers-made-requires-clause-nucleus : goal.limit_layers-made-requires-clause-nucleus
limit_layers-made-requires-clause-nucleus c =
    let t = c.in_ok-taken.taken in
    let parts = c.in_ok-taken.ensures.parts ∙ ap (λ z. part_if t.sub (part_if t.sup z)) c.in_ok-nucleus.ensures.parts in
    (limited t.sup t.sub c.in_ok-nucleus.nucleus (reverse c.take_box.new.parts.items) c.self.inside.marks (subst (λ z. AreLaid z c.self.inside.marks) parts c.self.invariant)).box.extents

pub limit_layers-made-requires-clause-sup : goal.limit_layers-made-requires-clause-sup
limit_layers-made-requires-clause-sup c =
    let t = c.in_ok-taken.taken in
    let parts = c.in_ok-taken.ensures.parts ∙ ap (λ z. part_if t.sub (part_if t.sup z)) c.in_ok-nucleus.ensures.parts in
    range_if t.sup (limited t.sup t.sub c.in_ok-nucleus.nucleus (reverse c.take_box.new.parts.items) c.self.inside.marks (subst (λ z. AreLaid z c.self.inside.marks) parts c.self.invariant)).sup_box

pub invariant_of-self-2 : goal.invariant_of-self-2
invariant_of-self-2 c =
    let t = c.in_ok-taken.taken in
    let ps = c.take_box.new.parts.items in
    let parts = c.in_ok-taken.ensures.parts ∙ ap (λ z. part_if t.sub (part_if t.sup z)) c.in_ok-nucleus.ensures.parts in
    let l = limited t.sup t.sub c.in_ok-nucleus.nucleus (reverse ps) c.self.inside.marks (subst (λ z. AreLaid z c.self.inside.marks) parts c.self.invariant) in
    let stack = c.in_ok-nucleus.ensures.marks ∙ (c.in_ok-taken.ensures.marks ∙ l.stack) in
    let made = c.limit_layers-made in
    let e = c.settle.ensures in
    let all : ps ≡ take c.len-keep.result ps = sym (take_all c.len-keep.result ps (omega (arith, c.len-keep.ensures))) in
    settled_laid made.result c.settle.result (take c.len-keep.result ps) c.settle.new.parts.items made.new.marks c.settle.new.marks l.under
    e.ok e.marks e.parts e.no_marks e.no_parts (made.ensures.rest l.nucleus l.above l.below l.under l.no_sup l.no_sub stack) made.ensures.in_range (subst (λ z. AreLaid (reverse z) l.under) all l.laid)

pub returns : goal.returns
returns c = λ rest n above below there e.
    let t = c.in_ok-taken.taken in
    let p = c.in_ok-nucleus.nucleus in
    let ps = c.take_box.new.parts.items in
    let ms = c.self.inside.marks in
    let parts = c.in_ok-taken.ensures.parts ∙ ap (λ z. part_if t.sub (part_if t.sup z)) c.in_ok-nucleus.ensures.parts in
    let l = limited t.sup t.sub p (reverse ps) ms (subst (λ z. AreLaid z ms) parts c.self.invariant) in
    let k = told_limits t.sup t.sub p l.nucleus l.above l.below (pieces_back (reverse ps) l.under) rest n above below (c.in_ok-taken.ensures.sup ∙ there.sup) (c.in_ok-taken.ensures.sub ∙ there.sub)
    (sym l.view ∙ (ap (λ z. pieces_back z ms) (sym parts) ∙ (c.self.view_is ∙ e))) in
    let stack = c.in_ok-nucleus.ensures.marks ∙ (c.in_ok-taken.ensures.marks ∙ l.stack) in
    let made = c.limit_layers-made in
    let set = c.settle.ensures in
    let is = made.ensures.is l.nucleus l.above l.below l.under l.no_sup l.no_sub stack in
    let one = subst (λ z. BoxSetsOn made.result (top made.new.marks) (limits c.args.fonts.now c.args.size z c.args.delta.sp (limit_of (extents_if t.sup) l.above) (limit_of (extents_if t.sub) l.below))) k.middle is in
    let two = subst (λ z. BoxSetsOn made.result (top made.new.marks) (limits c.args.fonts.now c.args.size n c.args.delta.sp z (limit_of (extents_if t.sub) l.below))) (sym k.over) one in
    let three = subst (λ z. BoxSetsOn made.result (top made.new.marks) (limits c.args.fonts.now c.args.size n c.args.delta.sp above z)) (sym k.lower) two in
    let all : ps ≡ take c.len-keep.result ps = sym (take_all c.len-keep.result ps (omega (arith, c.len-keep.ensures))) in
    packed_settled made.result c.settle.result (take c.len-keep.result ps) c.settle.new.parts.items made.new.marks c.settle.new.marks l.under
    rest (limits c.args.fonts.now c.args.size n c.args.delta.sp above below) three (made.ensures.rest l.nucleus l.above l.below l.under l.no_sup l.no_sub stack) set.marks set.parts set.fault set.memory
    (ap (λ z. pieces_back (reverse z) l.under) (sym all) ∙ k.same)
