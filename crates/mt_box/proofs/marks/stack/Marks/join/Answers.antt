use Rattle.std.proofs.Common.{◌∙◌, ap, sym, length, reverse, arith, ◌≤◌}
use Rattle.std.proofs.lemmas.List.{length-reverse}
use Rattle.mt_box.specs.marks.Layers.{joined}
use Rattle.mt_box.proofs.layers.LayerCalls.{join_now}
use Rattle.mt_box.proofs.layers.StartLists.{alone_joined}
use Rattle.mt_box.proofs.marks.stack.Marks.join.Goals as goal

pub invariant_of-self : goal.invariant_of-self
invariant_of-self c =
    let low : 2 ≤ length c.self.inside.starts.items = omega (arith, c.len-count.ensures, c.self.inside.starts.ok.0, c.if-count-ge2.true) in
    record {
      marks = c.self.invariant.marks;
      starts = (join_now c.self.inside.nodes.items c.self.inside.starts.items _ low c.self.invariant.starts (c.truncate.ensures.items ∙ cc)).fall;
    }

pub returns-then-count-ge2 : goal.returns-then-count-ge2
returns-then-count-ge2 c =
    let low : 2 ≤ length c.self.inside.starts.items = omega (arith, c.len-count.ensures, c.self.inside.starts.ok.0, c.if-count-ge2.true) in
    (join_now c.self.inside.nodes.items c.self.inside.starts.items _ low c.self.invariant.starts (c.truncate.ensures.items ∙ cc)).view_is ∙ ap joined c.self.view_is

pub returns-else-count-ge2 : goal.returns-else-count-ge2
returns-else-count-ge2 c =
    let few : length (reverse c.self.inside.starts.items) ≤ 1 = omega (arith, length-reverse c.self.inside.starts.items, c.len-count.ensures, c.self.inside.starts.ok.0, c.if-count-ge2.false) in
    sym c.self.view_is ∙ (alone_joined c.self.inside.nodes.items (reverse c.self.inside.starts.items) few ∙ ap joined c.self.view_is)
