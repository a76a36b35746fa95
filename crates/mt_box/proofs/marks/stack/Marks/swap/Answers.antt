use Rattle.std.proofs.Common.{◌∙◌, ap, sym, length, reverse, arith, ◌≤◌, ◌+◌}
use Rattle.std.proofs.lemmas.List.{length-reverse}
use Rattle.mt_box.specs.marks.Layers.{swapped_layers}
use Rattle.mt_box.proofs.layers.StartLists.{alone_swapped}
use Rattle.mt_box.proofs.layers.LayerCalls.{found_two, swap_now}
use Rattle.mt_box.proofs.marks.stack.Marks.swap.Goals as goal

pub returns-in_default : goal.returns-in_default
returns-in_default c =
    let few : length (reverse c.self.inside.starts.items) ≤ c.args.under + 1 = omega (arith, length-reverse c.self.inside.starts.items, c.in_default.ensures.none, ap length c.deref.ensures.value) in
    sym c.self.view_is ∙ (alone_swapped c.args.under c.self.inside.nodes.items (reverse c.self.inside.starts.items) few ∙ ap (swapped_layers c.args.under) c.self.view_is)

pub returns-in_default-bounds_of : goal.returns-in_default-bounds_of
returns-in_default-bounds_of c =
    let few : length (reverse c.self.inside.starts.items) ≤ c.args.under + 1 = omega (arith, length-reverse c.self.inside.starts.items, c.in_default-bounds_of.ensures.none, ap length c.deref-2.ensures.value) in
    sym c.self.view_is ∙ (alone_swapped c.args.under c.self.inside.nodes.items (reverse c.self.inside.starts.items) few ∙ ap (swapped_layers c.args.under) c.self.view_is)

pub turn_range-requires : goal.turn_range-requires
turn_range-requires c =
    let u = rw (c.deref.ensures.value) at c.in-Some.ensures in
    let w = rw (c.deref-2.ensures.value) at c.in-Some-bounds_of.ensures in
    let p = found_two c.self.inside.nodes.items c.self.inside.starts.items c.args.under _ _ _ _ (c.len-end.ensures ∙ c.self.inside.nodes.ok.0) c.self.invariant.starts w.some w.start u.start u.end in
    record { start = omega (arith, p.start, p.middle); middle = omega (arith, p.middle, p.end); end = p.cut.high }

pub overflow_sub-upper : goal.overflow_sub-upper
overflow_sub-upper c =
    let u = rw (c.deref.ensures.value) at c.in-Some.ensures in
    let w = rw (c.deref-2.ensures.value) at c.in-Some-bounds_of.ensures in
    let p = found_two c.self.inside.nodes.items c.self.inside.starts.items c.args.under _ _ _ _ (c.len-end.ensures ∙ c.self.inside.nodes.ok.0) c.self.invariant.starts w.some w.start u.start u.end in
    omega (arith, p.middle, p.end)

pub overflow_add-lower : goal.overflow_add-lower
overflow_add-lower c =
    let u = rw (c.deref.ensures.value) at c.in-Some.ensures in
    let w = rw (c.deref-2.ensures.value) at c.in-Some-bounds_of.ensures in
    let p = found_two c.self.inside.nodes.items c.self.inside.starts.items c.args.under _ _ _ _ (c.len-end.ensures ∙ c.self.inside.nodes.ok.0) c.self.invariant.starts w.some w.start u.start u.end in
    omega (arith, p.start, p.middle, p.end, p.cut.high, c.len-end.ensures ∙ c.self.inside.nodes.ok.0, c.len-end.type_inv)

pub invariant_of-self : goal.invariant_of-self
invariant_of-self c =
    let u = rw (c.deref.ensures.value) at c.in-Some.ensures in
    let w = rw (c.deref-2.ensures.value) at c.in-Some-bounds_of.ensures in
    let p = found_two c.self.inside.nodes.items c.self.inside.starts.items c.args.under _ _ _ _ (c.len-end.ensures ∙ c.self.inside.nodes.ok.0) c.self.invariant.starts w.some w.start u.start u.end in
    record {
      marks = c.turn_range.ensures.marks c.self.invariant.marks;
      starts = (swap_now c.self.inside.nodes.items c.turn_range.new.nodes.items c.self.inside.starts.items c.set_start.new.starts.items c.args.under _ _ _ p c.turn_range.ensures.is c.set_start.ensures).fall;
    }

pub returns : goal.returns
returns c =
    let u = rw (c.deref.ensures.value) at c.in-Some.ensures in
    let w = rw (c.deref-2.ensures.value) at c.in-Some-bounds_of.ensures in
    let p = found_two c.self.inside.nodes.items c.self.inside.starts.items c.args.under _ _ _ _ (c.len-end.ensures ∙ c.self.inside.nodes.ok.0) c.self.invariant.starts w.some w.start u.start u.end in
    (swap_now c.self.inside.nodes.items c.turn_range.new.nodes.items c.self.inside.starts.items c.set_start.new.starts.items c.args.under _ _ _ p c.turn_range.ensures.is c.set_start.ensures).view_is ∙ ap (swapped_layers c.args.under) c.self.view_is
