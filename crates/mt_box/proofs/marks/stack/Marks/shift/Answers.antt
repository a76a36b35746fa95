use Rattle.std.proofs.Common.{◌≡◌, pos, rules, ap, arith, reverse, length, sym, ◌∙◌, ◌≤◌}
use Rattle.std.proofs.lemmas.List.{length-reverse}
use Rattle.std.proofs.lemmas.Result.{on_ok_weaker}
use Rattle.mt_box.specs.marks.Layers.{moved_layer}
use Rattle.mt_box.proofs.layers.StartLists.{beyond, still_layer}
use Rattle.mt_box.proofs.layers.LayerCalls.{found, moved_view}
use Rattle.mt_box.proofs.marks.stack.Marks.shift.Goals as goal

pub returns-in_default : goal.returns-in_default
returns-in_default c =
    let few : length (reverse c.self.inside.starts.items) ≤ c.args.under = omega (arith, length-reverse c.self.inside.starts.items, c.in_default.ensures.none, ap length c.deref.ensures.value) in
    sym c.self.view_is ∙ (beyond c.args.by.right c.args.by.up c.args.under c.self.inside.nodes.items (reverse c.self.inside.starts.items) few ∙ ap (moved_layer c.args.under c.args.by.right c.args.by.up) c.self.view_is)

pub move_range-requires : goal.move_range-requires
move_range-requires c =
    let b = rw (c.deref.ensures.value) at c.in-Some.ensures in
    let p = found c.self.inside.nodes.items c.self.inside.starts.items c.args.under _ _ _ (c.len.ensures ∙ c.self.inside.nodes.ok.0) c.self.invariant.starts b.some b.start b.end in
    record { start = p.cut.low; end = p.cut.high }

pub returns : goal.returns
returns c =
    let b = rw (c.deref.ensures.value) at c.in-Some.ensures in
    let p = found c.self.inside.nodes.items c.self.inside.starts.items c.args.under _ _ _ (c.len.ensures ∙ c.self.inside.nodes.ok.0) c.self.invariant.starts b.some b.start b.end in
    on_ok_weaker c.move_range.result (λ e. moved_view c.self.inside.nodes.items c.move_range.new.nodes.items c.self.inside.starts.items c.args.under _ _ c.args.by.right c.args.by.up p e
    ∙ ap (moved_layer c.args.under c.args.by.right c.args.by.up) c.self.view_is) c.move_range.ensures.is

pub returns-then-by-eq0-2 : goal.returns-then-by-eq0-2
returns-then-by-eq0-2 c =
    let right : c.args.by.right ≡ pos 0 = search rules in
    let up : c.args.by.up ≡ pos 0 = search rules in
    rw (right, up) (still_layer c.args.under c.args.self.now)
