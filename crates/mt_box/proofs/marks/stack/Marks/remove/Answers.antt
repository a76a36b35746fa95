use Rattle.std.proofs.Common.{◌∙◌, ◌+◌, ◌-◌, ◌++◌, ap, sym, subst, take, drop}
use Rattle.mt_box.specs.inner.Nodes.{AreMarks}
use Rattle.mt_box.proofs.layers.LayerCalls.{between, remove_now, cut_sound}
use Rattle.mt_box.proofs.marks.stack.Marks.remove.Goals as goal

pub cut-requires : goal.cut-requires
cut-requires c =
    let last = c.saturating_sub-last.ensures ∙ ap (λ n. n - c.args.under) (c.len.ensures ∙ c.self.inside.starts.ok.0) in
    let first = c.saturating_sub-first.ensures ∙ ap (λ n. n - c.args.count) last in
    let p = between c.self.inside.nodes.items c.self.inside.starts.items c.args.under c.args.count _ _ _ (c.len-end_of_all.ensures ∙ c.self.inside.nodes.ok.0) c.self.invariant.starts (rw (c.deref.ensures.value, first) at c.start_of-start.ensures) (rw (c.deref-2.ensures.value, last) at c.start_of-end.ensures) in
    record { start = p.cut.low; end = p.cut.high }

pub invariant_of-self : goal.invariant_of-self
invariant_of-self c =
    let last = c.saturating_sub-last.ensures ∙ ap (λ n. n - c.args.under) (c.len.ensures ∙ c.self.inside.starts.ok.0) in
    let first = c.saturating_sub-first.ensures ∙ ap (λ n. n - c.args.count) last in
    let p = between c.self.inside.nodes.items c.self.inside.starts.items c.args.under c.args.count _ _ _ (c.len-end_of_all.ensures ∙ c.self.inside.nodes.ok.0) c.self.invariant.starts (rw (c.deref.ensures.value, first) at c.start_of-start.ensures) (rw (c.deref-2.ensures.value, last) at c.start_of-end.ensures) in
    record {
      marks = subst AreMarks (sym c.cut.ensures) (cut_sound c.self.inside.nodes.items _ _ c.self.invariant.marks);
      starts = (remove_now c.self.inside.nodes.items _ c.self.inside.starts.items _ c.args.under c.args.count _ _ p c.cut.ensures (rw (first, last, c.saturating_sub.ensures) at c.starts_without.ensures)).fall;
    }

pub returns : goal.returns
returns c =
    let last = c.saturating_sub-last.ensures ∙ ap (λ n. n - c.args.under) (c.len.ensures ∙ c.self.inside.starts.ok.0) in
    let first = c.saturating_sub-first.ensures ∙ ap (λ n. n - c.args.count) last in
    let p = between c.self.inside.nodes.items c.self.inside.starts.items c.args.under c.args.count _ _ _ (c.len-end_of_all.ensures ∙ c.self.inside.nodes.ok.0) c.self.invariant.starts (rw (c.deref.ensures.value, first) at c.start_of-start.ensures) (rw (c.deref-2.ensures.value, last) at c.start_of-end.ensures) in
    (remove_now c.self.inside.nodes.items _ c.self.inside.starts.items _ c.args.under c.args.count _ _ p c.cut.ensures (rw (first, last, c.saturating_sub.ensures) at c.starts_without.ensures)).view_is ∙ ap (λ z. take c.args.under z ++ drop (c.args.under + c.args.count) z) c.self.view_is
