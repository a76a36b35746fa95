use Rattle.std.proofs.Common.{◌≡◌, ◌+◌, ◌++◌, length, min, reverse, rules, OnOk, arith, ◌∙◌, sym, subst}
use Rattle.std.proofs.lemmas.List.Elements.{All-append, All-take, All-drop}
use Rattle.mt_box.specs.inner.Nodes.{HasMark, AreMarks}
use Rattle.mt_box.specs.marks.inner.View.{layers}
use Rattle.mt_box.proofs.layers.CopiedRuns.{all_below, run_between, run_made}
use Rattle.mt_box.proofs.marks.stack.Marks.copy_run.Goals as goal

pub extend_from_within-requires : goal.extend_from_within-requires
extend_from_within-requires c =
    let first : c.min-first.result ≡ min c.args.first (length c.self.inside.starts.items) = omega (arith, c.min-first.ensures, c.len.ensures ∙ c.self.inside.starts.ok.0) in
    let last : c.min-last.result ≡ min (c.min-first.result + c.args.count) (length c.self.inside.starts.items) = omega (arith, c.min-last.ensures, c.saturating_add.ensures, c.len-2.type_inv, c.len-2.ensures ∙ c.self.inside.starts.ok.0) in
    let p = run_between c.self.inside.nodes.items c.self.inside.starts.items c.min-first.result c.min-last.result _ _ _ (omega (arith, first, last)) (omega (arith, last)) (c.len-end_of_all.ensures ∙ c.self.inside.nodes.ok.0) c.self.invariant.starts
    (rw (c.deref.ensures.value) at c.start_of-start.ensures) (rw (c.deref-2.ensures.value) at c.start_of-end.ensures) in
    record { start_le_end = p.cut.low; in_bounds = rw (c.self.inside.nodes.ok.0) p.cut.high; not_exhausted = search rules }

pub copy_starts-requires-clause-low : goal.copy_starts-requires-clause-low
copy_starts-requires-clause-low c =
    rw (c.len-end_of_all.ensures ∙ c.self.inside.nodes.ok.0) (all_below _ c.self.inside.starts.items c.self.invariant.starts)

pub invariant_of-self-2 : goal.invariant_of-self-2
invariant_of-self-2 c =
    let is = c.self.inside.nodes.items in
    let more = c.in_ok-extend_from_within.ensures.items in
    let first : c.min-first.result ≡ min c.args.first (length c.self.inside.starts.items) = omega (arith, c.min-first.ensures, c.len.ensures ∙ c.self.inside.starts.ok.0) in
    let last : c.min-last.result ≡ min (c.min-first.result + c.args.count) (length c.self.inside.starts.items) = omega (arith, c.min-last.ensures, c.saturating_add.ensures, c.len-2.type_inv, c.len-2.ensures ∙ c.self.inside.starts.ok.0) in
    let p = run_between c.self.inside.nodes.items c.self.inside.starts.items c.min-first.result c.min-last.result _ _ _ (omega (arith, first, last)) (omega (arith, last)) (c.len-end_of_all.ensures ∙ c.self.inside.nodes.ok.0) c.self.invariant.starts
    (rw (c.deref.ensures.value) at c.start_of-start.ensures) (rw (c.deref-2.ensures.value) at c.start_of-end.ensures) in
    let made = run_made c.copy_starts.result c.self.inside.nodes.items _ c.self.inside.starts.items c.copy_starts.new.starts.items c.args.first c.args.count _ _ _ _ _ first last (c.len-end_of_all.ensures ∙ c.self.inside.nodes.ok.0) p c.in_ok-extend_from_within.ensures.items c.copy_starts.ensures.is c.copy_starts.ensures.err c.self.invariant.starts in
    record {
      marks = subst AreMarks (sym more) (All-append HasMark is _ c.self.invariant.marks (All-take HasMark _ _ (All-drop HasMark _ is c.self.invariant.marks)));
      starts = made.fall;
    }

pub returns : goal.returns
returns c = λ above run below w b k.
    let first : c.min-first.result ≡ min c.args.first (length c.self.inside.starts.items) = omega (arith, c.min-first.ensures, c.len.ensures ∙ c.self.inside.starts.ok.0) in
    let last : c.min-last.result ≡ min (c.min-first.result + c.args.count) (length c.self.inside.starts.items) = omega (arith, c.min-last.ensures, c.saturating_add.ensures, c.len-2.type_inv, c.len-2.ensures ∙ c.self.inside.starts.ok.0) in
    let p = run_between c.self.inside.nodes.items c.self.inside.starts.items c.min-first.result c.min-last.result _ _ _ (omega (arith, first, last)) (omega (arith, last)) (c.len-end_of_all.ensures ∙ c.self.inside.nodes.ok.0) c.self.invariant.starts
    (rw (c.deref.ensures.value) at c.start_of-start.ensures) (rw (c.deref-2.ensures.value) at c.start_of-end.ensures) in
    let made = run_made c.copy_starts.result c.self.inside.nodes.items _ c.self.inside.starts.items c.copy_starts.new.starts.items c.args.first c.args.count _ _ _ _ _ first last (c.len-end_of_all.ensures ∙ c.self.inside.nodes.ok.0) p c.in_ok-extend_from_within.ensures.items c.copy_starts.ensures.is c.copy_starts.ensures.err c.self.invariant.starts in
    subst (λ z. OnOk c.copy_starts.result (layers c.extend_from_within.new.self.items (reverse c.copy_starts.new.starts.items) ≡ run ++ z)) c.self.view_is (made.view above run below (c.self.view_is ∙ w) b k)
