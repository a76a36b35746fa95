use Rattle.std.proofs.Common.{◌∙◌, ap, sym, subst, ◌++◌}
use Rattle.std.proofs.lemmas.List.Elements.{All-append}
use Rattle.mt_box.specs.inner.Nodes.{HasMark, AreMarks}
use Rattle.mt_box.proofs.Flat.{flat_marks}
use Rattle.mt_box.proofs.layers.StartLists.{pushed_fall}
use Rattle.mt_box.proofs.marks.stack.Marks.push_box.Goals as goal

pub invariant_of-self-2 : goal.invariant_of-self-2
invariant_of-self-2 c =
    let is = c.self.inside.nodes.items in
    let more = c.in_ok-extend_from_slice.ensures.items ∙ ap (λ r. is ++ r) c.deref.ensures.value in
    record {
      marks = subst AreMarks (sym more) (All-append HasMark is _ c.self.invariant.marks (flat_marks _ _ _ c.body.invariant.flat));
      starts = pushed_fall is _ _ _ _ _ more (c.len.ensures ∙ c.self.inside.nodes.ok.0) c.in_ok-push.ensures.items c.self.invariant.starts;
    }
