use Rattle.std.proofs.Common.{◌∙◌, ap, reverse, List, sym, subst}
use Rattle.std.proofs.lemmas.List.Elements.{All-push}
use Rattle.mt_box.specs.declared.node.Node.{Node}
use Rattle.mt_box.specs.inner.Nodes.{HasMark, AreMarks}
use Rattle.mt_box.specs.marks.Layers.{put_on}
use Rattle.mt_box.specs.Unfold.{marks}
use Rattle.mt_box.specs.marks.inner.View.{layers}
use Rattle.mt_box.proofs.layers.StartLists.{layers_put, put_fall}
use Rattle.mt_box.proofs.marks.stack.Marks.put.Goals as goal

pub invariant_of-self-2 : goal.invariant_of-self-2
invariant_of-self-2 c = record {
  marks = subst AreMarks (sym c.in_ok-push.ensures.items) (All-push HasMark _ c.node_at.result c.self.invariant.marks (rw (c.node_at.ensures) c.requires));
  starts = put_fall c.self.inside.nodes.items _ c.node_at.result _ c.in_ok-push.ensures.items c.self.invariant.starts;
}

pub returns-clause-is : goal.returns-clause-is
returns-clause-is c =
    ap (λ (r : List Node). layers r (reverse c.self.inside.starts.items)) c.in_ok-push.ensures.items
    ∙ (layers_put c.self.inside.nodes.items c.node_at.result (reverse c.self.inside.starts.items) c.self.invariant.starts
    ∙ (rw (c.node_at.ensures) (ap (put_on (marks c.args.mark c.args.at.right _)) c.self.view_is)))
