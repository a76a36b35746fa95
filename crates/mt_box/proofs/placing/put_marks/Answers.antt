use Rattle.std.proofs.Common.{List, ◌+◌, ◌++◌, ◌+ℤ◌, ◌-ℤ◌, ◌∙◌, ap, drop, get_or, pos, subst, sym}
use Rattle.std.proofs.lemmas.List.{drop_more}
use Rattle.std.proofs.lemmas.Result.{err_from_is_err_and}
use Rattle.mt_box.specs.declared.node.Node.{Node}
use Rattle.mt_box.specs.declared.place.Place.{Place}
use Rattle.mt_box.specs.declared.node.Mark.TheVariants.{Group}
use Rattle.mt_box.specs.Placing.{all_lowered}
use Rattle.mt_box.specs.Unfold.{marks}
use Rattle.mt_box.specs.inner.Nodes.{node_places}
use Rattle.mt_box.specs.inner.Putting.{IsFront}
use Rattle.mt_box.proofs.Fronts.{front_then}
use Rattle.mt_box.proofs.NodePlaces.{first_lowered, marks_at}
use Rattle.mt_box.proofs.Putting.{Putting, putting_step, putting_err}
use Rattle.mt_box.proofs.placing.put_marks.Goals as goal

abbrev none : Node
none = record { x = pos 0; y = pos 0; mark = Group; after = record { 0 = 0 } }

pub loop-node-preserved-then-branch : goal.loop-node-preserved-then-branch
loop-node-preserved-then-branch c =
    let i = c.loop-node.node-index in
    let first = ap (λ ns. all_lowered c.args.at.h c.args.at.v (node_places ns)) (drop_more c.args.nodes.now i none c.loop-node-test.true) ∙ first_lowered c.args.at.h c.args.at.v (get_or c.args.nodes.now i none) (drop (i + 1) c.args.nodes.now) in
    record {
      put = putting_step _ _ _ _ _ _ _ _ c.loop-node.invariant.put first (c.in_ok-put_near.ensures.put c.if-branch.true);
      kept = front_then _ _ _ c.loop-node.invariant.kept c.in_ok-put_near.ensures.kept;
    }

pub loop-node-preserved : goal.loop-node-preserved
loop-node-preserved c =
    let i = c.loop-node.node-index in
    let n = get_or c.args.nodes.now i none in
    let same = c.in_ok-put_near.ensures.none c.if-branch.false in
    let whole = all_lowered c.args.at.h c.args.at.v (node_places c.args.nodes.now) in
    let before = all_lowered c.args.at.h c.args.at.v (node_places (drop i c.args.nodes.now)) in
    let rest = all_lowered c.args.at.h c.args.at.v (node_places (drop (i + 1) c.args.nodes.now)) in
    let h = c.moved.ensures.h ∙ ap (λ z. z +ℤ n.x) c.point_of.ensures.0 in
    let v = c.moved.ensures.v ∙ ap (λ z. z -ℤ n.y) c.point_of.ensures.1 in
    let first = ap (λ ns. all_lowered c.args.at.h c.args.at.v (node_places ns)) (drop_more c.args.nodes.now i none c.loop-node-test.true) ∙ first_lowered c.args.at.h c.args.at.v n (drop (i + 1) c.args.nodes.now) ∙ ap (λ (ps : List Place). ps ++ rest) (sym (marks_at n.mark h v)) in
    record {
      put = putting_step whole c.args.room c.args.places.now.items c.put_near.new.places.items c.put_mark.new.places.items before (marks n.mark c.moved.result.h c.moved.result.v) rest
          (subst (λ (ps : List Place). Putting whole c.args.room c.args.places.now.items ps before) (sym same) c.loop-node.invariant.put) first c.in_ok-put_mark.ensures.is;
      kept = front_then _ _ _ (subst (λ (ps : List Place). IsFront c.args.places.now.items ps) (sym same) c.loop-node.invariant.kept) c.in_ok-put_mark.ensures.kept;
    }

pub returns-in_err-put_mark-clause-is : goal.returns-in_err-put_mark-clause-is
returns-in_err-put_mark-clause-is c =
    let i = c.loop-node.node-index in
    let n = get_or c.args.nodes.now i none in
    let same = c.in_ok-put_near.ensures.none c.if-branch.false in
    let whole = all_lowered c.args.at.h c.args.at.v (node_places c.args.nodes.now) in
    let before = all_lowered c.args.at.h c.args.at.v (node_places (drop i c.args.nodes.now)) in
    let rest = all_lowered c.args.at.h c.args.at.v (node_places (drop (i + 1) c.args.nodes.now)) in
    let h = c.moved.ensures.h ∙ ap (λ z. z +ℤ n.x) c.point_of.ensures.0 in
    let v = c.moved.ensures.v ∙ ap (λ z. z -ℤ n.y) c.point_of.ensures.1 in
    let first = ap (λ ns. all_lowered c.args.at.h c.args.at.v (node_places ns)) (drop_more c.args.nodes.now i none c.loop-node-test.true) ∙ first_lowered c.args.at.h c.args.at.v n (drop (i + 1) c.args.nodes.now) ∙ ap (λ (ps : List Place). ps ++ rest) (sym (marks_at n.mark h v)) in
    let p = err_from_is_err_and c.from_residual-in_err-put_mark.result c.from_residual-in_err-put_mark.ensures.1 in
    rw (p.1, p.2) (putting_err _ _ _ c.put_near.new.places.items c.put_mark.new.places.items _ before (marks n.mark c.moved.result.h c.moved.result.v) rest _
    (subst (λ (ps : List Place). Putting whole c.args.room c.args.places.now.items ps before) (sym same) c.loop-node.invariant.put) first c.in_err-put_mark.ensures.is)
