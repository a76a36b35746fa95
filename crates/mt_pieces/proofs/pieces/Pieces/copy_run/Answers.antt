use Rattle.std.proofs.Common.{◌∙◌, ◌++◌, arith, ap, sym, subst}
use Rattle.mt_pieces.specs.Runs.{IsAt}
use Rattle.mt_pieces.proofs.Copied.{run_between, run_laid, run_ok, run_there, run_view}
use Rattle.mt_pieces.proofs.Placed.{at_more}
use Rattle.mt_pieces.proofs.pieces.Pieces.copy_run.Goals as goal

pub overflow_sub-after : goal.overflow_sub-after
overflow_sub-after c = omega (arith, (run_between c.self.inside.parts.items c.self.inside.marks c.args.self.now c.args.at c.args.count c.after_run-after.result c.self.invariant c.self.view_is c.requires c.after_run-after.ensures.at c.after_run-after.ensures.piece).layers)

pub put_run-requires-clause-start : goal.put_run-requires-clause-start
put_run-requires-clause-start c = (run_between c.self.inside.parts.items c.self.inside.marks c.args.self.now c.args.at c.args.count c.after_run-after.result c.self.invariant c.self.view_is c.requires c.after_run-after.ensures.at c.after_run-after.ensures.piece).low

pub put_run-requires-clause-end : goal.put_run-requires-clause-end
put_run-requires-clause-end c = (run_between c.self.inside.parts.items c.self.inside.marks c.args.self.now c.args.at c.args.count c.after_run-after.result c.self.invariant c.self.view_is c.requires c.after_run-after.ensures.at c.after_run-after.ensures.piece).high

pub invariant_of-self-2 : goal.invariant_of-self-2
invariant_of-self-2 c =
    let r = run_between c.self.inside.parts.items c.self.inside.marks c.args.self.now c.args.at c.args.count c.after_run-after.result c.self.invariant c.self.view_is c.requires c.after_run-after.ensures.at c.after_run-after.ensures.piece in
    let laid = c.copy_run-laid.ensures r.run.above r.run.run r.run.below r.run.stack (r.run.before ∙ sym c.requires.layer) (omega (arith, r.layers, r.run.some)) in
    let e = c.put_run.ensures in
    run_laid c.put_run.result c.self.inside.parts.items c.put_run.new.parts.items _ c.copy_run-laid.new.self c.put_run.new.marks _ e.marks e.parts e.no_marks e.no_parts (run_there _ c.put_run.result c.copy_run-laid.result e.laid laid) r.run.laid

pub returns-clause-pieces : goal.returns-clause-pieces
returns-clause-pieces c =
    let r = run_between c.self.inside.parts.items c.self.inside.marks c.args.self.now c.args.at c.args.count c.after_run-after.result c.self.invariant c.self.view_is c.requires c.after_run-after.ensures.at c.after_run-after.ensures.piece in
    let laid = c.copy_run-laid.ensures r.run.above r.run.run r.run.below r.run.stack (r.run.before ∙ sym c.requires.layer) (omega (arith, r.layers, r.run.some)) in
    let e = c.in_ok-put_run.ensures in
    run_view c.put_run.new.parts.items _ c.put_run.new.marks _ e.parts (e.marks ∙ run_ok _ c.copy_run-laid.result e.laid laid) r.run.view ∙ ap (λ z. c.args.self.now ++ z) r.same

pub returns-clause-after : goal.returns-clause-after
returns-clause-after c =
    let r = run_between c.self.inside.parts.items c.self.inside.marks c.args.self.now c.args.at c.args.count c.after_run-after.result c.self.invariant c.self.view_is c.requires c.after_run-after.ensures.at c.after_run-after.ensures.piece in
    let laid = c.copy_run-laid.ensures r.run.above r.run.run r.run.below r.run.stack (r.run.before ∙ sym c.requires.layer) (omega (arith, r.layers, r.run.some)) in
    let e = c.in_ok-put_run.ensures in
    subst (IsAt c.after_run-after.result) (sym (run_view c.put_run.new.parts.items _ c.put_run.new.marks _ e.parts (e.marks ∙ run_ok _ c.copy_run-laid.result e.laid laid) r.run.view)) (at_more _ c.args.self.now _ c.after_run-after.ensures.at)
