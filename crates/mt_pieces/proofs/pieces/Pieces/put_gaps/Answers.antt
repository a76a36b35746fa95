use Rattle.std.proofs.Common.{◌∙◌, ◌++◌, ap, subst, sym, refl, take, drop}
use Rattle.mt_pieces.specs.Gaps.{gap_pieces, with_gaps, AllRunsFit}
use Rattle.mt_pieces.specs.inner.GapParts.{gap_parts}
use Rattle.mt_pieces.proofs.Copied.{run_laid}
use Rattle.mt_pieces.proofs.Gapped.{gaps_view, spread_from}
use Rattle.mt_pieces.proofs.Settled.{on_ok}
use Rattle.mt_pieces.proofs.pieces.Pieces.put_gaps.Goals as goal

pub invariant_of-self : goal.invariant_of-self
invariant_of-self c =
    let runs = c.deref.result.now in
    let parts = c.self.inside.parts.items in
    let s = spread_from runs c.args.first parts c.self.inside.marks c.args.self.now (subst AllRunsFit (sym c.deref.ensures.value) c.requires) c.self.invariant c.self.view_is in
    let e = c.put_between-put.ensures in
    run_laid c.put_between-put.result parts c.put_between-put.new.parts.items (take c.args.first parts ++ with_gaps gap_parts runs (drop c.args.first parts)) c.self.inside.marks c.put_between-put.new.marks c.self.inside.marks
    e.marks e.parts e.no_marks e.no_parts (on_ok c.put_between-put.result refl) s.laid

pub returns : goal.returns
returns c =
    let runs = c.deref.result.now in
    let parts = c.self.inside.parts.items in
    let s = spread_from runs c.args.first parts c.self.inside.marks c.args.self.now (subst AllRunsFit (sym c.deref.ensures.value) c.requires) c.self.invariant c.self.view_is in
    let e = c.put_between-put.ensures in
    gaps_view c.put_between-put.result c.put_between-put.new.parts.items (take c.args.first parts ++ with_gaps gap_parts runs (drop c.args.first parts)) c.put_between-put.new.marks c.self.inside.marks
    (take c.args.first c.args.self.now ++ with_gaps gap_pieces c.args.runs.items (drop c.args.first c.args.self.now)) e.parts e.marks
    (s.view ∙ ap (λ rs. take c.args.first c.args.self.now ++ with_gaps gap_pieces rs (drop c.args.first c.args.self.now)) c.deref.ensures.value)
