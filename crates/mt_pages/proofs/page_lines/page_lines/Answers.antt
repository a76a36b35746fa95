use Rattle.std.proofs.Common.{◌+◌, ◌∙◌, List, [], ◌++◌, drop, map, take, sym, ap, subst, arith, of_z, to_z, to_z-of_z, w64, ℤ, All, Err}
use Rattle.std.proofs.lemmas.List.Elements.{All-drop, All-get_or}
use Rattle.std.proofs.lemmas.List.{drop-map, drop_all, drop_more, take_all}
use Rattle.mt_reader.specs.ArenaPages.{KeptFormula, page_formula}
use Rattle.mt_pages.proofs.Common.{All-head, append-nil, err_from_is_err_and, HasModestLists, page_weight, Formula, IsPure, no_lines, page_lines}
use Rattle.mt_pages.specs.LineWidth.{IsLineWidth}
use Rattle.mt_pages.specs.inner.Lines.{PageSet}
use Rattle.mt_pages.proofs.LineLemmas.{LinedSoFar, lined_done, lined_err, lined_more, lined_none, lined_taken}
use Rattle.mt_pages.proofs.page_lines.page_lines.Goals as goal

pub loop-formula-init : goal.loop-formula-init
loop-formula-init c =
    let w = to_z w64 (of_z w64 c.args.width) in
    record {
      so_far = subst (λ (left : List Formula). LinedSoFar c.args.fonts.now w c.args.page.now left [] c.clear.new.self) c.parts.ensures.is (lined_none c.args.fonts.now w c.args.page.now c.clear.new.self c.clear.ensures);
      modest = subst (λ (l : List Formula). All HasModestLists l) c.parts.ensures.is c.requires.modest;
    }

pub formula_lines-requires : goal.formula_lines-requires
formula_lines-requires c =
    let F = page_formula c.parts.result.0.now.closed in
    record {
      kept = All-get_or (KeptFormula c.parts.result.0.now.closed) _ _ _ c.loop-formula-test.true c.parts.ensures.kept;
      modest = All-head HasModestLists _ _ (subst (λ (l : List Formula). All HasModestLists l) (ap (map F) (drop_more _ _ _ c.loop-formula-test.true)) c.loop-formula.invariant.modest);
      width = subst IsLineWidth (sym (to_z-of_z c.ranges.width)) c.requires.width;
    }

pub loop-formula-preserved : goal.loop-formula-preserved
loop-formula-preserved c =
    let at = c.loop-formula in
    let w = to_z w64 (of_z w64 c.args.width) in
    let F = page_formula c.parts.result.0.now.closed in
    let fs = c.parts.result.1.now in
    let rest = map F (drop (at.formula-index + 1) fs) in
    let so = at.invariant.so_far in
    let put = c.in_ok-formula_lines.ensures so.page.lines so.on.stack in
    record {
      so_far =
          subst (λ (done : List Formula). LinedSoFar c.args.fonts.now w c.args.page.now rest done c.number_lines.new.self) (sym (lined_taken F fs at.formula-index _ c.loop-formula-test.true))
          (lined_more c.args.fonts.now w c.args.page.now _ (map F (take at.formula-index fs)) rest _ at.lines c.number_lines.new.self c.formula_lines.new.stack so (ap (map F) (drop_more fs at.formula-index _ c.loop-formula-test.true)) put
          (c.in_ok-number_lines.ensures so.page put.added put.stack so.on.formulas so.on.count));
      modest = subst (λ (l : List Formula). All HasModestLists l) (drop-map F (at.formula-index + 1) fs) (All-drop HasModestLists (at.formula-index + 1) (map F fs) (subst (λ (l : List Formula). All HasModestLists l) c.parts.ensures.is c.requires.modest));
    }

pub returns-in_err-formula_lines : goal.returns-in_err-formula_lines
returns-in_err-formula_lines c =
    let at = c.loop-formula in
    let F = page_formula c.parts.result.0.now.closed in
    let fs = c.parts.result.1.now in
    let so = at.invariant.so_far in
    let p = err_from_is_err_and c.from_residual.result c.from_residual.ensures.1 in
    rw (p.1, p.2)
    (subst (λ (x : ℤ). IsPure (page_lines c.args.fonts.now x no_lines c.args.page.now) (Err c.in_err-formula_lines.field-0.0)) (to_z-of_z c.ranges.width)
    (lined_err c.args.fonts.now _ c.args.page.now _ (map F (take at.formula-index fs)) (map F (drop (at.formula-index + 1) fs)) _ at.lines _ so (ap (map F) (drop_more fs at.formula-index _ c.loop-formula-test.true))
    (c.in_err-formula_lines.ensures so.page.lines so.on.stack)))

pub returns : goal.returns
returns c =
    let at = c.loop-formula in
    let F = page_formula c.parts.result.0.now.closed in
    let fs = c.parts.result.1.now in
    let none = ap (map F) (drop_all at.formula-index fs (omega (arith, c.loop-formula-test.false))) in
    subst (λ (x : ℤ). PageSet c.args.fonts.now (page_weight c.args.page.now) at.lines (page_lines c.args.fonts.now x no_lines c.args.page.now)) (to_z-of_z c.ranges.width)
    (lined_done c.args.fonts.now _ c.args.page.now _ (map F (take at.formula-index fs)) at.lines at.invariant.so_far none
    (ap (λ (l : List Formula). map F (take at.formula-index fs) ++ l) none ∙ append-nil (map F (take at.formula-index fs)) ∙ ap (map F) (take_all at.formula-index fs (omega (arith, c.loop-formula-test.false))) ∙ sym c.parts.ensures.is))
