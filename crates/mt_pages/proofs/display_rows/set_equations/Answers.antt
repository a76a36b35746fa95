use Rattle.std.proofs.Common.{refl, subst, ap, arith, ◌∙◌}
use Rattle.mt_arena.specs.Arena.{grid_in}
use Rattle.mt_rules.specs.Equations.{equations_of}
use Rattle.mt_arena.specs.Formulas.{equation_in}
use Rattle.mt_pages.proofs.Common.{err_from_is_err_and, AreModestEquations, equation_layout, equation_level, equation_boxes}
use Rattle.mt_pages.specs.inner.Lines.{EquationHolds}
use Rattle.mt_pages.proofs.DisplayLemmas.{equation_steps, rows_start, rows_next, rows_err, rows_done}
use Rattle.mt_pages.proofs.display_rows.set_equations.Goals as goal

pub loop-cells-init : goal.loop-cells-init
loop-cells-init c = record {
  set = rows_start (equation_boxes c.args.fonts.now c.args.n) equation_layout equation_level (EquationHolds c.args.fonts.now) (equations_of (grid_in c.args.arena.now.closed c.args.rows)) _ _ refl c.new-boxes.ensures.items;
  modest = c.requires.modest;
  end = refl;
  stay = refl;
}

pub equation_spans-equation-requires : goal.equation_spans-equation-requires
equation_spans-equation-requires c = c.in-Some.ensures.within

pub set_equation-requires : goal.set_equation-requires
set_equation-requires c =
    let m = subst AreModestEquations (equation_steps c.args.arena.now.closed _ _ _ c.equation_spans-equation.result c.in-Some.ensures.is c.equation_spans-equation.ensures.is) c.loop-cells.invariant.modest in
    let w = c.equation_spans-equation.ensures.within in
    let l = c.equation_spans-equation.ensures.lists in
    record {
      first = record { within = omega (arith, w); modest = m.0; lists = l.0 };
      second = record { within = omega (arith, w); modest = m.1; lists = l.1 };
      number = record { within = omega (arith, w); modest = m.2; lists = l.2 };
    }

pub loop-cells-preserved : goal.loop-cells-preserved
loop-cells-preserved c =
    let steps = equation_steps c.args.arena.now.closed _ _ _ c.equation_spans-equation.result c.in-Some.ensures.is c.equation_spans-equation.ensures.is in
    let row = c.in_ok-row.ensures in
    record {
      set = rows_next (equation_boxes c.args.fonts.now c.args.n) equation_layout equation_level (EquationHolds c.args.fonts.now) (equations_of (grid_in c.args.arena.now.closed c.args.rows)) _ _
          (equation_in c.args.arena.now.closed c.equation_spans-equation.result) _ _ c.in_ok-row.row c.loop-cells.invariant.set steps row.is row.fits.level row.fits.holds c.in_ok-push.ensures.items;
      modest = (subst AreModestEquations steps c.loop-cells.invariant.modest).3;
      end = c.in-Some.ensures.end ∙ c.loop-cells.invariant.end;
      stay = row.stay ∙ c.loop-cells.invariant.stay;
    }

pub returns-in_err-row-clause-is : goal.returns-in_err-row-clause-is
returns-in_err-row-clause-is c =
    let steps = equation_steps c.args.arena.now.closed _ _ _ c.equation_spans-equation.result c.in-Some.ensures.is c.equation_spans-equation.ensures.is in
    let p = err_from_is_err_and c.from_residual.result c.from_residual.ensures.1 in
    rw (p.1, p.2) (rows_err (equation_boxes c.args.fonts.now c.args.n) equation_layout equation_level (EquationHolds c.args.fonts.now) (equations_of (grid_in c.args.arena.now.closed c.args.rows)) _ _ _ _ _
    c.loop-cells.invariant.set steps c.in_err-row.ensures.is)

pub returns-clause-is : goal.returns-clause-is
returns-clause-is c =
    rw c.from_vec.ensures
    (rows_done (equation_boxes c.args.fonts.now c.args.n) equation_layout equation_level (EquationHolds c.args.fonts.now) _ _ _ c.loop-cells.invariant.set (ap equations_of c.in_default.ensures.is))

pub returns-clause-fit : goal.returns-clause-fit
returns-clause-fit c =
    rw c.from_vec.ensures (record {
      few = omega (arith, c.loop-cells.invariant.set.count, c.requires.few);
      level = c.loop-cells.invariant.set.level_low;
      holds = c.loop-cells.invariant.set.holds;
    })
