use Rattle.std.proofs.Common.{ap, refl, subst, arith, ◌∙◌}
use Rattle.mt_arena.specs.Arena.{rows_in, sequence_in}
use Rattle.mt_pages.proofs.Common.{err_from_is_err_and, BoxValue, layout_of, AreModestRows, D, formula_box, lists_of}
use Rattle.mt_pages.specs.inner.Lines.{BoxHolds}
use Rattle.mt_pages.proofs.DisplayLemmas.{lists_few, rows_start, rows_next, rows_err, rows_done}
use Rattle.mt_pages.proofs.display_rows.set_rows.Goals as goal

pub loop-list-init : goal.loop-list-init
loop-list-init c = record {
  set = rows_start (formula_box c.args.fonts.now c.args.n D) layout_of (λ (b : BoxValue). b.level) (BoxHolds c.args.fonts.now) (lists_of (rows_in c.args.arena.now.closed c.args.rows)) _ _ refl c.new-boxes.ensures.items;
  modest = c.requires.modest;
  end = refl;
  stay = refl;
}

pub formula_box-requires : goal.formula_box-requires
formula_box-requires c = record { modest = record { within = c.in-Some.ensures.within; modest = (subst AreModestRows c.in-Some.ensures.is c.loop-list.invariant.modest).0; lists = c.in-Some.ensures.lists } }

pub loop-list-preserved : goal.loop-list-preserved
loop-list-preserved c =
    let row = c.in_ok-row.ensures in
    record {
      set = rows_next (formula_box c.args.fonts.now c.args.n D) layout_of (λ (b : BoxValue). b.level) (BoxHolds c.args.fonts.now) (lists_of (rows_in c.args.arena.now.closed c.args.rows)) _ _
          (sequence_in c.args.arena.now.closed c.in-Some.list) _ _ c.in_ok-row.row c.loop-list.invariant.set (ap lists_of c.in-Some.ensures.is) row.is row.fits.level row.fits.holds c.in_ok-push.ensures.items;
      modest = (subst AreModestRows c.in-Some.ensures.is c.loop-list.invariant.modest).1;
      end = c.in-Some.ensures.end ∙ c.loop-list.invariant.end;
      stay = row.stay ∙ c.loop-list.invariant.stay;
    }

pub returns-in_err-row-clause-is : goal.returns-in_err-row-clause-is
returns-in_err-row-clause-is c =
    let p = err_from_is_err_and c.from_residual.result c.from_residual.ensures.1 in
    rw (p.1, p.2) (rows_err (formula_box c.args.fonts.now c.args.n D) layout_of (λ (b : BoxValue). b.level) (BoxHolds c.args.fonts.now) (lists_of (rows_in c.args.arena.now.closed c.args.rows)) _ _ _ _ _
    c.loop-list.invariant.set (ap lists_of c.in-Some.ensures.is) c.in_err-row.ensures.is)

pub returns-clause-is : goal.returns-clause-is
returns-clause-is c =
    rw c.from_vec.ensures
    (rows_done (formula_box c.args.fonts.now c.args.n D) layout_of (λ (b : BoxValue). b.level) (BoxHolds c.args.fonts.now) _ _ _ c.loop-list.invariant.set (ap lists_of c.in_default.ensures.is))

pub returns-clause-fit : goal.returns-clause-fit
returns-clause-fit c =
    rw c.from_vec.ensures (record {
      few = omega (arith, c.loop-list.invariant.set.count, lists_few (rows_in c.args.arena.now.closed c.args.rows), c.requires.few);
      level = c.loop-list.invariant.set.level_low;
      holds = c.loop-list.invariant.set.holds;
    })
