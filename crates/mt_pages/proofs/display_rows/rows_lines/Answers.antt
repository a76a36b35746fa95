use Rattle.std.proofs.Common.{map, refl, to_z-of_z}
use Rattle.mt_arena.specs.Arena.{rows_in}
use Rattle.mt_pages.proofs.Common.{layout_of, LineStack}
use Rattle.mt_pages.proofs.DisplayLemmas.{rows_put}
use Rattle.mt_pages.proofs.display_rows.rows_lines.Goals as goal

pub returns-in_ok-put_only-in-Ok : goal.returns-in_ok-put_only-in-Ok
returns-in_ok-put_only-in-Ok c =
    let old = c.args.stack.now in
    let mid : LineStack = record { pieces = c.set_rows.new.pieces; shifts = old.shifts } in
    λ lines on.
    rows_put c.args.fonts.now c.args.n _ c.args.width lines c.in-Ok.lines old mid c.put_only.new.stack (rows_in c.args.arena.now.closed c.args.rows) (map layout_of c.in_ok-boxes.boxes)
    c.in_ok-boxes.ensures.is c.in-Ok.ensures.is c.in_ok-boxes.ensures.fit.holds (to_z-of_z c.ranges.width) c.in-Ok.ensures.one c.in-Ok.ensures.fits.shifts on c.in_ok-boxes.ensures.stay refl
    (c.in_ok-put_only-in-Ok.ensures lines)
