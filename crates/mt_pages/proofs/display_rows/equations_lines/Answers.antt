use Rattle.std.proofs.Common.{map, refl, to_z-of_z}
use Rattle.mt_arena.specs.Arena.{grid_in}
use Rattle.mt_rules.specs.Equations.{equations_of}
use Rattle.mt_pages.proofs.Common.{equation_layout, LineStack}
use Rattle.mt_pages.proofs.DisplayLemmas.{equations_put}
use Rattle.mt_pages.proofs.display_rows.equations_lines.Goals as goal

pub returns-in_ok-put_only-in-Ok : goal.returns-in_ok-put_only-in-Ok
returns-in_ok-put_only-in-Ok c =
    let old = c.args.stack.now in
    let mid : LineStack = record { pieces = c.set_equations.new.pieces; shifts = old.shifts } in
    λ lines on.
    equations_put c.args.fonts.now c.args.n _ c.args.width lines c.in-Ok.lines old mid c.put_only.new.stack c.args.left (equations_of (grid_in c.args.arena.now.closed c.args.rows)) (map equation_layout c.in_ok-boxes.boxes)
    c.in_ok-boxes.ensures.is c.in-Ok.ensures.is c.in_ok-boxes.ensures.fit.holds (to_z-of_z c.ranges.width) c.in-Ok.ensures.one c.in-Ok.ensures.fits.shifts on c.in_ok-boxes.ensures.stay refl
    (c.in_ok-put_only-in-Ok.ensures lines)
