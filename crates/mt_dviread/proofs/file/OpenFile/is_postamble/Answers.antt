use Rattle.std.proofs.Common.{sym, ap, ◌∙◌, FitsSigned, Bool, rules, w32}
use Rattle.mt_dviread.proofs.OpenFiles.{postamble_by, postamble_not}
use Rattle.std.specs.Prelude.{◌&&◌}
use Rattle.std.proofs.lemmas.Int.{to_z-of_z}
use Rattle.mt_dviread.proofs.file.OpenFile.is_postamble.Goals as goal

pub returns-then-points_back : goal.returns-then-points_back
returns-then-points_back c = λ fonts file meant s is.
    let fits : FitsSigned w32 c.args.postamble.last = search rules in
    let fit : FitsSigned w32 c.args.postamble.mag = search rules in
    let last = to_z-of_z w32 c.args.postamble.last fits in
    let mag = to_z-of_z w32 c.args.postamble.mag fit in
    let a = c.points_back.ensures in
    let b = c.sums_up.ensures in
    sym (postamble_by fonts c.args.self.now file c.args.postamble meant s is c.points_back.result c.sums_up.result (rw last at a) (rw mag at b)
    ∙ ap (λ (x : Bool). x && c.sums_up.result) c.if-points_back.true)

pub returns-else-points_back : goal.returns-else-points_back
returns-else-points_back c = λ fonts file meant s is.
    let fits : FitsSigned w32 c.args.postamble.last = search rules in
    let last = to_z-of_z w32 c.args.postamble.last fits in
    let a = c.points_back.ensures in
    c.if-points_back.false ∙ sym (postamble_not fonts c.args.self.now file c.args.postamble meant s is c.points_back.result (rw last at a) c.if-points_back.false)
