use Rattle.std.proofs.Common.{◌≡◌, ◌∙◌, ◌∷◌, [], sym, ap, arith}
use Rattle.std.specs.Prelude.{true}
use Rattle.std.specs.Result.{is_ok}
use Rattle.mt_dviops.specs.Source.{source_file_of}
use Rattle.mt_dviops.proofs.Joining.{files_end, files_next, files_start, pushed}
use Rattle.mt_dviops.proofs.source.copied_files.Goals as goal

pub loop-file-init : goal.loop-file-init
loop-file-init c = files_start c.args.fonts.now c.args.files.now _ c.in_ok-sources.ensures.items

pub overflow_cast-number : goal.overflow_cast-number
overflow_cast-number c = omega (arith, c.len-number.ensures, c.loop-file.invariant.count, c.loop-file-test.true, c.requires)

pub loop-file-preserved : goal.loop-file-preserved
loop-file-preserved c =
    let s = c.in_ok-source.ensures.is in
    let good : is_ok c.push.result ≡ true = sym c.map_err.ensures.variant ∙ ap is_ok c.in_ok-map_err.was in
    files_next c.args.fonts.now c.args.files.now _ _ c.loop-file.file-index c.file-item.result c.in_ok-source.source s.0 c.loop-file-test.true c.file-item.is c.loop-file.invariant
    (ap (source_file_of c.args.fonts.now) (sym c.as_slice.ensures) ∙ s.1) s.2 (pushed (is_ok c.push.result) c.push.new.self.items c.loop-file.sources.items (c.in_ok-source.source ∷ []) good c.push.ensures.items)

pub returns-clause-is : goal.returns-clause-is
returns-clause-is c =
    (c.loop-file.invariant.list, files_end c.args.fonts.now c.args.files.now _ c.loop-file.file-index c.loop-file-test.false c.loop-file.invariant, c.loop-file.invariant.held)

pub returns-clause-count : goal.returns-clause-count
returns-clause-count c = omega (arith, c.loop-file.invariant.count, c.loop-file.invariant.within, c.loop-file-test.false)
