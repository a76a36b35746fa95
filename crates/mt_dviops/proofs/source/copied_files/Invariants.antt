use Rattle.mt_dviops.proofs.Joining.{LeftFiles}
use Rattle.mt_dviops.proofs.source.copied_files.Given as goal

abbrev pub invariant-loop-file : goal.invariant-loop-file
invariant-loop-file l = LeftFiles l.fonts l.files l.sources.items l.file-index
