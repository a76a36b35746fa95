use Rattle.std.proofs.Common.{refl, sym, ◌∙◌}
use Rattle.mt_dviread.proofs.OpenFiles.{pages_ended}
use Rattle.mt_dviread.proofs.file.OpenFile.end_pages.Goals as goal

pub returns-then-not-is_postamble-clause-goes : goal.returns-then-not-is_postamble-clause-goes
returns-then-not-is_postamble-clause-goes c = λ fonts file meant s is. rw (sym (c.is_postamble.ensures fonts file meant s is) ∙ c.if-not-is_postamble.true) refl

pub returns-clause-goes : goal.returns-clause-goes
returns-clause-goes c = λ fonts file meant s is. pages_ended fonts c.args.self.now file meant s (sym (c.is_postamble.ensures fonts file meant s is) ∙ c.if-not-is_postamble.false)
