use Rattle.mt_dviread.proofs.OpenFiles.{defines_again}
use Rattle.mt_dviread.proofs.file.OpenFile.define_again.Goals as goal

pub returns-clause-goes : goal.returns-clause-goes
returns-clause-goes c = λ file meant s is. defines_again _ _ _ _ file meant s c.requires.phase (c.define.ensures _ meant s.known is)
