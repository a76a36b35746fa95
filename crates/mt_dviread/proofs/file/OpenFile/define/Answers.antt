use Rattle.mt_dviread.proofs.OpenFiles.{defines}
use Rattle.mt_dviread.proofs.file.OpenFile.define.Goals as goal

pub returns-clause-goes : goal.returns-clause-goes
returns-clause-goes c = λ file meant s none is. defines _ _ _ _ file meant s none (c.define.ensures _ meant s.known is)
