use Rattle.std.proofs.Common.{◌∙◌, sym, arith}
use Rattle.mt_dviread.proofs.OpenFiles.{file_ends}
use Rattle.mt_dviread.proofs.file.OpenFile.end.Goals as goal

pub returns-then-is_padding : goal.returns-then-is_padding
returns-then-is_padding c = λ fonts file s. file_ends fonts c.args.self.now file c.args.post c.args.version c.args.after.now s c.if-after-lt4.false (omega arith) c.if-post-self.true (c.if-version-from.true ∙ c.from.ensures) (sym c.if-is_padding.ensures)
