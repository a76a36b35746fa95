use Rattle.std.proofs.Common.{◌∙◌, ◌-◌, ap}
use Rattle.mt_box.specs.declared.marks.row.RowPart.TheVariants as part
use Rattle.mt_pieces.proofs.LastPieces.{last_changed}
use Rattle.mt_pieces.proofs.last.set_last.Goals as goal

pub returns : goal.returns
returns c = last_changed c.args.parts.now.items (c.len-last.result - 1) (part.Layout c.args.piece) c.requires (ap (λ n. n - 1) (c.len-last.ensures ∙ c.args.parts.now.ok.0))
