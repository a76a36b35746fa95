use Rattle.mt_display.proofs.Common.{pack, piece_values}
use Rattle.mt_display.proofs.PackedRows.{memory_alone}
use Rattle.mt_display.proofs.open_rows.pack_in_range.Goals as goal

pub returns-clause-memory : goal.returns-clause-memory
returns-clause-memory c = memory_alone (pack (piece_values c.args.row)) c.hpack.result c.requires.in_range c.hpack.ensures.packs
