use Rattle.std.proofs.Common.{◌<◌, length, arith}
use Rattle.std.proofs.lemmas.List.Elements.{All-set}
use Rattle.mt_scaled.specs.Number.{Within, max_dimen}
use Rattle.mt_align.specs.CellLayers.{bare}
use Rattle.mt_align.proofs.ColumnWidths.{wider, set_widens}
use Rattle.mt_align.proofs.widths.widen_column.Goals as goal

pub returns-then-column-len-clause-is : goal.returns-then-column-len-clause-is
returns-then-column-len-clause-is c =
    let lt : c.args.column < length c.args.widths.now.items = omega (arith, c.if-column-len.true, c.len.ensures, c.args.widths.now.ok.0) in
    let w = wider c.args.widths.now.items c.args.column c.index.result.now c.args.cell.width c.max.result lt c.index.ensures c.max.ensures.value c.requires.cell.width c.requires.small in
    set_widens c.args.widths.now.items c.args.column (bare c.args.cell) c.index.result.now _ lt c.index.ensures w.0

pub returns-then-column-len-clause-small : goal.returns-then-column-len-clause-small
returns-then-column-len-clause-small c =
    let lt : c.args.column < length c.args.widths.now.items = omega (arith, c.if-column-len.true, c.len.ensures, c.args.widths.now.ok.0) in
    let w = wider c.args.widths.now.items c.args.column c.index.result.now c.args.cell.width c.max.result lt c.index.ensures c.max.ensures.value c.requires.cell.width c.requires.small in
    All-set (Within max_dimen) c.args.widths.now.items c.args.column _ w.1 c.requires.small
