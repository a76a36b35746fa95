use Rattle.std.proofs.Common.{◌≡◌, ◌+◌, [], arith, drop, get_or, length, sym, subst}
use Rattle.std.proofs.lemmas.List.{drop_all, drop_more}
use Rattle.std.proofs.lemmas.Bool.{eqb-true}
use Rattle.mt_pieces.specs.inner.Cells.{AreBoxes, BoxesInRange, flat}
use Rattle.mt_pieces.proofs.Celling.{range_take, rows_left_end, rows_left_more}
use Rattle.mt_pieces.proofs.tables.table_extents.Goals as goal

pub row_extents-requires : goal.row_extents-requires
row_extents-requires c = subst BoxesInRange (sym c.split_at.ensures.front) (range_take _ c.loop-count.rest.now c.loop-count.invariant.left_in_range)

pub loop-count-preserved : goal.loop-count-preserved
loop-count-preserved c =
    let l = c.loop-count in
    rows_left_more c.args.parts.now l.rest.now c.split_at.result.1.now c.args.rows.now (drop l.count-index c.args.rows.now) (drop (l.count-index + 1) c.args.rows.now) (get_or c.args.rows.now l.count-index 0) c.split_at.result.0.now c.in_ok-row_extents.field-0 l.extents.items c.push.new.self.items l.invariant
    (drop_more c.args.rows.now l.count-index 0 c.loop-count-test.true) c.if-rest-count.false c.split_at.ensures.front c.split_at.ensures.back c.in_ok-row_extents.ensures.boxes c.in_ok-row_extents.ensures.in_range c.in_ok-push.ensures.items

pub returns-clause-boxes : goal.returns-clause-boxes
returns-clause-boxes c =
    let l = c.loop-count in
    let none : l.rest.now ≡ [] = drop_all 0 l.rest.now (omega (arith, eqb-true (length l.rest.now) 0 (sym c.if-not-is_empty.ensures))) in
    subst (λ z. AreBoxes c.args.parts.now (flat z)) (sym c.from_vec.ensures) (rows_left_end c.args.parts.now l.rest.now c.args.rows.now (drop l.count-index c.args.rows.now) l.extents.items l.invariant none)
