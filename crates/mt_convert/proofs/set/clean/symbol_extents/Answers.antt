use Rattle.mt_convert.proofs.RowsOn.{removed}
use Rattle.mt_convert.proofs.set.clean.symbol_extents.Goals as goal

pub returns : goal.returns
returns c =
    let b = c.in_ok-clean_symbol.ensures.is in
    record {
      is = record { box = b.box; is = b.is; same = c.last_extents-extents.ensures.is c.args.pieces.now _ b.box b.stays };
      in_range = c.last_extents-extents.ensures.in_range;
      others = removed c.len-first.result c.args.pieces.now c.clean_symbol.new.pieces c.remove.new.self b.box c.len-first.ensures b.stays c.remove.ensures;
    }
