use Rattle.std.proofs.Common.{subst, sym, pos, arith, drop, ap, ◌∙◌, Ok}
use Rattle.mt_arena.specs.Arena.{sequence_in}
use Rattle.mt_pages.proofs.Common.{Layout, pack_row}
use Rattle.mt_pages.proofs.DisplayLemmas.{BoxMade, formula_boxed, formula_not_boxed}
use Rattle.mt_pages.specs.inner.Lines.{BoxHolds}
use Rattle.mt_pages.proofs.display_rows.formula_box.Goals as goal
use Rattle.mt_pages.proofs.display_rows.formula_box.Goals.{In_ok-take_box-in-Ok}

made : (c : In_ok-take_box-in-Ok) → BoxMade c.args.fonts.now c.args.n c.args.style (sequence_in c.args.arena.now.closed c.args.list) c.args.pieces.now c.pack.new.self
made c = formula_boxed c.args.fonts.now c.args.n c.args.style (sequence_in c.args.arena.now.closed c.args.list) c.len-first.result c.args.pieces.now c.put_row.new.pieces c.pack.new.self c.in_ok-put_row.ensures.is c.len-first.ensures c.in-Ok.ensures

pub returns-in_ok-take_box-in-Ok-clause-is : goal.returns-in_ok-take_box-in-Ok-clause-is
returns-in_ok-take_box-in-Ok-clause-is c =
    let m = made c in
    m.is ∙ ap Ok (sym (c.in_ok-take_box-in-Ok.ensures.is c.args.pieces.now (pos 0) m.box m.stays))

pub returns-in_ok-take_box-in-Ok-clause-fits : goal.returns-in_ok-take_box-in-Ok-clause-fits
returns-in_ok-take_box-in-Ok-clause-fits c =
    let m = made c in
    record {
      level = omega (arith, c.in_ok-take_box-in-Ok.ensures.level);
      holds = subst (λ (l : Layout). BoxHolds c.args.fonts.now l) (sym (c.in_ok-take_box-in-Ok.ensures.is c.args.pieces.now (pos 0) m.box m.stays)) m.holds;
    }

pub returns-in_ok-take_box-in-Ok-clause-stay : goal.returns-in_ok-take_box-in-Ok-clause-stay
returns-in_ok-take_box-in-Ok-clause-stay c =
    let m = made c in
    c.in_ok-take_box-in-Ok.ensures.others c.args.pieces.now (pos 0) m.box m.stays

pub returns-in-Err-clause-is : goal.returns-in-Err-clause-is
returns-in-Err-clause-is c =
    formula_not_boxed c.args.fonts.now c.args.n c.args.style (sequence_in c.args.arena.now.closed c.args.list) c.len-first.result c.args.pieces.now c.put_row.new.pieces c.pack_refusal.result c.in_ok-put_row.ensures.is c.len-first.ensures
    (c.pack_refusal.ensures.boxed _ _ (pack_row (drop c.len-first.result c.put_row.new.pieces)) c.in-Err.ensures)
