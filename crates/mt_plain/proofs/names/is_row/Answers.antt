use Rattle.std.proofs.Common.{◌∙◌, sym}
use Rattle.mt_plain.proofs.Comparing.{row_eq_is, at_end, at_blank, at_other_end, at_parting, no_name}
use Rattle.mt_plain.proofs.names.is_row.Goals as goal

pub returns-then-byte-eq32 : goal.returns-then-byte-eq32
returns-then-byte-eq32 c =
    no_name _ c.loop-bytes.left.now c.is_empty.ensures
    ∙ (at_blank c.loop-bytes.bytes.now c.loop-bytes.left.now c.in-len1-up.len_at_least c.if-byte-eq32.true ∙ (sym c.loop-bytes.invariant ∙ row_eq_is c.args.row.now.0 c.args.name.now))

pub returns-in_default-left : goal.returns-in_default-left
returns-in_default-left c = at_other_end c.loop-bytes.bytes.now c.loop-bytes.left.now c.in-len1-up.len_at_least c.if-byte-eq32.false c.in_default-left.len_below ∙ (sym c.loop-bytes.invariant ∙ row_eq_is c.args.row.now.0 c.args.name.now)

pub returns-in_default-left-2 : goal.returns-in_default-left-2
returns-in_default-left-2 c = at_parting c.loop-bytes.bytes.now c.loop-bytes.left.now c.in-len1-up.len_at_least c.if-byte-eq32.false c.in-len1-up-left.len_at_least c.if-first-byte.false ∙ (sym c.loop-bytes.invariant ∙ row_eq_is c.args.row.now.0 c.args.name.now)

pub returns : goal.returns
returns c =
    no_name _ c.loop-bytes.left.now c.is_empty-2.ensures
    ∙ (at_end c.loop-bytes.bytes.now c.loop-bytes.left.now c.in_default.len_below ∙ (sym c.loop-bytes.invariant ∙ row_eq_is c.args.row.now.0 c.args.name.now))
