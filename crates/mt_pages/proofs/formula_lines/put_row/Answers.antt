use Rattle.mt_pages.proofs.formula_lines.put_row.Goals as goal

pub set_span-requires : goal.set_span-requires
set_span-requires c = record { within = c.requires.modest.within; modest = c.requires.modest.modest; lists = c.requires.modest.lists }
