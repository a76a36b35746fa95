use Rattle.std.proofs.Common.{◌-◌, ◌+◌, ℕ, take, drop, ap, ◌∙◌, arith}
use Rattle.mt_plain.specs.inner.Buckets.{start_of}
use Rattle.mt_plain.proofs.Searching.{slot_rises, slot_within}
use Rattle.mt_plain.proofs.names.rows_in.Goals as goal

pub rows_between-requires-clause-order : goal.rows_between-requires-clause-order
rows_between-requires-clause-order c =
    omega (arith, slot_rises c.args.index.rows.now c.args.index.starts.now c.args.slot c.requires.index c.requires.slot, c.start_of.ensures, c.start_of-2.ensures)

pub rows_between-requires-clause-within : goal.rows_between-requires-clause-within
rows_between-requires-clause-within c =
    omega (arith, slot_within c.args.index.rows.now c.args.index.starts.now c.args.slot c.requires.index c.requires.slot, c.start_of-2.ensures)

pub returns : goal.returns
returns c =
    c.rows_between.ensures ∙ (ap (λ (n : ℕ). take (n - c.start_of.result) (drop c.start_of.result c.args.index.rows.now)) c.start_of-2.ensures
    ∙ ap (λ (n : ℕ). take (start_of c.args.index.starts.now (c.args.slot + 1) - n) (drop n c.args.index.rows.now)) c.start_of.ensures)
