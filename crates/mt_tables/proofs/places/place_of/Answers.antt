use Rattle.std.proofs.Common.{◌≡◌, ◌<◌, ◌+◌, ◌-◌, ◌/◌, inl, inr, arith, ap, sym, ◌∙◌, [], ℕ, length, map}
use Rattle.std.proofs.lemmas.List.{length-map}
use Rattle.mt_tables.specs.inner.KeptMacros.{name_at}
use Rattle.mt_tables.proofs.Searching.{searching_start, searching_above, searching_below, searching_end, compare, keyed, not_equal}
use Rattle.mt_tables.proofs.places.place_of.Goals as goal

pub loop-low-init : goal.loop-low-init
loop-low-init c = searching_start _ _ _ (sym (length-map c.args.order.now (name_at c.args.names.now)))

pub loop-low-preserved-in-Greater : goal.loop-low-preserved-in-Greater
loop-low-preserved-in-Greater c =
    let i : ℕ = c.loop-low.low + (c.loop-low.high - c.loop-low.low) / 2 in
    let size : length (map (name_at c.args.names.now) c.args.order.now) ≡ length c.args.order.now = length-map c.args.order.now (name_at c.args.names.now) in
    let low : i < length c.args.order.now = omega (arith, c.loop-low-test.true, c.loop-low.invariant.fits, size) in
    searching_above _ _ [] _ _ i c.loop-low.invariant c.requires.sorted (omega (arith, c.loop-low-test.true))
    (ap (compare c.args.name.now) (keyed (name_at c.args.names.now) c.args.order.now i [] low ∙ sym c.name_at.ensures) ∙ sym c.cmp.ensures ∙ c.in-Greater.is)

pub loop-low-preserved : goal.loop-low-preserved
loop-low-preserved c =
    let i : ℕ = c.loop-low.low + (c.loop-low.high - c.loop-low.low) / 2 in
    let size : length (map (name_at c.args.names.now) c.args.order.now) ≡ length c.args.order.now = length-map c.args.order.now (name_at c.args.names.now) in
    let low : i < length c.args.order.now = omega (arith, c.loop-low-test.true, c.loop-low.invariant.fits, size) in
    let same = ap (compare c.args.name.now) (keyed (name_at c.args.names.now) c.args.order.now i [] low ∙ sym c.name_at.ensures) ∙ sym c.cmp.ensures in
    elim c.in-Less.is [
      | inl e ↦ searching_below _ _ [] _ _ i c.loop-low.invariant c.requires.sorted (omega arith) (omega (arith, c.loop-low-test.true)) (same ∙ e)
      | inr e ↦ absurd (not_equal _ _ [] i c.requires.absent (omega (arith, low, size)) (same ∙ e))
    ]

pub returns-clause-is : goal.returns-clause-is
returns-clause-is c = searching_end _ _ _ _ c.loop-low.invariant c.loop-low-test.false
