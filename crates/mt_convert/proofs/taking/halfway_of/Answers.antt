use Rattle.std.proofs.Common.{◌≡◌, ℤ, arith, rules, w64, to_z, of_z, FitsSigned, subst, sym}
use Rattle.mt_convert.proofs.Common.{ints}
use Rattle.mt_convert.specs.inner.Taken.{AreTaken}
use Rattle.mt_convert.proofs.TakenRows.{is_halfway}
use Rattle.mt_convert.proofs.taking.halfway_of.Goals as goal

-- a word keeps its number
kept_word : (z : ℤ) → FitsSigned w64 z → to_z w64 (of_z w64 z) ≡ z
kept_word z h = omega (arith, ints)

pub invariant_of-result : goal.invariant_of-result
invariant_of-result c =
    let f : FitsSigned w64 c.args.halves.height.sp = search rules in
    let g : FitsSigned w64 c.args.halves.depth.sp = search rules in
    let t = subst (λ i. AreTaken c.in_ok-items.items.items i c.args.pieces) c.as_slice.ensures c.in_ok-items.ensures in
    is_halfway c.args.halves c.args.pieces _ c.requires.placed (subst (λ hs. AreTaken hs c.args.halves.items c.args.pieces) (sym c.from_vec.ensures) t) (kept_word c.args.halves.height.sp f) (kept_word c.args.halves.depth.sp g)

pub returns-clause-fits : goal.returns-clause-fits
returns-clause-fits c = λ n le.
    let t = subst (λ i. AreTaken c.in_ok-items.items.items i c.args.pieces) c.as_slice.ensures c.in_ok-items.ensures in
    (subst (λ hs. AreTaken hs c.args.halves.items c.args.pieces) (sym c.from_vec.ensures) t).fit c.requires.placed.items.fit n le
