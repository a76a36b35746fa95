use Rattle.std.proofs.Common.{arith, sym, false}
use Rattle.mt_convert.proofs.Common.{make_row, size_of, symbol_nucleus}
use Rattle.std.proofs.lemmas.Result.{err_from_is_err_and}
use Rattle.mt_convert.specs.inner.OnPieces.{SetsAtomOn}
use Rattle.mt_convert.specs.inner.Turns.{role_value}
use Rattle.mt_convert.proofs.Appending.{fails_then}
use Rattle.mt_convert.proofs.Behind.{few_behind}
use Rattle.mt_convert.proofs.kinds.Chains.{first_made}
use Rattle.mt_convert.proofs.set.scripts.symbol_row.Goals as goal

pub returns-in_err-symbol_nucleus : goal.returns-in_err-symbol_nucleus
returns-in_err-symbol_nucleus c =
    let p = err_from_is_err_and c.from_residual.result c.from_residual.ensures.1 in
    rw (p.1, p.2) (record { is = fails_then _ (symbol_nucleus c.args.fonts.now (size_of c.args.style) c.args.symbol (role_value c.args.role) false) (λ n. make_row n.row) c.in_err-symbol_nucleus.ensures.is })

pub test_row-requires : goal.test_row-requires
test_row-requires c = record { few = few_behind c.len-first.result 4 c.args.pieces.now c.in_ok-symbol_nucleus.ensures.is.row c.symbol_nucleus.new.pieces c.len-first.ensures c.in_ok-symbol_nucleus.ensures.is.stays (omega (arith, c.in_ok-symbol_nucleus.ensures.is.few)) }

pub returns : goal.returns
returns c = record {
  is = let n = c.in_ok-symbol_nucleus.ensures.is in
      first_made (SetsAtomOn c.test_row.result c.args.pieces.now c.symbol_nucleus.new.pieces) (symbol_nucleus c.args.fonts.now (size_of c.args.style) c.args.symbol (role_value c.args.role) false) _ (λ n. make_row n.row) n.is
      (c.test_row.ensures.is c.args.pieces.now n.row (sym c.len-first.ensures) n.stays);
}
