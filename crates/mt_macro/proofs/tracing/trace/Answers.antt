use Rattle.std.proofs.Common.{List, ap, subst, ◌∙◌}
use Rattle.mt_token.specs.declared.token.Token.{Token}
use Rattle.mt_macro.specs.PlacedExpansion.{at_call, placed_expansion, StopsAs}
use Rattle.mt_macro.specs.Table.{Table}
use Rattle.mt_macro.specs.Traced.{traced_tokens}
use Rattle.mt_macro.proofs.tracing.trace.Goals as goal

pub returns-clause-is : goal.returns-clause-is
returns-clause-is c =
    subst (λ (m : Table). StopsAs c.expand-end.result (traced_tokens c.expand-end.new.out.items) (placed_expansion at_call m c.args.list.now)) c.in_ok-tables.ensures
    (subst (λ (ts : List Token). StopsAs c.expand-end.result (traced_tokens c.expand-end.new.out.items) (placed_expansion at_call c.in_ok-tables.tables.macros.now ts))
    (ap traced_tokens c.as_slice.ensures.value ∙ c.in_ok-given.ensures) c.expand-end.ensures.is)
