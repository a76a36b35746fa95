use Rattle.std.proofs.Common.{ap, sym, ◌∙◌, length, take, drop, map, ◌-◌, arith}
use Rattle.std.proofs.lemmas.List.{length-map, length-drop, length-take-le}
use Rattle.mt_formula.specs.Primes.{argument_after, argument_at, argument_read}
use Rattle.mt_formula.proofs.Mapped.{first_of}
use Rattle.mt_formula.proofs.Parting.{one_token}
use Rattle.mt_formula.proofs.reading.argument.argument_here.Goals as goal

pub returns-in_default : goal.returns-in_default
returns-in_default g c =
    let codes = g.R.Roles.codes c.args.roles.now in
    let token = g.R.Lexicon.token c.args.roles.now in
    let t = token c.token-item.result in
    let after = take (length c.args.tokens.now - 1) (drop 1 c.args.tokens.now) in
    let rest = map token after in
    let is = first_of token c.args.tokens.now c.token-item.result c.in-len1-up.len_at_least c.token-item.is in
    record {
      is = λ units again count.
          ap (argument_after codes units again count c.args.group.level c.args.group.family) is
          ∙ ap (argument_at codes units again count c.args.group.level c.args.group.family t rest) (sym c.role_of.ensures)
          ∙ one_token codes units again count c.args.group.level c.args.group.family t rest c.role_of.result c.in_default.not-OpenBrace c.in_default.not-CloseBrace
          ∙ ap (λ ts. argument_read codes units again count c.args.group.level c.args.group.family (record { tokens = ts; behind = length rest; after = rest })) (sym (c.first_tokens.ensures.is ∙ ap (take 1) is))
          ∙ ap (λ n. argument_read codes units again count c.args.group.level c.args.group.family (record { tokens = map token c.first_tokens.result.now; behind = n; after = rest })) (length-map after token);
      falls = omega (arith, c.first_tokens.ensures.length, c.in-len1-up.len_at_least, length-take-le (length c.args.tokens.now - 1) (drop 1 c.args.tokens.now) (omega (arith, length-drop 1 c.args.tokens.now)));
    }
