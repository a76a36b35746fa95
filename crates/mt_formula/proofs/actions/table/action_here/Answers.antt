use Rattle.std.proofs.Common.{[], ◌≡◌, sym, rules}
use Rattle.mt_scan.specs.Role.{role_of}
use Rattle.mt_formula.specs.reading.Noads.{last_in}
use Rattle.mt_formula.proofs.Acting.{action_opens}
use Rattle.mt_formula.proofs.actions.table.action_here.Goals as goal

pub returns-in-Some-clause-level : goal.returns-in-Some-clause-level
returns-in-Some-clause-level g c =
    let codes = g.R.Roles.codes c.args.grammar.roles.now in
    let token = g.R.Lexicon.token c.args.grammar.roles.now in
    let front : role_of codes (token c.token-item.result) ≡ c.args.role = search rules in
    action_opens codes c.args.grammar.units c.args.group.level c.args.group.family (last_in [] c.args.last.now) (token c.token-item.result) _ _ c.args.role c.in-Some.part.value (sym front)
    ((rw (c.in-Some.is) at c.in_ok-part.ensures.is) [])
