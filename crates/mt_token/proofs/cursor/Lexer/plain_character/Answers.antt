use Rattle.std.proofs.Common.{refl, sym, ◌∙◌}
use Rattle.mt_token.proofs.Plain.{plain_steps}
use Rattle.mt_token.proofs.cursor.Lexer.plain_character.Goals as goal

pub returns-clause-is : goal.returns-clause-is
returns-clause-is c =
    let s = plain_steps c.args.self.now.bytes.now c.rest_from.result.now c.args.self.now.state c.args.self.now.at c.in_ok-c.c c.rest_from.ensures (sym c.plain_in_front.ensures ∙ c.in_ok-c.was) in
    (s.0, s.1, refl)
