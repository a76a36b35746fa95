use Rattle.std.proofs.Common.{map, arith}
use Rattle.std.proofs.lemmas.List.{length-map}
use Rattle.mt_reader.proofs.Expanding.{expanded_short}
use Rattle.mt_reader.proofs.document_state.DocumentState.is_expanded.Goals as goal

pub returns-clause-short : goal.returns-clause-short
returns-clause-short g c =
    let token = g.K.Lexicon.token c.args.self.now.tables in
    let tokens = map token c.args.tokens.now in
    λ h. omega (arith, length-map c.args.tokens.now token, expanded_short (g.K.Bodies.macros c.args.self.now.tables) tokens tokens (c.matched_expands_to_itself.ensures.0 h))
