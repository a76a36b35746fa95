use Rattle.std.proofs.Common.{map, rules}
use Rattle.std.specs.Prelude.{string_bytes}
use Rattle.clap.specs.Words.{app_of}
use Rattle.mt_words.proofs.FoundLemmas.{refused}
use Rattle.mt_words.proofs.command_line.match_words.Goals as goal

pub returns : goal.returns
returns c =
    refused (app_of c.in_ok-command.command) (map string_bytes c.args.words.now) c.in-Err.error c.in_ok-command.ensures c.in-Err.ensures.kinds (λ memory. search rules)
