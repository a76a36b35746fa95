use Rattle.std.proofs.Common.{sym}
use Rattle.std.specs.Str.{bytes_eq}
use Rattle.mt_lexicon.proofs.Numbers.{numbered, found_at, not_there}
use Rattle.mt_lexicon.proofs.names.number_in.Goals as goal

pub returns-in-Some-clause-is : goal.returns-in-Some-clause-is
returns-in-Some-clause-is c =
    let f = found_at (λ k. bytes_eq c.args.name.now k.items) c.args.set.now.keys c.in-Some.at (sym c.in-Some.ensures.index) in
    numbered (λ k. k.items) c.args.set.now.keys c.in-Some.at f.0 c.args.name.now f.1 f.2

pub add-requires : goal.add-requires
add-requires c = not_there (λ k. k.items) c.args.name.now c.args.set.now.keys (sym c.in-None.ensures.found)
