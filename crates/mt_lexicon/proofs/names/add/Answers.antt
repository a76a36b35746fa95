use Rattle.std.proofs.Common.{◌≡◌, subst}
use Rattle.std.specs.Str.{bytes_eq}
use Rattle.mt_lexicon.proofs.Numbers.{numbered, extends_keys, distinct_keys}
use Rattle.mt_lexicon.proofs.names.add.Goals as goal

pub returns-clause-is : goal.returns-clause-is
returns-clause-is c =
    let s = c.in_ok-at.ensures.stored in
    numbered (λ k. k.items) c.insert_full.new.self.keys c.in_ok-at.at s.0 c.args.name.now s.1 (subst (λ xs. bytes_eq xs s.0.items ≡ _) c.in_ok-from_slice.ensures.items s.2)

pub returns-clause-keeps : goal.returns-clause-keeps
returns-clause-keeps c = rw c.in_ok-at.ensures.keys (extends_keys (λ k. k.items) _ _ _)

pub returns-clause-distinct : goal.returns-clause-distinct
returns-clause-distinct c = λ d. rw c.in_ok-at.ensures.keys (distinct_keys (λ k. k.items) _ _ _ c.args.name.now c.in_ok-from_slice.ensures.items c.requires d)
