use Rattle.std.proofs.Common.{refl}
use Rattle.mt_dviread.proofs.MachineLemmas.{not_performed}
use Rattle.mt_dviread.proofs.machine.Machine.perform.Goals as goal

pub returns-in_default-clause-performs : goal.returns-in_default-clause-performs
returns-in_default-clause-performs c =
    λ known meant k is. rw (not_performed _ known _ _ meant (record {
      char = c.in_default.not-Char;
      rule = c.in_default.not-Rule;
      nop = c.in_default.not-Nop;
      push = c.in_default.not-Push;
      pop = c.in_default.not-Pop;
      right = c.in_default.not-Right;
      down = c.in_default.not-Down;
      set = c.in_default.not-Set;
      add = c.in_default.not-Add;
      select = c.in_default.not-Select;
    }) is) refl
