use Rattle.std.proofs.Common.{ap, sym, ◌∙◌}
use Rattle.mt_scan.specs.Role.{nucleus_kind}
use Rattle.mt_formula.specs.Atoms.{plain_atom}
use Rattle.mt_formula.specs.Items.{atom_given}
use Rattle.mt_formula.specs.reading.WholeLists.{list_in}
use Rattle.mt_formula.proofs.Giving.{other_nucleus}
use Rattle.mt_formula.proofs.reading.given.nucleus_given.Goals as goal

pub returns-clause-is : goal.returns-clause-is
returns-clause-is c =
    c.atom_given.ensures.is _ c.in_ok-nucleus.ensures.kept
    ∙ ap (λ p. atom_given (plain_atom (nucleus_kind c.args.kind) p)) c.in_ok-nucleus.ensures.is
    ∙ ap atom_given (sym (other_nucleus (nucleus_kind c.args.kind) (list_in c.args.arena.now.closed c.args.list) (sym c.is_ordinary.ensures ∙ c.if-is_ordinary.false)))
