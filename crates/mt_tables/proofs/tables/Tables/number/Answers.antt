use Rattle.std.proofs.Common.{sym, ap, ◌∙◌}
use Rattle.mt_macro.specs.Table.{own_count}
use Rattle.mt_lexicon.proofs.Naming.{named}
use Rattle.mt_tables.specs.Held.{Held}
use Rattle.mt_tables.proofs.Roled.{roles_kept}
use Rattle.mt_tables.proofs.Growing.{table_kept, macros_kept}
use Rattle.mt_tables.proofs.tables.Tables.number.Goals as goal

pub invariant_of-self : goal.invariant_of-self
invariant_of-self c =
    let e = c.in_err-number.ensures in
    let h = c.self.invariant in
    (roles_kept _ _ _ e.keeps h.0, macros_kept _ _ _ _ e.keeps e.distinct h.1, h.2 ∙ ap own_count (sym (table_kept _ _ _ _ e.keeps h.1)))

pub returns-in_err-number-clause-macros : goal.returns-in_err-number-clause-macros
returns-in_err-number-clause-macros c = table_kept _ _ _ _ c.in_err-number.ensures.keeps c.self.invariant.1 ∙ ap (λ (t : Held). t.macros) c.self.view_is

pub add_role-requires : goal.add_role-requires
add_role-requires c = roles_kept _ _ _ c.in_ok-number.ensures.keeps c.self.invariant.0

pub invariant_of-self-in_err-add_role : goal.invariant_of-self-in_err-add_role
invariant_of-self-in_err-add_role c =
    let e = c.in_ok-number.ensures in
    let h = c.self.invariant in
    (c.in_err-add_role.ensures, macros_kept _ _ _ _ e.keeps e.distinct h.1, h.2 ∙ ap own_count (sym (table_kept _ _ _ _ e.keeps h.1)))

pub returns-in_err-add_role-clause-macros : goal.returns-in_err-add_role-clause-macros
returns-in_err-add_role-clause-macros c = table_kept _ _ _ _ c.in_ok-number.ensures.keeps c.self.invariant.1 ∙ ap (λ (t : Held). t.macros) c.self.view_is

pub invariant_of-self-2 : goal.invariant_of-self-2
invariant_of-self-2 c =
    let e = c.in_ok-number.ensures in
    let h = c.self.invariant in
    (c.in_ok-add_role.ensures, macros_kept _ _ _ _ e.keeps e.distinct h.1, h.2 ∙ ap own_count (sym (table_kept _ _ _ _ e.keeps h.1)))

pub returns-clause-known : goal.returns-clause-known
returns-clause-known c = (named _ _ _ _ c.name-word.ensures c.in_ok-number.ensures.is).1

pub returns-clause-macros : goal.returns-clause-macros
returns-clause-macros c = table_kept _ _ _ _ c.in_ok-number.ensures.keeps c.self.invariant.1 ∙ ap (λ (t : Held). t.macros) c.self.view_is
