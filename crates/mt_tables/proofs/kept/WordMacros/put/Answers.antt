use Rattle.std.proofs.Common.{length, sym, ap, subst, ◌∙◌, List, ℕ}
use Rattle.std.specs.Prelude.{Option}
use Rattle.mt_macro.specs.Table.{Table, with_macro}
use Rattle.mt_tables.specs.declared.kept.KeptMacro.{KeptMacro}
use Rattle.mt_tables.specs.inner.KeptMacros.{AreMacros, Lists, kept_at, name_at, table_of, macro_of_kept}
use Rattle.mt_tables.proofs.Puts.{pads_kept, pads_table, put_is, put_kept, on_err}
use Rattle.mt_tables.proofs.kept.WordMacros.put.Goals as goal

pub returns-in_err-reach-clause-macros : goal.returns-in_err-reach-clause-macros
returns-in_err-reach-clause-macros c = pads_kept _ _ _ _ c.reach.ensures.pads (c.reach.ensures.within (length c.args.names.now) c.requires.macros.within c.requires.within) c.requires.macros

pub returns-in_err-reach-clause-err : goal.returns-in_err-reach-clause-err
returns-in_err-reach-clause-err c = on_err _ (pads_table _ _ _ _ c.reach.ensures.pads)

pub list_name-requires-clause-macros : goal.list_name-requires-clause-macros
list_name-requires-clause-macros c =
    subst (λ (ks : List (Option KeptMacro)). AreMacros c.args.names.now ks c.args.self.now.order.items) (sym c.as_slice.ensures.value)
    (pads_kept _ _ _ _ c.reach.ensures.pads (c.reach.ensures.within (length c.args.names.now) c.requires.macros.within c.requires.within) c.requires.macros)

pub returns-in_err-list_name-clause-macros : goal.returns-in_err-list_name-clause-macros
returns-in_err-list_name-clause-macros c =
    subst (λ (order : List ℕ). AreMacros c.args.names.now c.reach.new.kept.items order) (sym c.in_err-list_name.ensures.err)
    (pads_kept _ _ _ _ c.reach.ensures.pads (c.reach.ensures.within (length c.args.names.now) c.requires.macros.within c.requires.within) c.requires.macros)

pub returns-in_err-list_name-clause-err : goal.returns-in_err-list_name-clause-err
returns-in_err-list_name-clause-err c =
    on_err _ (ap (table_of c.args.names.now c.reach.new.kept.items) c.in_err-list_name.ensures.err ∙ pads_table _ _ _ _ c.reach.ensures.pads)

pub returns-clause-macros : goal.returns-clause-macros
returns-clause-macros c =
    let before = pads_kept _ _ _ _ c.reach.ensures.pads (c.reach.ensures.within (length c.args.names.now) c.requires.macros.within c.requires.within) c.requires.macros in
    let lists = subst (λ (ks : List (Option KeptMacro)). Lists c.args.names.now (kept_at ks c.args.number) c.args.self.now.order.items c.list_name.new.order.items c.args.number) c.as_slice.ensures.value c.in_ok-list_name.ensures.ok in
    subst (λ (ks : List (Option KeptMacro)). AreMacros c.args.names.now ks c.list_name.new.order.items) (sym c.keep.ensures)
    (put_kept _ _ _ _ _ c.args.meaning before c.requires.within c.in_ok-reach.ensures.reaches c.requires.known lists)

pub returns-clause-ok : goal.returns-clause-ok
returns-clause-ok c =
    let before = pads_kept _ _ _ _ c.reach.ensures.pads (c.reach.ensures.within (length c.args.names.now) c.requires.macros.within c.requires.within) c.requires.macros in
    let lists = subst (λ (ks : List (Option KeptMacro)). Lists c.args.names.now (kept_at ks c.args.number) c.args.self.now.order.items c.list_name.new.order.items c.args.number) c.as_slice.ensures.value c.in_ok-list_name.ensures.ok in
    ap (λ (ks : List (Option KeptMacro)). table_of c.args.names.now ks c.list_name.new.order.items) c.keep.ensures
    ∙ (put_is _ _ _ _ _ c.args.meaning before c.requires.within c.in_ok-reach.ensures.reaches lists
    ∙ ap (λ (t : Table). with_macro t (name_at c.args.names.now c.args.number) (macro_of_kept c.args.names.now c.args.meaning)) (pads_table _ _ _ _ c.reach.ensures.pads))
