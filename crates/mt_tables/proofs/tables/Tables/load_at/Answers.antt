use Rattle.std.proofs.Common.{refl, sym, ap, ◌∙◌}
use Rattle.mt_macro.specs.Table.{Table, macro_of}
use Rattle.mt_tables.proofs.Loads.{fresh, loaded, on_ok_more, not_none}
use Rattle.mt_tables.proofs.tables.Tables.load_at.Goals as goal

pub load-requires-clause-new : goal.load-requires-clause-new
load-requires-clause-new c =
    ap (λ (t : Table). macro_of t c.in-Some.entry.now.name) c.requires.loaded ∙ fresh c.args.macros.now c.args.index c.in-Some.entry.now.name c.in-Some.entry.now.meaning c.entry.ensures.sorted (sym c.in-Some.ensures.is)

pub returns-in-Some-clause-ok : goal.returns-in-Some-clause-ok
returns-in-Some-clause-ok c =
    on_ok_more c.load.result c.load.ensures.ok
    (λ e. loaded c.args.macros.now _ _ c.args.index _ c.in-Some.entry.now.name c.in-Some.entry.now.meaning c.entry.ensures.sorted (sym c.in-Some.ensures.is) c.requires.loaded e refl)

pub returns-in-None-clause-ok : goal.returns-in-None-clause-ok
returns-in-None-clause-ok c = absurd (not_none c.args.macros.now c.args.index c.requires.within c.in-None.ensures.is)
