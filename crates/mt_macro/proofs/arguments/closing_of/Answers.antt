use Rattle.std.proofs.Common.{sym, ◌∙◌, ap, arith, length}
use Rattle.std.proofs.lemmas.List.{length-map}
use Rattle.mt_macro.specs.inner.Runs.{sources, read_at}
use Rattle.mt_macro.proofs.SameKinds.{read_kind, closes_same, ends_same}
use Rattle.mt_macro.proofs.Balances.{closes_argument, closes_basic, run_items, run_ends}
use Rattle.mt_macro.proofs.Stacks.{opened_basic, basic_bounds}
use Rattle.mt_macro.proofs.arguments.closing_of.Goals as goal

pub returns-then-is_opened : goal.returns-then-is_opened
returns-then-is_opened g c = closes_argument _ _ _ c.args.run c.requires.run c.requires.whole (sym c.is_opened.ensures ∙ c.if-is_opened.true)

pub items_in-requires : goal.items_in-requires
items_in-requires g c =
    let b = opened_basic _ (sym c.is_opened.ensures ∙ c.if-is_opened.false) in
    let w = basic_bounds _ _ c.args.run b c.requires.run in
    (omega (arith, w.0), omega (arith, w.1, ap length c.items_of.ensures, length-map c.items_of.result.now (read_at (g.B.Lexicon.token c.args.tables.now) (g.B.Bodies.placed c.args.tables.now) c.args.list.now c.args.run.place)))

pub returns-else-is_opened : goal.returns-else-is_opened
returns-else-is_opened g c =
    let b = opened_basic _ (sym c.is_opened.ensures ∙ c.if-is_opened.false) in
    closes_basic _ _ _ c.args.run _ _ b (run_items (read_at (g.B.Lexicon.token c.args.tables.now) (g.B.Bodies.placed c.args.tables.now) c.args.list.now c.args.run.place) _ _ c.args.run c.items_of.result.now c.items_in.result.now b c.items_of.ensures c.items_in.ensures)
    (closes_same (g.B.Lexicon.token c.args.tables.now) (read_at (g.B.Lexicon.token c.args.tables.now) (g.B.Bodies.placed c.args.tables.now) c.args.list.now c.args.run.place)
    (λ x. sym (read_kind (g.B.Lexicon.token c.args.tables.now) (g.B.Bodies.placed c.args.tables.now) c.args.list.now c.args.run.place (g.met.B.Bodies.kept c.args.tables.now) x)) _ c.items_in.result.now _ c.leave_group.ensures)

pub leave_group-requires-clause-ends : goal.leave_group-requires-clause-ends
leave_group-requires-clause-ends g c =
    let b = opened_basic _ (sym c.is_opened.ensures ∙ c.if-is_opened.false) in
    ends_same (read_at (g.B.Lexicon.token c.args.tables.now) (g.B.Bodies.placed c.args.tables.now) c.args.list.now c.args.run.place) (g.B.Lexicon.token c.args.tables.now)
    (read_kind (g.B.Lexicon.token c.args.tables.now) (g.B.Bodies.placed c.args.tables.now) c.args.list.now c.args.run.place (g.met.B.Bodies.kept c.args.tables.now)) c.items_in.result.now _
    (run_ends (read_at (g.B.Lexicon.token c.args.tables.now) (g.B.Bodies.placed c.args.tables.now) c.args.list.now c.args.run.place) (sources (g.B.Lexicon.token c.args.tables.now) (g.B.Bodies.placed c.args.tables.now) (g.B.Bodies.body c.args.tables.now) c.args.list.now) c.args.run c.items_of.result.now c.items_in.result.now _ _ b
    c.items_of.ensures c.items_in.ensures c.requires.ends c.ends_in.ensures)
