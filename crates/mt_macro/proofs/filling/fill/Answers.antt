use Rattle.std.proofs.Common.{sym, ap, ◌∙◌, ◌-◌}
use Rattle.mt_token.specs.Character.{character_code}
use Rattle.mt_token.specs.declared.token.TokenKind.{TokenKind}
use Rattle.mt_macro.specs.declared.run.Place.TheVariants.{Body}
use Rattle.mt_macro.specs.inner.Runs.{read_at}
use Rattle.mt_macro.proofs.Fillings.{filling_step, filled_ok}
use Rattle.mt_macro.proofs.SameKinds.{read_kind, parameter_same, called_items}
use Rattle.mt_macro.proofs.filling.fill.Goals as goal

pub loop-index-preserved : goal.loop-index-preserved
loop-index-preserved g c =
    filling_step (read_at (g.B.Lexicon.token c.args.tables.now) (g.B.Bodies.placed c.args.tables.now) c.args.list.now (Body c.args.called)) _ _ _ c.body-body.result.now c.items_in.result.now _ _ _ _ _ _ c.item_at.result.now _
    (called_items (g.B.Lexicon.token c.args.tables.now) (g.B.Bodies.placed c.args.tables.now) c.args.list.now (g.B.Bodies.body c.args.tables.now) c.args.called c.body-body.result.now c.body-body.ensures.is) c.items_in.ensures c.requires.given c.requires.short
    c.loop-index.invariant (c.in-Some.ensures.is ∙ (parameter_same (g.B.Lexicon.token c.args.tables.now) (read_at (g.B.Lexicon.token c.args.tables.now) (g.B.Bodies.placed c.args.tables.now) c.args.list.now (Body c.args.called)) (λ x. sym (read_kind (g.B.Lexicon.token c.args.tables.now) (g.B.Bodies.placed c.args.tables.now) c.args.list.now (Body c.args.called) (g.met.B.Bodies.kept c.args.tables.now) x)) c.items_in.result.now)) c.in-Some.ensures.within c.item_at.ensures
    (c.index_of-digit.ensures ∙ sym (ap (λ (n : TokenKind). character_code n - 49) (read_kind (g.B.Lexicon.token c.args.tables.now) (g.B.Bodies.placed c.args.tables.now) c.args.list.now (Body c.args.called) (g.met.B.Bodies.kept c.args.tables.now) c.item_at.result.now)))
    c.in_ok-put_items.ensures c.in_ok-put_given.ensures

pub returns : goal.returns
returns g c =
    filled_ok (read_at (g.B.Lexicon.token c.args.tables.now) (g.B.Bodies.placed c.args.tables.now) c.args.list.now (Body c.args.called)) _ _ _ c.body-body.result.now c.items_in.result.now _ _ _ _ _
    (called_items (g.B.Lexicon.token c.args.tables.now) (g.B.Bodies.placed c.args.tables.now) c.args.list.now (g.B.Bodies.body c.args.tables.now) c.args.called c.body-body.result.now c.body-body.ensures.is) c.items_in.ensures c.loop-index.invariant
    (c.in_default.ensures.is ∙ (parameter_same (g.B.Lexicon.token c.args.tables.now) (read_at (g.B.Lexicon.token c.args.tables.now) (g.B.Bodies.placed c.args.tables.now) c.args.list.now (Body c.args.called)) (λ x. sym (read_kind (g.B.Lexicon.token c.args.tables.now) (g.B.Bodies.placed c.args.tables.now) c.args.list.now (Body c.args.called) (g.met.B.Bodies.kept c.args.tables.now) x)) c.items_in.result.now)) c.put_items-2.ensures c.body-body.ensures.short
