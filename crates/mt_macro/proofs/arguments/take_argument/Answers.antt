use Rattle.std.proofs.Common.{◌≡◌, List, None, arith, refl, sym, subst, ◌∙◌, ap, length, true, false}
use Rattle.mt_macro.specs.Arguments.{argument}
use Rattle.mt_macro.specs.declared.run.Run.{Run}
use Rattle.mt_macro.specs.inner.Runs.{sources, left_of, Gains}
use Rattle.mt_macro.proofs.SameKinds.{open_read, close_read, space_read}
use Rattle.mt_macro.proofs.Gathers.{seeking_start, seeking_blank, seeking_end, seeking_close, seeking_token, open_ok}
use Rattle.mt_macro.proofs.arguments.take_argument.Goals as goal

pub loop-one-init : goal.loop-one-init
loop-one-init g c = record { seeking = seeking_start _ _ _ c.requires.left; same = refl }

pub next_token-requires-clause-short : goal.next_token-requires-clause-short
next_token-requires-clause-short g c =
    let src = sources (g.B.Lexicon.token c.args.tables.now) (g.B.Bodies.placed c.args.tables.now) (g.B.Bodies.body c.args.tables.now) c.args.list.now in
    omega (arith, c.loop-one.invariant.seeking.falls, ap (λ (p : List Run). length (left_of src p c.args.rest.now)) c.loop-one.invariant.same, c.requires.short)

pub take_group-requires-clause-short : goal.take_group-requires-clause-short
take_group-requires-clause-short g c =
    let src = sources (g.B.Lexicon.token c.args.tables.now) (g.B.Bodies.placed c.args.tables.now) (g.B.Bodies.body c.args.tables.now) c.args.list.now in
    let v = rw c.in-Some.is at c.in_ok-one.ensures in
    omega (arith, ap length v.is, c.loop-one.invariant.seeking.falls, ap (λ (p : List Run). length (left_of src p c.args.rest.now)) c.loop-one.invariant.same, c.requires.short)

pub returns-then-is_open : goal.returns-then-is_open
returns-then-is_open g c =
    let v = rw c.in-Some.is at c.in_ok-one.ensures in
    open_ok _ _ _ _ _ _ _ _ _ _ _ c.loop-one.invariant.same c.loop-one.invariant.seeking v (open_read (g.B.Lexicon.token c.args.tables.now) (g.B.Bodies.placed c.args.tables.now) c.args.list.now c.in-Some.one.run.place (g.met.B.Bodies.kept c.args.tables.now) c.in-Some.one.item.now true (sym c.is_open.ensures ∙ c.if-is_open.true)) c.take_group.ensures

pub returns-then-is_close : goal.returns-then-is_close
returns-then-is_close g c =
    let src = sources (g.B.Lexicon.token c.args.tables.now) (g.B.Bodies.placed c.args.tables.now) (g.B.Bodies.body c.args.tables.now) c.args.list.now in
    let v = rw c.in-Some.is at c.in_ok-one.ensures in
    subst (λ (p : List Run). argument (left_of src p c.args.rest.now) ≡ None) c.loop-one.invariant.same
    (seeking_close _ _ _ _ _ _ _ c.loop-one.invariant.seeking v (open_read (g.B.Lexicon.token c.args.tables.now) (g.B.Bodies.placed c.args.tables.now) c.args.list.now c.in-Some.one.run.place (g.met.B.Bodies.kept c.args.tables.now) c.in-Some.one.item.now false (sym c.is_open.ensures ∙ c.if-is_open.false)) (close_read (g.B.Lexicon.token c.args.tables.now) (g.B.Bodies.placed c.args.tables.now) c.args.list.now c.in-Some.one.run.place (g.met.B.Bodies.kept c.args.tables.now) c.in-Some.one.item.now true (sym c.is_close.ensures ∙ c.if-is_close.true)))

pub returns-then-not-is_space : goal.returns-then-not-is_space
returns-then-not-is_space g c =
    let src = sources (g.B.Lexicon.token c.args.tables.now) (g.B.Bodies.placed c.args.tables.now) (g.B.Bodies.body c.args.tables.now) c.args.list.now in
    let v = rw c.in-Some.is at c.in_ok-one.ensures in
    subst (λ (p : List Run). Gains src p c.loop-one.parts.runs.items c.args.rest.now c.next_token.new.rest (argument (left_of src p c.args.rest.now)) c.in-Some.one.run) c.loop-one.invariant.same
    (seeking_token _ _ _ _ _ _ _ c.loop-one.invariant.seeking v (open_read (g.B.Lexicon.token c.args.tables.now) (g.B.Bodies.placed c.args.tables.now) c.args.list.now c.in-Some.one.run.place (g.met.B.Bodies.kept c.args.tables.now) c.in-Some.one.item.now false (sym c.is_open.ensures ∙ c.if-is_open.false)) (close_read (g.B.Lexicon.token c.args.tables.now) (g.B.Bodies.placed c.args.tables.now) c.args.list.now c.in-Some.one.run.place (g.met.B.Bodies.kept c.args.tables.now) c.in-Some.one.item.now false (sym c.is_close.ensures ∙ c.if-is_close.false)) (space_read (g.B.Lexicon.token c.args.tables.now) (g.B.Bodies.placed c.args.tables.now) c.args.list.now c.in-Some.one.run.place (g.met.B.Bodies.kept c.args.tables.now) c.in-Some.one.item.now false (sym c.is_space.ensures ∙ c.if-not-is_space.true)))

pub loop-one-preserved : goal.loop-one-preserved
loop-one-preserved g c =
    let v = rw c.in-Some.is at c.in_ok-one.ensures in
    record {
      seeking = seeking_blank _ _ _ _ _ _ _ c.loop-one.invariant.seeking v (open_read (g.B.Lexicon.token c.args.tables.now) (g.B.Bodies.placed c.args.tables.now) c.args.list.now c.in-Some.one.run.place (g.met.B.Bodies.kept c.args.tables.now) c.in-Some.one.item.now false (sym c.is_open.ensures ∙ c.if-is_open.false)) (close_read (g.B.Lexicon.token c.args.tables.now) (g.B.Bodies.placed c.args.tables.now) c.args.list.now c.in-Some.one.run.place (g.met.B.Bodies.kept c.args.tables.now) c.in-Some.one.item.now false (sym c.is_close.ensures ∙ c.if-is_close.false)) (space_read (g.B.Lexicon.token c.args.tables.now) (g.B.Bodies.placed c.args.tables.now) c.args.list.now c.in-Some.one.run.place (g.met.B.Bodies.kept c.args.tables.now) c.in-Some.one.item.now true (sym c.is_space.ensures ∙ c.if-not-is_space.false));
      same = c.loop-one.invariant.same;
    }

pub returns : goal.returns
returns g c =
    let src = sources (g.B.Lexicon.token c.args.tables.now) (g.B.Bodies.placed c.args.tables.now) (g.B.Bodies.body c.args.tables.now) c.args.list.now in
    let v = rw c.in_default.is at c.in_ok-one.ensures in
    subst (λ (p : List Run). argument (left_of src p c.args.rest.now) ≡ None) c.loop-one.invariant.same (seeking_end _ _ _ _ c.loop-one.invariant.seeking v)
