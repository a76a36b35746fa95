use Rattle.std.proofs.Common.{map, refl, sym, subst, arith, length, ap}
use Rattle.std.proofs.lemmas.List.{length-map}
use Rattle.mt_token.specs.declared.token.Token.{Token}
use Rattle.mt_macro.specs.inner.Passing.{PushesPlain, PassesTo}
use Rattle.mt_macro.specs.inner.Runs.{sources, read_at, meanings}
use Rattle.mt_macro.proofs.Plains.{passes_run, takes_macro, stop_inside}
use Rattle.mt_macro.proofs.SameKinds.{call_in}
use Rattle.mt_macro.proofs.Stacks.{basic_bounds}
use Rattle.mt_macro.proofs.passing.next_macro.Goals as goal

pub items_in-items-requires : goal.items_in-items-requires
items_in-items-requires g c =
    let src = sources (g.B.Lexicon.token c.args.tables.now) (g.B.Bodies.placed c.args.tables.now) (g.B.Bodies.body c.args.tables.now) c.args.list.now in
    let v = rw c.in-Some.is at c.in_ok-run.ensures in
    let w = basic_bounds src (meanings src c.args.parts.now.runs.items) c.in-Some.run' v.1 v.0.known in
    let size = length-map c.items_of.result.now (read_at (g.B.Lexicon.token c.args.tables.now) (g.B.Bodies.placed c.args.tables.now) c.args.list.now c.in-Some.run'.place) in
    (omega (arith, w.0), omega (arith, w.1, ap length c.items_of.ensures, size))

pub origin_of-origin-requires : goal.origin_of-origin-requires
origin_of-origin-requires g c =
    let src = sources (g.B.Lexicon.token c.args.tables.now) (g.B.Bodies.placed c.args.tables.now) (g.B.Bodies.body c.args.tables.now) c.args.list.now in
    let v = rw c.in-Some.is at c.in_ok-run.ensures in
    call_in (g.B.Lexicon.token c.args.tables.now) (g.B.Bodies.placed c.args.tables.now) (g.B.Bodies.body c.args.tables.now) c.args.list.now (meanings src c.args.parts.now.runs.items)
    c.in-Some.run'.place c.in-Some.run'.start c.in-Some.run'.end v.0.known

pub item_at-requires : goal.item_at-requires
item_at-requires g c = stop_inside _ _ _ c.items_in-items.result.now _ _ _ _ c.in_ok-front.ensures c.in-Some-stop.is

pub returns-in-Some-stop : goal.returns-in-Some-stop
returns-in-Some-stop g c =
    let token = g.B.Lexicon.token c.args.tables.now in
    let placed = g.B.Bodies.placed c.args.tables.now in
    let body = g.B.Bodies.body c.args.tables.now in
    let macros = g.B.Bodies.macros c.args.tables.now in
    let src = sources (g.B.Lexicon.token c.args.tables.now) (g.B.Bodies.placed c.args.tables.now) (g.B.Bodies.body c.args.tables.now) c.args.list.now in
    let v = rw c.in-Some.is at c.in_ok-run.ensures in
    let front = subst (λ (f : g.row.T.Denot → Token). PushesPlain macros body (map f c.items_in-items.result.now) c.in_ok-front.front (map token c.loop-run.out.items) (map token c.push_plain.new.out.items))
    c.origin_of-origin.ensures c.in_ok-front.ensures in
    subst (λ (f : g.row.T.Denot → Token). PassesTo macros placed body src c.args.parts.now.runs.items c.args.rest.now c.put_from.new.rest (map token c.args.out.now.items) (map token c.push_plain.new.out.items)
    c.in-Some-stop.found c.call_at.result (f c.item_at.result.now)) (sym c.origin_of-origin.ensures)
    (takes_macro token macros placed body c.args.list.now c.args.parts.now.runs.items c.args.rest.now c.loop-run.rest c.next_basic.new.rest c.put_from.new.rest c.in-Some.run' c.items_in-items.result.now c.items_of.result.now
    _ _ c.item_at.result.now _ _ _ _ _ (g.met.B.Bodies.nested c.args.tables.now)
    c.loop-run.invariant.passes v.0 v.1 c.items_of.ensures c.items_in-items.ensures front c.in-Some-stop.is c.item_at.ensures c.call_at.ensures refl c.in_ok-put_from.ensures.is c.in_ok-put_from.ensures.left)

pub loop-run-preserved : goal.loop-run-preserved
loop-run-preserved g c =
    let token = g.B.Lexicon.token c.args.tables.now in
    let body = g.B.Bodies.body c.args.tables.now in
    let macros = g.B.Bodies.macros c.args.tables.now in
    let src = sources (g.B.Lexicon.token c.args.tables.now) (g.B.Bodies.placed c.args.tables.now) (g.B.Bodies.body c.args.tables.now) c.args.list.now in
    let v = rw c.in-Some.is at c.in_ok-run.ensures in
    let front = subst (λ (f : g.row.T.Denot → Token). PushesPlain macros body (map f c.items_in-items.result.now) c.in_ok-front.front (map token c.loop-run.out.items) (map token c.push_plain.new.out.items))
    c.origin_of-origin.ensures c.in_ok-front.ensures in
    record {
      left = v.0.below;
      passes = passes_run (read_at (g.B.Lexicon.token c.args.tables.now) (g.B.Bodies.placed c.args.tables.now) c.args.list.now c.in-Some.run'.place) macros body src c.args.parts.now.runs.items c.args.rest.now c.loop-run.rest c.next_basic.new.rest c.in-Some.run' c.items_in-items.result.now c.items_of.result.now _ _ _ _
          c.loop-run.invariant.passes v.0 v.1 c.items_of.ensures c.items_in-items.ensures front c.in_default-stop.is;
    }
