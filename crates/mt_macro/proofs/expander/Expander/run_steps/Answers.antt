use Rattle.std.proofs.Common.{arith, ◌≡◌, sym, ◌∙◌, length, map}
use Rattle.std.proofs.lemmas.List.{length-map}
use Rattle.mt_macro.proofs.Steps.{at_macro, stepping_last, stepping_missing, stepping_over, stepping_on, stepping_end}
use Rattle.mt_macro.proofs.expander.Expander.run_steps.Goals as goal

pub returns-then-steps-eq-MAX_STEPS : goal.returns-then-steps-eq-MAX_STEPS
returns-then-steps-eq-MAX_STEPS g c =
    let a = at_macro _ _ _ (g.B.Bodies.body c.args.tables.now) _ _ _ _ _ _ _ _ _ _ c.loop-next.invariant (rw c.in-Some.is at c.in_ok-next.ensures) in
    let l = length-map c.next_macro.new.out.items (g.B.Lexicon.token c.args.tables.now) in
    stepping_last _ _ _ _ _ _ _ _ _ _ _ _ a c.if-steps-eq-MAX_STEPS.true (omega (arith, l))

pub returns-in-NoArgument : goal.returns-in-NoArgument
returns-in-NoArgument g c =
    let a = at_macro _ _ _ (g.B.Bodies.body c.args.tables.now) _ _ _ _ _ _ _ _ _ _ c.loop-next.invariant (rw c.in-Some.is at c.in_ok-next.ensures) in
    let r = rw c.in-NoArgument.is at c.in_ok-replace.ensures in
    let l : c.len-index.result ≡ length (map (g.B.Lexicon.token c.args.tables.now) c.next_macro.new.out.items) = sym (length-map c.next_macro.new.out.items (g.B.Lexicon.token c.args.tables.now) ∙ omega arith) in
    stepping_missing _ _ _ _ _ _ _ _ _ _ _ _ _ _ _ _ a c.if-steps-eq-MAX_STEPS.false r l c.in_ok-push_again-in-NoArgument.ensures

pub returns-in-TooLong : goal.returns-in-TooLong
returns-in-TooLong g c =
    let a = at_macro _ _ _ (g.B.Bodies.body c.args.tables.now) _ _ _ _ _ _ _ _ _ _ c.loop-next.invariant (rw c.in-Some.is at c.in_ok-next.ensures) in
    let r = rw c.in-TooLong.is at c.in_ok-replace.ensures in
    let l : c.len-in-Some.result ≡ length (map (g.B.Lexicon.token c.args.tables.now) c.next_macro.new.out.items) = sym (length-map c.next_macro.new.out.items (g.B.Lexicon.token c.args.tables.now) ∙ omega arith) in
    stepping_over _ _ _ _ _ _ _ _ _ _ _ _ _ _ _ a c.if-steps-eq-MAX_STEPS.false l r

pub loop-next-preserved : goal.loop-next-preserved
loop-next-preserved g c =
    let a = at_macro _ _ _ (g.B.Bodies.body c.args.tables.now) _ _ _ _ _ _ _ _ _ _ c.loop-next.invariant (rw c.in-Some.is at c.in_ok-next.ensures) in
    let r = rw c.in-Done.is at c.in_ok-replace.ensures in
    let l : c.len-in-Some.result ≡ length (map (g.B.Lexicon.token c.args.tables.now) c.next_macro.new.out.items) = sym (length-map c.next_macro.new.out.items (g.B.Lexicon.token c.args.tables.now) ∙ omega arith) in
    stepping_on _ _ _ _ _ _ _ _ _ _ _ _ _ _ a c.if-steps-eq-MAX_STEPS.false l r

pub returns : goal.returns
returns g c = stepping_end _ _ _ _ _ _ _ _ _ c.loop-next.invariant (rw c.in_default.is at c.in_ok-next.ensures)
