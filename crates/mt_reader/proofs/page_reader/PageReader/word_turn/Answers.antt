use Rattle.std.proofs.Common.{List, ap, arith, refl, sym, subst, ◌∙◌}
use Rattle.std.specs.Prelude.{Some}
use Rattle.std.proofs.lemmas.Result.{err_from_is_err_and}
use Rattle.mt_reader.specs.SourceReading.{IsFirst, IsOver, IsReadOf, fault_ahead, room}
use Rattle.mt_reader.specs.Views.{ReaderView, pages_view}
use Rattle.mt_reader.proofs.Going.{over_then}
use Rattle.mt_reader.proofs.SourceLoop.{over_passed, pass_first, read_passed}
use Rattle.mt_reader.proofs.page_reader.PageReader.word_turn.Goals as goal

pub returns-then-is_passed-clause-is : goal.returns-then-is_passed-clause-is
returns-then-is_passed-clause-is c =
    let old = pages_view c.args.self.now in
    let pass = pass_first old old c.args.role c.requires.first in
    λ tokens read i.
    read_passed old _ c.args.role c.requires.first refl _ pass.0 c.pass_first.ensures c.args.units tokens read pass.1 (c.is_passed.ensures c.if-is_passed.true) refl i

pub returns-then-is_passed-clause-more : goal.returns-then-is_passed-clause-more
returns-then-is_passed-clause-more c =
    let old = pages_view c.args.self.now in
    let pass = pass_first old old c.args.role c.requires.first in
    over_passed old _ c.args.role c.requires.first refl _ pass.0 c.pass_first.ensures c.requires.more refl

pub returns-in_err-turn_ahead-clause-is : goal.returns-in_err-turn_ahead-clause-is
returns-in_err-turn_ahead-clause-is c =
    λ tokens read i.
    let p = err_from_is_err_and c.from_residual.result c.from_residual.ensures.1 in
    rw (p.1, p.2) (c.in_err-turn_ahead.ensures.is tokens read (c.loop-self.invariant.is tokens read i))

pub returns-in_err-more-clause-is : goal.returns-in_err-more-clause-is
returns-in_err-more-clause-is c =
    let same = c.in_ok-turn_ahead.ensures.same c.if-not-branch.true in
    λ tokens read i.
    let p = err_from_is_err_and c.from_residual-in_err-more.result c.from_residual-in_err-more.ensures.1 in
    rw (p.1, p.2) (c.in_err-more.ensures.is c.args.units tokens read (subst (λ (v : ReaderView). IsReadOf c.args.units tokens read v) (sym same) (c.loop-self.invariant.is tokens read i)))

pub last_turn-requires-clause-first : goal.last_turn-requires-clause-first
last_turn-requires-clause-first c =
    let same = c.in_ok-turn_ahead.ensures.same c.if-not-branch.true in
    c.in_ok-more.ensures.first c.args.role (subst (λ (v : ReaderView). IsFirst (Some c.args.role) v.names v.source) (sym same) c.loop-self.invariant.first)

pub loop-self-preserved : goal.loop-self-preserved
loop-self-preserved c =
    let same = c.in_ok-turn_ahead.ensures.same c.if-not-branch.true in
    let h = c.loop-self.invariant in
    record {
      is = λ tokens read i. c.in_ok-more.ensures.is c.args.units tokens read (subst (λ (v : ReaderView). IsReadOf c.args.units tokens read v) (sym same) (h.is tokens read i));
      fault = c.in_ok-more.ensures.fault ∙ (ap fault_ahead same ∙ h.fault);
      over = over_then (pages_view c.args.self.now) (pages_view c.loop-self.self) (pages_view c.more.new.self) h.over (subst (λ (v : ReaderView). IsOver v (pages_view c.more.new.self)) same c.in_ok-more.ensures.more);
      first = c.in_ok-more.ensures.first c.args.role (subst (λ (v : ReaderView). IsFirst (Some c.args.role) v.names v.source) (sym same) h.first);
      room = omega (arith, c.in_ok-more.ensures.room, ap (λ (v : ReaderView). room v.source) same, h.room);
    }
