use Rattle.std.proofs.Common.{ap, refl}
use Rattle.std.proofs.lemmas.Result.{err_from_is_err_and}
use Rattle.mt_tables.specs.Held.{Held}
use Rattle.mt_reader.specs.Views.{pages_view}
use Rattle.mt_reader.proofs.Going.{over_goes, over_then}
use Rattle.mt_reader.proofs.SourceLoop.{goes_last, read_last}
use Rattle.mt_reader.proofs.page_reader.PageReader.next_page.Goals as goal

pub returns-in_err-role-clause-is : goal.returns-in_err-role-clause-is
returns-in_err-role-clause-is c =
    λ tokens read i.
    let p = err_from_is_err_and c.from_residual.result c.from_residual.ensures.1 in
    rw (p.1, p.2) (c.in_err-role.ensures.is c.args.units tokens read (c.loop-role.invariant.is tokens read i))

pub returns-in_err-page-clause-is : goal.returns-in_err-page-clause-is
returns-in_err-page-clause-is c =
    λ tokens read i.
    let p = err_from_is_err_and c.from_residual-in_err-page.result c.from_residual-in_err-page.ensures.1 in
    rw (p.1, p.2) (c.in_err-page.ensures.is tokens read (c.in_ok-role.ensures.is c.args.units tokens read (c.loop-role.invariant.is tokens read i)))

pub returns-clause-is : goal.returns-clause-is
returns-clause-is c =
    let used = rw c.in_default.is at c.in_ok-role.ensures.first in
    λ tokens read i.
    read_last (pages_view c.next_role.new.self) _ used (ap (λ (h : Held). h.names) c.take_page.ensures.tables) refl c.args.units tokens read c.take_page.result
    (c.take_page.ensures.is (λ (h : Held). h.codes) (λ (h : Held). h.macros)) (c.in_ok-role.ensures.is c.args.units tokens read (c.loop-role.invariant.is tokens read i))

pub returns-clause-more : goal.returns-clause-more
returns-clause-more c =
    let used = rw c.in_default.is at c.in_ok-role.ensures.first in
    let mid = pages_view c.next_role.new.self in
    over_goes (pages_view c.args.self.now) mid _ c.take_page.result (over_then (pages_view c.args.self.now) (pages_view c.loop-role.self) mid c.loop-role.invariant.over c.in_ok-role.ensures.more)
    (goes_last mid _ used (ap (λ (h : Held). h.names) c.take_page.ensures.tables) refl c.take_page.result c.in_ok-role.ensures.more.more (c.take_page.ensures.is (λ (h : Held). h.codes) (λ (h : Held). h.macros)))
