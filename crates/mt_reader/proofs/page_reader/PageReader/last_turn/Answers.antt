use Rattle.std.proofs.Common.{[], drop, map, refl}
use Rattle.mt_lexicon.specs.Meaning.{token_of}
use Rattle.mt_reader.specs.DocumentTurns.{state_of}
use Rattle.mt_reader.specs.CountedTurns.{last_tokens}
use Rattle.mt_reader.specs.Views.{held_view, pages_view, source_view}
use Rattle.mt_reader.proofs.SourceLoop.{last_ends, last_goes, over_over, over_turned, passed_all, read_failed_last, read_over, read_turned}
use Rattle.mt_reader.proofs.page_reader.PageReader.last_turn.Goals as goal

pub returns-in-Ok-Some-clause-is : goal.returns-in-Ok-Some-clause-is
returns-in-Ok-Some-clause-is c =
    let spends = rw (c.in-Ok-Some.field-0-is, c.after_first.ensures) at c.in-Ok-Some.ensures.spends in
    let turn = rw (c.in-Ok-Some.field-0-is, c.after_first.ensures) at c.in-Ok-Some.ensures.is in
    λ tokens read i.
    read_turned (pages_view c.args.self.now) _ c.args.role c.requires.first c.last_counted_turn.ensures.names c.in-Ok-Some.left spends.0 c.leave.ensures c.args.units tokens read c.requires.page
    (last_goes c.args.units (state_of (held_view c.args.self.now.state)) _ c.args.role _ c.requires.end _ _ turn) spends.1.ended i

pub returns-in-Ok-Some-clause-more : goal.returns-in-Ok-Some-clause-more
returns-in-Ok-Some-clause-more c =
    let spends = rw (c.in-Ok-Some.field-0-is, c.after_first.ensures) at c.in-Ok-Some.ensures.spends in
    let turn = rw (c.in-Ok-Some.field-0-is, c.after_first.ensures) at c.in-Ok-Some.ensures.is in
    over_turned (pages_view c.args.self.now) _ c.args.role c.requires.first c.last_counted_turn.ensures.names c.in-Ok-Some.left spends.0 c.leave.ensures c.args.units [] c.requires.more
    (last_goes c.args.units (state_of (held_view c.args.self.now.state)) _ c.args.role _ c.requires.end _ _ turn [] c.requires.end) spends.1

pub returns-in-Ok-None-clause-is : goal.returns-in-Ok-None-clause-is
returns-in-Ok-None-clause-is c =
    let turn = rw (c.in-Ok-None.field-0-is, c.after_first.ensures) at c.in-Ok-None.ensures.is in
    let passed = passed_all (source_view c.args.self.now.source) _ c.requires.end c.leave-in-Ok-None.ensures in
    λ tokens read i.
    read_over (pages_view c.args.self.now) _ c.args.role c.requires.first c.last_counted_turn.ensures.names passed c.args.units tokens read c.requires.page
    (last_ends c.args.units (state_of (held_view c.args.self.now.state)) _ c.args.role _ c.requires.end _ turn) (rw c.in-Ok-None.field-0-is at c.in-Ok-None.ensures.spends) i

pub returns-in-Ok-None-clause-more : goal.returns-in-Ok-None-clause-more
returns-in-Ok-None-clause-more c =
    over_over (pages_view c.args.self.now) _ c.args.role c.requires.first c.last_counted_turn.ensures.names (passed_all (source_view c.args.self.now.source) _ c.requires.end c.leave-in-Ok-None.ensures) c.requires.more (rw c.in-Ok-None.field-0-is at c.in-Ok-None.ensures.spends)

pub returns-in-Err-clause-is : goal.returns-in-Err-clause-is
returns-in-Err-clause-is c =
    let turn = rw (c.after_first.ensures, c.count-count.ensures) at c.in-Err.ensures.is in
    λ tokens read i.
    read_failed_last (pages_view c.args.self.now) (pages_view c.args.self.now) c.args.role c.requires.first c.args.units tokens read c.in-Err.error c.requires.page c.requires.end turn i
