use Rattle.std.proofs.Common.{[], map, ap, sym, subst}
use Rattle.std.proofs.lemmas.Result.{err_from_is_err_and}
use Rattle.mt_plain.specs.CodeTables.{plain_codes}
use Rattle.mt_reader.specs.Documents.{document}
use Rattle.mt_reader.specs.SourceReading.{front_tokens}
use Rattle.mt_reader.specs.Sources.{plain_words, word_token}
use Rattle.mt_reader.specs.Views.{pages_view, source_view}
use Rattle.mt_reader.proofs.AheadWords.{fault_refuses}
use Rattle.mt_reader.proofs.SourceLoop.{failed_answers, over_over, over_turned, read_failed, read_over, read_turned}
use Rattle.mt_reader.proofs.page_reader.PageReader.turn_ahead.Goals as goal

pub returns-in-Ok-Left-clause-is : goal.returns-in-Ok-Left-clause-is
returns-in-Ok-Left-clause-is c =
    let spends = rw (c.in-Ok-Left.field-0-is, c.after_first.ensures) at c.in-Ok-Left.ensures.spends in
    λ tokens read i.
    read_turned (pages_view c.args.self.now) _ c.args.role c.requires.first c.counted_turn_ahead.ensures.names c.in-Ok-Left.left spends.0 c.leave.ensures c.args.units tokens read c.requires.page (λ list e. rw (c.in-Ok-Left.field-0-is, c.after_first.ensures) at c.in-Ok-Left.ensures.is (map word_token list)) spends.1.ended i

pub returns-in-Ok-Left-clause-more : goal.returns-in-Ok-Left-clause-more
returns-in-Ok-Left-clause-more c =
    let spends = rw (c.in-Ok-Left.field-0-is, c.after_first.ensures) at c.in-Ok-Left.ensures.spends in
    over_turned (pages_view c.args.self.now) _ c.args.role c.requires.first c.counted_turn_ahead.ensures.names c.in-Ok-Left.left spends.0 c.leave.ensures c.args.units [] c.requires.more (rw (c.in-Ok-Left.field-0-is, c.after_first.ensures) at c.in-Ok-Left.ensures.is []) spends.1

pub returns-in-Err-clause-is : goal.returns-in-Err-clause-is
returns-in-Err-clause-is c =
    λ tokens read i.
    rw c.first_error.ensures (read_failed (pages_view c.args.self.now) (pages_view c.args.self.now) c.args.role c.requires.first c.args.units tokens read c.in-Err.error c.requires.page (λ more. rw (c.after_first.ensures, c.count-count.ensures) at c.in-Err.ensures.is more) i)

pub returns-in-Err-clause-fault : goal.returns-in-Err-clause-fault
returns-in-Err-clause-fault c =
    λ cause h. rw c.first_error.ensures (failed_answers (source_view c.args.self.now.source).behind c.in-Err.error cause h)

pub returns-in_ok-finish-in-Ok-Ended-clause-is : goal.returns-in_ok-finish-in-Ok-Ended-clause-is
returns-in_ok-finish-in-Ok-Ended-clause-is c =
    λ tokens read i.
    read_over (pages_view c.args.self.now) _ c.args.role c.requires.first c.counted_turn_ahead.ensures.names c.in_ok-finish-in-Ok-Ended.ensures.is c.args.units tokens read c.requires.page
    (λ list e. rw (c.in-Ok-Ended.field-0-is, c.after_first.ensures) at c.in-Ok-Ended.ensures.is (map word_token list)) (rw c.in-Ok-Ended.field-0-is at c.in-Ok-Ended.ensures.spends) i

pub returns-in_ok-finish-in-Ok-Ended-clause-more : goal.returns-in_ok-finish-in-Ok-Ended-clause-more
returns-in_ok-finish-in-Ok-Ended-clause-more c =
    over_over (pages_view c.args.self.now) _ c.args.role c.requires.first c.counted_turn_ahead.ensures.names c.in_ok-finish-in-Ok-Ended.ensures.is c.requires.more (rw c.in-Ok-Ended.field-0-is at c.in-Ok-Ended.ensures.spends)

pub returns-in_err-finish-in-Ok-Ended-clause-is : goal.returns-in_err-finish-in-Ok-Ended-clause-is
returns-in_err-finish-in-Ok-Ended-clause-is c =
    let old = pages_view c.args.self.now in
    λ tokens read i.
    let p = err_from_is_err_and c.from_residual.result c.from_residual.ensures.1 in
    rw (p.1, p.2) (fault_refuses _ (front_tokens old.names old.source) i.rest old.source.behind (document c.args.units plain_codes plain_words tokens) c.in_err-finish-in-Ok-Ended.ensures.fault i.ahead)
