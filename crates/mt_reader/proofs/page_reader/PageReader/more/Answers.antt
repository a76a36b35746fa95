use Rattle.mt_reader.specs.Views.{pages_view}
use Rattle.mt_reader.proofs.SourceMore.{more_read, more_role, more_stays}
use Rattle.mt_reader.proofs.page_reader.PageReader.more.Goals as goal

pub returns-clause-is : goal.returns-clause-is
returns-clause-is c =
    λ units tokens read i.
    more_read (pages_view c.args.self.now) _ c.read_more.ensures.state units tokens read c.read_more.result c.read_more.ensures.is c.read_more.ensures.fault c.requires.more.known i

pub returns-clause-more : goal.returns-clause-more
returns-clause-more c = more_stays (pages_view c.args.self.now) _ c.read_more.ensures.state c.read_more.result c.read_more.ensures.is c.requires.more

pub returns-clause-first : goal.returns-clause-first
returns-clause-first c = λ role f. more_role (pages_view c.args.self.now) _ c.read_more.ensures.state role c.read_more.result c.read_more.ensures.is c.requires.more.known f
