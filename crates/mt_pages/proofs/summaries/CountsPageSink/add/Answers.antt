use Rattle.mt_pages.proofs.SetLemmas.{has_room}
use Rattle.mt_pages.proofs.summaries.CountsPageSink.add.Goals as goal

pub add_page-requires : goal.add_page-requires
add_page-requires c = has_room _ c.args.self.now c.args.page c.requires
