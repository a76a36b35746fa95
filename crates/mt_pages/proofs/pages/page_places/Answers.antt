use Rattle.mt_pages.proofs.Common.{page_few}
use Rattle.mt_pages.proofs.LineLemmas.{shifts_small}
use Rattle.mt_pages.proofs.PageLemmas.{stacked_writable}
use Rattle.mt_pages.proofs.pages.page_places.Goals as goal

pub places-requires-clause-shifts : goal.places-requires-clause-shifts
places-requires-clause-shifts c = shifts_small c.args.page.now c.requires

pub returns-in-Ok-clause-few : goal.returns-in-Ok-clause-few
returns-in-Ok-clause-few c = page_few c.args.room c.requires.page.lines c.in-Ok.places (c.in-Ok.ensures c.requires.page.lines c.requires.on.stack)

pub returns-in-Ok-clause-writable : goal.returns-in-Ok-clause-writable
returns-in-Ok-clause-writable c = λ fonts lines on hold. stacked_writable fonts c.args.room lines.lines c.in-Ok.places hold (c.in-Ok.ensures lines.lines on.stack)
