use Rattle.std.proofs.Common.{◌∙◌, refl}
use Rattle.mt_tables.specs.Held.{Held}
use Rattle.mt_reader.proofs.SourceLoop.{can_start, read_start}
use Rattle.mt_reader.proofs.page_reader.PageReader.new.Goals as goal

pub returns-clause-is : goal.returns-clause-is
returns-clause-is c =
    λ units list e.
    read_start c.args.bytes.now _ c.requires.bytes c.new-3.ensures units list e (c.start.ensures.is (λ (h : Held). h.codes) (λ (h : Held). h.macros) ∙ rw (c.requires.codes, c.requires.macros) refl)

pub returns-clause-more : goal.returns-clause-more
returns-clause-more c =
    can_start c.args.bytes.now _ c.requires.bytes c.new-3.ensures c.args.tables.codes c.args.tables.macros (c.start.ensures.is (λ (h : Held). h.codes) (λ (h : Held). h.macros))
