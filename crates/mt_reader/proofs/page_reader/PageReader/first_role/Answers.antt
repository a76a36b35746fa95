use Rattle.std.proofs.Common.{◌∙◌, ap, drop}
use Rattle.mt_tables.specs.Held.{Held, held_token}
use Rattle.mt_reader.specs.Documents.{outside_role}
use Rattle.mt_reader.proofs.page_reader.PageReader.first_role.Goals as goal

pub returns : goal.returns
returns c = (
  c.first.result.now,
  drop 1 (drop c.args.self.now.source.used c.args.self.now.source.words.items),
  c.first.ensures,
  c.outside_role.ensures ∙ ap (λ (h : Held). outside_role (held_token h c.first.result.now).kind) c.tables.ensures,
)
