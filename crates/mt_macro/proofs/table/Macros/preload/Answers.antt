use Rattle.mt_macro.proofs.Named.{put_has}
use Rattle.mt_macro.proofs.table.Macros.preload.Goals as goal

pub returns-clause-put : goal.returns-clause-put
returns-clause-put c = put_has _ _ _ _ c.in_ok-put.ensures.ok
