use Rattle.std.proofs.Common.{refl}
use Rattle.mt_token.proofs.plain_bytes.plain_bytes.Goals as goal

pub returns : goal.returns
returns c = refl
