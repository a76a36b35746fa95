use Rattle.std.proofs.Common.{arith, ◌∙◌, false, ap, get_or}
use Rattle.std.proofs.lemmas.List.FromFn.{get_or-map-range_with_len}
use Rattle.mt_token.specs.Plain.{is_plain}
use Rattle.mt_token.proofs.plain_bytes.is_plain.Goals as goal

pub returns : goal.returns
returns c = ap (λ bytes. get_or bytes c.from.result false) c.plain_bytes.ensures ∙ get_or-map-range_with_len is_plain 0 256 c.from.result c.args.b false (omega (arith, c.ranges.b.fits, c.from.ensures)) (omega (arith, c.from.ensures))
