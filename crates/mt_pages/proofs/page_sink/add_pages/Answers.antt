use Rattle.std.proofs.Common.{to_z-of_z}
use Rattle.mt_pages.proofs.page_sink.add_pages.Goals as goal

pub add_all-requires-clause-start : goal.add_all-requires-clause-start
add_all-requires-clause-start g c = record { source = c.args.source.now; are = c.in_ok-setter.ensures.is c.args.fonts.now _ }

pub returns-clause-is : goal.returns-clause-is
returns-clause-is g c =
    rw (to_z-of_z c.ranges.width) at c.add_all.ensures.is c.args.source.now (c.in_ok-setter.ensures.is c.args.fonts.now _)

pub returns-clause-overfull : goal.returns-clause-overfull
returns-clause-overfull g c =
    rw (to_z-of_z c.ranges.width) at c.add_all.ensures.overfull c.args.source.now (c.in_ok-setter.ensures.is c.args.fonts.now _)
