use Rattle.std.proofs.Common.{codes}
use Rattle.std.proofs.Math.Facts.{to_z-of_z}
use Rattle.mt_pages.proofs.ListingLemmas.{line_pushed}
use Rattle.mt_pages.proofs.listings.push_rule.Goals as goal

pub returns : goal.returns
returns c =
    let h = rw (to_z-of_z c.ranges.h) at c.in_ok-push_number.ensures in
    let v = rw (to_z-of_z c.ranges.v) at c.in_ok-push_number-2.ensures in
    let height = rw (to_z-of_z c.ranges.height) at c.in_ok-push_number-3.ensures in
    let width = rw (to_z-of_z c.ranges.width) at c.in_ok-push_number-4.ensures in
    line_pushed (codes "r") _ _ _ _ _ c.args.out.now.items _ _ _ _ _ _ c.in_ok-push.ensures.items h v height width c.in_ok-push-2.ensures.items
