use Rattle.std.proofs.Common.{◌≡◌, ◌++◌, take, flat_map}
use Rattle.mt_pages.proofs.Common.{place_line}
use Rattle.mt_pages.proofs.listings.push_places.Given as goal

abbrev pub invariant-loop-place : goal.invariant-loop-place
invariant-loop-place l = l.out.items ≡ l.fn.out.items ++ flat_map place_line (take l.place-index l.page)
