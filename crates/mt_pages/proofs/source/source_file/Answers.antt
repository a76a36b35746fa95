use Rattle.std.proofs.Common.{to_z-of_z}
use Rattle.mt_pages.proofs.source.source_file.Goals as goal

pub returns-clause-is : goal.returns-clause-is
returns-clause-is c =
    let a = rw (to_z-of_z c.ranges.width) at c.in_ok-add_pages.ensures.is in
    record {
      pages = a.pages;
      is = a.is;
      written = c.in_ok-finish.ensures.written a.pages a.has;
      lean = c.in_ok-finish.ensures.lean;
    }
