use Rattle.std.proofs.Common.{to_z-of_z}
use Rattle.mathset.proofs.FormLemmas.{file_put, listing_put, summary_put}
use Rattle.mathset.proofs.typesetting.source_in_form.Goals as goal

pub returns-in-File-clause-is : goal.returns-in-File-clause-is
returns-in-File-clause-is c = rw c.in-File.is (file_put c.args.fonts.now c.args.width c.args.source.now c.source_file.result (rw (to_z-of_z c.ranges.width) at c.source_file.ensures.is))

pub returns-in-Listing-clause-is : goal.returns-in-Listing-clause-is
returns-in-Listing-clause-is c = rw c.in-Listing.is (listing_put c.args.fonts.now c.args.width c.args.source.now c.source_listing.result (rw (to_z-of_z c.ranges.width) at c.source_listing.ensures.is))

pub returns-in-Summary-clause-is : goal.returns-in-Summary-clause-is
returns-in-Summary-clause-is c = rw c.in-Summary.is (summary_put c.args.fonts.now c.args.width c.args.source.now c.in-Summary.formulas c.source_summary.result (rw (to_z-of_z c.ranges.width) at c.source_summary.ensures.is))

pub returns-in-File-clause-overfull : goal.returns-in-File-clause-overfull
returns-in-File-clause-overfull c = rw (to_z-of_z c.ranges.width) at c.source_file.ensures.overfull

pub returns-in-Listing-clause-overfull : goal.returns-in-Listing-clause-overfull
returns-in-Listing-clause-overfull c = rw (to_z-of_z c.ranges.width) at c.source_listing.ensures.overfull

pub returns-in-Summary-clause-overfull : goal.returns-in-Summary-clause-overfull
returns-in-Summary-clause-overfull c = rw (to_z-of_z c.ranges.width) at c.source_summary.ensures.overfull
