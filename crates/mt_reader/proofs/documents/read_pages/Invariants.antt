use Rattle.std.proofs.Common.{◌≡◌, ◌≤◌, ◌+◌, ◌*◌, [], List}
use Rattle.std.specs.Prelude.{Some}
use Rattle.mt_token.specs.declared.token.Token.{Token}
use Rattle.mt_token.specs.declared.token.TokenError.{TokenError}
use Rattle.mt_reader.specs.PageReading.{CanGoOn, IsReadOf, fault_ahead, left_to_read}
use Rattle.mt_reader.specs.Weights.{pages_weight}
use Rattle.mt_reader.proofs.documents.read_pages.Given as goal

abbrev pub invariant-loop-pages : goal.invariant-loop-pages
invariant-loop-pages l = record {
  is : (tokens : List Token) → IsReadOf l.units tokens [] l.fn.reader → IsReadOf l.units tokens l.pages.items l.reader;
  fault : (cause : TokenError) → fault_ahead l.fn.reader ≡ Some cause → fault_ahead l.reader ≡ Some cause;
  more : CanGoOn l.reader;
  weight : 2 * pages_weight l.pages.items + left_to_read l.reader ≤ left_to_read l.fn.reader;
}

abbrev pub decreases-loop-pages : goal.decreases-loop-pages
decreases-loop-pages l = left_to_read l.reader
