use Rattle.std.proofs.Common.{◌≡◌, List}
use Rattle.mt_token.specs.declared.token.Token.{Token}
use Rattle.mt_rules.specs.declared.document.Formula.{Formula}
use Rattle.mt_reader.specs.PageReading.{IsReadOf, fault_ahead}
use Rattle.mt_reader.specs.SourceReading.{IsOver, room}
use Rattle.mt_reader.specs.Views.{pages_view}
use Rattle.mt_reader.proofs.page_reader.PageReader.next_page.Given as goal

abbrev pub invariant-loop-role : goal.invariant-loop-role
invariant-loop-role l = record {
  is : (tokens : List Token) → (read : List (List Formula)) → IsReadOf l.units tokens read l.fn.self → IsReadOf l.units tokens read l.self;
  fault : fault_ahead l.self ≡ fault_ahead l.fn.self;
  over : IsOver (pages_view l.fn.self) (pages_view l.self);
}

abbrev pub decreases-loop-role : goal.decreases-loop-role
decreases-loop-role l = room (pages_view l.self).source
