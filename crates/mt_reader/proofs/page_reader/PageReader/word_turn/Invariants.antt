use Rattle.std.proofs.Common.{◌≡◌, ◌≤◌, List}
use Rattle.std.specs.Prelude.{Some}
use Rattle.mt_token.specs.declared.token.Token.{Token}
use Rattle.mt_rules.specs.declared.document.Formula.{Formula}
use Rattle.mt_reader.specs.PageReading.{IsReadOf, fault_ahead}
use Rattle.mt_reader.specs.SourceReading.{IsFirst, IsOver, room}
use Rattle.mt_reader.specs.Views.{pages_view}
use Rattle.mt_reader.proofs.page_reader.PageReader.word_turn.Given as goal

abbrev pub invariant-loop-self : goal.invariant-loop-self
invariant-loop-self l = record {
  is : (tokens : List Token) → (read : List (List Formula)) → IsReadOf l.units tokens read l.fn.self → IsReadOf l.units tokens read l.self;
  fault : fault_ahead l.self ≡ fault_ahead l.fn.self;
  over : IsOver (pages_view l.fn.self) (pages_view l.self);
  first : IsFirst (Some l.role) (pages_view l.self).names (pages_view l.self).source;
  room : room (pages_view l.self).source ≤ room (pages_view l.fn.self).source;
}

abbrev pub decreases-loop-self : goal.decreases-loop-self
decreases-loop-self l = (pages_view l.self).source.unread
