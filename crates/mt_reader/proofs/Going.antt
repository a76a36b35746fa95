-- The bounds within which a reader reads on.
use Rattle.std.proofs.Common.{◌≡◌, ℕ, ◌+◌, ◌≤◌, Bool, true, false, List, [], ◌∷◌, ◌++◌, length, refl, sym, ap, ◌∙◌, arith, subst}
use Rattle.std.specs.Prelude.{All, Option, Some, None, Ok, replicate}
use Rattle.std.proofs.lemmas.List.{length-append}
use Rattle.std.proofs.lemmas.List.Elements.{All-nil}
use Rattle.std.proofs.lemmas.List.Sums.{sum_by-cons}
use Rattle.mt_token.specs.Tokens.{max_source}
use Rattle.mt_token.specs.declared.token.Token.{Token}
use Rattle.mt_scaled.specs.declared.unit.Units.{Units}
use Rattle.mt_plain.specs.CodeTables.{CodeTables}
use Rattle.mt_macro.specs.Table.{Table}
use Rattle.mt_rules.specs.declared.document.Formula.{Formula}
use Rattle.mt_reader.specs.declared.outside_role.OutsideRole.{OutsideRole}
use Rattle.mt_reader.specs.Documents.{DocumentState, Goes, start_state, state_pages, with_page, is_empty_page, turn_by}
use Rattle.mt_reader.specs.DocumentTurns.{state_of, IsSpent, IsTaken, TakesPage, state_weight}
use Rattle.mt_reader.specs.Limits.{max_document_pages}
use Rattle.mt_lexicon.specs.Meaning.{NameTable}
use Rattle.mt_reader.specs.SourceReading.{AreKnown, CanGoOn, GoesOn, IsBounded, IsOver, room}
use Rattle.mt_reader.specs.Views.{ReaderView, SourceView, StateView}
use Rattle.mt_reader.specs.Weights.{HasModestLists, dollars, formula_weight, page_weight}
use Rattle.mt_reader.proofs.DocumentFormulas.{OfTurn, turn_modest}
use Rattle.mt_reader.proofs.Pages.{TurnFits, turn_by_fits}
use Rattle.mt_reader.proofs.PagesMoved.{placeholders, placeholders_hold}

one_dollar : (display : Bool) → 1 ≤ dollars display
one_dollar true = omega arith
one_dollar false = omega arith

page_weighs : (page : List Formula) → is_empty_page page ≡ false → 1 ≤ page_weight page
page_weighs [] some = absurd (cc)
page_weighs (f ∷ fs) some = omega (arith, sum_by-cons formula_weight f fs, one_dollar f.display)

pages_some : (n : ℕ) (page : List Formula) → is_empty_page page ≡ false → length (with_page (replicate n []) page) ≡ n + 1
pages_some n [] some = absurd (cc)
pages_some n (f ∷ fs) some = omega (arith, length-append (replicate {A = List Formula} n []) ((f ∷ fs) ∷ []), placeholders n)

pages_none : (n : ℕ) → length (with_page (replicate n []) []) ≡ n
pages_none n = placeholders n

-- what of the source is left is no more than before
pub record IsFurther (old new : ReaderView) : Type 0 where
  pub known : AreKnown new.names new.source.words
  pub whole : new.source.passed + room new.source ≤ old.source.passed + room old.source
  pub room : room new.source ≤ room old.source

-- a page was taken
go_page : (old new : ReaderView) (page : List Formula) → CanGoOn old → IsFurther old new → IsTaken page old.state new.state → IsBounded old new page
go_page old new page can further taken =
    let some : 1 ≤ page_weight page = page_weighs page taken.some in
    let weight : page_weight page ≡ page_weight old.state.page = ap page_weight taken.is in
    let none : page_weight new.state.page ≡ 0 = ap page_weight taken.empty in
    let one_more : old.state.ended + 1 ≤ max_document_pages = subst (λ (n : ℕ). n ≤ max_document_pages) (ap (λ (p : List Formula). length (with_page (replicate old.state.ended []) p)) (sym taken.is) ∙ pages_some old.state.ended page taken.some) can.pages in
    record {
      modest = subst (λ (p : List Formula). All HasModestLists p) (sym taken.is) can.modest;
      few = omega (arith, can.left, weight);
      falls = omega (arith, some, weight, none, further.room);
      weight = omega (arith, weight, none, further.room);
      ended = taken.ended;
      pages = omega (arith, taken.ended, one_more);
      more = record {
        known = further.known;
        whole = omega (arith, further.whole, can.whole);
        left = omega (arith, can.left, none, further.room);
        count = omega (arith, taken.count, can.count, further.room);
        total = omega (arith, taken.total, can.total);
        pages = omega (arith, ap (λ (p : List Formula). length (with_page (replicate new.state.ended []) p)) taken.empty, pages_none new.state.ended, taken.ended, one_more);
        modest = subst (λ (p : List Formula). All HasModestLists p) (sym taken.empty) (All-nil HasModestLists);
      };
    }

-- the state is as it was
pub go_same : (old new : ReaderView) → CanGoOn old → IsFurther old new → new.state ≡ old.state → IsOver old new
go_same old new can further same = record {
  falls = omega (arith, ap state_weight same, further.room);
  ended = ap (λ (s : StateView). s.ended) same;
  more = record {
    known = further.known;
    whole = omega (arith, further.whole, can.whole);
    left = omega (arith, can.left, ap state_weight same, further.room);
    count = omega (arith, ap (λ (s : StateView). s.count) same, can.count, further.room);
    total = omega (arith, ap (λ (s : StateView). s.total) same, can.total);
    pages = subst (λ (s : StateView). length (state_pages (state_of s)) ≤ max_document_pages) (sym same) can.pages;
    modest = subst (λ (s : StateView). All HasModestLists s.page) (sym same) can.modest;
  };
}

-- after the turn of a token that takes it, and of those after it all but these
pub go_more : (units : Units) (old new : ReaderView) (after left more : List Token) (role : OutsideRole) → CanGoOn old → IsFurther old new → room new.source + length after + 1 ≡ room old.source + length left
    → turn_by units (state_of old.state) (after ++ more) role ≡ Goes (state_of new.state) (left ++ more) → IsSpent old.state new.state after left → IsOver old new
go_more units old new after left more role can further shorter turn spent =
    let modest : OfTurn HasModestLists units (turn_by units (state_of old.state) (after ++ more) role) =
    turn_modest units (state_of old.state) (after ++ more) role (record { pages = placeholders_hold HasModestLists old.state.ended; page = can.modest }) in
    let now : OfTurn HasModestLists units (Goes (state_of new.state) (left ++ more)) = subst (OfTurn HasModestLists units) turn modest in
    let fits : TurnFits (Goes (state_of new.state) (left ++ more)) = subst TurnFits turn (turn_by_fits units (state_of old.state) (after ++ more) role can.pages) in
    record {
      falls = omega (arith, shorter, spent.weight);
      ended = spent.ended;
      more = record {
        known = further.known;
        whole = omega (arith, further.whole, can.whole);
        left = omega (arith, can.left, shorter, spent.weight);
        count = omega (arith, can.count, shorter, spent.count, spent.falls);
        total = spent.total;
        pages = fits;
        modest = now.page;
      };
    }

-- one after another
pub over_start : (r : ReaderView) → CanGoOn r → IsOver r r
over_start r can = record { falls = omega arith; ended = refl; more = can }

pub over_then : (old mid new : ReaderView) → IsOver old mid → IsOver mid new → IsOver old new
over_then old mid new one two = record { falls = omega (arith, one.falls, two.falls); ended = two.ended ∙ one.ended; more = two.more }

over_page : (old mid new : ReaderView) (page : List Formula) → IsOver old mid → IsBounded mid new page → IsBounded old new page
over_page old mid new page one two = record {
  modest = two.modest;
  few = two.few;
  falls = omega (arith, one.falls, two.falls);
  weight = omega (arith, one.falls, two.weight);
  ended = omega (arith, one.ended, two.ended);
  pages = two.pages;
  more = two.more;
}

pub over_goes : (old mid new : ReaderView) (page : Option (List Formula)) → IsOver old mid → GoesOn mid new (Ok page) → GoesOn old new (Ok page)
over_goes old mid new (Some page) one two = over_page old mid new page one two
over_goes old mid new None one two = over_then old mid new one two

pub go_taken : (old new : ReaderView) (taken : Option (List Formula)) → CanGoOn old → IsFurther old new → TakesPage taken old.state new.state → GoesOn old new (Ok taken)
go_taken old new (Some page) can further takes = go_page old new page can further takes
go_taken old new None can further takes = go_same old new can further takes.1

-- nothing is read
pub go_start : (r : ReaderView) (codes : CodeTables) (macros : Table) → state_of r.state ≡ start_state codes macros → AreKnown r.names r.source.words → r.source.passed ≡ 0 → room r.source ≤ max_source → CanGoOn r
go_start r codes macros start known passed few =
    let page : r.state.page ≡ [] = ap (λ (s : DocumentState). s.page) start in
    record {
      known = known;
      whole = omega (arith, passed, few);
      left = omega (arith, few, ap page_weight page);
      count = omega (arith, few, ap (λ (s : DocumentState). s.count) start);
      total = omega (arith, ap (λ (s : DocumentState). s.total) start);
      pages = omega (arith, ap (λ (s : DocumentState). length (state_pages s)) start);
      modest = subst (λ (p : List Formula). All HasModestLists p) (sym page) (All-nil HasModestLists);
    }
