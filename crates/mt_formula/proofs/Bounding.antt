-- Lists between boundaries, one after the other (`segments_on`).
use Rattle.std.proofs.Common.{◌≡◌, ℕ, true, false, List, [], ◌∷◌, ◌++◌, drop, length, ◌≤◌, Option, None, refl, sym, ap, ◌∙◌, subst, true≢false}
use Rattle.mt_token.specs.declared.token.Token.{Token}
use Rattle.mt_scaled.specs.declared.unit.Units.{Units}
use Rattle.mt_plain.specs.CodeTables.{CodeTables}
use Rattle.mt_rules.specs.declared.symbol.Delim.{Delim}
use Rattle.mt_rules.specs.Facts.{EndsWithRight, IsMathList}
use Rattle.mt_rules.specs.Sequence.{Sequence, Element, End, More, LeftElement, MiddleElement, RightElement}
use Rattle.mt_scan.specs.Delimiters.{scan_delimiter}
use Rattle.mt_scan.specs.Parts.{Read, Got, then_read}
use Rattle.mt_arena.specs.declared.thing.Cell.TheVariants.{List as OfList}
use Rattle.mt_arena.specs.declared.thing.Noad.{Noad}
use Rattle.mt_arena.specs.declared.thing.Span.{Span}
use Rattle.mt_arena.specs.Arena.{ArenaValue, Extends, Held, ItemHeld, RowHeld, CellsHeld, RootHeld, as_sequence, first_open, held_in, other_open}
use Rattle.mt_arena.specs.Keeping.{AllLists, InnerLists}
use Rattle.mt_arena.proofs.Putting.{inner_lists}
use Rattle.mt_formula.specs.declared.reading.ends.Ending.TheVariants.{AtRight}
use Rattle.mt_formula.specs.declared.reading.stop.Stop.{Stop}
use Rattle.mt_formula.specs.Atoms.{append}
use Rattle.mt_formula.specs.Groups.{after_segment, ends_at_middle, segment_end, segments}
use Rattle.mt_formula.specs.Lists.{ItemRunReader, list, list_after, then_give}
use Rattle.mt_formula.specs.reading.Facts.{is_between, stands_between, stands_inside}
use Rattle.mt_formula.specs.reading.Inside.{are_between, are_inside}
use Rattle.mt_formula.specs.reading.Noads.{KeptField, last_held}
use Rattle.mt_formula.specs.reading.Reads.{Adds, AddsList, Completes, whole_run}
use Rattle.mt_formula.specs.reading.Stops.{HasFault}
use Rattle.mt_formula.proofs.Arenas.{sequence_more, with_last, with_last_inside}
use Rattle.mt_formula.proofs.Chaining.{give_all, give_give, give_same}
use Rattle.mt_formula.proofs.Inside.{append_append, both_true, first_true, second_true, stands}
use Rattle.mt_formula.proofs.Running.{fault_same, fault_then}
use Rattle.mt_formula.proofs.Unrolling.{segments_by_rules}

module _ (tables : CodeTables) (units : Units) (level : ℕ) (family : Option ℕ) where
  abbrev pub segment_reader : List Token → Read Sequence
  segment_reader = segments tables units (whole_run tables units) level family

  abbrev pub segments_left : Sequence → List Token → Read Sequence
  segments_left done rest = then_give (segment_reader rest) (append done)

  pub segments_start : (tokens : List Token) → segment_reader tokens ≡ segments_left End tokens
  segments_start tokens = sym (give_all (segment_reader tokens) (append End) (λ part. refl))

  segment_fails_in : (done : Sequence) (rest : List Token) (stop : Stop) → HasFault stop (then_read (list tables units (whole_run tables units) AtRight level family rest) (segment_end tables segment_reader)) → HasFault stop (segments_left done rest)
  segment_fails_in done rest stop h =
      fault_then stop (segment_reader rest) (λ others after. Got (append done others) after)
      (fault_same stop (segment_reader rest) _ (segments_by_rules tables units level family rest) h)

  pub segment_fails : (done : Sequence) (rest : List Token) (stop : Stop) → HasFault stop (list tables units (whole_run tables units) AtRight level family rest) → HasFault stop (segments_left done rest)
  segment_fails done rest stop h = segment_fails_in done rest stop (fault_then stop (list tables units (whole_run tables units) AtRight level family rest) (segment_end tables segment_reader) h)

  module _ (done : Sequence) (rest end : List Token) (inner : Sequence) (l : list tables units (whole_run tables units) AtRight level family rest ≡ Got inner end) where
    pub delimiter_fails : (stop : Stop) → HasFault stop (scan_delimiter tables (drop 1 end)) → HasFault stop (segments_left done rest)
    delimiter_fails stop h =
        segment_fails_in done rest stop
        (fault_same stop _ (segment_end tables segment_reader inner end) (ap (λ r. then_read r (segment_end tables segment_reader)) l)
        (fault_then stop (scan_delimiter tables (drop 1 end)) (after_segment segment_reader (ends_at_middle tables end) inner) h))

    module _ (d : Delim) (after : List Token) (s : scan_delimiter tables (drop 1 end) ≡ Got d after) where
      one : segments_left done rest ≡ then_give (after_segment segment_reader (ends_at_middle tables end) inner d after) (append done)
      one = ap (λ r. then_give r (append done)) (segments_by_rules tables units level family rest ∙ ap (λ r. then_read r (segment_end tables segment_reader)) l ∙ ap (λ r. then_read r (after_segment segment_reader (ends_at_middle tables end) inner)) s)

      pub segments_on : ends_at_middle tables end ≡ true → segments_left done rest ≡ segments_left (append done (append inner (More (MiddleElement d) End))) after
      segments_on m =
          one ∙ ap (λ b. then_give (after_segment segment_reader b inner d after) (append done)) m
          ∙ give_give (segment_reader after) (λ others. append inner (More (MiddleElement d) others)) (append done)
          ∙ give_same (segment_reader after) (λ others. append done (append inner (More (MiddleElement d) others))) (append (append done (append inner (More (MiddleElement d) End))))
          (λ others. ap (append done) (sym (append_append inner (More (MiddleElement d) End) others)) ∙ sym (append_append done (append inner (More (MiddleElement d) End)) others))

      pub segments_end : ends_at_middle tables end ≡ false → segments_left done rest ≡ Got (append done (append inner (More (RightElement d) End))) after
      segments_end m = one ∙ ap (λ b. then_give (after_segment segment_reader b inner d after) (append done)) m

-- ---- what is between them

inside_between : (e : Element) → stands_inside e ≡ true → stands_between e ≡ true
inside_between (MiddleElement delim) h = refl
inside_between _ h = h

pub are_inside_between : (hs : List Held) → are_inside hs ≡ true → are_between hs ≡ true
are_inside_between [] h = refl
are_inside_between (ItemHeld e ∷ hs) h = both_true _ _ (inside_between e (first_true (stands_inside e) _ h)) (are_inside_between hs (second_true (stands_inside e) _ h))
are_inside_between (RowHeld list ∷ hs) h = absurd (true≢false (sym h))
are_inside_between (CellsHeld cells ∷ hs) h = absurd (true≢false (sym h))
are_inside_between (RootHeld degree body ∷ hs) h = absurd (true≢false (sym h))

pub between_more : (hs ks : List Held) → are_between hs ≡ true → are_between ks ≡ true → are_between (hs ++ ks) ≡ true
between_more [] ks h k = k
between_more (ItemHeld e ∷ hs) ks h k = both_true _ _ (first_true (stands_between e) _ h) (between_more hs ks (second_true (stands_between e) _ h) k)
between_more (RowHeld list ∷ hs) ks h k = absurd (true≢false (sym h))
between_more (CellsHeld cells ∷ hs) ks h k = absurd (true≢false (sym h))
between_more (RootHeld degree body ∷ hs) ks h k = absurd (true≢false (sym h))

between_sequence : (hs : List Held) → are_between hs ≡ true → is_between (as_sequence hs) ≡ true
between_sequence [] h = refl
between_sequence (ItemHeld e ∷ hs) h = both_true _ _ (first_true (stands_between e) _ h) (between_sequence hs (second_true (stands_between e) _ h))
between_sequence (RowHeld list ∷ hs) h = absurd (true≢false (sym h))
between_sequence (CellsHeld cells ∷ hs) h = absurd (true≢false (sym h))
between_sequence (RootHeld degree body ∷ hs) h = absurd (true≢false (sym h))

ends_with_right : (s : Sequence) (right : Delim) → is_between s ≡ true → EndsWithRight (append s (More (RightElement right) End))
ends_with_right End right h = tt
ends_with_right (More (LeftElement delim) rest) right h = absurd (true≢false (sym (first_true false (is_between rest) h)))
ends_with_right (More (MiddleElement delim) rest) right h = ends_with_right rest right (second_true true (is_between rest) h)
ends_with_right (More (RightElement delim) rest) right h = absurd (true≢false (sym (first_true false (is_between rest) h)))
ends_with_right (More first rest) right h = (stands first (first_true (stands_between first) (is_between rest) h), ends_with_right rest right (second_true (stands_between first) (is_between rest) h))

-- the list of boundaries as a field
pub bounded_field : (es hs items : List Held) (s : Span) (left right : Delim) → s.end ≤ length es → AllLists hs → held_in es s ≡ hs
    → hs ≡ ItemHeld (LeftElement left) ∷ (items ++ ItemHeld (RightElement right) ∷ []) → are_between items ≡ true → KeptField es (OfList s)
bounded_field es hs items s left right w l e h b = record {
  within = w;
  lists = subst (λ ks. IsMathList (as_sequence ks) × InnerLists (as_sequence ks)) (sym e) (
    subst (λ ks. IsMathList (as_sequence ks)) (sym h) (subst EndsWithRight (sym (sequence_more items (ItemHeld (RightElement right) ∷ []))) (ends_with_right (as_sequence items) right (between_sequence items b))),
    inner_lists hs l,
  );
  field = refl;
}

-- a list and a delimiter more, after the left boundary and these items
pub boundary_pushed : (left : Delim) (hs items more ks ls : List Held) (e : Element) → hs ≡ ItemHeld (LeftElement left) ∷ items → ks ≡ hs ++ more → ls ≡ ks ++ ItemHeld e ∷ []
    → ls ≡ ItemHeld (LeftElement left) ∷ ((items ++ more) ++ ItemHeld e ∷ [])
boundary_pushed left hs items more ks ls e h k l = l ∙ ap (λ x. x ++ ItemHeld e ∷ []) (k ∙ ap (λ x. x ++ more) h)

pub boundary_read : (items more : List Held) (e : Element) → append (as_sequence items) (append (as_sequence more) (More e End)) ≡ as_sequence ((items ++ more) ++ ItemHeld e ∷ [])
boundary_read items more e =
    sym (sequence_more (items ++ more) (ItemHeld e ∷ []) ∙ ap (λ s. append s (More e End)) (sequence_more items more) ∙ append_append (as_sequence items) (as_sequence more) (More e End))

pub segment_between : (items more : List Held) → are_between items ≡ true → are_inside more ≡ true → are_between (items ++ more) ≡ true
segment_between items more b i = between_more items more b (are_inside_between more i)

pub middle_between : (items more : List Held) (d : Delim) → are_between items ≡ true → are_inside more ≡ true → are_between ((items ++ more) ++ ItemHeld (MiddleElement d) ∷ []) ≡ true
middle_between items more d b i = between_more (items ++ more) (ItemHeld (MiddleElement d) ∷ []) (segment_between items more b i) refl

-- ---- a list between boundaries, which was opened, read and joined with the list round it
pub segment_joined : (tables : CodeTables) (units : Units) (again : ItemRunReader) (level : ℕ) (family : Option ℕ) (tokens rest : List Token) (old b m p new : ArenaValue) (last : Option Noad)
    → b.closed ≡ old.closed → b.top ≡ [] → b.below ≡ old.top ∷ old.below → Completes b m (list_after tables units again (as_sequence b.top) None AtRight level family tokens) last rest → Adds m p (last_held m.closed last)
    → p.closed ≡ m.closed → new.top ≡ first_open p.below ++ p.top → new.below ≡ other_open p.below → new.closed ≡ p.closed → AddsList old new (list tables units again AtRight level family tokens) rest
segment_joined tables units again level family tokens rest old b m p new last bc bt bb k a pc nt nb nc = record {
  more = p.top;
  adds = record {
    front = subst (Extends old.closed) (sym (nc ∙ pc)) (subst (λ es. Extends es m.closed) bc k.front);
    top = nt ∙ ap (λ ls. first_open ls ++ p.top) (a.below ∙ k.below ∙ bb);
    below = nb ∙ ap other_open (a.below ∙ k.below ∙ bb);
    inside = with_last_inside m.closed m.top p.top last a.top k.inside a.inside;
  };
  is = ap (λ hs. list_after tables units again (as_sequence hs) None AtRight level family tokens) (sym bt) ∙ k.is ∙ ap (λ s. Got s rest) (sym (with_last m.closed m.top p.top last a.top));
}
