-- Lists that are read to their end, and fractions (`open_ends`, `fraction_whole`).
use Rattle.std.proofs.Common.{◌≡◌, ℕ, Bool, true, List, [], ◌∷◌, ◌++◌, drop, Option, None, Result, Ok, Err, sym, ap, ◌∙◌, subst}
use Rattle.std.specs.Borrow.{Bor}
use Rattle.mt_token.specs.declared.token.Token.{Token}
use Rattle.mt_scaled.specs.declared.unit.Units.{Units}
use Rattle.mt_plain.specs.CodeTables.{CodeTables}
use Rattle.mt_rules.specs.Sequence.{Sequence, End, More, FractionElement}
use Rattle.mt_scan.specs.declared.role.Bar.{Bar}
use Rattle.mt_scan.specs.Parts.{Read, Got, then_read}
use Rattle.mt_arena.specs.declared.thing.Noad.{Noad}
use Rattle.mt_arena.specs.declared.thing.Span.{Span}
use Rattle.mt_arena.specs.declared.thing.Thing.TheVariants.{Fraction}
use Rattle.mt_arena.specs.Arena.{ArenaValue, Extends, Held, as_sequence, first_open, other_open, sequence_in, value_in}
use Rattle.mt_arena.specs.Keeping.{KeptList}
use Rattle.mt_arena.proofs.Putting.{extends_more, span_later}
use Rattle.mt_formula.specs.declared.reading.ends.Ending.{Ending}
use Rattle.mt_formula.specs.declared.reading.fraction.FractionHead.{FractionHead}
use Rattle.mt_formula.specs.declared.reading.given.RunEnd.{RunEnd}
use Rattle.mt_formula.specs.declared.reading.stop.Stop.{Stop}
use Rattle.mt_formula.specs.Atoms.{append, last_atom_items}
use Rattle.mt_formula.specs.Lists.{ItemRun, after_item_run, denominator, fraction_head, fraction_list, list_after, list_end}
use Rattle.mt_formula.specs.reading.Inside.{are_inside}
use Rattle.mt_formula.specs.reading.Noads.{last_in}
use Rattle.mt_formula.specs.reading.Reads.{Closes, Completes, ReadsOpen, RunsTo, whole_run}
use Rattle.mt_formula.specs.reading.Stops.{HasFault}
use Rattle.mt_formula.specs.reading.WholeLists.{KeptSpan}
use Rattle.mt_formula.proofs.Arenas.{inside_more, kept_span_later, sequence_more, span_lists}
use Rattle.mt_formula.proofs.Inside.{append_append, append_end}
use Rattle.mt_formula.proofs.Running.{fault_same, fault_then}

module _ (tables : CodeTables) (units : Units) (ending : Ending) (level : ℕ) (family : Option ℕ) (last : Option Noad) (old mid : ArenaValue) (run : RunEnd) (tokens rest : List Token)
    (r : RunsTo old mid (whole_run tables units level family (last_in old.closed last) tokens) run rest) where
  abbrev listed : Read Sequence
  listed = list_after tables units (whole_run tables units) (as_sequence old.top) (last_in old.closed last) ending level family tokens

  -- all the items of the run, behind those that were there
  abbrev pub ran : ItemRun
  ran = record { items = append (as_sequence old.top) (append (as_sequence r.more) (last_atom_items (last_in mid.closed run.last))); family = run.family }

  after_run : listed ≡ after_item_run tables units (whole_run tables units) ending level ran rest
  after_run =
      ap (λ x. then_read x (λ (s : ItemRun) (after : List Token). after_item_run tables units (whole_run tables units) ending level (record { items = append (as_sequence old.top) s.items; family = s.family }) after)) r.is

  mid_items : append (as_sequence mid.top) (last_atom_items (last_in mid.closed run.last)) ≡ ran.items
  mid_items =
      ap (λ s. append s (last_atom_items (last_in mid.closed run.last))) (ap as_sequence r.adds.top ∙ sequence_more old.top r.more)
      ∙ append_append (as_sequence old.top) (as_sequence r.more) (last_atom_items (last_in mid.closed run.last))

  pub mid_inside : are_inside old.top ≡ true → are_inside mid.top ≡ true
  mid_inside h = ap are_inside r.adds.top ∙ inside_more old.top r.more h r.adds.inside

  -- the list ends after the run
  pub open_ends : are_inside old.top ≡ true → after_item_run tables units (whole_run tables units) ending level ran rest ≡ Got ran.items rest → Completes old mid listed run.last rest
  open_ends h e = record { front = r.adds.front; below = r.adds.below; inside = mid_inside h; is = after_run ∙ e ∙ ap (λ s. Got s rest) (sym mid_items) }

  pub open_fails : (stop : Stop) → HasFault stop (after_item_run tables units (whole_run tables units) ending level ran rest) → HasFault stop listed
  open_fails stop h = fault_same stop listed (after_item_run tables units (whole_run tables units) ending level ran rest) after_run h

  -- a fraction word divides it there
  module _ (delims : Bool) (bar : Bar) (e : after_item_run tables units (whole_run tables units) ending level ran rest ≡ then_read (fraction_head tables units delims bar (drop 1 rest)) (denominator tables units (whole_run tables units) ending level ran)) where
    pub head_fails : (stop : Stop) → HasFault stop (fraction_head tables units delims bar (drop 1 rest)) → HasFault stop listed
    head_fails stop h = open_fails stop (fault_same stop _ _ e (fault_then stop (fraction_head tables units delims bar (drop 1 rest)) (denominator tables units (whole_run tables units) ending level ran) h))

    divides : (head : FractionHead) (after : List Token) → fraction_head tables units delims bar (drop 1 rest) ≡ Got head after
        → listed ≡ denominator tables units (whole_run tables units) ending level (record { items = append (as_sequence mid.top) (last_atom_items (last_in mid.closed run.last)); family = run.family }) head after
    divides head after f =
        after_run ∙ e ∙ ap (λ x. then_read x (denominator tables units (whole_run tables units) ending level ran)) f
        ∙ ap (λ i. denominator tables units (whole_run tables units) ending level (record { items = i; family = run.family }) head after) (sym mid_items)

    pub open_divides : {T : Type 0} (token : T → Token) (result : Result (Bor (List T)) Stop) (now : Option Noad) (new : ArenaValue) (head : FractionHead) (after : List Token) → fraction_head tables units delims bar (drop 1 rest) ≡ Got head after
        → ReadsOpen token result mid new now (denominator tables units (whole_run tables units) ending level (record { items = append (as_sequence mid.top) (last_atom_items (last_in mid.closed run.last)); family = run.family }) head after)
        → ReadsOpen token result old new now listed
    open_divides token (Ok part) now new head after f h = record {
      front = extends_more old.closed mid.closed new.closed r.adds.front h.front;
      below = h.below ∙ r.adds.below;
      inside = h.inside;
      is = divides head after f ∙ h.is;
    }
    open_divides token (Err stop) now new head after f h = fault_same stop listed _ (divides head after f) h

-- the lists of a fraction, of which the numerator was closed first
module _ (es fs : List Held) (num den : Span) (front : Extends es fs) (k : KeptSpan es num) (l : KeptSpan fs den) where
  pub fraction_lists : KeptList (sequence_in fs num) × KeptList (sequence_in fs den)
  fraction_lists = (span_lists fs num (kept_span_later es fs num front k), span_lists fs den l)

module _ (tables : CodeTables) (units : Units) (ending : Ending) (level : ℕ) (family : Option ℕ) (last : Option Noad) (old c1 b1 m c2 b2 new : ArenaValue)
    (num den : Span) (head : FractionHead) (run : RunEnd) (tokens rest : List Token)
    (k1 : Closes old c1) (hn : sequence_in c1.closed num ≡ append (as_sequence old.top) (last_atom_items (last_in old.closed last))) (kn : KeptSpan c1.closed num)
    (b1c : b1.closed ≡ c1.closed) (b1t : b1.top ≡ []) (b1b : b1.below ≡ c1.top ∷ c1.below)
    (r : RunsTo b1 m (whole_run tables units level family None tokens) run rest) where
  -- the numerator
  abbrev pub numerator : ItemRun
  numerator = record { items = append (as_sequence old.top) (last_atom_items (last_in old.closed last)); family = family }

  abbrev pub fraction_items : Sequence
  fraction_items = fraction_list head numerator.items (append (as_sequence r.more) (last_atom_items (last_in m.closed run.last)))

  after_den : denominator tables units (whole_run tables units) ending level numerator head tokens ≡ list_end tables units ending fraction_items rest
  after_den = ap (λ x. then_read x (λ (den : ItemRun) (after : List Token). list_end tables units ending (fraction_list head numerator.items den.items) after)) r.is

  pub den_inside : are_inside m.top ≡ true
  den_inside = ap are_inside (r.adds.top ∙ ap (λ hs. hs ++ r.more) b1t) ∙ r.adds.inside

  pub fraction_fails : (stop : Stop) → HasFault stop (list_end tables units ending fraction_items rest) → HasFault stop (denominator tables units (whole_run tables units) ending level numerator head tokens)
  fraction_fails stop h = fault_same stop _ _ after_den h

  pub fraction_whole : (k2 : Closes m c2) → sequence_in c2.closed den ≡ append (as_sequence m.top) (last_atom_items (last_in m.closed run.last))
      → b2.closed ≡ c2.closed → b2.top ≡ [] → b2.below ≡ c2.top ∷ c2.below
      → list_end tables units ending fraction_items rest ≡ Got fraction_items rest
      → new.top ≡ b2.top ++ value_in b2.closed (Fraction (record { thickness = head.thickness; left = head.left; right = head.right; num = num; den = den })) ∷ []
      → new.below ≡ b2.below → new.closed ≡ b2.closed → old.below ≡ first_open old.below ∷ other_open old.below
      → Completes old new (denominator tables units (whole_run tables units) ending level numerator head tokens) None rest
  fraction_whole k2 hd b2c b2t b2b e p below closed inner =
      let front : Extends c1.closed c2.closed = subst (λ es. Extends es c2.closed) b1c (extends_more b1.closed m.closed c2.closed r.adds.front k2.front) in
      let n : sequence_in b2.closed num ≡ numerator.items = ap (λ es. sequence_in es num) b2c ∙ ap as_sequence (span_later c1.closed c2.closed num front kn.within) ∙ hn in
      let d : sequence_in b2.closed den ≡ append (as_sequence r.more) (last_atom_items (last_in m.closed run.last)) =
      ap (λ es. sequence_in es den) b2c ∙ hd ∙ ap (λ hs. append (as_sequence hs) (last_atom_items (last_in m.closed run.last))) (r.adds.top ∙ ap (λ hs. hs ++ r.more) b1t) in
      let t : as_sequence new.top ≡ fraction_items =
      ap as_sequence (p ∙ ap (λ hs. hs ++ value_in b2.closed (Fraction (record { thickness = head.thickness; left = head.left; right = head.right; num = num; den = den })) ∷ []) b2t)
      ∙ ap (λ s. More (FractionElement head.thickness head.left head.right s (sequence_in b2.closed den)) End) n
      ∙ ap (λ s. More (FractionElement head.thickness head.left head.right numerator.items s) End) d in
      record {
        front = subst (Extends old.closed) (sym (closed ∙ b2c)) (extends_more old.closed c1.closed c2.closed k1.front front);
        below = below ∙ b2b ∙ ap (λ hs. hs ∷ c2.below) (k2.top ∙ ap first_open (r.adds.below ∙ b1b) ∙ k1.top) ∙ ap (λ ls. first_open old.below ∷ ls) (k2.below ∙ ap other_open (r.adds.below ∙ b1b) ∙ k1.below) ∙ sym inner;
        inside = ap are_inside (p ∙ ap (λ hs. hs ++ value_in b2.closed (Fraction (record { thickness = head.thickness; left = head.left; right = head.right; num = num; den = den })) ∷ []) b2t);
        is = after_den ∙ e ∙ ap (λ s. Got s rest) (sym t ∙ sym (append_end (as_sequence new.top)));
      }
