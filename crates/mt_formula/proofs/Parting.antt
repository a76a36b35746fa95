-- The parts of a list that have lists in them: what is read for each, and what it is made of.
use Rattle.std.proofs.Common.{◌≡◌, ℕ, add-one, ◌+◌, Bool, true, false, List, [], ◌∷◌, ◌++◌, length, drop, Option, Some, None, refl, sym, ap, ◌∙◌, subst, arith}
use Rattle.std.specs.Prelude.{⊤, if◌then◌else◌}
use Rattle.mt_token.specs.declared.token.Token.{Token}
use Rattle.mt_scaled.specs.declared.unit.Units.{Units}
use Rattle.mt_plain.specs.CodeTables.{CodeTables}
use Rattle.mt_rules.specs.declared.symbol.Delim.{Delim}
use Rattle.mt_rules.specs.declared.class.Class.TheVariants.{Inner}
use Rattle.mt_rules.specs.declared.kind.Kind.TheVariants.{Plain}
use Rattle.mt_rules.specs.Sequence.{Sequence, Part, TableGrid, End, More, LeftElement, ListPart}
use Rattle.mt_scan.specs.declared.role.Role.{Role}
use Rattle.mt_scan.specs.declared.role.Role.TheVariants.{OpenBrace, CloseBrace}
use Rattle.mt_scan.specs.Role.{is_math_shift, is_open_brace, is_superscript, role_of}
use Rattle.mt_scan.specs.Parts.{Read, Got, after_blanks, after_spaces, opening, then_read}
use Rattle.mt_arena.specs.declared.thing.Noad.{Noad}
use Rattle.mt_arena.specs.declared.thing.Span.{Span}
use Rattle.mt_arena.specs.declared.thing.Thing.TheVariants.{Choice}
use Rattle.mt_arena.specs.Arena.{ArenaValue, Extends, Held, as_sequence, first_open, other_open, sequence_in}
use Rattle.mt_arena.proofs.Putting.{extends_append, extends_more}
use Rattle.mt_formula.specs.declared.reading.ends.Ending.TheVariants.{AtDollar, AtEnd, AtOf}
use Rattle.mt_formula.specs.declared.reading.stop.Stop.{Stop}
use Rattle.mt_formula.specs.declared.actions.action.Action.TheVariants.{Rows as RowsAction, LeftRight, Root}
use Rattle.mt_formula.specs.Atoms.{append, element_of_atom, last_atom_items, plain_atom, prime_atom, prime_items, root_atom}
use Rattle.mt_formula.specs.Groups.{segments}
use Rattle.mt_formula.specs.Items.{Given, GivesAtom, atom_given, field, given, table_given}
use Rattle.mt_formula.specs.Lists.{ItemRunReader, list, list_after, then_give}
use Rattle.mt_formula.specs.Primes.{after_primes, argument_after, argument_at, argument_read, prime_script, prime_script_of, primes}
use Rattle.mt_formula.specs.Rows.{brace_closes, first_rows, row, rows}
use Rattle.mt_formula.specs.Tables.{brace_level, preamble_of, table, table_rows}
use Rattle.mt_formula.specs.Whole.{whole_rows}
use Rattle.mt_formula.specs.declared.actions.table_form.TableForm.{TableForm}
use Rattle.mt_formula.specs.reading.Arguments.{after_superscript}
use Rattle.mt_formula.specs.reading.Givens.{KeptThing}
use Rattle.mt_formula.specs.reading.Noads.{last_in}
use Rattle.mt_formula.specs.reading.Reads.{Closes, Completes, Grows, whole_run}
use Rattle.mt_formula.specs.reading.Rows.{row_opens}
use Rattle.mt_formula.specs.reading.Stops.{HasFault}
use Rattle.mt_formula.specs.reading.WholeLists.{KeptSpan}
use Rattle.mt_formula.proofs.Arenas.{kept_span_later, no_boundaries_in, one_more, span_lists}
use Rattle.mt_formula.proofs.Chaining.{give_give, then_then}
use Rattle.mt_formula.proofs.Inside.{both_true}
use Rattle.mt_formula.proofs.Running.{fault_same, fault_then}
use Rattle.mt_formula.proofs.Unrolling.{first_rows_by_rules}

some_is : {A : Type 0} {a b : A} → Some a ≡ Some b → a ≡ b
some_is e = cc

-- a list that was opened, read and closed
pub closes_grows : (old b m new : ArenaValue) → b.closed ≡ old.closed → b.below ≡ old.top ∷ old.below → Extends b.closed m.closed → m.below ≡ b.below → Closes m new → Grows old new
closes_grows old b m new c below front mid k = record {
  front = extends_more old.closed m.closed new.closed (subst (λ es. Extends es m.closed) c front) k.front;
  top = k.top ∙ ap first_open (mid ∙ below);
  below = k.below ∙ ap other_open (mid ∙ below);
}

-- a list whose items are put to it one by one
pub items_grow : (old m new : ArenaValue) → Extends old.closed m.closed → m.below ≡ old.top ∷ old.below → new.closed ≡ m.closed ++ m.top → new.top ≡ first_open m.below → new.below ≡ other_open m.below → Grows old new
items_grow old m new front mid c t b = record {
  front = extends_more old.closed m.closed new.closed front (subst (Extends m.closed) (sym c) (extends_append m.closed m.top));
  top = t ∙ ap first_open mid;
  below = b ∙ ap other_open mid;
}

-- four lists of a choice, of which each was read after the one before
pub choice_kept : (es fs gs hs : List Held) (d t s m : Span) → Extends es fs → Extends fs gs → Extends gs hs → KeptSpan es d → KeptSpan fs t → KeptSpan gs s → KeptSpan hs m
    → KeptThing hs (Choice (record { display = d; text = t; script = s; small = m }))
choice_kept es fs gs hs d t s m e f g kd kt ks km =
    let d4 = kept_span_later es hs d (extends_more es fs hs e (extends_more fs gs hs f g)) kd in
    let t4 = kept_span_later fs hs t (extends_more fs gs hs f g) kt in
    let s4 = kept_span_later gs hs s g ks in (
      omega (arith, d4.within, t4.within, s4.within, km.within),
      (span_lists hs d d4, span_lists hs t t4, span_lists hs s s4, span_lists hs m km),
      both_true _ true (both_true _ _ (no_boundaries_in hs d d4) (both_true _ _ (no_boundaries_in hs t t4) (both_true _ _ (no_boundaries_in hs s s4) (no_boundaries_in hs m km)))) refl,
    )

-- primes alone as a list: one is at hand
pub primes_closed : (b : ArenaValue) (count : ℕ) (p : Noad) (all : Sequence) → as_sequence b.top ≡ prime_items count → last_in b.closed (Some p) ≡ Some prime_atom
    → all ≡ append (as_sequence b.top) (last_atom_items (last_in b.closed (Some p))) → prime_items (count + 1) ≡ all
primes_closed b count p all e l h =
    ap prime_items (add-one count) ∙ sym (one_more count) ∙ sym (ap (λ s. append s (More (element_of_atom prime_atom) End)) e)
    ∙ ap (λ a. append (as_sequence b.top) (last_atom_items a)) (sym l) ∙ sym h

-- more was read after more
pub grows_more : (a b c : ArenaValue) → Grows a b → Grows b c → Grows a c
grows_more a b c g h = record { front = extends_more a.closed b.closed c.closed g.front h.front; top = h.top ∙ g.top; below = h.below ∙ g.below }

-- an argument that is one token
pub one_token : (tables : CodeTables) (units : Units) (again : ItemRunReader) (count level : ℕ) (family : Option ℕ) (t : Token) (rest : List Token) (role : Role)
    → (role ≡ OpenBrace → ⊥) → (role ≡ CloseBrace → ⊥)
    → argument_at tables units again count level family t rest role ≡ argument_read tables units again count level family (record { tokens = t ∷ []; behind = length rest; after = rest })
one_token tables units again count level family t rest OpenBrace n m = absurd (n refl)
one_token tables units again count level family t rest CloseBrace n m = absurd (m refl)
one_token tables units again count level family t rest _ n m = refl

module _ (tables : CodeTables) (units : Units) where
  -- primes and what is read after them, as a list
  pub primes_in : (b m new : ArenaValue) (count level : ℕ) (family : Option ℕ) (p : Noad) (last : Option Noad) (span : Span) (tokens rest : List Token)
      → as_sequence b.top ≡ prime_items count → last_in b.closed (Some p) ≡ Some prime_atom
      → Completes b m (list_after tables units (whole_run tables units) (as_sequence b.top) (last_in b.closed (Some p)) AtEnd level family tokens) last rest
      → sequence_in new.closed span ≡ append (as_sequence m.top) (last_atom_items (last_in m.closed last))
      → after_primes tables units (whole_run tables units) count level family tokens ≡ Got (sequence_in new.closed span) rest
  primes_in b m new count level family p last span tokens rest e l r h =
      ap (λ s. list_after tables units (whole_run tables units) s (Some prime_atom) AtEnd level family tokens) (sym e)
      ∙ ap (λ a. list_after tables units (whole_run tables units) (as_sequence b.top) a AtEnd level family tokens) (sym l)
      ∙ r.is ∙ ap (λ s. Got s rest) (sym h)

  -- the rows of a vcenter atom
  pub rows_given : (level : ℕ) (family : Option ℕ) (inside : List Token) (stop : Stop) → HasFault stop (first_rows tables units (whole_run tables units) (whole_rows tables units (whole_run tables units) (level + 1)) inside)
      → HasFault stop (given tables units (whole_run tables units) level family RowsAction inside)
  rows_given level family inside stop h =
      fault_then stop (rows tables units (whole_run tables units) level inside) _ (fault_same stop (rows tables units (whole_run tables units) level inside) _ (first_rows_by_rules tables units level inside) h)

  -- a root
  abbrev root_after : ℕ → Option ℕ → Sequence → List Token → Read Given
  root_after level family degree word = then_give (field tables units (whole_run tables units) level family (drop 1 word)) (λ (body : Part). atom_given (root_atom degree body))

  pub degree_fails : (level : ℕ) (family : Option ℕ) (inside : List Token) (stop : Stop) → HasFault stop (list tables units (whole_run tables units) AtOf (level + 1) family inside)
      → HasFault stop (given tables units (whole_run tables units) level family Root inside)
  degree_fails level family inside stop h = fault_then stop (list tables units (whole_run tables units) AtOf (level + 1) family inside) (root_after level family) h

  pub body_fails : (level : ℕ) (family : Option ℕ) (inside word : List Token) (degree : Sequence) (stop : Stop) → list tables units (whole_run tables units) AtOf (level + 1) family inside ≡ Got degree word
      → HasFault stop (field tables units (whole_run tables units) level family (drop 1 word)) → HasFault stop (given tables units (whole_run tables units) level family Root inside)
  body_fails level family inside word degree stop e h =
      fault_same stop (given tables units (whole_run tables units) level family Root inside) (root_after level family degree word) (ap (λ r. then_read r (root_after level family)) e)
      (fault_then stop (field tables units (whole_run tables units) level family (drop 1 word)) (λ (body : Part) (rest : List Token). Got (atom_given (root_atom degree body)) rest) h)

  -- what is between boundaries
  abbrev bounded_atom : Sequence → Given
  bounded_atom inner = GivesAtom (plain_atom (Plain Inner) (ListPart inner))

  pub left_right_given : (level : ℕ) (family : Option ℕ) (left : Delim) (inside : List Token)
      → given tables units (whole_run tables units) level family (LeftRight left) inside
      ≡ then_give (then_give (segments tables units (whole_run tables units) (level + 1) family inside) (λ inner. More (LeftElement left) inner)) bounded_atom
  left_right_given level family left inside = sym (give_give (segments tables units (whole_run tables units) (level + 1) family inside) (λ inner. More (LeftElement left) inner) bounded_atom)

  pub left_right_fails : (level : ℕ) (family : Option ℕ) (left : Delim) (inside : List Token) (stop : Stop)
      → HasFault stop (then_give (segments tables units (whole_run tables units) (level + 1) family inside) (λ inner. More (LeftElement left) inner))
      → HasFault stop (given tables units (whole_run tables units) level family (LeftRight left) inside)
  left_right_fails level family left inside stop h =
      fault_same stop _ (then_give (then_give (segments tables units (whole_run tables units) (level + 1) family inside) (λ inner. More (LeftElement left) inner)) bounded_atom) (left_right_given level family left inside)
      (fault_then stop (then_give (segments tables units (whole_run tables units) (level + 1) family inside) (λ inner. More (LeftElement left) inner)) (λ inner rest. Got (bounded_atom inner) rest) h)

  pub left_right_is : (level : ℕ) (family : Option ℕ) (left : Delim) (inside rest : List Token) (all : Sequence)
      → then_give (segments tables units (whole_run tables units) (level + 1) family inside) (λ inner. More (LeftElement left) inner) ≡ Got all rest
      → given tables units (whole_run tables units) level family (LeftRight left) inside ≡ Got (bounded_atom all) rest
  left_right_is level family left inside rest all e = left_right_given level family left inside ∙ ap (λ r. then_give r bounded_atom) e

  -- a row by what opens it
  abbrev row_list : ℕ → ⊤ → List Token → Read Sequence
  row_list level dollar inside =
      then_read (list tables units (whole_run tables units) AtDollar (level + 2) None inside) (λ (inner : Sequence) (end : List Token).
      then_give (brace_closes tables (drop 1 end)) (λ closed. inner))

  pub row_is : (level : ℕ) (tokens : List Token) → row tables units (whole_run tables units) level tokens ≡ then_read (row_opens tables level tokens) (row_list level)
  row_is level tokens = sym (then_then (opening tables is_open_brace level tokens) (λ (brace : ⊤) (after : List Token). opening tables is_math_shift (level + 1) after) (row_list level))

  pub row_read : (level : ℕ) (tokens inside end rest : List Token) (all : Sequence) → row_opens tables level tokens ≡ Got tt inside
      → list tables units (whole_run tables units) AtDollar (level + 2) None inside ≡ Got all end → brace_closes tables (drop 1 end) ≡ Got tt rest
      → row tables units (whole_run tables units) level tokens ≡ Got all rest
  row_read level tokens inside end rest all o l b =
      row_is level tokens ∙ ap (λ r. then_read r (row_list level)) o
      ∙ ap (λ r. then_read r (λ (inner : Sequence) (end : List Token). then_give (brace_closes tables (drop 1 end)) (λ closed. inner))) l
      ∙ ap (λ r. then_give r (λ closed. all)) b

  -- primes alone, and with an argument
  pub primes_argument : (level : ℕ) (family : Option ℕ) (tokens rest after : List Token) (count : ℕ) → count ≡ (primes tables 0 tokens).count → rest ≡ (primes tables 0 tokens).rest → after_superscript tables rest ≡ Some after
      → prime_script tables units (whole_run tables units) level family tokens ≡ argument_after tables units (whole_run tables units) count level family after
  primes_argument level family tokens rest after count c r e =
      ap (λ n. prime_script_of tables units (whole_run tables units) n level family (primes tables 0 tokens).rest) (sym c)
      ∙ ap (λ ts. prime_script_of tables units (whole_run tables units) count level family ts) (sym r) ∙ at_superscript rest e
    where
      at_superscript : (ts : List Token) → after_superscript tables ts ≡ Some after → prime_script_of tables units (whole_run tables units) count level family ts ≡ argument_after tables units (whole_run tables units) count level family after
      at_superscript [] e = cc
      at_superscript (t ∷ ts) e = by_role (is_superscript (role_of tables t)) e
        where
          by_role : (b : Bool) → (if b then Some (after_spaces ts) else None) ≡ Some after
              → (if b then argument_after tables units (whole_run tables units) count level family (after_spaces ts) else Got (prime_items (count + 1)) (t ∷ ts)) ≡ argument_after tables units (whole_run tables units) count level family after
          by_role true e = ap (argument_after tables units (whole_run tables units) count level family) (some_is e)
          by_role false e = cc

  pub primes_alone : (level : ℕ) (family : Option ℕ) (tokens rest : List Token) (count : ℕ) → count ≡ (primes tables 0 tokens).count → rest ≡ (primes tables 0 tokens).rest → after_superscript tables rest ≡ None
      → prime_script tables units (whole_run tables units) level family tokens ≡ Got (prime_items (count + 1)) rest
  primes_alone level family tokens rest count c r e =
      ap (λ n. prime_script_of tables units (whole_run tables units) n level family (primes tables 0 tokens).rest) (sym c)
      ∙ ap (λ ts. prime_script_of tables units (whole_run tables units) count level family ts) (sym r) ∙ at_none rest e
    where
      at_none : (ts : List Token) → after_superscript tables ts ≡ None → prime_script_of tables units (whole_run tables units) count level family ts ≡ Got (prime_items (count + 1)) ts
      at_none [] e = refl
      at_none (t ∷ ts) e = by_role (is_superscript (role_of tables t)) e
        where
          by_role : (b : Bool) → (if b then Some (after_spaces ts) else None) ≡ None
              → (if b then argument_after tables units (whole_run tables units) count level family (after_spaces ts) else Got (prime_items (count + 1)) (t ∷ ts)) ≡ Got (prime_items (count + 1)) (t ∷ ts)
          by_role true e = cc
          by_role false e = refl

  -- a table after its word
  abbrev table_from : TableForm → ℕ → List Token → Read TableGrid
  table_from form level tokens =
      then_read (opening tables is_open_brace level (after_blanks tables tokens)) (λ (here : ⊤) (inside : List Token). table_rows tables units (whole_run tables units) (level + 1) (preamble_of form) inside)

  pub table_fails : (form : TableForm) (level at : ℕ) (tokens : List Token) (stop : Stop) → at ≡ brace_level form level → HasFault stop (table_from form at tokens)
      → HasFault stop (then_give (table tables units (whole_run tables units) form level tokens) (λ rows. table_given form rows))
  table_fails form level at tokens stop e h =
      fault_then stop (table tables units (whole_run tables units) form level tokens) (λ rows rest. Got (table_given form rows) rest) (subst (λ n. HasFault stop (table_from form n tokens)) e h)

  pub table_is : (form : TableForm) (level at : ℕ) (tokens rest : List Token) (rows : TableGrid) (all : Given) → at ≡ brace_level form level → table_from form at tokens ≡ Got rows rest → all ≡ table_given form rows
      → then_give (table tables units (whole_run tables units) form level tokens) (λ rows. table_given form rows) ≡ Got all rest
  table_is form level at tokens rest rows all e h g =
      ap (λ r. then_give r (λ rows. table_given form rows)) (subst (λ n. table_from form n tokens ≡ Got rows rest) e h) ∙ ap (λ x. Got x rest) (sym g)
