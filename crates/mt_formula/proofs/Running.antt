-- A run of items, turn by turn (`run_on`).
use Rattle.std.proofs.Common.{◌≡◌, ℕ, List, [], ◌++◌, drop, Some, refl, sym, ap, ◌∙◌, subst, append_assoc}
use Rattle.mt_token.specs.declared.token.Token.{Token}
use Rattle.mt_scaled.specs.declared.unit.Units.{Units}
use Rattle.mt_plain.specs.CodeTables.{CodeTables}
use Rattle.mt_rules.specs.Sequence.{Sequence}
use Rattle.mt_scan.specs.declared.fault.Fault.{Fault as FaultFields}
use Rattle.mt_scan.specs.Parts.{Read, Got, Fault, NoTurn, then_read}
use Rattle.mt_arena.specs.Arena.{ArenaValue, Held, as_sequence}
use Rattle.mt_arena.proofs.Putting.{extends_more, extends_same}
use Rattle.mt_formula.specs.declared.reading.given.Given.{Given as CodeGiven}
use Rattle.mt_formula.specs.declared.reading.given.Given.TheVariants as give
use Rattle.mt_formula.specs.declared.reading.given.RunEnd.{RunEnd}
use Rattle.mt_formula.specs.declared.reading.stop.Stop.{Stop}
use Rattle.mt_formula.specs.declared.reading.stop.Stop.TheVariants.{Fault as AtFault, OutOfMemory}
use Rattle.mt_formula.specs.declared.actions.action.Action.{Action}
use Rattle.mt_formula.specs.declared.actions.action.Action.TheVariants.{Stop as StopAction}
use Rattle.mt_formula.specs.Atoms.{append}
use Rattle.mt_formula.specs.Items.{action_here, coded_action, given}
use Rattle.mt_formula.specs.Lists.{ItemRun, items_before}
use Rattle.mt_formula.specs.reading.Carried.{carried_turn, follows, put_given}
use Rattle.mt_formula.specs.reading.Ends.{front_code}
use Rattle.mt_formula.specs.reading.Givens.{given_in}
use Rattle.mt_formula.specs.reading.Noads.{KeptLast, last_in, symbol_noad}
use Rattle.mt_formula.specs.reading.Reads.{Adds, Grows, Puts, RunsTo, whole_run}
use Rattle.mt_formula.specs.reading.Stops.{HasFault, fitting}
use Rattle.mt_formula.proofs.Arenas.{inside_more, last_later, sequence_more}
use Rattle.mt_formula.proofs.Fronts.{code_action}
use Rattle.mt_formula.proofs.Below.{Below, before_below, below_from, below_refl, below_to, below_trans}
use Rattle.mt_formula.proofs.Carrying.{whole_turn}
use Rattle.mt_formula.proofs.Giving.{adds_none, no_items}
use Rattle.mt_formula.proofs.Inside.{append_append}

before_twice : (a b : Sequence) (r : Read ItemRun) → items_before (append a b) r ≡ items_before a (items_before b r)
before_twice a b (Got more rest) = ap (λ items. Got (record { items = items; family = more.family }) rest) (append_append a b more.items)
before_twice a b (Fault cause left) = refl
before_twice a b NoTurn = refl

-- things after things
pub adds_more : (old now mid new : ArenaValue) (hs ks : List Held) → Adds old now hs → Grows now mid → Adds mid new ks → Adds old new (hs ++ ks)
adds_more old now mid new hs ks a g b = record {
  front = extends_more old.closed now.closed new.closed a.front (extends_more now.closed mid.closed new.closed g.front b.front);
  top = b.top ∙ ap (λ x. x ++ ks) (g.top ∙ a.top) ∙ append_assoc old.top hs ks;
  below = b.below ∙ g.below ∙ a.below;
  inside = inside_more hs ks a.inside b.inside;
}

-- the fault of what is below
pub fault_above : {A : Type 0} (stop : Stop) (r s : Read A) → HasFault stop r → Below r s → HasFault stop s
fault_above (AtFault f) r s h b = (h.0, sym (subst (λ x. Below x s) h.1 b), h.2)
fault_above OutOfMemory r s h b = tt

pub fault_before : (stop : Stop) (items : Sequence) (r : Read ItemRun) → HasFault stop r → HasFault stop (items_before items r)
fault_before (AtFault f) items r h = (h.0, ap (items_before items) h.1, h.2)
fault_before OutOfMemory items r h = tt

pub fault_then : {A B : Type 0} (stop : Stop) (r : Read A) (f : A → List Token → Read B) → HasFault stop r → HasFault stop (then_read r f)
fault_then (AtFault g) r f h = (h.0, ap (λ x. then_read x f) h.1, h.2)
fault_then OutOfMemory r f h = tt

pub fault_same : {A : Type 0} (stop : Stop) (r s : Read A) → r ≡ s → HasFault stop s → HasFault stop r
fault_same stop r s e h = subst (HasFault stop) (sym e) h

module _ (tables : CodeTables) (units : Units) (level : ℕ) (whole : Read ItemRun) (old : ArenaValue) where
  -- what is left, after the items that are put so far, gives the whole
  abbrev pub RunSoFar : ArenaValue → RunEnd → List Token → Type 0
  RunSoFar now run rest =
      (more : List Held) × Adds old now more
      × Below (items_before (as_sequence more) (whole_run tables units level run.family (last_in now.closed run.last) rest)) whole

  pub run_start : (run : RunEnd) (tokens : List Token) → whole ≡ whole_run tables units level run.family (last_in old.closed run.last) tokens → RunSoFar old run tokens
  run_start run tokens e = ([], adds_none old, below_from _ (whole_run tables units level run.family (last_in old.closed run.last) tokens) whole (no_items (whole_run tables units level run.family (last_in old.closed run.last) tokens)) (below_to _ _ whole (below_refl (whole_run tables units level run.family (last_in old.closed run.last) tokens)) (sym e)))

  module _ (now : ArenaValue) (run : RunEnd) (rest after : List Token) (a : Action) (s : RunSoFar now run rest)
      (here : action_here tables units level run.family (last_in now.closed run.last) rest ≡ Got a after) where
    -- what a turn reads is below the whole
    turned : Below (items_before (as_sequence s.0) (follows tables units (whole_run tables units) level run.family (last_in now.closed run.last) a after)) whole
    turned =
        below_trans (items_before (as_sequence s.0) (follows tables units (whole_run tables units) level run.family (last_in now.closed run.last) a after)) _ whole
        (before_below (as_sequence s.0) (follows tables units (whole_run tables units) level run.family (last_in now.closed run.last) a after) (whole_run tables units level run.family (last_in now.closed run.last) rest)
        (below_from (follows tables units (whole_run tables units) level run.family (last_in now.closed run.last) a after) (carried_turn tables units (whole_run tables units) level run.family (last_in now.closed run.last) rest) _
        (sym (ap (λ r. then_read r (follows tables units (whole_run tables units) level run.family (last_in now.closed run.last))) here))
        (whole_turn tables units level run.family (last_in now.closed run.last) rest)))
        s.2

    pub run_on : (mid new : ArenaValue) (next : RunEnd) (g : CodeGiven) (last : List Token) → KeptLast now.closed run.last → Grows now mid
        → given tables units (whole_run tables units) level run.family a after ≡ Got (given_in mid.closed g) last → Puts mid new run g next → RunSoFar new next last
    run_on mid new next g last k grows is puts = (
      s.0 ++ puts.more,
      adds_more old now mid new s.0 puts.more s.1 grows puts.adds,
      below_from _ (items_before (as_sequence s.0) (follows tables units (whole_run tables units) level run.family (last_in now.closed run.last) a after)) whole
          (ap (λ items. items_before items (whole_run tables units level next.family (last_in new.closed next.last) last)) (sequence_more s.0 puts.more)
          ∙ before_twice (as_sequence s.0) (as_sequence puts.more) (whole_run tables units level next.family (last_in new.closed next.last) last)
          ∙ ap (items_before (as_sequence s.0)) (sym (puts.is tables units (whole_run tables units) level last))
          ∙ ap (λ l. items_before (as_sequence s.0) (put_given tables units (whole_run tables units) level run.family l (given_in mid.closed g) last)) (last_later now.closed mid.closed run.last grows.front k)
          ∙ ap (λ r. items_before (as_sequence s.0) (then_read r (put_given tables units (whole_run tables units) level run.family (last_in now.closed run.last)))) (sym is))
          turned,
    )

    pub given_fails : (stop : Stop) → HasFault stop (given tables units (whole_run tables units) level run.family a after) → HasFault stop whole
    given_fails stop h =
        fault_above stop (items_before (as_sequence s.0) (follows tables units (whole_run tables units) level run.family (last_in now.closed run.last) a after)) whole
        (fault_before stop (as_sequence s.0) (follows tables units (whole_run tables units) level run.family (last_in now.closed run.last) a after)
        (fault_then stop (given tables units (whole_run tables units) level run.family a after) (put_given tables units (whole_run tables units) level run.family (last_in now.closed run.last)) h)) turned

    pub run_ends : a ≡ StopAction → RunsTo old now whole run after
    run_ends e = record {
      more = s.0;
      adds = s.1;
      is = sym (subst (λ b. Below (items_before (as_sequence s.0) (follows tables units (whole_run tables units) level run.family (last_in now.closed run.last) b after)) whole) e turned);
    }

  -- the atom of a math code
  pub run_on_symbol : (now new : ArenaValue) (run next : RunEnd) (rest : List Token) (code : ℕ) → RunSoFar now run rest → front_code tables rest ≡ Some code → KeptLast now.closed run.last
      → Puts now new run (give.Atom (symbol_noad run.family code)) next → RunSoFar new next (drop 1 rest)
  run_on_symbol now new run next rest code s e k puts =
      run_on now run rest (drop 1 rest) (coded_action run.family code) s (code_action tables units level run.family (last_in now.closed run.last) code rest e) now new next (give.Atom (symbol_noad run.family code)) (drop 1 rest) k
      (record { front = extends_same now.closed; top = refl; below = refl }) refl puts

  -- a token that no action takes
  pub action_fails : (now : ArenaValue) (run : RunEnd) (rest : List Token) (f : FaultFields) → RunSoFar now run rest
      → action_here tables units level run.family (last_in now.closed run.last) rest ≡ Fault f.cause f.left → f.left ≡ fitting f.left → HasFault (AtFault f) whole
  action_fails now run rest f s here fits =
      fault_above (AtFault f) (items_before (as_sequence s.0) (whole_run tables units level run.family (last_in now.closed run.last) rest)) whole
      (fault_before (AtFault f) (as_sequence s.0) (whole_run tables units level run.family (last_in now.closed run.last) rest)
      (fault_above (AtFault f) (carried_turn tables units (whole_run tables units) level run.family (last_in now.closed run.last) rest) _
      (f.left, ap (λ r. then_read r (follows tables units (whole_run tables units) level run.family (last_in now.closed run.last))) here, fits)
      (whole_turn tables units level run.family (last_in now.closed run.last) rest))) s.2
