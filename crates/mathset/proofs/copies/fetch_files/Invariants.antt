use Rattle.std.proofs.Common.{◌≡◌, List, ℕ, [], drop, length, map}
use Rattle.std.specs.Prelude.{Some}
use Rattle.std.specs.Borrow.{Bor}
use Rattle.mt_outside.specs.declared.files.Held.{Held}
use Rattle.mathset.specs.CopySteps.{files_step}
use Rattle.mathset.proofs.StepLemmas.{Leads}
use Rattle.mathset.proofs.copies.fetch_files.Given as goal

abbrev pub invariant-loop-name : goal.invariant-loop-name
invariant-loop-name g l = record {
  same : g.C.Cabinet.faults l.cabinet ≡ g.C.Cabinet.faults l.initial.cabinet;
  holds : g.C.Cabinet.holds l.cabinet ≡ g.C.Cabinet.holds l.initial.cabinet;
  count : length l.files.items ≡ l.name-index;
  leads : (held : List Held) → g.C.Cabinet.holds l.initial.cabinet ≡ Some held
      → Leads (files_step [] (map (λ (name : Bor (List ℕ)). name.now) l.names) held) (files_step l.files.items (drop l.name-index (map (λ (name : Bor (List ℕ)). name.now) l.names)) held);
}
