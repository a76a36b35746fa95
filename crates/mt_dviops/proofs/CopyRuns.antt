-- A run of opcodes that is copied: bytes that stay are copied at its end (`run_performs`, `run_selects`, `run_done`).
use Rattle.std.proofs.Common.{◌≡◌, ℕ, ◌+◌, ◌-◌, ◌<◌, ◌≤◌, List, [], ◌∷◌, ◌++◌, length, take, drop, refl, sym, ◌∙◌, ap, subst, arith, append_assoc, drop-drop}
use Rattle.std.specs.Prelude.{Option, Some, None, Ok, IfSome, max}
use Rattle.std.proofs.Math.Seq.{take-add}
use Rattle.std.proofs.lemmas.List.{append-nil}
use Rattle.mt_family.specs.SetValue.{SetValue}
use Rattle.mt_box.specs.declared.place.Place.{Place}
use Rattle.mt_dvi.specs.File.{File}
use Rattle.mt_dviread.specs.declared.deed.Deed.TheVariants as deeds
use Rattle.mt_dviread.specs.declared.file.OpenFile.{OpenFile}
use Rattle.mt_dviread.specs.declared.file.Phase.{Phase}
use Rattle.mt_dviread.specs.declared.file.Phase.TheVariants as phases
use Rattle.mt_dviread.specs.declared.run.RunOpcode.{RunOpcode}
use Rattle.mt_dviread.specs.Runs.{coming_in}
use Rattle.mt_dviread.specs.Sees.{GoesOn, IsWithin, Sees}
use Rattle.mt_dviops.specs.declared.copies.CopiedPage.{CopiedPage}
use Rattle.mt_dviops.specs.declared.open.OpenCopies.{OpenCopies}
use Rattle.mt_dviops.specs.inner.Copying.{IsCopying, KeptCopies, SelectsAny, TakesSelection, including_places, kept_of, kept_with}
use Rattle.mt_dviops.specs.inner.Inside.{bytes_between}
use Rattle.mt_dviops.proofs.CopyTurns.{copying_on}

-- an opcode is there
pub there : (phase : Phase) (rest : List ℕ) (kind : RunOpcode) → coming_in phase rest ≡ Some kind → 1 ≤ length rest
there phases.BeforePre rest kind e = absurd (cc)
there phases.BetweenPages rest kind e = absurd (cc)
there phases.InPage [] kind e = absurd (cc)
there phases.InPage (code ∷ later) kind e = omega arith
there phases.AfterPost rest kind e = absurd (cc)

-- bytes from one offset to another, and on to a third
between_more : (from a b : ℕ) (bytes : List ℕ) → from ≤ a → a ≤ b → bytes_between from b bytes ≡ bytes_between from a bytes ++ bytes_between a b bytes
between_more from a b bytes low high =
    let e : b - from ≡ (a - from) + (b - a) = omega (arith, low, high) in
    let f : from + (a - from) ≡ a = omega (arith, low) in
    ap (λ (n : ℕ). take n (drop from bytes)) e ∙ take-add (a - from) (b - a) (drop from bytes)
    ∙ ap (λ (l : List ℕ). take (a - from) (drop from bytes) ++ take (b - a) l) (drop-drop (a - from) from bytes ∙ ap (λ (n : ℕ). drop n bytes) f)

no_bytes : (n : ℕ) (bytes : List ℕ) → bytes_between n n bytes ≡ []
no_bytes n bytes = let e : n - n ≡ 0 = omega arith in ap (λ (k : ℕ). take k (drop n bytes)) e

-- a mark or a move
pub run_performs : (fonts : SetValue) (bytes : List ℕ) (o new : OpenFile) (old newer : OpenCopies) (from : ℕ) (place : Option Place) → IsCopying fonts bytes o (kept_with old (bytes_between from o.at bytes)) → from ≤ o.at
    → ((file : File) → Sees fonts o file → GoesOn fonts file o.rest.now (deeds.Performs place) new) → IsWithin new → length new.rest.now < length o.rest.now → new.at + length new.rest.now ≡ o.at + length o.rest.now
    → newer ≡ record old { page = including_places fonts (record (old.page) { depth = max old.page.depth (length new.machine.saved) }) place }
    → IsCopying fonts bytes new (kept_with newer (bytes_between from new.at bytes))
run_performs fonts bytes o new old newer from place k low turns within shorter same is =
    let page : CopiedPage = including_places fonts (record (old.page) { depth = max old.page.depth (length new.machine.saved) }) place in
    let opcode : take (new.at - o.at) o.rest.now ≡ bytes_between o.at new.at bytes = ap (take (new.at - o.at)) k.left in
    let more : bytes_between from new.at bytes ≡ bytes_between from o.at bytes ++ take (new.at - o.at) o.rest.now =
    between_more from o.at new.at bytes low (omega (arith, shorter, same)) ∙ ap (λ (l : List ℕ). bytes_between from o.at bytes ++ l) (sym opcode) in
    let longer : old.bodies.items ++ bytes_between from new.at bytes ≡ (old.bodies.items ++ bytes_between from o.at bytes) ++ take (new.at - o.at) o.rest.now =
    ap (λ (l : List ℕ). old.bodies.items ++ l) more ∙ sym (append_assoc old.bodies.items (bytes_between from o.at bytes) (take (new.at - o.at) o.rest.now)) in
    subst (λ (x : OpenCopies). IsCopying fonts bytes new (kept_with x (bytes_between from new.at bytes))) (sym is)
    (copying_on fonts bytes (take (new.at - o.at) o.rest.now) o new (kept_with old (bytes_between from o.at bytes)) (kept_with (record old { page = page }) (bytes_between from new.at bytes)) (deeds.Performs place) (o.at + 1) k turns within same
    (refl, longer) refl refl)

-- a selection
pub run_selects : (fonts : SetValue) (bytes : List ℕ) (o new : OpenFile) (old newer : OpenCopies) (from next : ℕ) → IsCopying fonts bytes o (kept_with old (bytes_between from o.at bytes))
    → ((file : File) → Sees fonts o file → GoesOn fonts file o.rest.now deeds.Selects new) → IsWithin new → new.at + length new.rest.now ≡ o.at + length o.rest.now → new.at ≡ o.at + 1
    → TakesSelection (Ok next) old newer new.machine.font bytes from o.at → IsCopying fonts bytes new (kept_with newer (bytes_between next new.at bytes))
run_selects fonts bytes o new old newer from next k turns within same one takes =
    copying_on fonts bytes (take (new.at - o.at) o.rest.now) o new (kept_with old (bytes_between from o.at bytes)) (kept_with newer (bytes_between next new.at bytes)) deeds.Selects (o.at + 1) k turns within same
    (subst (λ (n : ℕ). SelectsAny (Ok tt) (kept_with old (bytes_between from o.at bytes)) (kept_with newer (bytes_between next n bytes)) new.machine.font) (sym one) takes.1) refl refl

-- the run begins
pub run_starts : (fonts : SetValue) (bytes : List ℕ) (o : OpenFile) (copied : OpenCopies) → IsCopying fonts bytes o (kept_of copied) → IsCopying fonts bytes o (kept_with copied (bytes_between o.at o.at bytes))
run_starts fonts bytes o copied k =
    let e : copied.bodies.items ++ bytes_between o.at o.at bytes ≡ copied.bodies.items = ap (λ (l : List ℕ). copied.bodies.items ++ l) (no_bytes o.at bytes) ∙ append-nil copied.bodies.items in
    subst (λ (l : List ℕ). let kept : KeptCopies = record { bodies = l; pages = copied.pages.items; page = copied.page } in IsCopying fonts bytes o kept) (sym e) k

-- the font that has been selected
pub font_low : (font : Option ℕ) → ((n : ℕ) → font ≡ Some n → n < 48) → IfSome font (λ n. n < 48)
font_low None low = tt
font_low (Some n) low = low n refl
