-- What `read_dvi` keeps of a file, and its answers.
use Rattle.std.proofs.Common.{◌≡◌, ℕ, ◌+◌, ◌≤◌, List, [], ◌∷◌, ◌++◌, length, refl, sym, ◌∙◌, ap, arith, length-append, length-drop, inl, inr}
use Rattle.std.specs.Prelude.{Ok, Err, Option, Some, None, Result, IfSome, IfOk, IfErr, IsSome, ◌⊎◌}
use Rattle.std.proofs.lemmas.List.{append-nil, map-append}
use Rattle.mt_family.specs.SetValue.{SetValue}
use Rattle.mt_box.specs.declared.place.Place.{Place}
use Rattle.mt_dvi.specs.File as files
use Rattle.mt_dvi.specs.File.{Dvi, DviFault, Fault, File, Page, advance, pages_of, pages_of_reading, places_of, read}
use Rattle.mt_dvi.specs.Written.{Written}
use Rattle.mt_dvi.specs.WrittenPlaces.{all_places}
use Rattle.mt_dvi.proofs.WholeFile.{reads_back}
use Rattle.mt_dviread.specs.Errors.{ReadsBack, fault_of}
use Rattle.mt_dviread.specs.Deeds.{Changes, places_after, places_of_page}
use Rattle.mt_dviread.specs.inner.Kept.{IsKeeping, Keeps, lists_after, RunKeeps}
use Rattle.mt_dvi.specs.Codes.{operand_size}
use Rattle.mt_dvi.specs.Limits.{max_places}
use Rattle.mt_dviread.specs.declared.deed.Deed.{Deed}
use Rattle.mt_dviread.specs.declared.deed.Deed.TheVariants.{Passes, BeginsPage, EndsPage, Selects, Performs}
use Rattle.mt_dviread.specs.declared.error.DviError.{DviError}
use Rattle.mt_dviread.specs.declared.error.DviError.TheVariants as errors
use Rattle.mt_dviread.specs.declared.file.OpenFile.{OpenFile}
use Rattle.mt_dviread.specs.declared.file.Phase.{Phase}
use Rattle.mt_dviread.specs.declared.run.RunOpcode.{RunOpcode}
use Rattle.mt_dviread.specs.declared.run.RunOpcode.TheVariants.{Mark, Move, Select}
use Rattle.mt_dviread.specs.Runs.{deed_of_kind}
use Rattle.mt_dviread.specs.declared.file.Phase.TheVariants.{BeforePre, BetweenPages, InPage, AfterPost}
use Rattle.mt_dviread.specs.Sees.{Finishes, GoesOn, IsReading, IsWithin, Sees, Turns, phase_of}
use Rattle.mt_dviread.proofs.Offsets.{fault_not_before, read_fault}
use Rattle.mt_dviread.proofs.Turns.{file_after, if_some, reads_fault, reads_on, reads_out, starts}

all_places_more : (pages : List (List Place)) (page : List Place) → length (all_places (pages ++ page ∷ [])) ≡ length (all_places pages) + length page
all_places_more [] page = let e = ap length (append-nil page) in omega (arith, e)
all_places_more (first ∷ pages) page =
    let ih = all_places_more pages page in
    let one = length-append first (all_places (pages ++ page ∷ [])) in
    let two = length-append first (all_places pages) in
    omega (arith, ih, one, two)

ended_after : (deed : Deed) (pages : List (List Place)) (page : List Place) (file next : File) (n : ℕ) → Keeps pages page file → Changes deed file next → places_of (advance next n) ≡ lists_after deed pages page
ended_after EndsPage pages page file next n k c =
    let begun : places_of_page file.page ≡ page = k.begun in
    ap (λ (l : List Page). places_of (record file { pages = l })) c.pages ∙ map-append places_of_page file.pages (file.page ∷ [])
    ∙ ap (λ (l : List (List Place)). l ++ places_of_page file.page ∷ []) k.ended ∙ ap (λ (l : List Place). pages ++ l ∷ []) begun
ended_after Passes pages page file next n k c = ap (λ (l : List Page). places_of (record file { pages = l })) c.pages ∙ k.ended
ended_after BeginsPage pages page file next n k c = ap (λ (l : List Page). places_of (record file { pages = l })) c.pages ∙ k.ended
ended_after Selects pages page file next n k c = ap (λ (l : List Page). places_of (record file { pages = l })) c.pages ∙ k.ended
ended_after (Performs place) pages page file next n k c = ap (λ (l : List Page). places_of (record file { pages = l })) c.pages ∙ k.ended

counted_after : (deed : Deed) (pages : List (List Place)) (page : List Place) (file next : File) → Keeps pages page file → Changes deed file next → length (all_places (lists_after deed pages page)) + length (places_after deed page) ≤ next.place_count
counted_after EndsPage pages page file next k c = let a = k.counted in let n = c.count in let more = all_places_more pages page in omega (arith, a, n, more)
counted_after Passes pages page file next k c = let a = k.counted in let n = c.count in omega (arith, a, n)
counted_after BeginsPage pages page file next k c = let a = k.counted in let n = c.count in omega (arith, a, n)
counted_after Selects pages page file next k c = let a = k.counted in let n = c.count in omega (arith, a, n)
counted_after (Performs None) pages page file next k c = let a = k.counted in let n = c.count in omega (arith, a, n)
counted_after (Performs (Some place)) pages page file next k c = let a = k.counted in let n = c.count in let l = length-append page (place ∷ []) in omega (arith, a, n, l)

pub keeps_on : (deed : Deed) (pages : List (List Place)) (page : List Place) (file next : File) (n : ℕ) → Keeps pages page file → Changes deed file next → Keeps (lists_after deed pages page) (places_after deed page) (advance next n)
keeps_on deed pages page file next n k c = record {
  ended = ended_after deed pages page file next n k c;
  begun = c.places ∙ ap (places_after deed) k.begun;
  counted = counted_after deed pages page file next k c;
}

answer : (fonts : SetValue) (bytes : List ℕ) (result : files.Reading) → read fonts bytes ≡ result → pages_of fonts bytes ≡ pages_of_reading result
unfolding pages_of
answer fonts bytes result e = ap pages_of_reading e

-- the file has been read to its end
pub is_read : (fonts : SetValue) (bytes : List ℕ) (pages : List (List Place)) (page : List Place) (file last : File) → read fonts bytes ≡ Ok last → last.pages ≡ file.pages → Keeps pages page file → Dvi fonts bytes pages
is_read fonts bytes pages page file last e same k =
    answer fonts bytes (Ok last) e ∙ ap (λ (l : List Page). Ok (places_of (record file { pages = l }))) same ∙ ap Ok k.ended

-- the file has a fault
pub is_fault : (fonts : SetValue) (bytes : List ℕ) (error : DviError) → IfSome (fault_of error) (λ (fault : Fault). read fonts bytes ≡ Err fault) → IfSome (fault_of error) (λ (fault : Fault). DviFault fonts bytes fault)
is_fault fonts bytes error h = if_some (fault_of error) (λ fault e. answer fonts bytes (Err fault) e) h

pub none_left : {A : Type 0} (o : Option A) → ((x : A) → o ≡ Some x → ⊥) → o ≡ None
none_left None not = refl
none_left (Some x) not = absurd (not x refl)

-- an opcode has a byte at least
further : (fonts : SetValue) (file : File) (o new : OpenFile) (deed : Deed) → GoesOn fonts file o.rest.now deed new → new.at + length new.rest.now ≡ o.at + length o.rest.now → 1 ≤ new.at
further fonts file o new deed t same =
    let old = ap length t.begins.is in
    let left = ap length t.left in
    let rest = length-drop (operand_size t.code t.later) t.later in
    omega (arith, same, old, left, rest)

phase_before : (p : Phase) → files.BeforePre ≡ phase_of p → p ≡ BeforePre
phase_before BeforePre e = refl
phase_before BetweenPages e = absurd (cc)
phase_before InPage e = absurd (cc)
phase_before AfterPost e = absurd (cc)

-- one turn of the loop
pub keeping_on : (fonts : SetValue) (bytes : List ℕ) (o new : OpenFile) (pages ended : List (List Place)) (page begun : List Place) (deed : Deed) → IsKeeping fonts bytes o pages page
    → ((file : File) → Sees fonts o file → GoesOn fonts file o.rest.now deed new) → IsWithin new → new.at + length new.rest.now ≡ o.at + length o.rest.now
    → ended ≡ lists_after deed pages page → begun ≡ places_after deed page → IsKeeping fonts bytes new ended begun
keeping_on fonts bytes o new pages ended page begun deed k turns within same e b =
    let t = turns k.file k.reading.sees in
    record {
      file = file_after fonts k.file o.rest.now deed new t;
      reading = reads_on fonts bytes o new k.file deed t k.reading within same;
      keeps = rw (e, b) (keeps_on deed pages page k.file t.next (operand_size t.code t.later + 1) k.keeps t.changes);
      first = inr (further fonts k.file o new deed t same);
    }

pub keeping_done : (fonts : SetValue) (bytes : List ℕ) (o new : OpenFile) (pages : List (List Place)) (page : List Place) → IsKeeping fonts bytes o pages page
    → ((file : File) → Sees fonts o file → Finishes fonts file o.rest.now new) → Dvi fonts bytes pages
keeping_done fonts bytes o new pages page k turns =
    let t = turns k.file k.reading.sees in
    is_read fonts bytes pages page k.file t.last (reads_out fonts bytes o new k.file t k.reading) t.pages k.keeps

pub keeping_few : (fonts : SetValue) (bytes : List ℕ) (o : OpenFile) (pages : List (List Place)) (page : List Place) → IsKeeping fonts bytes o pages page → length (all_places pages) ≤ max_places
keeping_few fonts bytes o pages page k =
    let counted = k.keeps.counted in
    let same = k.reading.sees.place_count in
    let few = k.reading.sees.few in
    omega (arith, counted, same, few)

pub keeping_fault : (fonts : SetValue) (bytes : List ℕ) (o new : OpenFile) (pages : List (List Place)) (page : List Place) (error : DviError) → IsKeeping fonts bytes o pages page
    → ((file : File) → Sees fonts o file → Turns fonts file o.rest.now (Err error) new) → IfSome (fault_of error) (λ (fault : Fault). DviFault fonts bytes fault)
keeping_fault fonts bytes o new pages page error k turns =
    is_fault fonts bytes error (reads_fault fonts bytes o new k.file error k.reading (turns k.file k.reading.sees))

pub keeping_starts : (fonts : SetValue) (bytes : List ℕ) (o : OpenFile) (pages : List (List Place)) (page : List Place) → Sees fonts o files.at_start → IsWithin o → o.rest.now ≡ bytes → pages ≡ [] → page ≡ [] → IsKeeping fonts bytes o pages page
keeping_starts fonts bytes o pages page s within is none empty =
    record {
      file = files.at_start;
      reading = starts fonts bytes o s within is;
      keeps = rw (none, empty) (record { ended = refl; begun = refl; counted = omega arith });
      first = inl (phase_before o.phase s.phase);
    }

-- behind the first opcode no fault is at offset 0
not_first : (fonts : SetValue) (bytes : List ℕ) (o : OpenFile) (file : File) → IsReading fonts bytes o file → 1 ≤ o.at → (fault : Fault) → DviFault fonts bytes fault → fault.at ≡ 0 → ⊥
not_first fonts bytes o file r further fault is zero =
    let there = r.sees.at in
    let at = fault_not_before fonts file 0 o.rest.now fault (sym r.reads ∙ read_fault fonts bytes fault is) in
    omega (arith, further, there, at, zero)

same_fault : (fonts : SetValue) (bytes : List ℕ) (f g : Fault) → DviFault fonts bytes f → DviFault fonts bytes g → f ≡ g
same_fault fonts bytes f g e h = let a : pages_of fonts bytes ≡ Err f = e in let b : pages_of fonts bytes ≡ Err g = h in cc

-- an error where the fault is at offset 0
pub keeping_early : (fonts : SetValue) (bytes : List ℕ) (o new : OpenFile) (pages : List (List Place)) (page : List Place) (error : DviError) → IsKeeping fonts bytes o pages page
    → ((file : File) → Sees fonts o file → Turns fonts file o.rest.now (Err error) new) → (o.phase ≡ BeforePre → IsSome (fault_of error))
    → (fault : Fault) → DviFault fonts bytes fault → fault.at ≡ 0 → fault_of error ≡ Some fault
keeping_early fonts bytes o new pages page error k turns first fault is zero = by_fault (fault_of error) refl (keeping_fault fonts bytes o new pages page error k turns) where
  by_first : fault_of error ≡ None → (o.phase ≡ BeforePre) ⊎ (1 ≤ o.at) → ⊥
  by_first e (inl before) = (let f : IsSome (fault_of error) = first before in absurd (cc))
  by_first e (inr further) = not_first fonts bytes o k.file k.reading further fault is zero

  by_fault : (f : Option Fault) → fault_of error ≡ f → IfSome f (λ (x : Fault). DviFault fonts bytes x) → fault_of error ≡ Some fault
  by_fault None e h = absurd (by_first e k.first)
  by_fault (Some x) e h = e ∙ ap (λ (y : Fault). Some y) (same_fault fonts bytes x fault h is)

-- memory ran out behind the first opcode
pub keeping_late : (fonts : SetValue) (bytes : List ℕ) (o new : OpenFile) (pages : List (List Place)) (page : List Place) (deed : Deed) → IsKeeping fonts bytes o pages page
    → ((file : File) → Sees fonts o file → GoesOn fonts file o.rest.now deed new) → IsWithin new → new.at + length new.rest.now ≡ o.at + length o.rest.now
    → (fault : Fault) → DviFault fonts bytes fault → fault.at ≡ 0 → ⊥
keeping_late fonts bytes o new pages page deed k turns within same fault is zero =
    let t = turns k.file k.reading.sees in
    not_first fonts bytes new _ (reads_on fonts bytes o new k.file deed t k.reading within same) (further fonts k.file o new deed t same) fault is zero

pub not_both : (fonts : SetValue) (bytes : List ℕ) (pages : List (List Place)) (fault : Fault) → Dvi fonts bytes pages → DviFault fonts bytes fault → ⊥
not_both fonts bytes pages fault read refused = let a : pages_of fonts bytes ≡ Ok pages = read in let b : pages_of fonts bytes ≡ Err fault = refused in absurd (cc)

-- a file that is read has no fault
no_fault : (fonts : SetValue) (bytes : List ℕ) (error : DviError) → IfSome (fault_of error) (DviFault fonts bytes) → (pages : List (List Place)) → pages_of fonts bytes ≡ Ok pages → error ≡ errors.OutOfMemory
no_fault fonts bytes errors.OutOfMemory fault pages is = refl
no_fault fonts bytes error fault pages is = absurd (not_both fonts bytes pages _ is fault)

-- what is written is read back
pub back : (fonts : SetValue) (bytes : List ℕ) (result : Result (List (List Place)) DviError) → IfOk result (λ pages. Dvi fonts bytes pages) → IfErr result (λ error. IfSome (fault_of error) (DviFault fonts bytes))
    → (pages : List (List Place)) → Written fonts bytes pages → ReadsBack result pages
back fonts bytes (Ok read_pages) ok err pages written =
    let w = reads_back fonts bytes pages written in let o : pages_of fonts bytes ≡ Ok read_pages = ok in cc
back fonts bytes (Err error) ok err pages written = no_fault fonts bytes error err pages (reads_back fonts bytes pages written)

-- an opcode of a run
later : (o : OpenFile) → (o.phase ≡ BeforePre) ⊎ (1 ≤ o.at) → o.phase ≡ InPage → 1 ≤ o.at
later o (inl before) page = absurd (let e = sym before ∙ page in cc)
later o (inr further) page = further

pub run_refused : (fonts : SetValue) (bytes : List ℕ) (o new : OpenFile) (pages : List (List Place)) (page : List Place) (error : DviError) → IsKeeping fonts bytes o pages page
    → ((file : File) → Sees fonts o file → Turns fonts file o.rest.now (Err error) new) → o.phase ≡ InPage → RunKeeps fonts bytes (Err error) new pages page
run_refused fonts bytes o new pages page error k turns in_page = (
  keeping_fault fonts bytes o new pages page error k turns,
  λ fault is zero. not_first fonts bytes o k.file k.reading (later o k.first in_page) fault is zero,
)

pub same_lists : (kind : RunOpcode) (pages : List (List Place)) (page : List Place) → pages ≡ lists_after (deed_of_kind kind) pages page
same_lists Mark pages page = refl
same_lists Move pages page = refl
same_lists Select pages page = refl

pub same_places : (kind : RunOpcode) (page : List Place) → page ≡ places_after (deed_of_kind kind) page
same_places Mark page = refl
same_places Move page = refl
same_places Select page = refl
