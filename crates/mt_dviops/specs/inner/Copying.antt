-- What one pass over a file does to what it keeps (`begun_page`, `Ends`, `CopiesSelection`, `CopiesOpcode`), and what
-- it keeps (`HoldsOpen`, `HoldsEnded`, `IsCopying`).
use Rattle.std.specs.Prelude.{◌≡◌, ℕ, ℤ, IfSome, ◌+◌, ◌-◌, ◌^◌, ◌≤◌, List, [], ◌∷◌, ◌++◌, length, take, drop, max, min, Option, Some, None, Result, Ok, Err, ◌==◌, ◌||◌, ⊤}
use Rattle.std.specs.List.{list_any}
use Rattle.std.specs.declared.alloc.AllocError.{AllocError}
use Rattle.mt_family.specs.SetValue.{SetValue}
use Rattle.mt_box.specs.declared.place.Place.{Place}
use Rattle.mt_dvi.specs.Codes.{bytes_from}
use Rattle.mt_dvi.specs.Edges.{lower_edge, right_edge, greatest_edge, or_zero}
use Rattle.mt_dvi.specs.File.{Fault, File, InPage, AfterPost}
use Rattle.mt_dvi.specs.Machine.{Machine}
use Rattle.mt_dvi.specs.Opcodes.{fnt_num_0}
use Rattle.mt_dviops.specs.declared.copies.CopiedPage.{CopiedPage}
use Rattle.mt_dviops.specs.declared.open.OpenCopies.{OpenCopies}
use Rattle.mt_dviops.specs.Source.{Source, SourcePage, empty_source, no_source, copy_selection, copy_step, source_file_of}
use Rattle.mt_dviops.specs.Walk.{Step, walked, walking}
use Rattle.mt_dviops.specs.inner.Copies.{KeepsPage}
use Rattle.mt_dviops.specs.inner.Inside.{IsInside, bytes_between}
use Rattle.mt_dviops.specs.inner.Shown.{has_selected}
use Rattle.mt_dviread.specs.Deeds.{places_of_page}
use Rattle.mt_dviread.specs.Errors.{fault_of}
use Rattle.mt_dviread.specs.declared.error.DviError.{DviError}
use Rattle.mt_dviread.specs.Sees.{IsReading}
use Rattle.mt_dviread.specs.declared.file.OpenFile.{OpenFile}
use Rattle.mt_dviread.specs.declared.deed.Deed.{Deed}
use Rattle.mt_dviread.specs.declared.deed.Deed.TheVariants as deeds

-- what has been copied so far: the bodies, one after another, the pages that have ended, and the one that has begun
pub record KeptCopies : Type 0 where
  pub bodies : List ℕ
  pub pages : List CopiedPage
  pub page : CopiedPage

-- with bytes that are not copied yet behind the bodies
abbrev pub kept_with : OpenCopies → List ℕ → KeptCopies
kept_with copied more = record {
  bodies = copied.bodies.items ++ more;
  pages = copied.pages.items;
  page = copied.page;
}

abbrev pub kept_of : OpenCopies → KeptCopies
kept_of copied = record { bodies = copied.bodies.items; pages = copied.pages.items; page = copied.page }

abbrev pub begun_page : ℕ → ℕ → CopiedPage
begun_page counts start = record {
  counts = counts;
  start = start;
  end = start;
  fonts = record { bits = 0 };
  depth = 0;
  places = 0;
  tallest = 0;
  widest = 0;
}

-- one place more, by its edges
abbrev pub including_edges : CopiedPage → ℤ → ℤ → CopiedPage
including_edges page right lower = record page {
  places = min (page.places + 1) (2 ^ 32 - 1);
  tallest = max page.tallest (or_zero lower);
  widest = max page.widest (or_zero right);
}

abbrev pub including_place : SetValue → CopiedPage → Place → CopiedPage
including_place fonts page place = including_edges page (right_edge fonts place) (lower_edge fonts place)

abbrev pub including_places : SetValue → CopiedPage → Option Place → CopiedPage
including_places fonts page None = page
including_places fonts page (Some place) = including_place fonts page place

-- the page has ended
abbrev pub Ends : Result Unit AllocError → KeptCopies → KeptCopies → Type 0
Ends (Ok done) old new =
    (new ≡ record old { pages = new.pages; page = record (old.page) { end = length old.bodies } })
    × (new.pages ≡ old.pages ++ record (old.page) { end = length old.bodies } ∷ [])
Ends (Err error) old new = ⊤

-- a font has been selected
abbrev pub CopiesSelection : Result Unit AllocError → KeptCopies → KeptCopies → ℕ → Type 0
CopiesSelection (Ok done) old new font =
    (new ≡ record old { bodies = new.bodies; page = record (old.page) { fonts = new.page.fonts } })
    × (new.bodies ≡ old.bodies ++ (fnt_num_0 + font) ∷ [])
    × ((m : ℕ) → has_selected new.page.fonts m ≡ (m == font || has_selected old.page.fonts m))
CopiesSelection (Err error) old new font = ⊤

-- an opcode of these bytes has been performed
abbrev pub CopiesOpcode : SetValue → Result Unit AllocError → KeptCopies → KeptCopies → List ℕ → Option Place → ℕ
    → Type 0
CopiesOpcode fonts (Ok done) old new opcode place depth =
    (new ≡ record old {
      bodies = new.bodies;
      page = including_places fonts (record (old.page) { depth = max old.page.depth depth }) place;
    })
    × (new.bodies ≡ old.bodies ++ opcode)
CopiesOpcode fonts (Err error) old new opcode place depth = ⊤

-- the font that the machine has selected, if any
abbrev pub SelectsAny : Result Unit AllocError → KeptCopies → KeptCopies → Option ℕ → Type 0
SelectsAny result old new None = new ≡ old
SelectsAny result old new (Some font) = CopiesSelection result old new font

-- a deed has been taken, of an opcode of these bytes after which this is the machine
abbrev pub TakesDeed : SetValue → Result Unit AllocError → KeptCopies → KeptCopies → Deed → ℕ → List ℕ → Machine
    → Type 0
TakesDeed fonts result old new deeds.Passes counts opcode m = new ≡ old
TakesDeed fonts result old new deeds.BeginsPage counts opcode m =
    new ≡ record old { page = begun_page counts (length old.bodies) }
TakesDeed fonts result old new deeds.EndsPage counts opcode m = Ends result old new
TakesDeed fonts result old new deeds.Selects counts opcode m = SelectsAny result old new m.font
TakesDeed fonts result old new (deeds.Performs place) counts opcode m =
    CopiesOpcode fonts result old new opcode place (length m.saved)

-- a selection has been taken, whose opcode is at this offset; the bytes that are not copied yet begin at one offset
-- before it, and at another after it
abbrev pub TakesSelection : Result ℕ AllocError → OpenCopies → OpenCopies → Option ℕ → List ℕ → ℕ → ℕ → Type 0
TakesSelection (Ok next) old new font bytes from at =
    (next ≤ at + 1)
    × SelectsAny (Ok tt) (kept_with old (bytes_between from at bytes)) (kept_with new (bytes_between next (at + 1) bytes)) font
TakesSelection (Err error) old new font bytes from at = ⊤

-- what a deed notes of the opcode that does it
abbrev pub noted_by : Deed → Source → Step → Source
noted_by deeds.Passes source step = source
noted_by deeds.BeginsPage source step = record source { page = empty_source (take 40 step.operands) }
noted_by deeds.EndsPage source step = record source {
  pages = source.pages ++ record (source.page) { page = step.before.page } ∷ [];
}
noted_by deeds.Selects source step = record source { page = copy_selection source.page step.after.machine.font }
noted_by (deeds.Performs place) source step = record source {
  page = record (source.page) {
    body = source.page.body ++ step.code ∷ step.operands;
    depth = max source.page.depth (length step.after.machine.saved);
  };
}

-- the page that has begun, with these places so far
pub record HoldsOpen (fonts : SetValue) (bytes bodies : List ℕ) (kept : CopiedPage) (page : SourcePage)
    (so_far : List Place) : Type 0 where
  pub there : kept.counts + 40 ≤ length bytes
  pub inside : kept.start ≤ length bodies
  pub counts : bytes_from kept.counts 40 bytes ≡ page.counts
  pub body : drop kept.start bodies ≡ page.body
  pub selected : (n : ℕ) → has_selected kept.fonts n ≡ list_any (λ (m : ℕ). m == n) page.selected
  pub depth : kept.depth ≡ page.depth
  pub places : kept.places ≡ length so_far
  pub tallest : kept.tallest ≡ greatest_edge (lower_edge fonts) 0 so_far
  pub widest : kept.widest ≡ greatest_edge (right_edge fonts) 0 so_far

-- a page that has ended
pub record HoldsEnded (fonts : SetValue) (bytes bodies : List ℕ) (kept : CopiedPage) (page : SourcePage) : Type 0 where
  pub inside : IsInside bytes bodies kept
  pub keeps : KeepsPage fonts bytes bodies kept page

abbrev pub AreEnded : SetValue → List ℕ → List ℕ → List CopiedPage → List SourcePage → Type 0
AreEnded fonts bytes bodies [] [] = ⊤
AreEnded fonts bytes bodies [] (page ∷ pages) = ⊥
AreEnded fonts bytes bodies (kept ∷ more) [] = ⊥
AreEnded fonts bytes bodies (kept ∷ more) (page ∷ pages) =
    HoldsEnded fonts bytes bodies kept page × AreEnded fonts bytes bodies more pages

-- the pages that have ended, and the one that has begun
pub record AreCopied (fonts : SetValue) (bytes : List ℕ) (copied : KeptCopies) (noted : Source) (file : File)
    : Type 0 where
  pub ended : AreEnded fonts bytes copied.bodies copied.pages noted.pages
  pub begun : file.phase ≡ InPage
      → HoldsOpen fonts bytes copied.bodies copied.page noted.page (places_of_page file.page)

-- so far the file has been read, and this has been copied of it
pub record IsCopying (fonts : SetValue) (bytes : List ℕ) (open_file : OpenFile) (copied : KeptCopies) : Type 0 where
  pub file : File
  pub noted : Source
  pub reading : IsReading fonts bytes open_file file
  pub left : open_file.rest.now ≡ drop open_file.at bytes
  pub walks : walked fonts copy_step no_source bytes ≡ walking fonts copy_step file noted 0 open_file.rest.now
  pub copies : AreCopied fonts bytes copied noted file
  pub short : length copied.bodies ≤ file.at
  pub posted : file.phase ≡ AfterPost → length copied.bodies ≤ file.post_at
  pub few : length (places_of_page file.page) ≤ file.place_count

-- a run has been copied, or an opcode of it is refused
abbrev pub CopiesRun : SetValue → List ℕ → Result Unit DviError → OpenFile → OpenCopies → Type 0
CopiesRun fonts bytes (Ok done) open_file copied = IsCopying fonts bytes open_file (kept_of copied)
CopiesRun fonts bytes (Err error) open_file copied =
    IfSome (fault_of error) (λ (fault : Fault). source_file_of fonts bytes ≡ Err fault)
