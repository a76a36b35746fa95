-- Where the machine is after the first bytes of a file (`LeadsTo`), and what a part of the writer adds to them.
use Rattle.std.specs.Prelude.{◌≡◌, ◌≤◌, ℕ, ◌+◌, ◌*◌, ℤ, pos, ◌-ℤ◌, List, [], ◌∷◌, ◌++◌, length, map, Option, Some, None, Bool, false, ◌==◌, if◌then◌else◌, ⊤}
use Rattle.std.specs.List.{list_any}
use Rattle.mt_family.specs.SetValue.{SetValue}
use Rattle.mt_box.specs.Places.{h_of, v_of}
use Rattle.mt_box.specs.declared.place.Place.{Place}
use Rattle.mt_box.specs.declared.place.Place.TheVariants.{Glyph, Rule}
use Rattle.mt_dvi.specs.Fonts.{definition_of}
use Rattle.mt_dvi.specs.Machine.{Machine, WrittenPlace, is_far}
use Rattle.mt_dvi.specs.File.{File, InPage, read, reading}
use Rattle.mt_dvi.specs.Trace.{Opcode, Trace, traced, tracing}
use Rattle.mt_dvi.specs.writer.Emits.{FitsFourBytes}
use Rattle.mt_dvi.specs.Edges.{right_edge}
use Rattle.mt_dvi.specs.declared.moves.HeldAmounts.{HeldAmounts}
use Rattle.mt_dvi.specs.declared.page.Cursor.{Cursor}

-- what has been read, and the opcodes of it
pub record Reached : Type 0 where
  pub file : File
  pub trace : Trace

abbrev pub at_offset_of : List ℕ → File → File
at_offset_of out file = record file { at = length out }

-- whatever follows these bytes is read from this state on
pub record LeadsTo (fonts : SetValue) (out : List ℕ) (reached : Reached) : Type 0 where
  pub read : (rest : List ℕ)
      → read fonts (out ++ rest) ≡ reading fonts (at_offset_of out reached.file) 0 rest
  pub traced : (rest : List ℕ)
      → traced fonts (out ++ rest) ≡ tracing fonts (at_offset_of out reached.file) reached.trace 0 rest

-- from the first bytes on to more of them: where those lead to one state, these lead to the next
abbrev pub Advances : SetValue → List ℕ → List ℕ → Reached → Reached → Type 0
Advances fonts old new from to = LeadsTo fonts old from → LeadsTo fonts new to

-- at most so many bytes more
abbrev pub GrowsBy : ℕ → List ℕ → List ℕ → Type 0
GrowsBy most old new = length new ≤ length old + most

-- at most so many bytes more, and 271 for each font that is defined anew
abbrev pub GrowsWith : ℕ → List ℕ → List ℕ → List ℕ → List ℕ → Type 0
GrowsWith most old new old_defined new_defined =
    length new + 271 * length old_defined ≤ length old + 271 * length new_defined + most

abbrev pub machine_at : Cursor → Machine
machine_at c = record {
  now = record {
    h = c.h;
    v = c.v;
    w = c.across.first;
    x = c.across.second;
    y = c.downward.first;
    z = c.downward.second;
  };
  saved = [];
  font = c.font;
}

-- in a page, at a cursor, where nothing was ever pushed
abbrev pub in_page : Reached → Cursor → Reached
in_page reached c = record reached {
  file = record (reached.file) { phase = InPage; machine = machine_at c; deepest = 0 };
}

abbrev pub nothing_held : HeldAmounts
nothing_held = record { first = pos 0; second = pos 0; second_next = false }

abbrev pub at_origin : Cursor
at_origin = record { h = pos 0; v = pos 0; across = nothing_held; downward = nothing_held; font = None }

-- each of them is stated in one byte
abbrev pub ones : List ℕ → List ℕ
ones numbers = map (λ (n : ℕ). 1) numbers

-- these fonts are defined, and no others
abbrev pub with_definitions : SetValue → Reached → List ℕ → Reached
with_definitions fonts reached numbers = record {
  file = record (reached.file) { fonts = map (definition_of fonts) numbers; again = [] };
  trace = record (reached.trace) { numbers = ones numbers };
}

abbrev pub is_among : List ℕ → ℕ → Bool
is_among numbers n = list_any (λ (m : ℕ). m == n) numbers

abbrev pub with_number : List ℕ → ℕ → List ℕ
with_number numbers n = if is_among numbers n then numbers else numbers ++ n ∷ []

-- the fonts that are defined after a place
abbrev pub numbers_after : List ℕ → Place → List ℕ
numbers_after numbers (Glyph n code h v) = with_number numbers n
numbers_after numbers (Rule h v height width) = numbers

abbrev pub numbers_after_all : List ℕ → List Place → List ℕ
numbers_after_all numbers [] = numbers
numbers_after_all numbers (place ∷ places) = numbers_after_all (numbers_after numbers place) places

-- more places on the page
abbrev pub with_places : Reached → List WrittenPlace → Reached
with_places reached places = record reached {
  file = record (reached.file) {
    place_count = reached.file.place_count + length places;
    page = record (reached.file.page) { places = reached.file.page.places ++ places };
  };
}

-- one place more on the page
abbrev pub with_place : Reached → Place → Bool → Reached
with_place reached place put = record reached {
  file = record (reached.file) {
    place_count = reached.file.place_count + 1;
    page = record (reached.file.page) {
      places = reached.file.page.places ++ record { place = place; put = put } ∷ [];
    };
  };
}

-- these are the opcodes of the page so far
abbrev pub with_opcodes : Reached → List Opcode → Reached
with_opcodes reached page = record reached { trace = record (reached.trace) { page = page } }

abbrev pub font_after : Place → Option ℕ → Option ℕ
font_after (Glyph n code h v) font = Some n
font_after (Rule h v height width) font = font

-- where the machine is after a place
abbrev pub cursor_after : SetValue → Place → Bool → Cursor → Cursor
cursor_after fonts place put c = record {
  h = if put then h_of place else right_edge fonts place;
  v = v_of place;
  across = c.across;
  downward = c.downward;
  font = font_after place c.font;
}

-- the same from the place on, which has this right edge
abbrev pub cursor_past : Bool → ℤ → Cursor → Cursor
cursor_past put edge c = record c { h = if put then c.h else edge }

-- the next place is too far from this right edge
abbrev pub is_beyond : ℤ → Option Place → Bool
is_beyond edge None = false
is_beyond edge (Some next) = is_far (h_of next -ℤ edge)

-- one move to the right leads to the next place
abbrev pub IsReachable : Cursor → Option Place → Type 0
IsReachable c None = ⊤
IsReachable c (Some place) = FitsFourBytes (h_of place -ℤ c.h)
