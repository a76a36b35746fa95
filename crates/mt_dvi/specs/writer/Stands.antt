-- The opcodes of a page so far (`Stands`), and what a part of the writer adds to them.
use Rattle.std.specs.Prelude.{◌≡◌, ◌<◌, ◌≤◌, ℕ, ◌+◌, ◌∷◌, ◌++◌, List, [], length, Option, Some, None, Bool, true, ◌&&◌, if◌then◌else◌, ⊤}
use Rattle.std.specs.List.{list_all}
use Rattle.mt_family.specs.SetValue.{SetValue}
use Rattle.mt_box.specs.Places.{h_of, v_of}
use Rattle.mt_box.specs.declared.place.Place.{Place}
use Rattle.mt_dvi.specs.Limits.{max_places}
use Rattle.mt_dvi.specs.Codes.{Register, W, X, Y, Z}
use Rattle.mt_dvi.specs.Trace.{Opcode}
use Rattle.mt_dvi.specs.Lean.{Axis, Downward, are_few, are_in_turn, are_modest, are_needed, is_allowed, is_font_of_next, is_no_zero, is_short, sets_anew}
use Rattle.mt_dvi.specs.WrittenPlaces.{written_places}
use Rattle.mt_dvi.specs.writer.LeadsTo.{LeadsTo, Reached, at_origin, cursor_after, font_after, in_page, is_among, with_definitions, with_opcodes, with_place, with_places}
use Rattle.mt_dvi.specs.declared.moves.HeldAmounts.{HeldAmounts}
use Rattle.mt_dvi.specs.declared.page.Cursor.{Cursor}

-- what the writer has done since the last place
pub data Stage : Type 0 where
  -- nothing
  Arrived : Stage
  -- it has moved across, or need not
  Shifted : Stage
  -- then downward, or need not
  Lowered : Stage
  -- and the font of the glyph that comes next is selected
  Chosen : Stage

-- the moves since the last place
abbrev pub Allows : Stage → List Axis → Type 0
Allows Arrived moves = moves ≡ []
Allows Shifted moves = (are_few moves ≡ true) × (are_few (moves ++ Downward ∷ []) ≡ true)
Allows Lowered moves = are_few moves ≡ true
Allows Chosen moves = are_few moves ≡ true

-- what is to come
abbrev pub Expects : Stage → Option ℕ → List Opcode → Type 0
Expects Chosen font rest = is_font_of_next font rest ≡ true
Expects stage font rest = ⊤

-- the sentences on single opcodes
abbrev pub is_lean : Opcode → Bool
is_lean opcode =
    is_allowed opcode.says
    && sets_anew opcode.before.now opcode.says
    && is_no_zero opcode.before.now opcode.says
    && is_short opcode.code opcode.size opcode.says

-- from here on the registers of an axis are set in turn
abbrev pub turns_on : Register → Register → HeldAmounts → List Opcode → Bool
turns_on first second held rest =
    if held.second_next then are_in_turn second first rest else are_in_turn first second rest

-- the opcodes of a page that is lean so far: whatever follows them decides whether the page is
pub record LeanSoFar (page : List Opcode) (c : Cursor) (stage : Stage) : Type 0 where
  pub moves : List Axis
  pub allows : Allows stage moves
  pub each : list_all is_lean page ≡ true
  pub selections : (rest : List Opcode) → Expects stage c.font rest → are_needed (page ++ rest) ≡ are_needed rest
  pub across : (rest : List Opcode) → are_in_turn W X (page ++ rest) ≡ turns_on W X c.across rest
  pub downward : (rest : List Opcode) → are_in_turn Y Z (page ++ rest) ≡ turns_on Y Z c.downward rest
  pub modest : (rest : List Opcode) → are_modest [] (page ++ rest) ≡ are_modest moves rest

-- in a page, at a cursor
pub record Stands (fonts : SetValue) (out : List ℕ) (reached : Reached) (c : Cursor) (stage : Stage) : Type 0 where
  pub page : List Opcode
  pub lean : LeanSoFar page c stage
  pub leads : LeadsTo fonts out (in_page (with_opcodes reached page) c)

-- at a cursor, where these fonts are defined
abbrev pub StandsWith : SetValue → List ℕ → Reached → List ℕ → Cursor → Stage → Type 0
StandsWith fonts out reached numbers cursor stage =
    Stands fonts out (with_definitions fonts reached numbers) cursor stage

-- a cursor is at a place, and the font of the place is selected
pub record IsAt (place : Place) (cursor there : Cursor) : Type 0 where
  pub h : there.h ≡ h_of place
  pub v : there.v ≡ v_of place
  pub font : there.font ≡ font_after place cursor.font

-- fonts are defined that were not, and nothing else changes
abbrev pub Introduces : SetValue → List ℕ → List ℕ → List ℕ → List ℕ → Type 0
Introduces fonts old new old_defined new_defined = (reached : Reached) → (cursor : Cursor)
    → StandsWith fonts old reached old_defined cursor Lowered
    → StandsWith fonts new reached new_defined cursor Lowered

-- a font is selected, and defined before that
abbrev pub Selects : SetValue → List ℕ → List ℕ → List ℕ → List ℕ → Cursor → ℕ → Type 0
Selects fonts old new old_defined new_defined cursor n = (reached : Reached)
    → StandsWith fonts old reached old_defined cursor Lowered
    → StandsWith fonts new reached new_defined (record cursor { font = Some n }) Chosen

-- no font, or one of these
abbrev pub IsNoneOrAmong : List ℕ → Option ℕ → Type 0
IsNoneOrAmong numbers None = ⊤
IsNoneOrAmong numbers (Some n) = is_among numbers n ≡ true

-- a place is filled where the machine is
abbrev pub FillsPlace : SetValue → List ℕ → List ℕ → List ℕ → List ℕ → Cursor → Place → Bool → Type 0
FillsPlace fonts old new old_defined new_defined there place put = (reached : Reached)
    → reached.file.place_count < max_places
    → StandsWith fonts old reached old_defined there Lowered
    → StandsWith fonts new (with_place reached place put) new_defined (cursor_after fonts place put there) Arrived

-- a place is written, with the moves from a cursor to it
abbrev pub WritesPlace : SetValue → List ℕ → List ℕ → List ℕ → List ℕ → Cursor → Cursor → Place → Bool → Type 0
WritesPlace fonts old new old_defined new_defined cursor there place put = (reached : Reached)
    → reached.file.place_count < max_places
    → StandsWith fonts old reached old_defined cursor Arrived
    → StandsWith fonts new (with_place reached place put) new_defined (cursor_after fonts place put there) Arrived

-- the places of a page are written, from its origin on
abbrev pub WritesPlaces : SetValue → List ℕ → List ℕ → List ℕ → List ℕ → List Place → Type 0
WritesPlaces fonts old new old_defined new_defined page = (reached : Reached)
    → reached.file.place_count + length page ≤ max_places
    → StandsWith fonts old reached old_defined at_origin Arrived
    → (end : Cursor)
    × StandsWith fonts new (with_places reached (written_places fonts page)) new_defined end Arrived
