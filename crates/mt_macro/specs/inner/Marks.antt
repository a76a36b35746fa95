-- Marks of names.
use Rattle.std.specs.Prelude.{ℕ, ◌%◌, Bool, false, List, get_or}
use Rattle.mt_token.specs.NameHash.{name_hash}
use Rattle.mt_macro.specs.declared.name_marks.NameMarks.{NameMarks}

abbrev pub mark_count : ℕ
mark_count = 512

-- the mark of a name
abbrev pub mark_of : List ℕ → ℕ
mark_of name = name_hash name % mark_count

abbrev pub has_mark : NameMarks → List ℕ → Bool
has_mark marks name = get_or marks.marks (mark_of name) false
