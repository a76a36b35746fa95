-- The parts of a line.
use Rattle.std.specs.Prelude.{◌≡◌, ℕ, List, [], ◌∷◌, ◌++◌, Option, decimal}
use Rattle.std.specs.Fmt.{signed_decimal}
use Rattle.mt_outside.specs.Appends.{Appends}
use Rattle.mt_family.specs.Sizes.{index_of}
use Rattle.mt_status.specs.declared.log_part.LogPart.{LogPart}
use Rattle.mt_status.specs.declared.log_part.LogPart.TheVariants.{Text, Byte, Word, Long, Signed, Size}

abbrev pub part_bytes : LogPart → List ℕ
part_bytes (Text text) = text.now
part_bytes (Byte n) = decimal n
part_bytes (Word n) = decimal n
part_bytes (Long n) = decimal n
part_bytes (Signed n) = signed_decimal n.now
part_bytes (Size size) = decimal (index_of size)

-- the bytes of parts, one after another
abbrev pub parts_bytes : List LogPart → List ℕ
parts_bytes [] = []
parts_bytes (part ∷ parts) = part_bytes part ++ parts_bytes parts

-- a sink took the first bytes of those that were gathered and of these, and the others are gathered now
pub record Gathers (before now : Option (List ℕ)) (old_held held bytes : List ℕ) : Type 0 where
  pub front : List ℕ
  pub split : old_held ++ bytes ≡ front ++ held
  pub told : Appends before now front

-- a sink took the first bytes of those that were gathered and of these, and no more
pub record WritesFront (before now : Option (List ℕ)) (held bytes : List ℕ) : Type 0 where
  pub front : List ℕ
  pub rest : List ℕ
  pub split : held ++ bytes ≡ front ++ rest
  pub told : Appends before now front
