-- What a call that packs tells of setting: the box that was made, or the fault.
use Rattle.std.proofs.Common.{◌≡◌, ℤ, pos, List, [], ◌∷◌, ◌++◌, Option, Some, None, Ok, Err, refl, ap}
use Rattle.std.specs.Prelude.{⊤}
use Rattle.mt_box.specs.declared.error.PackError.{PackError}
use Rattle.mt_box.specs.declared.error.PackError.TheVariants.{Overflow as PackOverflow, OutOfMemory as NoPackMemory}
use Rattle.mt_box.specs.Extents.{first_out}
use Rattle.mt_box.specs.Layout.{Layout}
use Rattle.mt_box.specs.Rows.{PieceValue, PieceBox}
use Rattle.mt_rules.specs.Setting.{Setting, SettingFault, Overflow, ◌>>=◌, ◌>>◌, make_box, pass_unless}
use Rattle.mt_pieces.specs.Putting.{boxed_on, PacksPieces}

pub record Packed (l : Layout) (rest now : List PieceValue) (setting : Setting Layout) : Type 0 where
  pub made : setting ≡ Ok l
  pub pieces : now ≡ rest ++ PieceBox (pos 0) l ∷ []

packed_by : (o : Option ℤ) (l : Layout) (rest now : List PieceValue) → boxed_on rest (pass_unless o >> Ok l) ≡ Ok now → Packed l rest now (pass_unless o >> Ok l)
packed_by None l rest now e = record { made = refl; pieces = cc }
packed_by (Some value) l rest now e = absurd (cc)

pub packed : (l : Layout) (rest now : List PieceValue) → boxed_on rest (make_box l) ≡ Ok now → Packed l rest now (make_box l)
packed l rest now e = packed_by (first_out l.extents) l rest now e

-- the fault of a call is that of setting, or memory ran out
abbrev pub Fails : {A : Type 0} → PackError → Setting A → Type 0
Fails (PackOverflow value) setting = setting ≡ Err (Overflow value)
Fails NoPackMemory setting = ⊤

refused_by : (o : Option ℤ) (l : Layout) (rest : List PieceValue) (fault : SettingFault) → boxed_on rest (pass_unless o >> Ok l) ≡ Err fault → (pass_unless o >> Ok l) ≡ Err fault
refused_by None l rest fault e = absurd (cc)
refused_by (Some value) l rest fault e = cc

pub refused : (e : PackError) (l : Layout) (rest now : List PieceValue) → PacksPieces {U = ⊤} (Err e) now (boxed_on rest (make_box l)) → Fails e (make_box l)
refused (PackOverflow value) l rest now h = refused_by (first_out l.extents) l rest (Overflow value) h
refused NoPackMemory l rest now h = tt

pub fails_then : {A B : Type 0} (e : PackError) (s : Setting A) (next : A → Setting B) → Fails e s → Fails e (s >>= next)
fails_then (PackOverflow value) s next h = ap (λ t. t >>= next) h
fails_then NoPackMemory s next h = tt
