-- A delimiter raised onto the axis.
use Rattle.std.specs.Prelude.{⊤}
use Rattle.std.proofs.Common.{◌≡◌, ℤ, pos, List, [], ◌∷◌, ◌++◌, Result, Ok, Err, sym, ap}
use Rattle.mt_family.specs.declared.size.Size.{Size}
use Rattle.mt_family.specs.SetValue.{SetValue}
use Rattle.mt_box.specs.Layout.{Layout}
use Rattle.mt_box.specs.Rows.{PieceValue, PieceBox}
use Rattle.mt_rules.specs.declared.part_error.PartError.{PartError}
use Rattle.mt_rules.specs.declared.part_error.PartError.TheVariants.{Overflow as PartOverflow, TooTall as PartTooTall, OutOfMemory as NoPartMemory}
use Rattle.mt_rules.specs.Delimiters.{piece_on_axis}
use Rattle.mt_rules.specs.Setting.{Setting, SettingFault}
use Rattle.mt_pieces.specs.Putting.{boundary_on, boxed_on, SetsPieces}

fault_kept : (fonts : SetValue) (size : Size) (rest : List PieceValue) (setting : Setting Layout) (f : SettingFault) → boxed_on rest setting ≡ (let r : Setting (List PieceValue) = Err f in r)
    → boundary_on fonts size rest setting ≡ (let r : Setting (List PieceValue) = Err f in r)
fault_kept fonts size rest (Ok l) f h = absurd (let z : ⊥ = cc in z)
fault_kept fonts size rest (Err g) f h = h

pub boundary_fails : (fonts : SetValue) (size : Size) (rest mid new : List PieceValue) (setting : Setting Layout) (fault : PartError) → SetsPieces (let r : Result ⊤ PartError = Err fault in r) mid (boxed_on rest setting)
    → SetsPieces (let r : Result ⊤ PartError = Err fault in r) new (boundary_on fonts size rest setting)
boundary_fails fonts size rest mid new setting (PartOverflow v) h = fault_kept fonts size rest setting _ h
boundary_fails fonts size rest mid new setting (PartTooTall n) h = fault_kept fonts size rest setting _ h
boundary_fails fonts size rest mid new setting NoPartMemory h = tt

same_ok : (a b : List PieceValue) → (let r : Setting (List PieceValue) = Ok a in r) ≡ Ok b → a ≡ b
same_ok a b h = cc

pub boundary_set : (fonts : SetValue) (size : Size) (rest mid new : List PieceValue) (setting : Setting Layout) → boxed_on rest setting ≡ (let r : Setting (List PieceValue) = Ok mid in r)
    → ((before : List PieceValue) (r : ℤ) (l : Layout) → mid ≡ before ++ PieceBox r l ∷ [] → new ≡ before ++ piece_on_axis fonts size l ∷ []) → boundary_on fonts size rest setting ≡ (let r : Setting (List PieceValue) = Ok new in r)
boundary_set fonts size rest mid new (Err f) h raised = absurd (let z : ⊥ = cc in z)
boundary_set fonts size rest mid new (Ok l) h raised =
    ap (λ (z : List PieceValue). (let r : Setting (List PieceValue) = Ok z in r)) (sym (raised rest (pos 0) l (sym (same_ok (rest ++ PieceBox (pos 0) l ∷ []) mid h))))
