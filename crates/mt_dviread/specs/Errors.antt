-- The faults, the numbers and the places of errors, and what they mean in words.
use Rattle.std.specs.Prelude.{◌≡◌, ℕ, List, [], ◌∷◌, Option, Some, None, Result, Ok, Err, codes}
use Rattle.std.specs.Option.{option_map, option_map_or}
use Rattle.mt_scaled.specs.Meanings.{Meaning}
use Rattle.mt_box.specs.declared.place.Place.{Place}
use Rattle.mt_dvi.specs.Machine as machine
use Rattle.mt_dvi.specs.File.{Fault}
use Rattle.mt_dviread.specs.declared.error.Cause.{Cause}
use Rattle.mt_dviread.specs.declared.error.Cause.TheVariants as causes
use Rattle.mt_dviread.specs.declared.error.DviError.{DviError}
use Rattle.mt_dviread.specs.declared.error.DviError.TheVariants as errors

-- a fault with this cause at an opcode
abbrev pub some_fault : ℕ → machine.Cause → Option Fault
some_fault at cause = Some (record { cause = cause; at = at })

-- the machine's fault that an error tells; lack of memory is none
abbrev pub fault_of : DviError → Option Fault
fault_of (errors.Truncated at) = some_fault at machine.Truncated
fault_of (errors.BadOpcode at) = some_fault at machine.BadOpcode
fault_of (errors.BadPreamble at) = some_fault at machine.BadPreamble
fault_of (errors.BadPointer at) = some_fault at machine.BadPointer
fault_of (errors.BadPost at) = some_fault at machine.BadPost
fault_of (errors.UnknownFont at) = some_fault at machine.UnknownFont
fault_of (errors.MissingChar at) = some_fault at machine.MissingChar
fault_of (errors.StackEmpty at) = some_fault at machine.StackEmpty
fault_of (errors.TooDeep at) = some_fault at machine.TooDeep
fault_of (errors.OutOfRange at) = some_fault at machine.OutOfRange
fault_of (errors.TooMany at) = some_fault at machine.TooMany
fault_of errors.OutOfMemory = None

-- the machine's cause; lack of memory is none
abbrev pub cause_of : Cause → Option machine.Cause
cause_of causes.Truncated = Some machine.Truncated
cause_of causes.BadOpcode = Some machine.BadOpcode
cause_of causes.BadPreamble = Some machine.BadPreamble
cause_of causes.BadPointer = Some machine.BadPointer
cause_of causes.BadPost = Some machine.BadPost
cause_of causes.UnknownFont = Some machine.UnknownFont
cause_of causes.MissingChar = Some machine.MissingChar
cause_of causes.StackEmpty = Some machine.StackEmpty
cause_of causes.TooDeep = Some machine.TooDeep
cause_of causes.OutOfRange = Some machine.OutOfRange
cause_of causes.TooMany = Some machine.TooMany
cause_of causes.OutOfMemory = None

-- the number of a cause of the machine
abbrev pub dvi_cause_number : machine.Cause → ℕ
dvi_cause_number machine.Truncated = 1
dvi_cause_number machine.BadOpcode = 2
dvi_cause_number machine.BadPreamble = 3
dvi_cause_number machine.BadPointer = 4
dvi_cause_number machine.BadPost = 5
dvi_cause_number machine.UnknownFont = 6
dvi_cause_number machine.MissingChar = 7
dvi_cause_number machine.StackEmpty = 8
dvi_cause_number machine.TooDeep = 9
dvi_cause_number machine.OutOfRange = 10
dvi_cause_number machine.TooMany = 11

-- what each cause means in words
abbrev pub dvi_causes : List Meaning
dvi_causes =
    record { number = 1; text = codes "the DVI file is too short" }
    ∷ record { number = 2; text = codes "this opcode is not allowed here" }
    ∷ record { number = 3; text = codes "the file does not begin as a DVI file of TeX's does" }
    ∷ record { number = 4; text = codes "the page does not point to the page before it" }
    ∷ record { number = 5; text = codes "the postamble does not match the rest of the file" }
    ∷ record { number = 6; text = codes "a font is not defined in the DVI file, or is not in the font list" }
    ∷ record { number = 7; text = codes "the font does not have this character" }
    ∷ record { number = 8; text = codes "pop without push" }
    ∷ record { number = 9; text = codes "at most 1,000 pushes can be open" }
    ∷ record { number = 10; text = codes "a move leads beyond 2^31 - 1 scaled points" }
    ∷ record { number = 11; text = codes "at most 2,000,000 glyphs and rules can be placed" }
    ∷ []

-- the number of an error, in the order of the variants: that of its cause, and 12 for lack of memory
abbrev pub dvi_error_number : DviError → ℕ
dvi_error_number error = option_map_or (λ (fault : Fault). dvi_cause_number fault.cause) (fault_of error) 12

-- the offset of the opcode at fault
abbrev pub dvi_error_place : DviError → Option ℕ
dvi_error_place error = option_map (λ (fault : Fault). fault.at) (fault_of error)

-- these pages, unless memory ran out
abbrev pub ReadsBack : Result (List (List Place)) DviError → List (List Place) → Type 0
ReadsBack (Ok read) pages = read ≡ pages
ReadsBack (Err error) pages = error ≡ errors.OutOfMemory
