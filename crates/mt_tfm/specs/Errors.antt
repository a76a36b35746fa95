-- The numbers of errors, and what they mean in words.
use Rattle.std.specs.Prelude.{ℕ, List, [], ◌∷◌, codes}
use Rattle.mt_scaled.specs.Meanings.{Meaning}
use Rattle.mt_tfm.specs.declared.error.TfmError.{TfmError}
use Rattle.mt_tfm.specs.declared.error.TfmError.TheVariants.{Truncated, BadCounts, BadHeader, BadIndex, ChainCycle, BadFix, BadZero, BadProgram, BadRecipe, OutOfMemory, BadSize}

-- the number of an error, in the order of the variants
abbrev pub tfm_error_number : TfmError → ℕ
tfm_error_number Truncated = 1
tfm_error_number BadCounts = 2
tfm_error_number BadHeader = 3
tfm_error_number (BadIndex code) = 4
tfm_error_number (ChainCycle code) = 5
tfm_error_number (BadFix table n) = 6
tfm_error_number (BadZero table) = 7
tfm_error_number (BadProgram word) = 8
tfm_error_number (BadRecipe recipe) = 9
tfm_error_number OutOfMemory = 10
tfm_error_number (BadSize size) = 11

-- what each means, but for lack of memory
abbrev pub tfm_causes : List Meaning
tfm_causes =
    record { number = 1; text = codes "the TFM file is too short" }
    ∷ record { number = 2; text = codes "the counts at the beginning of the TFM file do not add up" }
    ∷ record { number = 3; text = codes "the design size is less than 1pt" }
    ∷ record { number = 4; text = codes "a character has an index past the end of its table" }
    ∷ record { number = 5; text = codes "the chain of larger characters leads back to the same character" }
    ∷ record { number = 6; text = codes "a dimension is 16 times the font's size or more" }
    ∷ record { number = 7; text = codes "the first entry of a table of dimensions is not 0" }
    ∷ record { number = 8; text = codes "a ligature or kern step leads past the end of a table, or to a missing character" }
    ∷ record { number = 9; text = codes "a recipe for a large character uses a missing character" }
    ∷ record { number = 11; text = codes "scaled by this factor the font would be 2048pt or larger" }
    ∷ []
