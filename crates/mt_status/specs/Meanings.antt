-- What the cause of a font (`font_cause`) and that of a token (`token_cause`) mean in words: those that crates below
-- have, and one more of each.
use Rattle.std.specs.Prelude.{ℕ, List, codes, ◌==◌, nat_lt, if◌then◌else◌}
use Rattle.mt_scaled.specs.Meanings.{cause_text}
use Rattle.mt_tfm.specs.Errors.{tfm_causes}
use Rattle.mt_token.specs.Errors.{first_outside_cause}
use Rattle.mt_scan.specs.Errors.{read_causes}
use Rattle.mt_reader.specs.Causes.{outside_causes}

-- the cause of a font with the name and the size of an earlier one: one more than the causes of a TFM file
abbrev pub same_font : ℕ
same_font = 12

abbrev pub font_cause : ℕ → List ℕ
font_cause cause =
    if cause == same_font then codes "an earlier font in the list has the same name and the same size"
    else cause_text tfm_causes cause

-- the cause of a formula in which a macro lacks an argument
abbrev pub missing_argument : ℕ
missing_argument = 21

abbrev pub token_cause : ℕ → List ℕ
token_cause cause =
    if cause == missing_argument then codes "a macro is missing an argument"
    else if nat_lt cause first_outside_cause then cause_text read_causes cause
    else cause_text outside_causes cause
