-- The numbers of the causes for which a token outside of formulas is refused (`outside_number`), and what they mean.
use Rattle.std.specs.Prelude.{ℕ, ◌+◌, List, [], ◌∷◌, codes}
use Rattle.mt_scaled.specs.Meanings.{Meaning}
use Rattle.mt_token.specs.Errors.{first_outside_cause}
use Rattle.mt_reader.specs.declared.outside_cause.OutsideCause.{OutsideCause}
use Rattle.mt_reader.specs.declared.outside_cause.OutsideCause.TheVariants.{Misplaced, OpenFormula, BadDefinition, OpenBody, TooManyNames, BadAssignment}

abbrev pub outside_number : OutsideCause → ℕ
outside_number Misplaced = first_outside_cause
outside_number OpenFormula = first_outside_cause + 1
outside_number BadDefinition = first_outside_cause + 2
outside_number OpenBody = first_outside_cause + 3
outside_number TooManyNames = first_outside_cause + 4
outside_number BadAssignment = first_outside_cause + 5

-- what each means
abbrev pub outside_causes : List Meaning
outside_causes =
    record { number = 31; text = codes "this is not allowed outside formulas" }
    ∷ record { number = 32; text = codes "the formula has no closing $, or braces that do not match" }
    ∷ record { number = 33; text = codes "invalid \\def: expected a name, the parameters #1, #2 and so on, and a body in { }" }
    ∷ record { number = 34; text = codes "the body of this \\def has no closing }" }
    ∷ record { number = 35; text = codes "at most 1,000 macros can be defined" }
    ∷ record { number = 36; text = codes "invalid character or code after \\mathcode or \\delcode" }
    ∷ []
