-- The numbers and places of errors.
use Rattle.std.specs.Prelude.{ℕ, Option, Some, None}
use Rattle.mt_macro.specs.declared.definition.MacroError.{MacroError}
use Rattle.mt_macro.specs.declared.definition.MacroError.TheVariants.{BadParameters, Unbalanced as UnbalancedBody}
use Rattle.mt_macro.specs.declared.definition.MacroError.TheVariants.{TooMany, OutOfMemory as NoMacroMemory}
use Rattle.mt_macro.specs.declared.expansion.ExpandError.{ExpandError}
use Rattle.mt_macro.specs.declared.expansion.ExpandError.TheVariants.{Budget, MissingArgument, Unbalanced, TooLong}
use Rattle.mt_macro.specs.declared.expansion.ExpandError.TheVariants.{OutOfMemory}

abbrev pub macro_error_number : MacroError → ℕ
macro_error_number BadParameters = 1
macro_error_number UnbalancedBody = 2
macro_error_number TooMany = 3
macro_error_number NoMacroMemory = 4

abbrev pub expand_error_number : ExpandError → ℕ
expand_error_number (Budget steps length) = 1
expand_error_number (MissingArgument index) = 2
expand_error_number (Unbalanced index) = 3
expand_error_number TooLong = 4
expand_error_number OutOfMemory = 5

-- the index of the token at fault
abbrev pub expand_error_place : ExpandError → Option ℕ
expand_error_place (Budget steps length) = None
expand_error_place (MissingArgument index) = Some index
expand_error_place (Unbalanced index) = Some index
expand_error_place TooLong = None
expand_error_place OutOfMemory = None
