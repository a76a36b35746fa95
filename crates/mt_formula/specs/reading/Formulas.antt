-- What the reading of a formula into an arena answers (`ReadsFormulaInto`).
use Rattle.std.specs.Prelude.{◌≡◌, List, Result, Ok, Err}
use Rattle.mt_token.specs.declared.token.Token.{Token}
use Rattle.mt_arena.specs.declared.formulas.SpanFormula.{SpanFormula}
use Rattle.mt_arena.specs.Arena.{ArenaValue, Held}
use Rattle.mt_arena.specs.Formulas.{body_in, tag_in}
use Rattle.mt_scan.specs.Parts.{Read, Got}
use Rattle.mt_scan.specs.declared.fault.ReadError.{ReadError}
use Rattle.mt_formula.specs.declared.reading.stop.Stop.{Stop}
use Rattle.mt_formula.specs.Answers.{IsFault}
use Rattle.mt_formula.specs.Formulas.{Reading, Reads}
use Rattle.mt_formula.specs.reading.Reads.{Grows}
use Rattle.mt_formula.specs.reading.Stops.{HasFault}

-- all tokens are read, with this meaning among the closed lists
abbrev pub ReadsWhole : {V A : Type 0} → (List Held → V → A) → Result V Stop → ArenaValue → ArenaValue → Read A → Type 0
ReadsWhole mean (Ok value) old new read = Grows old new × ((rest : List Token) × (read ≡ Got (mean new.closed value) rest))
ReadsWhole mean (Err stop) old new read = HasFault stop read

-- the result is what is read, in the arena as it is then, or memory ran out
abbrev pub ReadsFormulaInto : Result SpanFormula ReadError → ArenaValue → Reading → Type 0
ReadsFormulaInto (Ok formula) new read = read ≡ Reads (body_in new.closed formula.body) (tag_in new.closed formula.tag)
ReadsFormulaInto (Err error) new read = IsFault error read
