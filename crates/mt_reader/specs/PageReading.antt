-- A document that is read page by page from its source.
use Rattle.std.specs.Prelude.{ℕ, List, Option, Result}
use Rattle.mt_token.specs.declared.token.Token.{Token}
use Rattle.mt_token.specs.declared.token.TokenError.{TokenError}
use Rattle.mt_scaled.specs.declared.unit.Units.{Units}
use Rattle.mt_rules.specs.declared.document.Formula.{Formula}
use Rattle.mt_reader.specs.declared.document_error.DocError.{DocError}
use Rattle.mt_reader.specs.declared.page_reader.PageReader.{PageReader}
use Rattle.mt_reader.specs.SourceReading as reading
use Rattle.mt_reader.specs.Views.{pages_view}

-- how many pages were handed out
abbrev pub pages_ended : PageReader → ℕ
pages_ended r = r.state.ended

-- what is left to be read: the words that are ahead, the bytes that are not read, and the formulas of the page that is not
-- ended, twice
abbrev pub left_to_read : PageReader → ℕ
left_to_read r = reading.left_to_read (pages_view r)

-- the fault of a token of the source, if there is one, wherever it is
abbrev pub fault_ahead : PageReader → Option TokenError
fault_ahead r = reading.fault_ahead (pages_view r)

-- these pages of the document that the tokens make were handed out, and the source has no fault of a token
abbrev pub IsReadOf : Units → List Token → List (List Formula) → PageReader → Type 0
IsReadOf units tokens read r = reading.IsReadOf units tokens read (pages_view r)

-- bounds, within which a reader reads on
abbrev pub CanGoOn : PageReader → Type 0
CanGoOn r = reading.CanGoOn (pages_view r)

-- a page: it is modest and not too long, and there is less left to be read than before
abbrev pub IsBounded : PageReader → PageReader → List Formula → Type 0
IsBounded old new page = reading.IsBounded (pages_view old) (pages_view new) page

-- what a reader leaves
abbrev pub GoesOn : PageReader → PageReader → Result (Option (List Formula)) DocError → Type 0
GoesOn old new result = reading.GoesOn (pages_view old) (pages_view new) result

-- a page more, or there are no more, or the document is refused
abbrev pub IsNextPage : Units → List Token → List (List Formula) → PageReader → Result (Option (List Formula)) DocError → Type 0
IsNextPage units tokens read new result = reading.IsNextPage units tokens read (pages_view new) result

-- where the source has this fault of a token: a page, or the fault, or memory ran out; never the end
abbrev pub IsBeforeFault : TokenError → PageReader → Result (Option (List Formula)) DocError → Type 0
IsBeforeFault cause new result = reading.IsBeforeFault cause (pages_view new) result
