-- The document of a source, by its tokens or its fault.
use Rattle.std.proofs.Common.{◌≡◌, ℕ, ◌+◌, ◌*◌, ◌≤◌, List, [], ◌∷◌, ◌++◌, map, refl, sym, ap, ◌∙◌, arith}
use Rattle.std.specs.Prelude.{Option, Some, None, Result, Ok, Err, IfOk, ⊤}
use Rattle.std.proofs.lemmas.List.Sums.{sum_by-append, sum_by-cons}
use Rattle.mt_token.specs.declared.token.TokenError.{TokenError}
use Rattle.mt_token.specs.declared.token.Token.{Token}
use Rattle.mt_token.specs.Tokens.{Spanned, Answer, fault_of}
use Rattle.mt_scaled.specs.declared.unit.Units.{Units}
use Rattle.mt_plain.specs.CodeTables.{plain_codes}
use Rattle.mt_rules.specs.declared.document.Formula.{Formula}
use Rattle.mt_reader.specs.declared.document_error.DocError.{DocError}
use Rattle.mt_reader.specs.declared.document_error.DocError.TheVariants.{Source, Outside, Expand, Read, Total, Pages, OutOfMemory}
use Rattle.mt_reader.specs.Documents.{NotLexed, document}
use Rattle.mt_reader.specs.Refusals.{IsDocument, IsRefusal}
use Rattle.mt_reader.specs.SourceReading.{IsFaultOf, IsRefusedAt}
use Rattle.mt_reader.specs.Sources.{document_by, plain_words, word_token}
use Rattle.mt_reader.specs.Weights.{page_weight, pages_weight}

-- what holds of the document of any tokens holds of that of a source
pub by_tokens : (P : List (List Formula) → Type 0) (units : Units) (answer : Answer) (result : Result (List (List Formula)) DocError)
    → ((tokens : List Token) → IsDocument result (document units plain_codes plain_words tokens) → IfOk result P) → IsDocument result (document_by units answer) → IfOk result P
by_tokens P units (Ok list) result f is = f (map word_token list) is
by_tokens P units (Err cause) (Ok pages) f is = absurd (cc)
by_tokens P units (Err cause) (Err e) f is = tt

fault_refuses : (e : DocError) (cause : TokenError) → IsFaultOf cause e → IsRefusal e (Err (NotLexed cause))
fault_refuses (Source other) cause h = ap (λ (c : TokenError). Err (NotLexed c)) (sym h)
fault_refuses (Outside n place other) cause h = elim h [ ]
fault_refuses (Expand n other) cause h = elim h [ ]
fault_refuses (Read n other) cause h = elim h [ ]
fault_refuses (Total n count) cause h = elim h [ ]
fault_refuses (Pages count) cause h = elim h [ ]
fault_refuses OutOfMemory cause h = tt

-- the answer for a source is a document of its tokens, or a refusal at the fault of a token
pub document_is : (units : Units) (answer : Answer) (result : Result (List (List Formula)) DocError)
    → ((list : List Spanned) → answer ≡ Ok list → IsDocument result (document units plain_codes plain_words (map word_token list)))
    → ((cause : TokenError) → fault_of answer ≡ Some cause → IsRefusedAt cause result) → IsDocument result (document_by units answer)
document_is units (Ok list) result f g = f list refl
document_is units (Err cause) (Ok pages) f g = absurd (g cause refl)
document_is units (Err cause) (Err e) f g = fault_refuses e cause (g cause refl)

pub weight_more : (read : List (List Formula)) (page : List Formula) → pages_weight (read ++ page ∷ []) ≡ pages_weight read + page_weight page
weight_more read page = omega (arith, sum_by-append page_weight read (page ∷ []), sum_by-cons page_weight page [])
