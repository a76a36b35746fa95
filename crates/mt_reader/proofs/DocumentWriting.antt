-- What worked documents are written with.
use Rattle.std.proofs.Common.{ℕ, zero, suc, Bool, true, false, List, [], ◌∷◌, Some, None}
use Rattle.std.specs.Prelude.{replicate}
use Rattle.mt_token.specs.declared.token.Token.{Token}
use Rattle.mt_token.specs.Tokens.{source_tokens}
use Rattle.mt_macro.specs.Table.{Table}
use Rattle.mt_rules.specs.Sequence.{Element}
use Rattle.mt_plain.specs.CodeTables.{plain_codes}
use Rattle.mt_rules.specs.declared.document.Body.TheVariants.{List as ListBody}
use Rattle.mt_rules.specs.declared.document.Formula.{Formula}
use Rattle.mt_reader.specs.Documents.{DocumentAnswer, document_from, start_state}
use Rattle.mt_reader.specs.Sources.{plain_words, source_document}
use Rattle.mt_formula.proofs.Writing.{tokens_of, toy_units, seq}

abbrev pub source : List ℕ → List Token
source text = tokens_of (source_tokens text)

-- a source as a text
abbrev pub read : List ℕ → DocumentAnswer
read text = source_document toy_units text

-- after so many pages, with these formulas on the next
abbrev pub after_pages : ℕ → List Formula → List ℕ → DocumentAnswer
after_pages pages page text = document_from toy_units (record (start_state plain_codes plain_words) { pages = replicate pages []; page = page; count = 7 }) (source text)

-- after formulas of 999,998 tokens
abbrev pub after_tokens : List ℕ → DocumentAnswer
after_tokens text = document_from toy_units (record (start_state plain_codes plain_words) { count = 7; total = 999998 }) (source text)

-- names of the user's own: so many, from a number on
abbrev pub own_names : ℕ → ℕ → Table
own_names from zero = []
own_names from (suc n) = (from ∷ [], record { own = true; params = 0; body = [] }) ∷ own_names (suc from) n

-- after so many definitions of names of the user's own
abbrev pub after_definitions : ℕ → List ℕ → DocumentAnswer
after_definitions count text = document_from toy_units (record (start_state plain_codes (own_names 0 count)) { count = 7 }) (source text)

abbrev pub entry : ℕ → List Element → Formula
entry n es = record { number = n; display = false; body = ListBody (seq es); tag = None }

abbrev pub shown : ℕ → List Element → Formula
shown n es = record { number = n; display = true; body = ListBody (seq es); tag = None }

abbrev pub shown_with : ℕ → Bool → List Element → List Element → Formula
shown_with n left es ns = record { number = n; display = true; body = ListBody (seq es); tag = Some (record { body = seq ns; left = left }) }
