-- The document of a source that is cut after a line that ends a page (`cut_source`).
use Rattle.std.proofs.Common.{◌≡◌, ℕ, zero, suc, ◌+◌, ◌≤◌, Bool, false, List, [], ◌∷◌, ◌++◌, length, Some, refl, sym, ap, subst, ◌∙◌, arith}
use Rattle.std.specs.Prelude.{map, nat_lt, ◌⊎◌, Ok, Err, codes, if◌then◌else◌}
use Rattle.std.proofs.lemmas.Bool.Decides.{nat_tests}
use Rattle.std.proofs.lemmas.List.{append_assoc, map-append}
use Rattle.mt_token.specs.declared.token.Token.{Token}
use Rattle.mt_token.specs.declared.token.TokenError.TheVariants.{TooLong}
use Rattle.mt_token.specs.declared.token.TokenKind.TheVariants.{Control}
use Rattle.mt_token.specs.declared.lexeme.State.TheVariants.{New}
use Rattle.mt_token.specs.LineCuts.{answer_later, later, lines_and}
use Rattle.mt_token.specs.Tokens.{Answer, Spanned, lex, max_source, source_tokens}
use Rattle.mt_token.proofs.LineCutting.{cut_after_line}
use Rattle.mt_scaled.specs.declared.unit.Units.{Units}
use Rattle.mt_macro.specs.Table.{Table}
use Rattle.mt_plain.specs.CodeTables.{CodeTables, plain_codes}
use Rattle.mt_reader.specs.declared.outside_role.OutsideRole.{OutsideRole}
use Rattle.mt_reader.specs.declared.outside_role.OutsideRole.TheVariants.{Passed}
use Rattle.mt_reader.specs.Cuts.{AreAlike, IsTooMuch, IsWord, answer_behind, state_after}
use Rattle.mt_reader.specs.Documents.{DocumentAnswer, DocumentState, DocumentTurn, Goes, Ends, Stops, StopsOutside, document, outside_role, pages_from, start_state, turn_answer, turn_by}
use Rattle.mt_reader.specs.Sources.{document_by, plain_words, source_document, word_token}
use Rattle.mt_reader.proofs.CutBack.{cut_after_page_end, part_document}
use Rattle.mt_reader.proofs.CutPages.{continues}
use Rattle.mt_reader.proofs.Falling.{turn_by_turn}

later_words : (n : ℕ) (list : List Spanned) → map word_token (map (later n) list) ≡ map word_token list
later_words n [] = refl
later_words n (s ∷ list) = ap (λ (l : List Token). word_token s ∷ l) (later_words n list)

not_long : (n : ℕ) → n ≤ max_source → nat_lt max_source n ≡ false
not_long n le = grind (arith, nat_tests, le)

both_tokens : (lines rest : List ℕ) (la lb : List Spanned) → length (lines ++ 10 ∷ rest) ≤ max_source → lex New 0 0 (lines ++ 10 ∷ []) ≡ Ok la → lex New 0 0 rest ≡ Ok lb
    → source_tokens (lines ++ 10 ∷ rest) ≡ Ok (la ++ map (later (length lines + 1)) lb)
both_tokens lines rest la lb few a b =
    ap (λ (x : Bool). if x then Err TooLong else lex New 0 0 (lines ++ 10 ∷ rest)) (not_long (length (lines ++ 10 ∷ rest)) few)
    ∙ (cut_after_line lines rest ∙ (ap (λ (x : Answer). lines_and x (answer_later (length lines + 1) (lex New 0 0 rest))) a ∙ ap (λ (x : Answer). lines_and (Ok la) (answer_later (length lines + 1) x)) b))

-- the document of lines and a rest, by their tokens
both_documents : (units : Units) (lines rest : List ℕ) (la lb : List Spanned) (first : List Token) (last : Token) → length (lines ++ 10 ∷ rest) ≤ max_source → lex New 0 0 (lines ++ 10 ∷ []) ≡ Ok la → lex New 0 0 rest ≡ Ok lb
    → map word_token la ≡ first ++ last ∷ [] → source_document units (lines ++ 10 ∷ rest) ≡ document units plain_codes plain_words (first ++ last ∷ map word_token lb)
both_documents units lines rest la lb first last few a b words =
    let tokens : map word_token (la ++ map (later (length lines + 1)) lb) ≡ first ++ last ∷ map word_token lb =
    map-append word_token la (map (later (length lines + 1)) lb)
    ∙ (ap (λ (l : List Token). l ++ map word_token (map (later (length lines + 1)) lb)) words
    ∙ (append_assoc first (last ∷ []) (map word_token (map (later (length lines + 1)) lb)) ∙ ap (λ (l : List Token). first ++ last ∷ l) (later_words (length lines + 1) lb))) in
    ap (document_by units) (both_tokens lines rest la lb few a b) ∙ ap (document units plain_codes plain_words) tokens

pub cut_source : (units : Units) (lines rest : List ℕ) (la lb : List Spanned) (first : List Token) (eject : Token) (after : DocumentState) → length (lines ++ 10 ∷ rest) ≤ max_source → lex New 0 0 (lines ++ 10 ∷ []) ≡ Ok la → lex New 0 0 rest ≡ Ok lb
    → map word_token la ≡ first ++ eject ∷ [] → eject.kind ≡ Control (codes "eject") → state_after units (start_state plain_codes plain_words) (first ++ eject ∷ []) ≡ Some after
    → IsTooMuch (source_document units (lines ++ 10 ∷ rest)) ⊎ (source_document units (lines ++ 10 ∷ rest) ≡ answer_behind after (length first + 1) (document units after.tables after.macros (map word_token lb)))
cut_source units lines rest la lb first eject after few a b words is read =
    let all = both_documents units lines rest la lb first eject few a b words in
    subst (λ (x : DocumentAnswer). IsTooMuch x ⊎ (x ≡ answer_behind after (length first + 1) (document units after.tables after.macros (map word_token lb)))) (sym all)
    (cut_after_page_end units plain_codes plain_words after first (map word_token lb) eject is read)

pub first_source : (units : Units) (lines : List ℕ) (la : List Spanned) (first : List Token) (eject : Token) (after : DocumentState) → length (lines ++ 10 ∷ []) ≤ max_source → lex New 0 0 (lines ++ 10 ∷ []) ≡ Ok la
    → map word_token la ≡ first ++ eject ∷ [] → eject.kind ≡ Control (codes "eject") → state_after units (start_state plain_codes plain_words) (first ++ eject ∷ []) ≡ Some after
    → source_document units (lines ++ 10 ∷ []) ≡ Ok after.pages
first_source units lines la first eject after few a words is read =
    both_documents units lines [] la [] first eject few a refl words ∙ part_document units plain_codes plain_words after first eject is read

-- ---- the second part, with definitions in front

module _ (units : Units) where
  alike_turn : (w v : ℕ) (again other : DocumentState → List Token → DocumentAnswer) (turn : DocumentTurn) → ((s : DocumentState) (rest : List Token) → AreAlike (again s rest) (other s rest))
      → AreAlike (turn_answer units w again turn) (turn_answer units v other turn)
  alike_turn w v again other (Goes s rest) h = h s rest
  alike_turn w v again other (Ends s) h = refl
  alike_turn w v again other (Stops refusal) h = tt
  alike_turn w v again other (StopsOutside n cause left) h = tt

  -- how many tokens there are in all is only for the places of faults
  alike_wholes : (w v n : ℕ) (s : DocumentState) (ts : List Token) → AreAlike (pages_from units w n s ts) (pages_from units v n s ts)
  unfolding pages_from
  alike_wholes w v zero s ts = refl
  alike_wholes w v (suc n) s [] = refl
  alike_wholes w v (suc n) s (t ∷ rest) = alike_turn w v (pages_from units w n) (pages_from units v n) (turn_by units s rest (outside_role t.kind)) (λ s' left. alike_wholes w v n s' left)

par_role : (t : Token) → t.kind ≡ Control (codes "par") → outside_role t.kind ≡ Passed
par_role t is = ap outside_role is

pub second_source : (units : Units) (front rest : List ℕ) (lq lb : List Spanned) (q : List Token) (par : Token) (tables : CodeTables) (macros : Table) → length (front ++ 10 ∷ rest) ≤ max_source → lex New 0 0 (front ++ 10 ∷ []) ≡ Ok lq → lex New 0 0 rest ≡ Ok lb
    → map word_token lq ≡ q ++ par ∷ [] → par.kind ≡ Control (codes "par") → state_after units (start_state plain_codes plain_words) q ≡ Some (start_state tables macros)
    → AreAlike (source_document units (front ++ 10 ∷ rest)) (document units tables macros (map word_token lb))
second_source units front rest lq lb q par tables macros few a b words is read =
    let start = start_state plain_codes plain_words in
    let there = start_state tables macros in
    let tb = map word_token lb in
    let whole = length (q ++ par ∷ tb) in
    let word : IsWord par.kind = subst IsWord (sym is) tt in
    let on = λ (s : DocumentState) (left : List Token). pages_from units whole (length left) s left in
    let all : source_document units (front ++ 10 ∷ rest) ≡ pages_from units whole (length tb) there tb =
    both_documents units front rest lq lb q par few a b words
    ∙ (continues units whole (length q) start there q (par ∷ tb) (omega arith) word read
    ∙ (turn_by_turn units whole there par tb ∙ ap (λ (role : OutsideRole). turn_answer units whole on (turn_by units there tb role)) (par_role par is))) in
    subst (λ (x : DocumentAnswer). AreAlike x (document units tables macros tb)) (sym all) (alike_wholes units whole (length tb) (length tb) there tb)
