-- Words that are read ahead, by names of which more come.
use Rattle.std.proofs.Common.{◌≡◌, ℕ, zero, suc, ◌+◌, ◌≤◌, ◌<◌, List, [], ◌∷◌, ◌++◌, length, map, drop, refl, sym, ap, subst, ◌∙◌, arith, append_assoc}
use Rattle.std.specs.Prelude.{Option, Some, None, Result, Ok, Err, ⊤}
use Rattle.std.proofs.lemmas.List.{map-append}
use Rattle.mt_token.specs.declared.token.Token.{Token}
use Rattle.mt_token.specs.declared.token.TokenError.{TokenError}
use Rattle.mt_token.specs.Tokens.{Spanned, Answer, before, fault_of}
use Rattle.mt_token.proofs.Same.{same_token}
use Rattle.mt_token.specs.declared.token.TokenKind.{TokenKind}
use Rattle.mt_lexicon.specs.declared.word.Word.{Word}
use Rattle.mt_lexicon.specs.Meaning.{NameTable, Extends, Known, token_of}
use Rattle.mt_lexicon.specs.Reading.{AreWordsOf}
use Rattle.mt_tables.specs.Reading.{AddsWords}
use Rattle.mt_tables.proofs.Growing.{kind_append, known_append}
use Rattle.mt_reader.specs.declared.document_error.DocError.{DocError}
use Rattle.mt_reader.specs.declared.document_error.DocError.TheVariants.{Source, Outside, Expand, Read, Total, Pages, OutOfMemory}
use Rattle.mt_reader.specs.declared.outside_role.OutsideRole.{OutsideRole}
use Rattle.mt_reader.specs.Documents.{DocumentAnswer, outside_role}
use Rattle.mt_reader.specs.Refusals.{IsRefusal}
use Rattle.mt_reader.specs.SourceFaults.{IsFaultAhead}
use Rattle.mt_reader.specs.SourceReading.{AreKnown, IsFaultOf, IsFirst, ReadsMore, front_tokens, tokens_before}
use Rattle.mt_reader.specs.Sources.{word_token}
use Rattle.mt_reader.specs.Views.{SourceView}
use Rattle.mt_reader.proofs.Sourcing.{words_same}

-- ---- names

token_kept : (names later : NameTable) (w : Word) → Extends names later → Known names w → token_of later w ≡ token_of names w
token_kept names later w e k =
    ap (λ (t : NameTable). token_of t w) e.1
    ∙ same_token (token_of (names ++ e.0) w) (token_of names w) (ap (λ (kind : TokenKind). let s : Spanned = record { kind = kind; start = 0; end = 0 } in s) (kind_append names e.0 w.kind k))

known_kept : (names later : NameTable) (w : Word) → Extends names later → Known names w → Known later w
known_kept names later w e k = subst (λ (t : NameTable). Known t w) (sym e.1) (known_append names e.0 w.kind k)

all_kept : (names later : NameTable) (ws : List Word) → Extends names later → AreKnown names ws → AreKnown later ws
all_kept names later [] e k = tt
all_kept names later (w ∷ ws) e k = (known_kept names later w e k.0, all_kept names later ws e k.1)

tokens_kept : (names later : NameTable) (ws : List Word) → Extends names later → AreKnown names ws → map (token_of later) ws ≡ map (token_of names) ws
tokens_kept names later [] e k = refl
tokens_kept names later (w ∷ ws) e k =
    ap (λ (t : Token). t ∷ map (token_of later) ws) (token_kept names later w e k.0)
    ∙ ap (λ (ts : List Token). token_of names w ∷ ts) (tokens_kept names later ws e k.1)

known_words : (names : NameTable) (ws : List Word) (ts : List Spanned) → AreWordsOf names ws ts → AreKnown names ws
known_words names [] [] h = tt
known_words names [] (t ∷ ts) h = tt
known_words names (w ∷ ws) [] h = absurd h
known_words names (w ∷ ws) (t ∷ ts) h = (h.0.1, known_words names ws ts h.1)

known_both : (names : NameTable) (ws vs : List Word) → AreKnown names ws → AreKnown names vs → AreKnown names (ws ++ vs)
known_both names [] vs k l = l
known_both names (w ∷ ws) vs k l = (k.0, known_both names ws vs k.1 l)

pub known_drop : (names : NameTable) (n : ℕ) (ws : List Word) → AreKnown names ws → AreKnown names (drop n ws)
known_drop names zero ws k = k
known_drop names (suc n) [] k = tt
known_drop names (suc n) (w ∷ ws) k = known_drop names n ws k.1

-- ---- what is ahead

before_more : (front : List Token) (ts : List Spanned) (rest : Answer) → tokens_before (front ++ map word_token ts) rest ≡ tokens_before front (before ts rest)
before_more front ts (Ok list) = ap Ok (append_assoc front (map word_token ts) (map word_token list) ∙ ap (λ (x : List Token). front ++ x) (sym (map-append word_token ts list)))
before_more front ts (Err cause) = refl

fault_before : (ts : List Spanned) (rest : Answer) → fault_of (before ts rest) ≡ fault_of rest
fault_before ts (Ok list) = refl
fault_before ts (Err cause) = refl

module _ (names later : NameTable) (old new : SourceView) (r : ReadsMore names later old new) where
  pub more_ahead : AreKnown names old.words → tokens_before (front_tokens later new) new.behind ≡ tokens_before (front_tokens names old) old.behind
  more_ahead k =
      let ws = r.adds.0 in
      let ts = r.adds.1 in
      let front : map (token_of later) new.words ≡ map (token_of names) old.words ++ map word_token ts =
      ap (map (token_of later)) r.adds.2 ∙ (map-append (token_of later) old.words ws
      ∙ (ap (λ (x : List Token). x ++ map (token_of later) ws) (tokens_kept names later old.words r.names k)
      ∙ ap (λ (x : List Token). map (token_of names) old.words ++ x) (words_same later ws ts r.adds.3))) in
      ap (λ (x : List Token). tokens_before x new.behind) front
      ∙ (before_more (map (token_of names) old.words) ts new.behind ∙ ap (tokens_before (map (token_of names) old.words)) (sym r.adds.4))

  pub more_known : AreKnown names old.words → AreKnown later new.words
  more_known k =
      subst (AreKnown later) (sym r.adds.2)
      (known_both later old.words r.adds.0 (all_kept names later old.words r.names k) (known_words later r.adds.0 r.adds.1 r.adds.3))

  pub more_fault : fault_of new.behind ≡ fault_of old.behind
  more_fault = sym (ap fault_of r.adds.4 ∙ fault_before r.adds.1 new.behind)

  pub more_first : (role : OutsideRole) → AreKnown names old.words → IsFirst (Some role) names old → IsFirst (Some role) later new
  more_first role k f =
      let w = f.0 in
      let ws = f.1 in
      let known : AreKnown names (w ∷ ws) = subst (AreKnown names) f.2 k in (
        w,
        ws ++ r.adds.0,
        r.adds.2 ∙ ap (λ (x : List Word). x ++ r.adds.0) f.2,
        f.3 ∙ ap (λ (t : Token). outside_role t.kind) (sym (token_kept names later w r.names known.0)),
      )

-- ---- faults

pub fault_refuses : (e : DocError) (front rest : List Token) (behind : Answer) (answer : DocumentAnswer) → IsFaultAhead e behind → tokens_before front behind ≡ Ok rest → IsRefusal e answer
fault_refuses (Source cause) front rest behind answer f t = let never : Err cause ≡ Ok rest = sym (ap (tokens_before front) f) ∙ t in absurd (cc)
fault_refuses (Outside n place cause) front rest behind answer f t = elim f [ ]
fault_refuses (Expand n cause) front rest behind answer f t = elim f [ ]
fault_refuses (Read n cause) front rest behind answer f t = elim f [ ]
fault_refuses (Total n count) front rest behind answer f t = elim f [ ]
fault_refuses (Pages count) front rest behind answer f t = elim f [ ]
fault_refuses OutOfMemory front rest behind answer f t = tt

pub fault_answers : (e : DocError) (behind : Answer) (cause : TokenError) → IsFaultAhead e behind → fault_of behind ≡ Some cause → IsFaultOf cause e
fault_answers (Source other) behind cause f h = let same : Some other ≡ Some cause = sym (ap fault_of f) ∙ h in cc
fault_answers (Outside n place other) behind cause f h = elim f [ ]
fault_answers (Expand n other) behind cause f h = elim f [ ]
fault_answers (Read n other) behind cause f h = elim f [ ]
fault_answers (Total n count) behind cause f h = elim f [ ]
fault_answers (Pages count) behind cause f h = elim f [ ]
fault_answers OutOfMemory behind cause f h = tt

-- where tokens are left there is no fault, and these are behind the words
pub behind_ok : (front rest : List Token) (behind : Answer) → tokens_before front behind ≡ Ok rest → (list : List Spanned) × (behind ≡ Ok list) × (rest ≡ front ++ map word_token list)
behind_ok front rest (Ok list) e = let h : front ++ map word_token list ≡ rest = cc in (list, refl, sym h)
behind_ok front rest (Err cause) e = absurd (cc)
