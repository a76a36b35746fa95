-- The words of names.
use Rattle.std.proofs.Common.{◌≡◌, ℕ, List, ap, ◌∙◌}
use Rattle.std.specs.Prelude.{Some, slice_get}
use Rattle.std.proofs.lemmas.Option.{slice_get_within}
use Rattle.mt_token.specs.declared.token.TokenKind.TheVariants.{Control}
use Rattle.mt_lexicon.specs.declared.word.WordKind.{WordKind}
use Rattle.mt_lexicon.specs.declared.word.WordKind.TheVariants.{Name, Char, Space}
use Rattle.mt_lexicon.specs.Code.{IsName}
use Rattle.mt_lexicon.specs.Meaning.{NameTable, kind_of, named_kind, KnownKind}

named_is : (names : NameTable) (w : WordKind) (n : ℕ) (name : List ℕ) → IsName w n → slice_get names n ≡ Some name → kind_of names w ≡ Control name
named_is names (Name high low) n name h e = ap (λ i. named_kind (slice_get names i)) h ∙ ap named_kind e
named_is names (Char c) n name h e = absurd h
named_is names Space n name h e = absurd h

named_known : (names : NameTable) (w : WordKind) (n : ℕ) (name : List ℕ) → IsName w n → slice_get names n ≡ Some name → KnownKind names w
named_known names (Name high low) n name h e = rw h (slice_get_within names n name e)
named_known names (Char c) n name h e = absurd h
named_known names Space n name h e = absurd h

-- the word of a name that is in the table
pub named : (names : NameTable) (w : WordKind) (n : ℕ) (name : List ℕ) → IsName w n → slice_get names n ≡ Some name → (kind_of names w ≡ Control name) × KnownKind names w
named names w n name h e = (named_is names w n name h e, named_known names w n name h e)
