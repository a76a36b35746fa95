-- The macros that plain TeX's definitions make.
use Rattle.std.specs.Prelude.{◌≡◌, ℕ, ◌<◌, ◌≤◌, ◌^◌, ◌%◌, false, List, [], ◌∷◌, length, slice_index_or, map, None, Ok, Err}
use Rattle.std.proofs.Common.{mod-lt, lit<}
use Rattle.std.specs.Borrow.{Bor}
use Rattle.std.specs.Option.{option_map}
use Rattle.std.specs.Str.{bytes_eq}
use Rattle.std.specs.Map.{lookup}
use Rattle.mt_token.specs.declared.token.Token.{Token}
use Rattle.mt_token.specs.declared.token.TokenKind.{TokenKind}
use Rattle.mt_token.specs.declared.token.TokenKind.TheVariants.{Control, Char, Space}
use Rattle.mt_token.specs.Character.{character_code}
use Rattle.mt_token.specs.Tokens.{Spanned, Answer, spanned, source_tokens}
use Rattle.mt_macro.specs.declared.table.Macro.{Macro}
use Rattle.mt_macro.specs.Table.{Table, macro_of, with_macro, is_own}
use Rattle.mt_macro.specs.Definition.{body_fault}
use Rattle.mt_plain.specs.MacroTexts.{MacroTexts, macro_texts}

-- names and texts that are lent
abbrev pub lent_texts : List (Bor (List ℕ) × Bor (List ℕ)) → MacroTexts
lent_texts ds = map (λ (d : Bor (List ℕ) × Bor (List ℕ)). (d.0.now, d.1.now)) ds

-- the same kind; a character of a source is below 128
abbrev pub ascii_kind : TokenKind → TokenKind
ascii_kind (Control name) = Control name
ascii_kind (Char c) = Char (c % 128)
ascii_kind Space = Space

pub ascii_kind_below : (kind : TokenKind) → character_code (ascii_kind kind) < 128
ascii_kind_below (Control name) = lit< tt
ascii_kind_below (Char c) = mod-lt c (lit< tt)
ascii_kind_below Space = lit< tt

-- the token of a kind and a span
abbrev pub token_of : Spanned → Token
token_of s = record { kind = ascii_kind s.kind; start = s.start; end = s.end; ascii = ascii_kind_below s.kind }

abbrev pub tokens_of : Answer → List Token
tokens_of (Ok list) = map token_of list
tokens_of (Err e) = []

-- the body with this text: its tokens
unfoldable pub body_of : List ℕ → List Token
body_of text = tokens_of (source_tokens text)

abbrev pub macro_with : List ℕ → Macro
macro_with text = record { own = false; params = 0; body = body_of text }

-- the table has exactly the macros of these names and texts, the first of a name
abbrev pub HasMacros : Table → MacroTexts → Type 0
HasMacros table ds = (name : List ℕ) → macro_of table name ≡ option_map macro_with (lookup (λ (n : List ℕ). bytes_eq name n) ds)

-- names and texts one after the other, the last one first
abbrev pub newest_first : MacroTexts → MacroTexts → MacroTexts
newest_first [] done = done
newest_first (d ∷ ds) done = newest_first ds (d ∷ done)

-- the text of a body: it has tokens, and they can be put in without parameters
pub record IsBodyText (text : List ℕ) : Type 0 where
  pub lexes : source_tokens text ≡ Ok (map spanned (body_of text))
  pub faultless : body_fault 0 (body_of text) ≡ None
  pub short : length (body_of text) ≤ 2 ^ 32

abbrev pub AreBodyTexts : MacroTexts → Type 0
AreBodyTexts ds = (k : ℕ) (d : List ℕ × List ℕ) → k < length ds → IsBodyText (slice_index_or ds k d).1

-- the table with a macro for each of these names and texts, put in one after the other; a name that is the user's own stays so
abbrev pub with_macros : Table → MacroTexts → Table
with_macros table [] = table
with_macros table (d ∷ ds) =
    with_macros (with_macro table d.0 (record { own = is_own (macro_of table d.0); params = 0; body = body_of d.1 })) ds

-- the macros of plain TeX
unfoldable pub plain_table : Table
plain_table = with_macros [] macro_texts

-- the new table is the old one with these macros put in: it has them besides those of the old one, and a later one replaces an earlier one
pub record PutsIn (old new : Table) (ds : MacroTexts) : Type 0 where
  pub is : new ≡ with_macros old ds
  pub has : (done : MacroTexts) → HasMacros old done → HasMacros new (newest_first ds done)
