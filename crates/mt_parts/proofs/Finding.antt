-- The symbol of an accent is found, and what the call answers by its character.
use Rattle.std.proofs.Common.{◌≡◌, ℕ, ℤ, List, refl, sym, ◌∙◌, ap, subst, Some, Bool, true, false, if◌then◌else◌, slice_get, unwrap_or, ◌^◌, w64, to_z, of_z, lit<, Result, Ok, Err, IsOk, IsTrue}
use Rattle.mt_scaled.specs.Number.{Within}
use Rattle.mt_scaled.proofs.Products.{kept}
use Rattle.mt_tfm.specs.Font.{Metrics, exists}
use Rattle.mt_family.specs.declared.size.Size.{Size}
use Rattle.mt_family.specs.SetValue.{SetValue, number_in}
use Rattle.mt_box.specs.declared.extents.Extents.{Extents}
use Rattle.mt_box.specs.declared.place.Place.{Place}
use Rattle.mt_box.specs.Layout.{Layout}
use Rattle.mt_rules.specs.declared.symbol.Symbol.{Symbol}
use Rattle.mt_rules.specs.declared.part_error.PartError.{PartError}
use Rattle.mt_rules.specs.Setting.{Setting, MissingChar}
use Rattle.mt_rules.specs.OnMarks.{SetsOn}
use Rattle.mt_rules.specs.Symbols.{empty_font, font_of_number, font_with_symbol, find_symbol}
use Rattle.mt_rules.specs.Accents.{accent_code, accent_by_code, accent}

-- ---- the symbol is found

passes : (b : Bool) (font : ℕ) (symbol : Symbol) (size : Size) → IsOk (if b then Ok font else Err (MissingChar symbol.fam size symbol.code)) → b ≡ true
passes true font symbol size h = refl
passes false font symbol size h = absurd (cc)

-- so its font has the character
pub exists_there : (fonts : SetValue) (size : Size) (symbol : Symbol) (n : ℕ) → IsOk (find_symbol fonts size symbol) → Some n ≡ number_in fonts.families symbol.fam size → IsTrue (exists (font_of_number fonts n) symbol.code)
exists_there fonts size symbol n h is =
    passes (exists (font_of_number fonts n) symbol.code) n symbol size (subst (λ p. IsOk (font_with_symbol fonts size symbol p)) (sym is) h)

font_is : (fonts : SetValue) (n : ℕ) (m : Metrics) → Some m ≡ slice_get fonts.fonts n → font_of_number fonts n ≡ m
font_is fonts n m is = ap (λ o. unwrap_or o empty_font) (sym is)

pub in_font : (fonts : SetValue) (size : Size) (symbol : Symbol) (n : ℕ) (m : Metrics) → IsOk (find_symbol fonts size symbol) → Some n ≡ number_in fonts.families symbol.fam size → Some m ≡ slice_get fonts.fonts n → IsTrue (exists m symbol.code)
in_font fonts size symbol n m h is f = subst (λ k. IsTrue (exists k symbol.code)) (font_is fonts n m f) (exists_there fonts size symbol n h is)

same_number : (b : Bool) (n k : ℕ) (symbol : Symbol) (size : Size) → b ≡ true → (let s : Setting ℕ = if b then Ok n else Err (MissingChar symbol.fam size symbol.code) in s) ≡ Ok k → k ≡ n
same_number true n k symbol size e f = cc
same_number false n k symbol size e f = absurd (cc)

-- the number that finding it gives is the family's
pub number_is : (fonts : SetValue) (size : Size) (symbol : Symbol) (n k : ℕ) → IsOk (find_symbol fonts size symbol) → Some n ≡ number_in fonts.families symbol.fam size → find_symbol fonts size symbol ≡ Ok k → k ≡ n
number_is fonts size symbol n k h is e =
    same_number (exists (font_of_number fonts n) symbol.code) n k symbol size (exists_there fonts size symbol n h is)
    (ap (λ p. font_with_symbol fonts size symbol p) is ∙ e)

-- ---- what the call answers

-- by the font and the character that is taken
by_code : (fonts : SetValue) (n start code : ℕ) (m : Metrics) (skew : ℤ) (plain : Extents) (body : Layout) → font_of_number fonts n ≡ m → code ≡ accent_code m plain.width start → accent fonts n start skew plain body ≡ accent_by_code n m code skew plain body
unfolding accent
by_code fonts n start code m skew plain body f e =
    ap (λ k. accent_by_code n k (accent_code k plain.width start) skew plain body) f
    ∙ ap (λ c. accent_by_code n m c skew plain body) (sym e)

pub accent_on : (fonts : SetValue) (n k start code : ℕ) (m : Metrics) (skew : ℤ) (plain : Extents) (body : Layout) (r : Result Extents PartError) (ps : List Place)
    → k ≡ n → Some m ≡ slice_get fonts.fonts n → code ≡ accent_code m plain.width start
    → SetsOn r ps (accent_by_code n m code skew plain body) → SetsOn r ps (accent fonts k start skew plain body)
accent_on fonts n k start code m skew plain body r ps same f c h =
    subst (λ s. SetsOn r ps s) (sym (ap (λ j. accent fonts j start skew plain body) same ∙ by_code fonts n start code m skew plain body (font_is fonts n m f) c)) h

-- ---- a number of the call comes through unchanged

pub number_kept : (x : ℤ) → Within (2 ^ 40) x → to_z w64 (of_z w64 x) ≡ x
number_kept x h = kept (2 ^ 40) x h (lit< tt)
