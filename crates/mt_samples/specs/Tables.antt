-- What the toy fonts say, in sixteenths of their size.
use Rattle.std.specs.Prelude.{◌≡◌, ℕ, ◌*◌, ◌/◌, List, [], ◌∷◌, Bool, true, false, not, ◌&&◌, ◌==◌, nat_le, if◌then◌else◌, Option, Some, None, ℤ, pos, negsuc, ◌*ℤ◌}
use Rattle.std.specs.List.{list_all, list_any, range_with_len, find}
use Rattle.std.specs.Option.{option_map}
use Rattle.std.specs.Ordering.{int_eq}
use Rattle.mt_tfm.specs.declared.wanted.Wanted.{Wanted}
use Rattle.mt_tfm.specs.declared.wanted.Wanted.TheVariants.{At}
use Rattle.mt_tfm.specs.Sizes.{IsWanted}
use Rattle.mt_tfm.specs.Checks.{tfm_fault}
use Rattle.mt_tfm.specs.Font.{Metrics, metrics_of, pair_of, larger_of, recipe_of, exists, width_of, height_of, depth_of, italic_of, char_at}
use Rattle.mt_tfm.specs.declared.recipe.Recipe.{Recipe}
use Rattle.mt_tfm.specs.declared.pair.Pair.{Pair}
use Rattle.mt_tfm.specs.declared.pair.Pair.TheVariants.{Kern, Join, Smart, None as NoPair}

-- a code with its width, height, depth and italic
pub record Amounts : Type 0 where
  pub code : ℕ
  pub width : ℕ
  pub height : ℕ
  pub depth : ℕ
  pub italic : ℕ

abbrev pub amounts : ℕ → ℕ → ℕ → ℕ → ℕ → Amounts
amounts code width height depth italic = record { code = code; width = width; height = height; depth = depth; italic = italic }

abbrev pub sixteenths : ℕ → ℕ → ℤ
sixteenths size n = pos (n * size / 16)

abbrev pub says : ℕ → Metrics → ℕ → Option Amounts → Bool
says size m c None = not (exists m c)
says size m c (Some a) =
    exists m c && int_eq (width_of m c) (sixteenths size a.width) && int_eq (height_of m c) (sixteenths size a.height)
    && int_eq (depth_of m c) (sixteenths size a.depth) && int_eq (italic_of m c) (sixteenths size a.italic)

-- the codes of a table's own lines, else those of a range, with 8 8 0 0
pub record ToyTable : Type 0 where
  pub first : ℕ
  pub last : ℕ
  pub own : List Amounts
  pub links : List (ℕ × ℕ)
  pub recipes : List (ℕ × Recipe)
  pub pairs : List (ℕ × ℕ × Pair)
  pub skew : Option ℕ
  pub params : List ℕ

abbrev pub own_or_plain : ToyTable → ℕ → Option Amounts → Option Amounts
own_or_plain t c (Some a) = Some a
own_or_plain t c None = if nat_le t.first c && nat_le c t.last then Some (amounts c 8 8 0 0) else None

abbrev pub amounts_of : ToyTable → ℕ → Option Amounts
amounts_of t c = own_or_plain t c (find (λ (a : Amounts). a.code == c) t.own)

abbrev pub same_code : Option ℕ → Option ℕ → Bool
same_code None None = true
same_code (Some a) (Some b) = a == b
same_code a b = false

abbrev pub same_recipe : Option Recipe → Option Recipe → Bool
same_recipe None None = true
same_recipe (Some r) (Some s) = (r.top == s.top) && (r.middle == s.middle) && (r.bottom == s.bottom) && (r.repeat == s.repeat)
same_recipe r s = false

-- a kern is given in sixteenths
abbrev pub same_pair : ℕ → Pair → Pair → Bool
same_pair size NoPair NoPair = true
same_pair size (Kern a) (Kern b) = int_eq a (b *ℤ pos (size / 16))
same_pair size (Join a) (Join b) = a == b
same_pair size Smart Smart = true
same_pair size p q = false

abbrev pub pair_by : Option (ℕ × ℕ × Pair) → Pair
pair_by None = NoPair
pair_by (Some p) = p.2

abbrev pub pair_says : ToyTable → ℕ → ℕ → Pair
pair_says t c d = pair_by (find (λ (p : ℕ × ℕ × Pair). (p.0 == c) && (p.1 == d)) t.pairs)

abbrev pub same_params : ℕ → List ℤ → List ℕ → Bool
same_params size [] [] = true
same_params size (a ∷ as') (b ∷ bs) = int_eq a (sixteenths size b) && same_params size as' bs
same_params size as' bs = false

-- a character without a program has no pairs; of one that has one, each pair is tested
abbrev pub has_program : Metrics → ℕ → Bool
has_program m c = exists m c && ((char_at m c).tag == 1)

abbrev pub pairs_say : ToyTable → ℕ → Metrics → ℕ → Bool
pairs_say t size m c =
    if has_program m c then list_all (λ d. same_pair size (pair_of m c d) (pair_says t c d)) (range_with_len 0 256)
    else not (list_any (λ (p : ℕ × ℕ × Pair). p.0 == c) t.pairs)

-- what the font says of a code
abbrev pub code_says : ToyTable → ℕ → Metrics → ℕ → Bool
code_says t size m c =
    says size m c (amounts_of t c)
    && same_code (larger_of m c) (option_map (λ (p : ℕ × ℕ). p.1) (find (λ (p : ℕ × ℕ). p.0 == c) t.links))
    && same_recipe (recipe_of m c) (option_map (λ (p : ℕ × Recipe). p.1) (find (λ (p : ℕ × Recipe). p.0 == c) t.recipes))
    && pairs_say t size m c

-- each code, each parameter, the checksum 0 and the design size 10pt
unfoldable pub has_table : ToyTable → ℕ → Metrics → Bool
has_table t size m =
    list_all (λ c. code_says t size m c) (range_with_len 0 256) && same_params size m.params t.params
    && (m.checksum == 0) && (m.design == 655360)

-- bytes that read as a toy font at each of the three sizes, and that have no fault at any other
pub record ReadsAs (bytes : List ℕ) (t : ToyTable) : Type 0 where
  pub passes : (wanted : Wanted) → IsWanted wanted → tfm_fault bytes wanted ≡ None
  pub large : has_table t 655360 (metrics_of bytes (At (pos 655360)) t.skew) ≡ true
  pub middle : has_table t 458752 (metrics_of bytes (At (pos 458752)) t.skew) ≡ true
  pub small : has_table t 327680 (metrics_of bytes (At (pos 327680)) t.skew) ≡ true

abbrev pub roman : ToyTable
roman = record {
  first = 33;
  last = 126;
  own = amounts 12 10 8 0 0 ∷ amounts 94 8 12 0 0 ∷ [];
  links = [];
  recipes = [];
  pairs = (102, 105, Join 12) ∷ (102, 102, Kern (negsuc 0)) ∷ (102, 108, Smart) ∷ [];
  skew = None;
  params = 0 ∷ 5 ∷ 0 ∷ 0 ∷ 8 ∷ 16 ∷ 0 ∷ [];
}

abbrev pub italic : ToyTable
italic = record {
  first = 33;
  last = 127;
  own = amounts 102 8 8 0 2 ∷ [];
  links = [];
  recipes = [];
  pairs = (102, 127, Kern (pos 1)) ∷ [];
  skew = Some 127;
  params = 0 ∷ 0 ∷ 0 ∷ 0 ∷ 8 ∷ 16 ∷ 0 ∷ [];
}

abbrev pub symbols : ToyTable
symbols = record {
  first = 0;
  last = 126;
  own = amounts 0 8 2 0 0 ∷ amounts 112 8 1 15 0 ∷ [];
  links = [];
  recipes = [];
  pairs = [];
  skew = None;
  params = 0 ∷ 0 ∷ 0 ∷ 0 ∷ 8 ∷ 16 ∷ 0 ∷ 11 ∷ 6 ∷ 7 ∷ 11 ∷ 6 ∷ 7 ∷ 6 ∷ 5 ∷ 2 ∷ 4 ∷ 6 ∷ 1 ∷ 38 ∷ 16 ∷ 4 ∷ [];
}

abbrev pub extension : ToyTable
extension = record {
  first = 1;
  last = 0;
  own = amounts 0 8 1 23 0 ∷ amounts 1 8 1 23 0 ∷ amounts 16 10 1 35 0 ∷ amounts 17 10 1 35 0 ∷ amounts 48 14 0 9 0 ∷ amounts 49 14 0 9 0 ∷ amounts 64 14 0 9 0 ∷ amounts 65 14 0 9 0 ∷ amounts 66 14 0 4 0 ∷ amounts 67 14 0 4 0 ∷ amounts 8 8 1 17 0 ∷ amounts 9 8 1 17 0 ∷ amounts 56 8 0 5 0 ∷ amounts 57 8 0 5 0 ∷ amounts 58 8 0 5 0 ∷ amounts 59 8 0 5 0 ∷ amounts 60 8 0 8 0 ∷ amounts 61 8 0 8 0 ∷ amounts 62 8 0 2 0 ∷ amounts 14 8 1 11 0 ∷ amounts 80 12 0 16 0 ∷ amounts 88 20 0 24 0 ∷ amounts 82 8 0 18 4 ∷ amounts 90 9 0 36 7 ∷ amounts 98 9 12 0 0 ∷ amounts 99 16 12 0 0 ∷ amounts 112 10 1 23 0 ∷ amounts 113 10 1 35 0 ∷ [];
  links = (0, 16) ∷ (1, 17) ∷ (16, 48) ∷ (17, 49) ∷ (8, 56) ∷ (9, 57) ∷ (80, 88) ∷ (82, 90) ∷ (98, 99) ∷ (112, 113) ∷ [];
  recipes = (48, record { top = 48; middle = 0; bottom = 64; repeat = 66 }) ∷ (49, record { top = 49; middle = 0; bottom = 65; repeat = 67 }) ∷ (56, record { top = 56; middle = 60; bottom = 58; repeat = 62 }) ∷ (57, record { top = 57; middle = 61; bottom = 59; repeat = 62 }) ∷ [];
  pairs = [];
  skew = None;
  params = 0 ∷ 0 ∷ 0 ∷ 0 ∷ 8 ∷ 16 ∷ 0 ∷ 1 ∷ 2 ∷ 3 ∷ 3 ∷ 9 ∷ 2 ∷ [];
}
