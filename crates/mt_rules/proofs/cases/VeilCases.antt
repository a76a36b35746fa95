-- Phantoms and smashed boxes in the toy fonts, worked. The numbers come from a program in another language.
use Rattle.std.proofs.Common.{◌≡◌, refl, Ok, Err, pos, true, false, [], ◌∷◌}
use Rattle.mt_family.specs.declared.size.Size.TheVariants.{Text}
use Rattle.mt_box.specs.declared.place.Place.TheVariants.{Glyph, Rule}
use Rattle.mt_box.specs.Layout.{Layout}
use Rattle.mt_box.specs.Rows.{PieceKern}
use Rattle.mt_rules.specs.declared.style.Style.TheVariants.{D, T, Tc}
use Rattle.mt_rules.specs.declared.class.Class.TheVariants.{Ord, Op}
use Rattle.mt_rules.specs.declared.kind.Kind.TheVariants.{Plain, Accent, Over, Veil}
use Rattle.mt_rules.specs.declared.kind.Limits.TheVariants.{Default, Always}
use Rattle.mt_rules.specs.Setting.{MissingFamily, Overflow}
use Rattle.mt_rules.specs.Nuclei.{NoContent, SymbolContent, ListContent}
use Rattle.mt_rules.specs.Veils.{veil_layout}
use Rattle.mt_rules.proofs.cases.ToyFonts.{toy}
use Rattle.mt_rules.proofs.cases.Writing.{neg, layout, symbol, atom, one, packed, evaluated}

abbrev body : Layout
body = layout (pos 3) (pos 5) (pos 7) (Glyph 1 2 (pos 4) (pos 6) ∷ [])

-- what \phantom, \hphantom, \vphantom and \smash leave
phantom : veil_layout true true false body ≡ layout (pos 3) (pos 5) (pos 7) []
unfolding veil_layout
phantom = refl

hphantom : veil_layout true false false body ≡ layout (pos 3) (pos 0) (pos 0) []
unfolding veil_layout
hphantom = refl

vphantom : veil_layout false true false body ≡ layout (pos 0) (pos 5) (pos 7) []
unfolding veil_layout
vphantom = refl

smashed : veil_layout true false true body ≡ layout (pos 3) (pos 0) (pos 0) (Glyph 1 2 (pos 4) (pos 6) ∷ [])
unfolding veil_layout
smashed = refl

-- \smash x: the marks stay
smash : packed toy T (atom (Veil true false true) Default (SymbolContent (symbol 1 120)) NoContent NoContent) ≡ Ok (layout (pos 327680) (pos 0) (pos 0) (Glyph 3 120 (pos 0) (pos 0) ∷ []))
unfolding evaluated
smash = refl

-- \phantom of nothing
phantom_of_nothing : packed toy T (atom (Veil true true false) Default NoContent NoContent NoContent) ≡ Ok (layout (pos 0) (pos 0) (pos 0) [])
unfolding evaluated
phantom_of_nothing = refl

-- \smash of nothing
smash_of_nothing : packed toy T (atom (Veil true false true) Default NoContent NoContent NoContent) ≡ Ok (layout (pos 0) (pos 0) (pos 0) [])
unfolding evaluated
smash_of_nothing = refl

-- an uncramped veil in cramped text style
phantom_in_text : packed toy Tc (atom (Veil true true false) Default (ListContent (one toy (atom (Plain Ord) Default (SymbolContent (symbol 1 120)) (SymbolContent (symbol 0 50)) NoContent))) NoContent NoContent) ≡ Ok (layout (pos 589824) (pos 475136) (pos 0) [])
unfolding evaluated
phantom_in_text = refl

-- under a rule, uncramped: \overline is cramped
over_phantom : packed toy T (atom Over Default (ListContent (one toy (atom (Veil true true false) Default (ListContent (one toy (atom (Plain Ord) Default (SymbolContent (symbol 1 120)) (ListContent (one toy (atom (Plain Ord) Default (SymbolContent (symbol 0 50)) (SymbolContent (symbol 0 51)) NoContent))) NoContent))) NoContent NoContent))) NoContent NoContent) ≡ Ok (layout (pos 786432) (pos 786432) (pos 0) (Rule (pos 0) (neg 704512) (pos 40960) (pos 786432) ∷ []))
unfolding evaluated
over_phantom = refl

-- a rule over a smashed nucleus is at its height 0
over_smash : packed toy T (atom Over Default (ListContent (one toy (atom (Veil true false true) Default (ListContent (one toy (atom (Plain Ord) Default (SymbolContent (symbol 1 120)) (SymbolContent (symbol 0 50)) NoContent))) NoContent NoContent))) NoContent NoContent) ≡ Ok (layout (pos 589824) (pos 204800) (pos 0) (Rule (pos 0) (neg 122880) (pos 40960) (pos 589824) ∷ Glyph 3 120 (pos 0) (pos 0) ∷ Glyph 1 50 (pos 327680) (neg 245760) ∷ []))
unfolding evaluated
over_smash = refl

-- an accent on a phantom
accent_on_phantom : packed toy T (atom (Accent (symbol 0 94)) Default (ListContent (one toy (atom (Veil true true false) Default (SymbolContent (symbol 1 97)) NoContent NoContent))) NoContent NoContent) ≡ Ok (layout (pos 327680) (pos 491520) (pos 0) (Glyph 0 94 (pos 0) (pos 0) ∷ []))
unfolding evaluated
accent_on_phantom = refl

-- and on a smashed nucleus
accent_on_smash : packed toy T (atom (Accent (symbol 0 94)) Default (ListContent (one toy (atom (Veil true false true) Default (ListContent (one toy (atom (Plain Ord) Default (SymbolContent (symbol 1 120)) (SymbolContent (symbol 0 50)) NoContent))) NoContent NoContent))) NoContent NoContent) ≡ Ok (layout (pos 589824) (pos 491520) (pos 0) (Glyph 0 94 (pos 131072) (pos 0) ∷ Glyph 3 120 (pos 0) (pos 0) ∷ Glyph 1 50 (pos 327680) (neg 245760) ∷ []))
unfolding evaluated
accent_on_smash = refl

-- an operator in a list under a veil, in display style
sum_in_phantom : packed toy D (atom (Veil true true false) Default (ListContent (one toy (atom (Plain Op) Default (SymbolContent (symbol 3 80)) NoContent NoContent))) NoContent NoContent) ≡ Ok (layout (pos 819200) (pos 655360) (pos 327680) [])
unfolding evaluated
sum_in_phantom = refl

-- a smashed nucleus that is reboxed keeps height and depth 0
smash_with_limits : packed toy T (atom (Plain Op) Always (ListContent (one toy (atom (Veil true false true) Default (ListContent (one toy (atom (Plain Ord) Default (SymbolContent (symbol 1 120)) NoContent (SymbolContent (symbol 0 50))))) NoContent NoContent))) (SymbolContent (symbol 1 97)) (SymbolContent (symbol 1 98))) ≡ Ok (layout (pos 589824) (pos 434176) (pos 450560) (Glyph 4 97 (pos 180224) (neg 122880) ∷ Glyph 3 120 (pos 0) (pos 0) ∷ Glyph 1 50 (pos 327680) (pos 81920) ∷ Glyph 4 98 (pos 180224) (pos 368640) ∷ []))
unfolding evaluated
smash_with_limits = refl

-- a fault under a veil
missing_under_phantom : packed toy T (atom (Veil true true false) Default (SymbolContent (symbol 9 97)) NoContent NoContent) ≡ Err (MissingFamily 9 Text)
unfolding evaluated
missing_under_phantom = refl

-- its width out of range
wide_hphantom : packed toy T (atom (Veil true false false) Default (ListContent (λ style. Ok (PieceKern (pos 1073676288) ∷ PieceKern (pos 1073676288) ∷ []))) NoContent NoContent) ≡ Err (Overflow (pos 2147352576))
unfolding evaluated
wide_hphantom = refl
