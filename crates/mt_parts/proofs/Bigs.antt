-- Delimiters of fixed sizes: the steps of their layout.
use Rattle.std.proofs.Common.{◌≡◌, ℕ, ℤ, pos, List, [], ◌∷◌, refl, sym, ap, subst, ◌∙◌, Result, Ok}
use Rattle.std.specs.Int.{int_max}
use Rattle.mt_family.specs.SetValue.{SetValue}
use Rattle.mt_family.specs.declared.size.Size.TheVariants.{Text}
use Rattle.mt_box.specs.declared.place.Place.{Place}
use Rattle.mt_box.specs.declared.extents.Extents.{Extents}
use Rattle.mt_box.specs.Layout.{Layout}
use Rattle.mt_box.specs.Rows.{PieceValue, pack}
use Rattle.mt_box.proofs.Equalities.{extents_is, layout_eq}
use Rattle.mt_rules.specs.declared.symbol.Delim.{Delim}
use Rattle.mt_rules.specs.declared.part_error.PartError.{PartError}
use Rattle.mt_rules.specs.Setting.{make_box}
use Rattle.mt_rules.specs.OnMarks.{SetsOn, layout_with}
use Rattle.mt_rules.specs.Delimiters.{DelimiterVariant, delimiter, delimiter_variant, piece_on_axis, boundary_size}
use Rattle.mt_rules.specs.BigDelimiters.{big_height, big_wanted, without_null_width, at_least_high, big_delimiter}
use Rattle.mt_rules.proofs.Answering.{then_ok}

wanted_is : (fonts : SetValue) (level : ℕ) (height wanted : ℤ) → height ≡ big_height level → wanted ≡ boundary_size fonts Text height (pos 0) → wanted ≡ big_wanted fonts level
wanted_is fonts level height wanted p w = w ∙ ap (λ h. boundary_size fonts Text h (pos 0)) p

-- the extents of a row, made at least so high
pub made_high : (height : ℤ) (e f : Extents) (l : Layout) (r : Result Extents PartError) (ps : List Place)
    → f.width ≡ e.width → f.height ≡ int_max height e.height → f.depth ≡ e.depth
    → layout_with e ps ≡ l → SetsOn r ps (make_box (layout_with f ps)) → SetsOn r ps (make_box (at_least_high height l))
made_high height e f l r ps w u d i h =
    let same : layout_with f ps ≡ at_least_high height (layout_with e ps) = layout_eq (extents_is f _ _ _ w u d) refl in
    subst (λ m. SetsOn r ps (make_box m)) (same ∙ ap (λ m. at_least_high height m) i) h

-- its row, packed and made at least so high
pub big_made : (fonts : SetValue) (delim : Delim) (level : ℕ) (height wanted : ℤ) (variant : DelimiterVariant) (box : Layout) (piece : PieceValue) (r : Result Extents PartError) (ps : List Place)
    → height ≡ big_height level → wanted ≡ boundary_size fonts Text height (pos 0)
    → delimiter fonts delim Text wanted ≡ Ok box → variant ≡ delimiter_variant fonts delim Text wanted
    → piece ≡ piece_on_axis fonts Text (without_null_width variant box)
    → SetsOn r ps (make_box (at_least_high height (pack (piece ∷ [])))) → SetsOn r ps (big_delimiter fonts delim level)
unfolding big_delimiter
big_made fonts delim level height wanted variant box piece r ps p w d v i h =
    let same = wanted_is fonts level height wanted p w in
    let made : delimiter fonts delim Text (big_wanted fonts level) ≡ Ok box = sym (ap (λ y. delimiter fonts delim Text y) same) ∙ d in
    let chosen : variant ≡ delimiter_variant fonts delim Text (big_wanted fonts level) = v ∙ ap (λ y. delimiter_variant fonts delim Text y) same in
    let on_axis : piece ≡ piece_on_axis fonts Text (without_null_width (delimiter_variant fonts delim Text (big_wanted fonts level)) box) =
    i ∙ ap (λ y. piece_on_axis fonts Text (without_null_width y box)) chosen in
    subst (λ a. SetsOn r ps a)
    (sym (then_ok _ box _ made
    ∙ (ap (λ y. make_box (at_least_high y (pack (piece_on_axis fonts Text (without_null_width (delimiter_variant fonts delim Text (big_wanted fonts level)) box) ∷ [])))) (sym p)
    ∙ ap (λ m. make_box (at_least_high height (pack (m ∷ [])))) (sym on_axis)))) h
