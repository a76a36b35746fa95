-- Roots in the toy fonts, worked. The numbers come from a program in another language.
use Rattle.std.proofs.Common.{◌≡◌, refl, Ok, Err, None, pos, [], ◌∷◌}
use Rattle.mt_family.specs.declared.size.Size.TheVariants.{Text, Scriptscript}
use Rattle.mt_box.specs.declared.place.Place.TheVariants.{Glyph, Rule}
use Rattle.mt_rules.specs.declared.style.Style.TheVariants.{Dc, T, Tc, S, Ssc}
use Rattle.mt_rules.specs.declared.class.Class.TheVariants.{Ord}
use Rattle.mt_rules.specs.declared.kind.Kind.TheVariants.{Plain, Radical}
use Rattle.mt_rules.specs.declared.kind.Limits.TheVariants.{Default}
use Rattle.mt_rules.specs.Setting.{MissingFamily, Overflow}
use Rattle.mt_rules.specs.Nuclei.{RowByStyle, NoContent, SymbolContent, ListContent, RootContent}
use Rattle.mt_rules.specs.AtomRow.{fraction_row}
use Rattle.mt_rules.proofs.cases.ToyFonts.{toy}
use Rattle.mt_rules.proofs.cases.Writing.{neg, layout, symbol, delim, no_delim, atom, one, kern, empty_list, given_fraction, packed, evaluated}

-- a list of one fraction
abbrev fraction_list : RowByStyle → RowByStyle → RowByStyle
fraction_list num den = λ style. fraction_row toy style (given_fraction None no_delim no_delim num den)

-- \root 3\of a
root : packed toy T (atom (Radical (delim 2 112 3 112)) Default (RootContent ((one toy (atom (Plain Ord) Default (SymbolContent (symbol 0 51)) NoContent NoContent))) (SymbolContent (symbol 1 97))) NoContent NoContent) ≡ Ok (layout (pos 637160) (pos 578560) (pos 117760) (Glyph 2 51 (pos 182040) (neg 276482) ∷ Glyph 6 112 (neg 18200) (neg 496640) ∷ Rule (pos 309480) (neg 496640) (pos 40960) (pos 327680) ∷ Glyph 3 97 (pos 309480) (pos 0) ∷ []))
unfolding evaluated
root = refl

-- no degree
root_without_degree : packed toy T (atom (Radical (delim 2 112 3 112)) Default (RootContent empty_list (SymbolContent (symbol 1 97))) NoContent NoContent) ≡ Ok (layout (pos 473320) (pos 578560) (pos 117760) (Glyph 6 112 (neg 182040) (neg 496640) ∷ Rule (pos 145640) (neg 496640) (pos 40960) (pos 327680) ∷ Glyph 3 97 (pos 145640) (pos 0) ∷ []))
unfolding evaluated
root_without_degree = refl

-- a root is not cramped, its body is
root_cramped_text : packed toy Tc (atom (Radical (delim 2 112 3 112)) Default (RootContent ((one toy (atom (Plain Ord) Default (SymbolContent (symbol 0 51)) NoContent NoContent))) (SymbolContent (symbol 1 97))) NoContent NoContent) ≡ Ok (layout (pos 637160) (pos 578560) (pos 117760) (Glyph 2 51 (pos 182040) (neg 276482) ∷ Glyph 6 112 (neg 18200) (neg 496640) ∷ Rule (pos 309480) (neg 496640) (pos 40960) (pos 327680) ∷ Glyph 3 97 (pos 309480) (pos 0) ∷ []))
unfolding evaluated
root_cramped_text = refl

root_cramped_display : packed toy Dc (atom (Radical (delim 2 112 3 112)) Default (RootContent ((one toy (atom (Plain Ord) Default (SymbolContent (symbol 0 51)) NoContent NoContent))) (ListContent (one toy (atom (Plain Ord) Default (SymbolContent (symbol 1 120)) (SymbolContent (symbol 0 50)) NoContent)))) NoContent NoContent) ≡ Ok (layout (pos 899304) (pos 667648) (pos 28672) (Glyph 2 51 (pos 182040) (neg 383389) ∷ Glyph 6 112 (neg 18200) (neg 585728) ∷ Rule (pos 309480) (neg 585728) (pos 40960) (pos 589824) ∷ Glyph 3 120 (pos 309480) (pos 0) ∷ Glyph 1 50 (pos 637160) (neg 204800) ∷ []))
unfolding evaluated
root_cramped_display = refl

-- the mu of the current size
root_in_script : packed toy S (atom (Radical (delim 2 112 3 112)) Default (RootContent ((one toy (atom (Plain Ord) Default (SymbolContent (symbol 0 51)) NoContent NoContent))) (ListContent (one toy (atom (Plain Ord) Default (SymbolContent (symbol 1 120)) (SymbolContent (symbol 0 50)) NoContent)))) NoContent NoContent) ≡ Ok (layout (pos 691770) (pos 451584) (pos 35840) (Glyph 2 51 (pos 127430) (neg 249448) ∷ Glyph 7 112 (pos 36410) (neg 394240) ∷ Rule (pos 265786) (neg 394240) (pos 28672) (pos 425984) ∷ Glyph 4 120 (pos 265786) (pos 0) ∷ Glyph 2 50 (pos 495162) (neg 143360) ∷ []))
unfolding evaluated
root_in_script = refl

root_in_scriptscript : packed toy Ssc (atom (Radical (delim 2 112 3 112)) Default (RootContent ((one toy (atom (Plain Ord) Default (SymbolContent (symbol 0 51)) NoContent NoContent))) (ListContent (one toy (atom (Plain Ord) Default (SymbolContent (symbol 1 120)) (SymbolContent (symbol 0 50)) NoContent)))) NoContent NoContent) ≡ Ok (layout (pos 662644) (pos 431104) (pos 56320) (Glyph 2 51 (pos 91020) (neg 224872) ∷ Glyph 7 112 (pos 72820) (neg 373760) ∷ Rule (pos 302196) (neg 373760) (pos 28672) (pos 360448) ∷ Glyph 5 120 (pos 302196) (pos 0) ∷ Glyph 2 50 (pos 466036) (neg 102400) ∷ []))
unfolding evaluated
root_in_scriptscript = refl

-- the degree is raised by 0.6 of height less depth
root_of_fraction : packed toy T (atom (Radical (delim 2 112 3 112)) Default (RootContent ((one toy (atom (Plain Ord) Default (SymbolContent (symbol 0 51)) NoContent NoContent))) (ListContent (fraction_list (one toy (atom (Plain Ord) Default (SymbolContent (symbol 1 97)) NoContent NoContent)) (one toy (atom (Plain Ord) Default (SymbolContent (symbol 1 98)) NoContent NoContent))))) NoContent NoContent) ≡ Ok (layout (pos 778062) (pos 693248) (pos 330752) (Glyph 2 51 (pos 182040) (neg 217499) ∷ Glyph 9 112 (neg 18200) (neg 611328) ∷ Rule (pos 391400) (neg 611328) (pos 40960) (pos 386662) ∷ Glyph 4 97 (pos 470043) (neg 245760) ∷ Rule (pos 470043) (neg 143360) (pos 40960) (pos 229376) ∷ Glyph 4 98 (pos 470043) (pos 245760) ∷ []))
unfolding evaluated
root_of_fraction = refl

-- a degree in scriptscript style
fraction_as_degree : packed toy T (atom (Radical (delim 2 112 3 112)) Default (RootContent ((fraction_list (one toy (atom (Plain Ord) Default (SymbolContent (symbol 1 97)) NoContent NoContent)) (one toy (atom (Plain Ord) Default (SymbolContent (symbol 1 98)) NoContent NoContent)))) (SymbolContent (symbol 1 99))) NoContent NoContent) ≡ Ok (layout (pos 794446) (pos 583682) (pos 117760) (Glyph 5 97 (pos 260683) (neg 419842) ∷ Rule (pos 260683) (neg 337922) (pos 40960) (pos 163840) ∷ Glyph 5 98 (pos 260683) (neg 133122) ∷ Glyph 6 112 (pos 139086) (neg 496640) ∷ Rule (pos 466766) (neg 496640) (pos 40960) (pos 327680) ∷ Glyph 3 99 (pos 466766) (pos 0) ∷ []))
unfolding evaluated
fraction_as_degree = refl

-- a body deeper than high
root_of_deep : packed toy T (atom (Radical (delim 2 112 3 112)) Default (RootContent ((one toy (atom (Plain Ord) Default (SymbolContent (symbol 0 51)) NoContent NoContent))) (ListContent (one toy (atom (Plain Ord) Default (SymbolContent (symbol 1 97)) NoContent (ListContent (one toy (atom (Plain Ord) Default (SymbolContent (symbol 1 98)) NoContent (SymbolContent (symbol 1 99))))))))) NoContent NoContent) ≡ Ok (layout (pos 1095912) (pos 508928) (pos 187392) (Glyph 2 51 (pos 182040) (neg 192923) ∷ Glyph 6 112 (neg 18200) (neg 427008) ∷ Rule (pos 309480) (neg 427008) (pos 40960) (pos 786432) ∷ Glyph 3 97 (pos 309480) (pos 0) ∷ Glyph 4 98 (pos 637160) (pos 81920) ∷ Glyph 5 99 (pos 866536) (pos 139264) ∷ []))
unfolding evaluated
root_of_deep = refl

-- a root as degree
root_as_degree : packed toy T (atom (Radical (delim 2 112 3 112)) Default (RootContent ((one toy (atom (Radical (delim 2 112 3 112)) Default (RootContent ((one toy (atom (Plain Ord) Default (SymbolContent (symbol 0 50)) NoContent NoContent))) (SymbolContent (symbol 0 51))) NoContent NoContent))) (ListContent (one toy (atom (Plain Ord) Default (SymbolContent (symbol 0 52)) NoContent NoContent)))) NoContent NoContent) ≡ Ok (layout (pos 873820) (pos 593923) (pos 117760) (Glyph 2 50 (pos 273060) (neg 430083) ∷ Glyph 8 112 (pos 254860) (neg 537602) ∷ Rule (pos 418700) (neg 537602) (pos 20480) (pos 163840) ∷ Glyph 2 51 (pos 418700) (neg 276482) ∷ Glyph 6 112 (pos 218460) (neg 496640) ∷ Rule (pos 546140) (neg 496640) (pos 40960) (pos 327680) ∷ Glyph 0 52 (pos 546140) (pos 0) ∷ []))
unfolding evaluated
root_as_degree = refl

-- a root of a root
root_of_root : packed toy T (atom (Radical (delim 2 112 3 112)) Default (RootContent ((one toy (atom (Plain Ord) Default (SymbolContent (symbol 0 50)) NoContent NoContent))) (ListContent (one toy (atom (Radical (delim 2 112 3 112)) Default (RootContent ((one toy (atom (Plain Ord) Default (SymbolContent (symbol 0 51)) NoContent NoContent))) (SymbolContent (symbol 1 120))) NoContent NoContent)))) NoContent NoContent) ≡ Ok (layout (pos 1028560) (pos 808960) (pos 215040) (Glyph 2 50 (pos 182040) (neg 356355) ∷ Glyph 9 112 (neg 18200) (neg 727040) ∷ Rule (pos 391400) (neg 727040) (pos 40960) (pos 637160) ∷ Glyph 2 51 (pos 573440) (neg 276482) ∷ Glyph 6 112 (pos 373200) (neg 496640) ∷ Rule (pos 700880) (neg 496640) (pos 40960) (pos 327680) ∷ Glyph 3 120 (pos 700880) (pos 0) ∷ []))
unfolding evaluated
root_of_root = refl

-- roots as scripts
root_as_scripts : packed toy T (atom (Plain Ord) Default (SymbolContent (symbol 1 120)) (ListContent (one toy (atom (Radical (delim 2 112 3 112)) Default (RootContent ((one toy (atom (Plain Ord) Default (SymbolContent (symbol 0 51)) NoContent NoContent))) (SymbolContent (symbol 1 97))) NoContent NoContent))) (ListContent (one toy (atom (Radical (delim 2 112 3 112)) Default (RootContent ((one toy (atom (Plain Ord) Default (SymbolContent (symbol 0 51)) NoContent NoContent))) (SymbolContent (symbol 1 98))) NoContent NoContent)))) ≡ Ok (layout (pos 855610) (pos 749568) (pos 389120) (Glyph 3 120 (pos 0) (pos 0) ∷ Glyph 2 51 (pos 455110) (neg 539650) ∷ Glyph 7 112 (pos 364090) (neg 692224) ∷ Rule (pos 593466) (neg 692224) (pos 28672) (pos 229376) ∷ Glyph 4 97 (pos 593466) (neg 336896) ∷ Glyph 2 51 (pos 455110) (pos 111614) ∷ Glyph 7 112 (pos 364090) (neg 40960) ∷ Rule (pos 593466) (neg 40960) (pos 28672) (pos 229376) ∷ Glyph 4 98 (pos 593466) (pos 314368) ∷ []))
unfolding evaluated
root_as_scripts = refl

-- the degree comes before the body
degree_first : packed toy T (atom (Radical (delim 2 112 3 112)) Default (RootContent ((one toy (atom (Plain Ord) Default (SymbolContent (symbol 9 97)) NoContent NoContent))) (SymbolContent (symbol 8 98))) NoContent NoContent) ≡ Err (MissingFamily 9 Scriptscript)
unfolding evaluated
degree_first = refl

then_body : packed toy T (atom (Radical (delim 2 112 3 112)) Default (RootContent ((one toy (atom (Plain Ord) Default (SymbolContent (symbol 1 97)) NoContent NoContent))) (ListContent (one toy (atom (Plain Ord) Default (SymbolContent (symbol 8 98)) NoContent NoContent)))) NoContent NoContent) ≡ Err (MissingFamily 8 Text)
unfolding evaluated
then_body = refl

-- the radical out of range
wide_radical : packed toy T (atom (Radical (delim 2 112 3 112)) Default (RootContent ((one toy (atom (Plain Ord) Default (SymbolContent (symbol 1 97)) NoContent NoContent))) (ListContent (kern (pos 1073676288)))) NoContent NoContent) ≡ Err (Overflow (pos 1074003968))
unfolding evaluated
wide_radical = refl

-- the row of the root
wide_root : packed toy T (atom (Radical (delim 2 112 3 112)) Default (RootContent ((kern (pos 1073676288))) (SymbolContent (symbol 1 97))) NoContent NoContent) ≡ Err (Overflow (pos 1074149608))
unfolding evaluated
wide_root = refl
