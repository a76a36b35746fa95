-- Styles by their numbers (The TeXbook, Appendix G; tex.web, section 702).
use Rattle.std.specs.Prelude.{ℕ, ◌+◌, ◌-◌, ◌*◌, ◌/◌, ◌%◌, Bool, ◌==◌, nat_lt, if◌then◌else◌, [], ◌∷◌, get_or}
use Rattle.mt_family.specs.declared.size.Size.{Size}
use Rattle.mt_family.specs.declared.size.Size.TheVariants.{Text, Script, Scriptscript}
use Rattle.mt_rules.specs.declared.style.Style.{Style}
use Rattle.mt_rules.specs.declared.style.Style.TheVariants.{D, Dc, T, Tc, S, Sc, Ss, Ssc}

abbrev pub style_index : Style → ℕ
style_index D = 0
style_index Dc = 1
style_index T = 2
style_index Tc = 3
style_index S = 4
style_index Sc = 5
style_index Ss = 6
style_index Ssc = 7

-- the style of a number from 0 to 7
abbrev pub style_at : ℕ → Style
style_at n = get_or (D ∷ Dc ∷ T ∷ Tc ∷ S ∷ Sc ∷ Ss ∷ Ssc ∷ []) n Ssc

-- text below 4, script at 4 and 5, scriptscript at 6 and 7
abbrev pub size_of : Style → Size
size_of s = if nat_lt (style_index s) 4 then Text else (if nat_lt (style_index s) 6 then Script else Scriptscript)

abbrev pub sup_of : Style → Style
sup_of s = style_at (2 * (style_index s / 4) + 4 + style_index s % 2)

abbrev pub sub_of : Style → Style
sub_of s = style_at (2 * (style_index s / 4) + 5)

abbrev pub cramped_of : Style → Style
cramped_of s = style_at (2 * (style_index s / 2) + 1)

abbrev pub num_of : Style → Style
num_of s = style_at (style_index s + 2 - 2 * (style_index s / 6))

abbrev pub den_of : Style → Style
den_of s = style_at (2 * (style_index s / 2) + 3 - 2 * (style_index s / 6))

-- display style and text style, each with its cramped form
abbrev pub is_display_or_text : Style → Bool
is_display_or_text s = nat_lt (style_index s) 4

-- display style, cramped or not
abbrev pub is_display : Style → Bool
is_display s = nat_lt (style_index s) 2

abbrev pub is_cramped : Style → Bool
is_cramped s = style_index s % 2 == 1

-- the form of it that is not cramped
abbrev pub uncramped_of : Style → Style
uncramped_of s = style_at (2 * (style_index s / 2))

-- the size of a style's scripts
abbrev pub script_size_of : Style → Size
script_size_of s = size_of (sup_of s)
