-- The styles of subscripts and denominators are cramped.
use Rattle.std.proofs.Common.{◌≡◌, refl}
use Rattle.mt_rules.specs.declared.style.Style.{Style}
use Rattle.mt_rules.specs.declared.style.Style.TheVariants.{D, Dc, T, Tc, S, Sc, Ss, Ssc}
use Rattle.mt_rules.specs.Styles.{sup_of, sub_of, cramped_of, num_of, den_of}

pub cramped_sup : (s : Style) → cramped_of (sup_of s) ≡ sub_of s
cramped_sup D = refl
cramped_sup Dc = refl
cramped_sup T = refl
cramped_sup Tc = refl
cramped_sup S = refl
cramped_sup Sc = refl
cramped_sup Ss = refl
cramped_sup Ssc = refl

pub cramped_num : (s : Style) → cramped_of (num_of s) ≡ den_of s
cramped_num D = refl
cramped_num Dc = refl
cramped_num T = refl
cramped_num Tc = refl
cramped_num S = refl
cramped_num Sc = refl
cramped_num Ss = refl
cramped_num Ssc = refl
