-- The list of a choice for a style is one of its four lists (`one_of_four`).
use Rattle.mt_convert.proofs.Common.{Style, D, Dc, T, Tc, S, Sc, Ss, Ssc, list_for}

pub one_of_four : {A : Type 0} (P : A → Type 0) (style : Style) (a b c d : A) → P a → P b → P c → P d → P (list_for style a b c d)
one_of_four P D a b c d pa pb pc pd = pa
one_of_four P Dc a b c d pa pb pc pd = pa
one_of_four P T a b c d pa pb pc pd = pb
one_of_four P Tc a b c d pa pb pc pd = pb
one_of_four P S a b c d pa pb pc pd = pc
one_of_four P Sc a b c d pa pb pc pd = pc
one_of_four P Ss a b c d pa pb pc pd = pd
one_of_four P Ssc a b c d pa pb pc pd = pd
