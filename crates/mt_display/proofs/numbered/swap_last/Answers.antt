use Rattle.std.proofs.Common.{◌≡◌, [], ◌∷◌, refl, arith, ap, length, length-append}
use Rattle.mt_display.proofs.numbered.swap_last.Goals as goal

pub returns : goal.returns
returns c before a b is =
    let n : length before ≡ c.saturating_sub-first.result = omega (arith, c.saturating_sub-first.ensures, c.len.ensures, ap length is, length-append before (a ∷ b ∷ [])) in
    c.in_ok-put_behind.ensures.pieces before (a ∷ []) (b ∷ []) is n refl
