-- A boundary put behind the other pieces (`boundary_put`).
use Rattle.std.proofs.Common.{◌≡◌, List, [], ◌∷◌, ◌++◌, ap, sym, ◌∙◌, refl, append_assoc, Ok, Err}
use Rattle.mt_convert.proofs.Common.{Size, SetValue, Layout, PieceValue, Setting, ◌>>=◌, piece_on_axis, boundary_on, RowOn}

ok_is : (x y : List PieceValue) → ◌≡◌ {A = Setting (List PieceValue)} (Ok x) (Ok y) → x ≡ y
ok_is x y e = cc

pub boundary_put : (fonts : SetValue) (size : Size) (old space mid new : List PieceValue) (s : Setting Layout) → mid ≡ old ++ space → boundary_on fonts size mid s ≡ Ok new
    → RowOn old new ((s >>= (λ box. Ok (piece_on_axis fonts size box))) >>= (λ piece. Ok (space ++ piece ∷ [])))
boundary_put fonts size old space mid new (Ok box) e f = record {
  row = space ++ piece_on_axis fonts size box ∷ [];
  is = refl;
  stays = sym (ok_is (mid ++ piece_on_axis fonts size box ∷ []) new f) ∙ (ap (λ x. x ++ piece_on_axis fonts size box ∷ []) e ∙ append_assoc old space (piece_on_axis fonts size box ∷ []));
}
boundary_put fonts size old space mid new (Err g) e f = absurd (cc)
