-- Places that were there before stay in front.
use Rattle.std.proofs.Common.{◌≡◌, List, [], ◌∷◌, ◌++◌, length, take, refl, arith, take_at, take_all}
use Rattle.mt_box.specs.declared.place.Place.{Place}
use Rattle.mt_box.specs.inner.Putting.{IsFront}

pub front_itself : (xs : List Place) → IsFront xs xs
front_itself xs = take_all (length xs) xs (omega arith)

pub front_more : (xs ys zs : List Place) → zs ≡ xs ++ ys → IsFront xs zs
front_more xs ys zs e = rw e (take_at xs ys (length xs) refl)

pub front_then : (xs ys zs : List Place) → IsFront xs ys → IsFront ys zs → IsFront xs zs
front_then [] ys zs p q = refl
front_then (x ∷ xs) [] zs p q = absurd (cc)
front_then (x ∷ xs) (y ∷ ys) [] p q = absurd (cc)
front_then (x ∷ xs) (y ∷ ys) (z ∷ zs) p q =
    let p' : take (length xs) ys ≡ xs = cc in
    let q' : take (length ys) zs ≡ ys = cc in
    let r : take (length xs) zs ≡ xs = front_then xs ys zs p' q' in
    cc
