-- Parts that are read one after the other.
use Rattle.std.proofs.Common.{◌≡◌, List, ap, refl}
use Rattle.mt_token.specs.declared.token.Token.{Token}
use Rattle.mt_scan.specs.Parts.{Read, Got, Fault, NoTurn, then_read}
use Rattle.mt_formula.specs.Lists.{then_give}

pub then_then : {A B C : Type 0} (r : Read A) (f : A → List Token → Read B) (g : B → List Token → Read C) → then_read (then_read r f) g ≡ then_read r (λ (part : A) (rest : List Token). then_read (f part rest) g)
then_then (Got part rest) f g = refl
then_then (Fault cause left) f g = refl
then_then NoTurn f g = refl

pub give_give : {A B C : Type 0} (r : Read A) (f : A → B) (g : B → C) → then_give (then_give r f) g ≡ then_give r (λ part. g (f part))
give_give (Got part rest) f g = refl
give_give (Fault cause left) f g = refl
give_give NoTurn f g = refl

pub give_same : {A B : Type 0} (r : Read A) (f g : A → B) → ((part : A) → f part ≡ g part) → then_give r f ≡ then_give r g
give_same (Got part rest) f g h = ap (λ part. Got part rest) (h part)
give_same (Fault cause left) f g h = refl
give_same NoTurn f g h = refl

pub give_all : {A : Type 0} (r : Read A) (f : A → A) → ((part : A) → f part ≡ part) → then_give r f ≡ r
give_all (Got part rest) f h = ap (λ part. Got part rest) (h part)
give_all (Fault cause left) f h = refl
give_all NoTurn f h = refl
