-- Steps that never answer a certain error (`Avoids`), and checks that never find it (`Lacks`).
use Rattle.std.proofs.Common.{◌≡◌, Bool, true, false, refl, ap}
use Rattle.std.specs.Prelude.{Option, Some, None, Result, Ok, Err, if◌then◌else◌}
use Rattle.std.specs.Option.{option_or, option_map}
use Rattle.mt_scaled.specs.Results.{◌>>=◌}

abbrev pub Avoids : {T E : Type 0} → E → Result T E → Type 0
Avoids bad r = r ≡ Err bad → ⊥

abbrev pub Lacks : {E : Type 0} → E → Option E → Type 0
Lacks bad o = o ≡ Some bad → ⊥

pub avoids_err : {T E : Type 0} (bad e : E) → (e ≡ bad → ⊥) → Avoids {T = T} bad (Err e)
avoids_err bad e other h = other cc

pub avoids_if : {T E : Type 0} (bad : E) (b : Bool) (x y : Result T E) → Avoids bad x → Avoids bad y → Avoids bad (if b then x else y)
avoids_if bad true x y p q = p
avoids_if bad false x y p q = q

pub avoids_then : {T U E : Type 0} (bad : E) (step : Result T E) (next : T → Result U E) → Avoids bad step → ((x : T) → step ≡ Ok x → Avoids bad (next x)) → Avoids bad (step >>= next)
avoids_then bad (Ok x) next first rest = rest x refl
avoids_then bad (Err e) next first rest = avoids_err bad e (λ same. first (ap Err same))

pub lacks_or : {E : Type 0} (bad : E) (o p : Option E) → Lacks bad o → Lacks bad p → Lacks bad (option_or o p)
lacks_or bad None p first second = second
lacks_or bad (Some e) p first second = first

pub lacks_map : {T E : Type 0} (bad : E) (f : T → E) (o : Option T) → ((x : T) → f x ≡ bad → ⊥) → Lacks bad (option_map f o)
lacks_map bad f None other h = cc
lacks_map bad f (Some x) other h = other x cc

pub lacks_if : {E : Type 0} (bad : E) (b : Bool) (o p : Option E) → Lacks bad o → Lacks bad p → Lacks bad (if b then o else p)
lacks_if bad true o p first second = first
lacks_if bad false o p first second = second
