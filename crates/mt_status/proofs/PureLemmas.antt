-- Steps that read no file, one after another.
use Rattle.std.proofs.Common.{◌≡◌, ap, subst, sym}
use Rattle.std.specs.Prelude.{Result, Ok, Err}
use Rattle.mt_scaled.specs.Results.{◌>>=◌}
use Rattle.mt_status.specs.Origins.{Origin, Told, Lost, Memory, Never, PureBy, IsPure, refusal_origin}
use Rattle.mt_status.specs.declared.status.Status.{Status}

pub pure_by : (origin : Origin) (P Q : Type 0) → (P → Q) → PureBy origin P → PureBy origin Q
pure_by Told P Q to is = to is
pure_by (Lost name) P Q to is = is
pure_by Memory P Q to is = is
pure_by Never P Q to is = is

-- a step that refuses, before others
pub pure_err : {T U : Type 0} (step : Result T Status) (next : T → Result U Status) (status : Status) → IsPure step (Err status) → IsPure {T = U} (step >>= next) (Err status)
pure_err step next status is = pure_by (refusal_origin status) _ _ (λ same. ap (λ (s : Result _ Status). s >>= next) same) is

-- a step after one that gave a value
pub pure_then : {T U : Type 0} (step : Result T Status) (x : T) (next : T → Result U Status) (result : Result U Status)
    → step ≡ Ok x → IsPure (next x) result → IsPure (step >>= next) result
pure_then step x next result same is = subst (λ (s : Result _ Status). IsPure (s >>= next) result) (sym same) is
