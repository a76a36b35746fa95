-- From what an answer comes (`origin_of`), and what a call that reads no file answers (`IsPure`).
use Rattle.std.specs.Prelude.{◌≡◌, Result, Ok, Err, ⊤}
use Rattle.mt_status.specs.declared.status.Status.{Status}
-- the table of statuses has that of a refusal
pub use Rattle.mt_status.specs.Statuses.{Origin, Told, Lost, Memory, Never, refusal_origin}

abbrev pub origin_of : {T : Type 0} → Result T Status → Origin
origin_of (Ok x) = Told
origin_of (Err status) = refusal_origin status

abbrev pub PureBy : Origin → Type 0 → Type 0
PureBy Told says = says
PureBy (Lost name) says = ⊥
PureBy Memory says = ⊤
PureBy Never says = ⊥

-- a step that reads no file gives this answer, or memory ran out
abbrev pub IsPure : {T : Type 0} → Result T Status → Result T Status → Type 0
IsPure step result = PureBy (origin_of result) (step ≡ result)
