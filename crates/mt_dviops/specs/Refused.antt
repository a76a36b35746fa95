-- What the calls answer (`IsAnswer`): the file of the chosen pages, or why there is none.
use Rattle.std.specs.Prelude.{◌≡◌, ℕ, List, Result, Ok, Err, IsSomeAnd, ⊤}
use Rattle.mt_dvi.specs.File.{Fault}
use Rattle.mt_dviread.specs.Errors.{fault_of}
use Rattle.mt_dviops.specs.declared.error.OpError.{OpError}
use Rattle.mt_dviops.specs.declared.error.OpError.TheVariants as errors
use Rattle.mt_dviops.specs.Copied.{CopyAnswer, BadFile, PageOutOfRange, MagClash, TooManyPages, TooManyPlaces, TooLong}

-- the error is the refusal of this answer, or lack of memory
abbrev pub Refuses : {T : Type 0} → OpError → CopyAnswer T → Type 0
Refuses (errors.BadFile file cause) answer =
    IsSomeAnd (fault_of cause) (λ (fault : Fault). answer ≡ Err (BadFile file fault))
Refuses (errors.PageOutOfRange page) answer = answer ≡ Err (PageOutOfRange page)
Refuses (errors.MagClash file) answer = answer ≡ Err (MagClash file)
Refuses (errors.TooManyPages count) answer = answer ≡ Err (TooManyPages count)
Refuses (errors.TooManyPlaces count) answer = answer ≡ Err (TooManyPlaces count)
Refuses (errors.TooLong count) answer = answer ≡ Err (TooLong count)
Refuses errors.OutOfMemory answer = ⊤

-- the result is this answer, or lack of memory
abbrev pub IsAnswer : Result (List ℕ) OpError → CopyAnswer (List ℕ) → Type 0
IsAnswer (Ok bytes) answer = answer ≡ Ok bytes
IsAnswer (Err error) answer = Refuses error answer
