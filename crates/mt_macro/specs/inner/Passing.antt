-- Tokens that name no macro.
use Rattle.std.specs.Prelude.{◌≡◌, ℕ, ◌<◌, List, [], ◌∷◌, ◌++◌, length, map, Option, Some, None}
use Rattle.mt_token.specs.declared.token.Token.{Token}
use Rattle.mt_macro.specs.Naming.{IsMacro}
use Rattle.mt_macro.specs.Table.{Table, macro_at}
use Rattle.mt_macro.specs.Origins.{put_as}
use Rattle.mt_macro.specs.PlacedExpansion.{Placing}
use Rattle.mt_macro.specs.declared.bodies.Found.{Found}
use Rattle.mt_macro.specs.declared.passing.NextMacro.{NextMacro}
use Rattle.mt_macro.specs.declared.passing.PlainFront.{PlainFront}
use Rattle.mt_macro.specs.declared.run.Run.{Run}
use Rattle.mt_macro.specs.declared.stack.Rest.{Rest}
use Rattle.mt_macro.specs.inner.Runs.{Sources, left_of, AreLeft}

-- tokens that name no macro
abbrev pub Plain : Table → List Token → Type 0
Plain table [] = Unit {0}
Plain table (t ∷ ts) = (macro_at table t ≡ None) × Plain table ts

-- tokens that begin with this macro, or no tokens
abbrev pub StopsAt : Table → (ℕ → List Token) → List Token → Option Found → Type 0
StopsAt table body ts None = ts ≡ []
StopsAt table body [] (Some found) = ⊥
StopsAt table body (t ∷ ts) (Some found) = IsMacro (macro_at table t) found.params (body found.body)

-- the tokens before the first macro are put at the end
pub record PushesPlain (table : Table) (body : ℕ → List Token) (tokens : List Token) (front : PlainFront) (out out' : List Token) : Type 0 where
  pub pushed : List Token
  pub behind : List Token
  pub plain : Plain table pushed
  pub is : out' ≡ out ++ pushed
  pub cut : tokens ≡ pushed ++ behind
  pub size : front.count ≡ length pushed
  pub stops : StopsAt table body behind front.stop

-- the first tokens name no macro, and are put at the end
pub record PassesPlain (table : Table) (before after out out' : List Token) : Type 0 where
  pub passed : List Token
  pub plain : Plain table passed
  pub left : before ≡ passed ++ after
  pub is : out' ≡ out ++ passed

-- the tokens before the next macro are put at the end, and those after it are left; its body, where the token of the list
-- with an index calls it, is put as the macro says
pub record PassesTo (table : Table) (placed : Placing) (body : ℕ → List Token) (src : Sources) (parts : List Run) (before after : Rest) (out out' : List Token) (found : Found) (call : ℕ) (first : Token) : Type 0 where
  pub passes : PassesPlain table (left_of src parts before) (first ∷ left_of src parts after) out out'
  pub is : IsMacro (macro_at table first) found.params (body found.body)
  pub below : AreLeft src parts after
  pub within : call < length src.list
  pub called : (number : ℕ) → src.body (record { number = number; call = call }) ≡ map (placed first) (body number)

-- the same where there is a macro; where there is none, all tokens are put at the end
abbrev pub TakesMacro : {T : Type 0} → (T → Token) → Table → Placing → (ℕ → List Token) → Sources → List Run → Rest → Rest → List Token → List Token → Option (NextMacro T) → Type 0
TakesMacro token table placed body src parts before after out out' None = PassesPlain table (left_of src parts before) [] out out'
TakesMacro token table placed body src parts before after out out' (Some next) =
    PassesTo table placed body src parts before after out out' next.found next.call (put_as token placed next.origin next.item.now)
