-- The tokens of runs.
use Rattle.std.specs.Prelude.{◌≡◌, ℕ, ◌+◌, ◌-◌, ◌<◌, ◌≤◌, ◌^◌, Bool, true, false, List, [], ◌∷◌, ◌++◌, length, take, drop, map, get_or, Option, Some, None}
use Rattle.std.specs.Option.{option_map}
use Rattle.mt_token.specs.declared.token.Token.{Token}
use Rattle.mt_macro.specs.Braces.{Taken}
use Rattle.mt_macro.specs.Arguments.{Arguments}
use Rattle.mt_macro.specs.PlacedExpansion.{Placing}
use Rattle.mt_macro.specs.declared.run.Called.{Called}
use Rattle.mt_macro.specs.declared.run.Run.{Run}
use Rattle.mt_macro.specs.declared.run.Place.{Place}
use Rattle.mt_macro.specs.declared.run.Place.TheVariants.{Given, Body, Argument, Remainder}
use Rattle.mt_macro.specs.declared.stack.Rest.{Rest}
use Rattle.mt_macro.specs.declared.stack.Single.{Single}
use Rattle.mt_macro.specs.inner.Ends.{end_index, joined}
use Rattle.mt_macro.specs.declared.closing.Closing.{Closing}
use Rattle.mt_macro.specs.declared.closing.Closing.TheVariants.{At, Open}
use Rattle.mt_macro.specs.inner.Closings.{Closes}
use Rattle.mt_macro.specs.inner.Lengths.{run_len, IsBasic, IsWhole}

-- the list that is given, and the bodies that macros of it call
pub record Sources : Type 0 where
  pub list : List Token
  pub body : Called → List Token

-- a body as it is put where the token of the list with an index calls it
abbrev pub called_body : Placing → List Token → (ℕ → List Token) → Called → List Token
called_body placed list body c = map (λ (t : Token). placed (get_or list c.call t) t) (body c.number)

abbrev pub sources : {T : Type 0} → (T → Token) → Placing → (ℕ → List Token) → List T → Sources
sources token placed body list = record { list = map token list; body = called_body placed (map token list) body }

-- what an item of a place is read as
abbrev pub read_at : {T : Type 0} → (T → Token) → Placing → List T → Place → T → Token
read_at token placed list Given = token
read_at token placed list (Body c) = λ x. placed (get_or (map token list) c.call (token x)) (token x)
read_at token placed list (Argument count) = token
read_at token placed list (Remainder count) = token

-- a part of a list, by the index of its first item and the index past its last one
abbrev pub part : {A : Type 0} → ℕ → ℕ → List A → List A
part start end xs = take (end - start) (drop start xs)

-- the tokens of a run, by those of the parts of arguments
abbrev pub tokens_at : Sources → List (List Token) → Place → ℕ → ℕ → List Token
tokens_at src ms Given start end = part start end src.list
tokens_at src ms (Body n) start end = part start end (src.body n)
tokens_at src ms (Argument count) start end = joined (part start end ms)
tokens_at src ms (Remainder count) start end = joined (part start end ms)

abbrev pub run_tokens : Sources → List (List Token) → Run → List Token
run_tokens src ms r = tokens_at src ms r.place r.start r.end

-- the tokens of parts, each of which may have some of those before it, behind tokens of earlier parts
abbrev pub meanings_from : Sources → List (List Token) → List Run → List (List Token)
meanings_from src ms [] = ms
meanings_from src ms (r ∷ rs) = meanings_from src (ms ++ run_tokens src ms r ∷ []) rs

abbrev pub meanings : Sources → List Run → List (List Token)
meanings src parts = meanings_from src [] parts

-- tokens whose braces have their partners among them: the group in which they are goes on after them as before them
abbrev pub IsBalanced : List Token → Type 0
IsBalanced xs =
    (level : ℕ) (more : List Token) → end_index level (xs ++ more) ≡ option_map (λ (p : ℕ). p + length xs) (end_index level more)

abbrev pub IsRunAt : Sources → List (List Token) → Place → ℕ → ℕ → Type 0
IsRunAt src ms Given start end = (start < end) × (end ≤ length src.list)
IsRunAt src ms (Body c) start end = (start < end) × (end ≤ length (src.body c)) × (c.call < length src.list)
IsRunAt src ms (Argument count) start end =
    (start < end) × (end ≤ length ms) × (count ≡ length (joined (part start end ms))) × (0 < count)
    × IsBalanced (joined (part start end ms))
IsRunAt src ms (Remainder count) start end = (start < end) × (end ≤ length ms) × (count ≡ length (joined (part start end ms)))

-- a run that is not empty, and of which the items are there
abbrev pub IsRun : Sources → List (List Token) → Run → Type 0
IsRun src ms r = IsRunAt src ms r.place r.start r.end

-- runs behind those of which these are the tokens
abbrev pub AreParts : Sources → List (List Token) → List Run → Type 0
AreParts src ms [] = Unit {0}
AreParts src ms (r ∷ rs) = IsRun src ms r × IsWhole r.place × AreParts src (ms ++ run_tokens src ms r ∷ []) rs

abbrev pub AreRuns : Sources → List (List Token) → List Run → Type 0
AreRuns src ms [] = Unit {0}
AreRuns src ms (r ∷ rs) = IsRun src ms r × AreRuns src ms rs

-- the tokens of a stack of runs, of which the last one comes first
abbrev pub left : Sources → List (List Token) → List Run → List Token
left src ms [] = []
left src ms (r ∷ rs) = left src ms rs ++ run_tokens src ms r

abbrev pub left_of : Sources → List Run → Rest → List Token
left_of src parts rest = left src (meanings src parts) rest.runs.items

-- parts, and a stack of runs that may have some of them, with the number of its tokens
pub record AreLeft (src : Sources) (parts : List Run) (rest : Rest) : Type 0 where
  pub parts_are : AreParts src [] parts
  pub runs : AreRuns src (meanings src parts) rest.runs.items
  pub counted : rest.count ≡ length (left_of src parts rest)

-- a run in place of another one, and a stack with what is left of that on it
pub record Opens (src : Sources) (parts before after : List Run) (run first : Run) : Type 0 where
  pub runs : AreRuns src (meanings src parts) after
  pub known : IsRun src (meanings src parts) first
  pub whole : IsWhole first.place
  pub fits : run_len first ≤ run_len run
  pub is : run_tokens src (meanings src parts) run ++ left src (meanings src parts) before
      ≡ run_tokens src (meanings src parts) first ++ left src (meanings src parts) after

-- the run on top, and the stack below it
pub record GivesRun (src : Sources) (parts : List Run) (before after : Rest) (run : Run) : Type 0 where
  pub below : AreLeft src parts after
  pub known : IsRun src (meanings src parts) run
  pub whole : IsWhole run.place
  pub is : left_of src parts before ≡ run_tokens src (meanings src parts) run ++ left_of src parts after

-- that run, or the end
abbrev pub Gives : Sources → List Run → Rest → Rest → Option Run → Type 0
Gives src parts before after None = left_of src parts before ≡ []
Gives src parts before after (Some run) = GivesRun src parts before after run

-- the same of a run of items of the list given or of a body
abbrev pub GivesBasic : Sources → List Run → Rest → Rest → Option Run → Type 0
GivesBasic src parts before after None = left_of src parts before ≡ []
GivesBasic src parts before after (Some run) = GivesRun src parts before after run × IsBasic run.place

-- the first token, with a run of it alone, and the stack below it
pub record GivesToken (src : Sources) (parts : List Run) (before after : Rest) (t : Token) (run : Run) : Type 0 where
  pub below : AreLeft src parts after
  pub known : IsRun src (meanings src parts) run
  pub whole : IsWhole run.place
  pub alone : run_tokens src (meanings src parts) run ≡ t ∷ []
  pub is : left_of src parts before ≡ t ∷ left_of src parts after

abbrev pub GivesTokenIf : {T : Type 0} → (Place → T → Token) → Sources → List Run → Rest → Rest → Option (Single T) → Type 0
GivesTokenIf read src parts before after None = left_of src parts before ≡ []
GivesTokenIf read src parts before after (Some s) = GivesToken src parts before after (read s.run.place s.item.now) s.run

-- an argument that is given to a body: it may be empty
pub record IsGiven (src : Sources) (ms : List (List Token)) (r : Run) : Type 0 where
  pub count : run_len r ≡ length (run_tokens src ms r)
  pub stays : (more : List (List Token)) → run_tokens src (ms ++ more) r ≡ run_tokens src ms r
  pub there : 0 < run_len r → IsRun src ms r × IsWhole r.place

abbrev pub AreGiven : Sources → List (List Token) → List Run → Type 0
AreGiven src ms [] = Unit {0}
AreGiven src ms (r ∷ rs) = IsGiven src ms r × AreGiven src ms rs

-- runs that are put behind parts
abbrev pub Extends : List Run → List Run → Type 0
Extends old new = (more : List Run) × (new ≡ old ++ more)

-- what is taken of the tokens that are left is this argument
pub record Gains (src : Sources) (parts parts' : List Run) (rest rest' : Rest) (expected : Option Taken) (r : Run) : Type 0 where
  pub extends : Extends parts parts'
  pub below : AreLeft src parts' rest'
  pub given : IsGiven src (meanings src parts') r
  pub is : expected ≡ Some (record { argument = run_tokens src (meanings src parts') r; after = left_of src parts' rest' })
  pub falls : length (left_of src parts' rest') ≤ length (left_of src parts rest)
  pub short : run_len r ≤ length (left_of src parts rest)

abbrev pub TakesRun : Sources → List Run → List Run → Rest → Rest → Option Taken → Option Run → Type 0
TakesRun src parts parts' rest rest' expected None = expected ≡ None
TakesRun src parts parts' rest rest' expected (Some r) = Gains src parts parts' rest rest' expected r

-- where a run leaves the group in which it is
abbrev pub ClosesRun : Sources → List (List Token) → ℕ → Run → Closing → Type 0
ClosesRun src ms level r (At index) = IsBasic r.place × Closes level (run_tokens src ms r) (At index)
ClosesRun src ms level r (Open next) = Closes level (run_tokens src ms r) (Open next)

-- parts with these tokens put behind others
pub record PushesAll (src : Sources) (old new : List Run) (tokens : List Token) : Type 0 where
  pub extends : Extends old new
  pub parts_are : AreParts src [] new
  pub is : (first : ℕ) → first ≤ length old → joined (drop first (meanings src new)) ≡ joined (drop first (meanings src old)) ++ tokens
  pub stays : (rest : Rest) → AreLeft src old rest → AreLeft src new rest × (left_of src new rest ≡ left_of src old rest)
  pub knows : (r : Run) → IsRun src (meanings src old) r → IsRun src (meanings src new) r × (run_tokens src (meanings src new) r ≡ run_tokens src (meanings src old) r)

-- a run put behind parts
abbrev pub Pushes : Sources → List Run → List Run → Run → Type 0
Pushes src old new r = PushesAll src old new (run_tokens src (meanings src old) r)

-- the tokens of arguments
abbrev pub all_tokens : Sources → List (List Token) → List Run → List (List Token)
all_tokens src ms rs = map (run_tokens src ms) rs

-- an argument that is short enough for the tokens of a filled body to be counted
abbrev pub IsShortRun : Run → Type 0
IsShortRun r = run_len r < 2 ^ 31

abbrev pub AreShort : List Run → Type 0
AreShort [] = Unit {0}
AreShort (r ∷ rs) = IsShortRun r × AreShort rs

-- the same of all arguments
pub record GainsAll (src : Sources) (parts parts' : List Run) (rest rest' : Rest) (expected : Option Arguments) (rs : List Run) : Type 0 where
  pub below : AreLeft src parts' rest'
  pub given : AreGiven src (meanings src parts') rs
  pub short : AreShort rs
  pub is : expected ≡ Some (record { arguments = all_tokens src (meanings src parts') rs; after = left_of src parts' rest' })
  pub falls : length (left_of src parts' rest') ≤ length (left_of src parts rest)

abbrev pub TakesRuns : Sources → List Run → List Run → Rest → Rest → Option Arguments → List Run → Bool → Type 0
TakesRuns src parts parts' rest rest' expected rs false = expected ≡ None
TakesRuns src parts parts' rest rest' expected rs true = GainsAll src parts parts' rest rest' expected rs

-- the tokens of the list given or of a body
abbrev pub place_tokens : Sources → Place → List Token
place_tokens src Given = src.list
place_tokens src (Body n) = src.body n
place_tokens src (Argument count) = []
place_tokens src (Remainder count) = []

-- runs of items of the list given and of bodies
abbrev pub AreBasicRuns : Sources → List Run → Type 0
AreBasicRuns src [] = Unit {0}
AreBasicRuns src (r ∷ rs) = IsRun src [] r × IsBasic r.place × AreBasicRuns src rs

-- ends that are known from the first item of a run on
abbrev pub ends_at : List ℕ → Place → ℕ → List ℕ
ends_at ends Given start = drop start ends
ends_at ends (Body n) start = []
ends_at ends (Argument count) start = []
ends_at ends (Remainder count) start = []

abbrev pub IsEndsOf : List ℕ → Run → List ℕ → Type 0
IsEndsOf ends r known = known ≡ ends_at ends r.place r.start

-- the call of a body is in the list that is given
abbrev pub IsCallIn : {T : Type 0} → List T → Place → Type 0
IsCallIn list Given = Unit {0}
IsCallIn list (Body c) = c.call < length list
IsCallIn list (Argument count) = Unit {0}
IsCallIn list (Remainder count) = Unit {0}

-- the call of a macro at an index of a place
abbrev pub call_at : Place → ℕ → ℕ
call_at Given index = index
call_at (Body c) index = c.call
call_at (Argument count) index = index
call_at (Remainder count) index = index
