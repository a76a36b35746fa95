-- A list that is made part by part: what is made next comes after what is there (`appended_to`).
use Rattle.std.specs.Prelude.{List, ◌++◌, Ok}
use Rattle.mt_rules.specs.Setting.{Setting, ◌>>=◌}

-- what is made, after what is there
abbrev pub appended_to : {A : Type 0} → List A → Setting (List A) → Setting (List A)
appended_to there setting = do
  more ← setting
  Ok (there ++ more)
