-- What small command lines ask for.
use Rattle.std.proofs.Common.{◌≡◌, [], ◌∷◌, refl, codes}
use Rattle.std.specs.Prelude.{pos, Some, None, decimal}
use Rattle.std.specs.Fmt.{digits}
use Rattle.clap.proofs.OnLiterals.{clap_on_literals}
use Rattle.mt_words.specs.Limits.{default_line, default_line_word}
use Rattle.mt_words.specs.Request.{request_of}
use Rattle.mt_words.specs.declared.request.Request.TheVariants.{Join, Pick, Read, Set}

-- the two forms of the width by default agree
word_of_line : decimal default_line ≡ default_line_word
unfolding digits
word_of_line = refl

case_1 : request_of (codes "mathset" ∷ codes "set" ∷ codes "F" ∷ codes "S" ∷ []) ≡ Some (Set (record { fonts = codes "F"; source = codes "S"; line = pos 30785863 }))
unfolding clap_on_literals
case_1 = refl

case_2 : request_of (codes "mathset" ∷ codes "set" ∷ codes "F" ∷ codes "S" ∷ codes "--line" ∷ codes "0" ∷ []) ≡ None
unfolding clap_on_literals
case_2 = refl

case_3 : request_of (codes "mathset" ∷ codes "read" ∷ codes "F" ∷ codes "D" ∷ codes "--line" ∷ codes "5" ∷ []) ≡ None
unfolding clap_on_literals
case_3 = refl

-- a name may be the empty word, and a number may not
case_4 : request_of (codes "mathset" ∷ codes "read" ∷ [] ∷ codes "--" ∷ codes "-D" ∷ []) ≡ Some (Read (record { fonts = []; dvi = codes "-D" }))
unfolding clap_on_literals
case_4 = refl

case_5 : request_of (codes "mathset" ∷ codes "set" ∷ codes "F" ∷ codes "S" ∷ codes "--line" ∷ [] ∷ []) ≡ None
unfolding clap_on_literals
case_5 = refl

case_6 : request_of (codes "mathset" ∷ codes "set" ∷ codes "F" ∷ codes "--line" ∷ codes "+07" ∷ codes "S" ∷ []) ≡ Some (Set (record { fonts = codes "F"; source = codes "S"; line = pos 7 }))
unfolding clap_on_literals
case_6 = refl

case_7 : request_of (codes "mathset" ∷ codes "gen" ∷ codes "1" ∷ codes "20001" ∷ []) ≡ None
unfolding clap_on_literals
case_7 = refl

case_8 : request_of (codes "mathset" ∷ codes "pick" ∷ codes "F" ∷ codes "D" ∷ codes "9-7" ∷ codes "2" ∷ [])
    ≡ Some (Pick (record { fonts = codes "F"; dvi = codes "D"; pages = 9 ∷ 8 ∷ 7 ∷ 2 ∷ [] }))
unfolding clap_on_literals
case_8 = refl

case_9 : request_of (codes "mathset" ∷ codes "pick" ∷ codes "F" ∷ codes "D" ∷ codes "1-65536" ∷ []) ≡ None
unfolding clap_on_literals
case_9 = refl

case_10 : request_of (codes "mathset" ∷ codes "join" ∷ codes "F" ∷ codes "D" ∷ codes "E" ∷ []) ≡ Some (Join (record { fonts = codes "F"; files = codes "D" ∷ codes "E" ∷ [] }))
unfolding clap_on_literals
case_10 = refl

case_11 : request_of (codes "mathset" ∷ codes "join" ∷ codes "F" ∷ codes "D" ∷ codes "--line" ∷ codes "30785863" ∷ []) ≡ None
unfolding clap_on_literals
case_11 = refl
