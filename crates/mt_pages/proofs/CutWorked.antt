-- A source that is cut, so that there is one: an empty page, and nothing behind it.
use Rattle.std.proofs.Common.{[], ◌∷◌, refl, arith}
use Rattle.std.specs.Prelude.{codes}
use Rattle.mt_scaled.specs.declared.unit.Units.{Units}
use Rattle.mt_token.specs.declared.token.TokenKind.TheVariants.{Control}
use Rattle.mt_token.specs.Tokens.{Spanned}
use Rattle.mt_plain.specs.CodeTables.{plain_codes}
use Rattle.mt_reader.specs.Cuts.{after_from}
use Rattle.mt_reader.specs.Documents.{start_state}
use Rattle.mt_reader.specs.Sources.{plain_words, word_token}
use Rattle.mt_pages.specs.Cuts.{IsCut}

abbrev eject_token : Spanned
eject_token = record { kind = Control (codes "eject"); start = 0; end = 6 }

abbrev par_token : Spanned
par_token = record { kind = Control (codes "par"); start = 0; end = 1 }

-- the line `\eject`, and an empty line in front of the rest
pub cut_of_no_formula : (units : Units) → IsCut units (92 ∷ codes "eject") [] []
unfolding after_from
cut_of_no_formula units = record {
  of_lines = eject_token ∷ [];
  of_front = par_token ∷ [];
  of_rest = [];
  lines_are = refl;
  front_are = refl;
  rest_are = refl;
  whole_length = omega arith;
  first_length = omega arith;
  second_length = omega arith;
  before = [];
  eject = word_token eject_token;
  after = start_state plain_codes plain_words;
  ends = refl;
  is_eject = refl;
  reads = refl;
  defined = [];
  par = word_token par_token;
  in_front = refl;
  is_par = refl;
  leaves = refl;
}
