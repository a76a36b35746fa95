use Rattle.std.proofs.Common.{sym, ap, ◌∙◌, subst}
use Rattle.std.specs.Prelude.{Some}
use Rattle.std.proofs.lemmas.Bool.Decides.{Decides-eqb}
use Rattle.std.proofs.lemmas.Slice.Eq.{slice_eq-Decides}
use Rattle.mt_lexicon.specs.declared.word.WordKind.{WordKind}
use Rattle.mt_lexicon.specs.Code.{IsName}
use Rattle.mt_lexicon.proofs.Naming.{named}
use Rattle.mt_tables.proofs.tables.is_word_of.Goals as goal

pub returns-in-Some : goal.returns-in-Some
returns-in-Some c =
    λ h.
    named c.args.names.now c.args.word.kind c.name_number.result c.args.name.now (subst (λ (k : WordKind). IsName k c.name_number.result) (sym c.in-Name.is) (sym c.name_number.ensures))
    (sym c.in-Some.ensures ∙ ap Some ((slice_eq-Decides Decides-eqb c.in-Some.known.now c.args.name.now c.eq.result c.eq.ensures).0 h))
