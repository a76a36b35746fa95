use Rattle.std.proofs.Common.{◌≡◌, ◌<◌, List, map, length, get_or, refl, sym, ap, subst, ◌∙◌, arith}
use Rattle.std.specs.Prelude.{Option, Some, IsSome}
use Rattle.std.proofs.lemmas.List.{get_or-map}
use Rattle.mt_plain.specs.declared.meaning.Meaning.{Meaning}
use Rattle.mt_plain.specs.Names.{NameRow, control, row_name}
use Rattle.mt_plain.proofs.names.meaning_name.Goals as goal

pub returns-in-Some : goal.returns-in-Some
returns-in-Some c =
    let rows = c.name_index.result.rows.now in
    let row = c.in-Some.row.now in
    let low : c.args.index < length rows = omega (arith, c.in-Some.ensures.lookup.3.0) in
    let found = λ (r : NameRow). control (row_name r) in
    let means = λ (r : NameRow). Some r.1 in
    let is : found row ≡ means row =
    ap found c.in-Some.ensures.lookup.1 ∙ (sym (get_or-map found rows c.args.index row (means row) low)
    ∙ (ap (λ (xs : List (Option Meaning)). get_or xs c.args.index (means row)) c.name_index.ensures.right
    ∙ (get_or-map means rows c.args.index row (means row) low ∙ ap means (sym c.in-Some.ensures.lookup.1)))) in
    subst (λ (o : Option Meaning). IsSome o) (sym (ap control c.row_name.ensures ∙ is)) refl
