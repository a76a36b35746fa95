use Rattle.std.proofs.Common.{◌≡◌, ◌∙◌, ap, map, refl, sym}
use Rattle.std.proofs.lemmas.Result.{err_from_is_err_and}
use Rattle.mt_scan.specs.Parts.{Fault, after_spaces}
use Rattle.mt_reader.specs.Assignments.{after_equals, delimiter_value}
use Rattle.mt_reader.proofs.assignments.assign_delcode.Goals as goal

pub returns-in_err-value-clause-is : goal.returns-in_err-value-clause-is
returns-in_err-value-clause-is g c =
    let token = g.K.Lexicon.token c.args.tables.now in
    let p = err_from_is_err_and c.from_residual-in_err-value.result c.from_residual-in_err-value.ensures.1 in
    let value : delimiter_value (after_equals (after_spaces (map token c.in_ok-character.character.rest.now))) ≡ Fault c.in_err-value.field-0.0.cause c.in_err-value.field-0.0.left =
    ap delimiter_value (sym (c.after_equals-code.ensures.is ∙ ap after_equals c.after_spaces.ensures.is)) ∙ c.in_err-value.ensures.is in
    rw (p.1, p.2, c.in_ok-character.ensures.is, value) refl
