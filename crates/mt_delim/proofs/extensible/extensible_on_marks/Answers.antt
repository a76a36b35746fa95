use Rattle.std.proofs.Common.{◌∙◌, ◌≡◌, sym, ap, FitsSigned, rules, w64, to_z, of_z, to_z-of_z, Err}
use Rattle.mt_rules.specs.Setting.{Overflow}
use Rattle.mt_box.specs.marks.Layers.{top}
use Rattle.mt_delim.specs.inner.Runs.{glyphs_of}
use Rattle.mt_delim.proofs.Pieces.{pieces_there}
use Rattle.mt_delim.proofs.Extended.{fails, extensible_made, not_too_tall}
use Rattle.mt_delim.proofs.extensible.extensible_on_marks.Goals as goal

pub first_glyph_out-requires : goal.first_glyph_out-requires
first_glyph_out-requires c = rw (c.runs_of-runs.ensures.is) (pieces_there c.args.font.now c.args.recipe c.repeats-n.result c.requires.pieces)

pub runs_on_marks-requires-clause-there : goal.runs_on_marks-requires-clause-there
runs_on_marks-requires-clause-there c = rw (c.runs_of-runs.ensures.is) (pieces_there c.args.font.now c.args.recipe c.repeats-n.result c.requires.pieces)

pub returns-in-Some-clause-is : goal.returns-in-Some-clause-is
returns-in-Some-clause-is c =
    let fits : FitsSigned w64 c.in-Some.value = search rules in
    let same : to_z w64 (of_z w64 c.in-Some.value) ≡ c.in-Some.value = to_z-of_z fits in
    fails c.args.number c.args.font.now c.args.recipe c.args.wanted.sp c.repeats-n.result (glyphs_of c.runs_of-runs.result) (Overflow c.in-Some.value) c.repeats-n.ensures c.if-n-gt-MAX_REPEATS.false c.runs_of-runs.ensures.is c.in-Some.ensures
    ∙ ap (λ v. Err (Overflow v)) (sym same)

pub returns-in-Some-clause-too_tall : goal.returns-in-Some-clause-too_tall
returns-in-Some-clause-too_tall c = λ n tall. absurd (not_too_tall c.args.number c.args.font.now c.args.recipe c.args.wanted.sp c.repeats-n.result n c.repeats-n.ensures c.if-n-gt-MAX_REPEATS.false tall)

pub returns-clause-is : goal.returns-clause-is
returns-clause-is c =
    extensible_made c.args.number c.args.font.now c.args.recipe c.args.wanted.sp c.repeats-n.result (glyphs_of c.runs_of-runs.result) c.width_with_italic.result.sp c.runs_on_marks.result (top c.runs_on_marks.new.marks) c.repeats-n.ensures c.if-n-gt-MAX_REPEATS.false c.runs_of-runs.ensures.is
    c.in_default.ensures c.width_with_italic.ensures.is c.runs_on_marks.ensures.is

pub returns-clause-too_tall : goal.returns-clause-too_tall
returns-clause-too_tall c = λ n tall. absurd (not_too_tall c.args.number c.args.font.now c.args.recipe c.args.wanted.sp c.repeats-n.result n c.repeats-n.ensures c.if-n-gt-MAX_REPEATS.false tall)
