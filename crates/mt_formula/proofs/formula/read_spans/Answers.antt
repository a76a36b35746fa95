use Rattle.std.proofs.Common.{◌+◌, ◌*◌, ◌≤◌, length, map, subst, sym}
use Rattle.std.proofs.lemmas.List.{length-map}
use Rattle.mt_macro.specs.Limits.{max_tokens}
use Rattle.mt_arena.specs.Formulas.{formula_in}
use Rattle.mt_formula.specs.Answers.{IsFault}
use Rattle.mt_formula.specs.Counts.{body_rows, formula_items}
use Rattle.mt_formula.specs.Formulas.{reading_of}
use Rattle.mt_formula.specs.Rules.{item_run, formula}
use Rattle.mt_formula.specs.turns.Settling.{formula_answered}
use Rattle.mt_formula.proofs.FormulaReading.{formula_reads, formula_fails, formula_bound, formula_rows}
use Rattle.mt_formula.proofs.Nesting.{formula_modest}
use Rattle.mt_formula.proofs.Tagging.{formula_tagged}
use Rattle.mt_formula.proofs.formula.read_spans.Goals as goal

pub returns-in-Ok-clause-is : goal.returns-in-Ok-clause-is
returns-in-Ok-clause-is g c =
    let codes = g.R.Roles.codes c.args.roles.now in
    let tokens = map (g.R.Lexicon.token c.args.roles.now) c.args.list.now in
    formula_reads codes c.args.units c.args.display tokens (formula_in c.formula_parts.new.arena.closed c.in-Ok.formula) c.in-Ok.ensures.is.1.0 c.in-Ok.ensures.is.1.1

pub returns-in-Ok-clause-items : goal.returns-in-Ok-clause-items
returns-in-Ok-clause-items g c =
    let codes = g.R.Roles.codes c.args.roles.now in
    let tokens = map (g.R.Lexicon.token c.args.roles.now) c.args.list.now in
    let f = formula_in c.formula_parts.new.arena.closed c.in-Ok.formula in
    subst (λ n. formula_items f ≤ 4 * n + 8) (length-map c.args.list.now (g.R.Lexicon.token c.args.roles.now))
    (formula_bound codes c.args.units c.args.display tokens f (formula_reads codes c.args.units c.args.display tokens f c.in-Ok.ensures.is.1.0 c.in-Ok.ensures.is.1.1))

pub returns-in-Ok-clause-rows : goal.returns-in-Ok-clause-rows
returns-in-Ok-clause-rows g c =
    let codes = g.R.Roles.codes c.args.roles.now in
    let tokens = map (g.R.Lexicon.token c.args.roles.now) c.args.list.now in
    let f = formula_in c.formula_parts.new.arena.closed c.in-Ok.formula in
    subst (λ n. body_rows f.0 ≤ n) (length-map c.args.list.now (g.R.Lexicon.token c.args.roles.now))
    (formula_rows codes c.args.units c.args.display tokens f (formula_reads codes c.args.units c.args.display tokens f c.in-Ok.ensures.is.1.0 c.in-Ok.ensures.is.1.1))

pub returns-in-Ok-clause-modest : goal.returns-in-Ok-clause-modest
returns-in-Ok-clause-modest g c h =
    let codes = g.R.Roles.codes c.args.roles.now in
    let tokens = map (g.R.Lexicon.token c.args.roles.now) c.args.list.now in
    let f = formula_in c.formula_parts.new.arena.closed c.in-Ok.formula in
    formula_modest codes c.args.units c.args.display tokens f (formula_reads codes c.args.units c.args.display tokens f c.in-Ok.ensures.is.1.0 c.in-Ok.ensures.is.1.1)
    (subst (λ n. n ≤ max_tokens) (sym (length-map c.args.list.now (g.R.Lexicon.token c.args.roles.now))) h)

pub returns-in-Ok-clause-tags : goal.returns-in-Ok-clause-tags
returns-in-Ok-clause-tags g c =
    let codes = g.R.Roles.codes c.args.roles.now in
    let tokens = map (g.R.Lexicon.token c.args.roles.now) c.args.list.now in
    let f = formula_in c.formula_parts.new.arena.closed c.in-Ok.formula in
    formula_tagged codes c.args.units c.args.display tokens f.0 f.1 (formula_reads codes c.args.units c.args.display tokens f c.in-Ok.ensures.is.1.0 c.in-Ok.ensures.is.1.1)

pub returns-in-Err-clause-is : goal.returns-in-Err-clause-is
returns-in-Err-clause-is g c =
    let codes = g.R.Roles.codes c.args.roles.now in
    let tokens = map (g.R.Lexicon.token c.args.roles.now) c.args.list.now in
    let read = formula codes c.args.units (item_run codes c.args.units (length tokens + 1)) c.args.display tokens in
    let answered = formula_answered codes c.args.units c.args.display tokens in
    subst (λ n. IsFault c.error_of.result (reading_of n read answered)) (sym (length-map c.args.list.now (g.R.Lexicon.token c.args.roles.now)))
    (c.error_of.ensures read answered (formula_fails codes c.args.units c.args.display tokens c.in-Err.stop c.in-Err.ensures.is))
