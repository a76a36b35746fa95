use Rattle.std.specs.Prelude.{Ok, Err, Some}
use Rattle.std.proofs.lemmas.Result.{err_from_is_err_and}
use Rattle.mt_dviread.specs.declared.file.Phase.TheVariants as phases
use Rattle.mt_dviread.proofs.OpenFiles.{early, steps}
use Rattle.mt_dviread.proofs.file.OpenFile.step.Goals as goal

pub returns-in_err-before_pre-in-BeforePre-clause-follows : goal.returns-in_err-before_pre-in-BeforePre-clause-follows
returns-in_err-before_pre-in-BeforePre-clause-follows c = λ file meant s is.
    let p = err_from_is_err_and c.from_residual.result c.from_residual.ensures.1 in
    rw (p.1, p.2) (steps c.args.fonts.now c.args.self.now c.before_pre.new.self phases.BeforePre (Err c.in_err-before_pre-in-BeforePre.field-0.0) file meant c.args.after.now s c.in-BeforePre.is (c.in_err-before_pre-in-BeforePre.ensures.goes c.args.fonts.now file meant s (early s.again (λ e. absurd (cc))) is))

pub returns-in_ok-deed-in-BetweenPages-clause-follows : goal.returns-in_ok-deed-in-BetweenPages-clause-follows
returns-in_ok-deed-in-BetweenPages-clause-follows c = λ file meant s is.
    steps c.args.fonts.now c.args.self.now c.between_pages.new.self phases.BetweenPages (Ok (Some c.in_ok-deed-in-BetweenPages.deed)) file meant c.args.after.now s c.in-BetweenPages.is (c.in_ok-deed-in-BetweenPages.ensures.does file meant s (early s.again (λ e. absurd (cc))) is)

pub returns-in_ok-deed-in-InPage-clause-follows : goal.returns-in_ok-deed-in-InPage-clause-follows
returns-in_ok-deed-in-InPage-clause-follows c = λ file meant s is.
    steps c.args.fonts.now c.args.self.now c.in_page.new.self phases.InPage (Ok (Some c.in_ok-deed-in-InPage.deed)) file meant c.args.after.now s c.in-InPage.is (c.in_ok-deed-in-InPage.ensures.does file meant s (early s.again (λ e. absurd (cc))) is)
