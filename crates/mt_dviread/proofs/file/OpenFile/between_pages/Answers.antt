use Rattle.std.proofs.Common.{FitsSigned, rules, w32, refl}
use Rattle.std.proofs.lemmas.Int.{to_z-of_z}
use Rattle.std.proofs.lemmas.Result.{err_from_is_err_and}
use Rattle.mt_dviread.proofs.file.OpenFile.between_pages.Goals as goal

pub returns-in_err-begin_page-in-Bop-clause-does : goal.returns-in_err-begin_page-in-Bop-clause-does
returns-in_err-begin_page-in-Bop-clause-does c = λ file meant s none is.
    let fits : FitsSigned w32 c.in-Bop.before = search rules in
    let before = to_z-of_z w32 c.in-Bop.before fits in
    let bop = rw c.in-Bop.is at is in
    let goes = c.in_err-begin_page-in-Bop.ensures.goes c.args.fonts.now file bop.0 s none in
    let p = err_from_is_err_and c.from_residual.result c.from_residual.ensures.1 in
    rw (p.1, p.2, bop.1) (rw before at goes)

pub returns-in_ok-begin_page-in-Bop-clause-does : goal.returns-in_ok-begin_page-in-Bop-clause-does
returns-in_ok-begin_page-in-Bop-clause-does c = λ file meant s none is.
    let fits : FitsSigned w32 c.in-Bop.before = search rules in
    let before = to_z-of_z w32 c.in-Bop.before fits in
    let bop = rw c.in-Bop.is at is in
    let goes = c.in_ok-begin_page-in-Bop.ensures.goes c.args.fonts.now file bop.0 s none in
    rw bop.1 (rw before at goes, refl)

pub returns-in_err-end_pages-in-Post-clause-does : goal.returns-in_err-end_pages-in-Post-clause-does
returns-in_err-end_pages-in-Post-clause-does c = λ file meant s none is.
    let post = rw c.in-Post.is at is in
    let p = err_from_is_err_and c.from_residual-in_err-end_pages-in-Post.result c.from_residual-in_err-end_pages-in-Post.ensures.1 in
    rw (p.1, p.2, post.2) (c.in_err-end_pages-in-Post.ensures.goes c.args.fonts.now file post.0 s post.1)

pub returns-in_ok-end_pages-in-Post-clause-does : goal.returns-in_ok-end_pages-in-Post-clause-does
returns-in_ok-end_pages-in-Post-clause-does c = λ file meant s none is.
    let post = rw c.in-Post.is at is in
    rw post.2 (c.in_ok-end_pages-in-Post.ensures.goes c.args.fonts.now file post.0 s post.1, refl)
