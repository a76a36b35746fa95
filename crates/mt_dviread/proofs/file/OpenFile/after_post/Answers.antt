use Rattle.std.proofs.lemmas.Result.{err_from_is_err_and}
use Rattle.mt_dviread.proofs.file.OpenFile.after_post.Goals as goal

pub returns-in_err-end-in-PostPost-clause-follows : goal.returns-in_err-end-in-PostPost-clause-follows
returns-in_err-end-in-PostPost-clause-follows c = λ file meant s is.
    let post = rw c.in-PostPost.is at is in
    let p = err_from_is_err_and c.from_residual.result c.from_residual.ensures.1 in
    rw (p.1, p.2, post) (c.in_err-end-in-PostPost.ensures c.args.fonts.now file s)

pub returns-in_ok-end-in-PostPost-clause-follows : goal.returns-in_ok-end-in-PostPost-clause-follows
returns-in_ok-end-in-PostPost-clause-follows c = λ file meant s is.
    let post = rw c.in-PostPost.is at is in
    rw post (c.in_ok-end-in-PostPost.ensures c.args.fonts.now file s)
