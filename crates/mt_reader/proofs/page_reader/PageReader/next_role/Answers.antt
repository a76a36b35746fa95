use Rattle.std.proofs.lemmas.Result.{err_from_is_err_and}
use Rattle.mt_reader.proofs.page_reader.PageReader.next_role.Goals as goal

pub returns-in_err-has_word-clause-is : goal.returns-in_err-has_word-clause-is
returns-in_err-has_word-clause-is c =
    λ units tokens read i.
    let p = err_from_is_err_and c.from_residual.result c.from_residual.ensures.1 in
    rw (p.1, p.2) (c.in_err-has_word.ensures.is units tokens read i)
