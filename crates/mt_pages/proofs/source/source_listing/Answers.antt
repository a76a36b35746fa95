use Rattle.std.proofs.Common.{List, ◌∙◌, ap, sym, to_z-of_z, Result, Ok}
use Rattle.mt_pages.proofs.Common.{err_from_is_err_and, ◌>>=◌, Place, listing, source_pages, pure_err, Status}
use Rattle.mt_pages.proofs.source.source_listing.Goals as goal

pub returns-in_err-add_pages-clause-is : goal.returns-in_err-add_pages-clause-is
returns-in_err-add_pages-clause-is c =
    let p = err_from_is_err_and c.from_residual.result c.from_residual.ensures.1 in
    rw (p.1, p.2) (pure_err (source_pages c.args.fonts.now c.args.width c.args.source.now) (λ (p : List (List Place)). Ok (listing p)) _ (rw (to_z-of_z c.ranges.width) at c.in_err-add_pages.ensures.is))

pub returns-clause-is : goal.returns-clause-is
returns-clause-is c =
    let a = rw (to_z-of_z c.ranges.width) at c.in_ok-add_pages.ensures.is in
    ap (λ (r : Result (List (List Place)) Status). r >>= (λ (p : List (List Place)). Ok (listing p))) a.is
    ∙ ap Ok (sym (c.in_ok-finish.ensures a.pages a.has))
