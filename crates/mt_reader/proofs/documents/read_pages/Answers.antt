use Rattle.std.proofs.Common.{◌≡◌, ◌++◌, ◌∷◌, [], List, ap, subst, sym, arith, ◌∙◌}
use Rattle.std.specs.Prelude.{Ok}
use Rattle.std.proofs.lemmas.Result.{err_from_is_err_and}
use Rattle.mt_rules.specs.declared.document.Formula.{Formula}
use Rattle.mt_reader.specs.PageReading.{IsReadOf}
use Rattle.mt_reader.specs.Weights.{pages_weight}
use Rattle.mt_reader.proofs.SourceDocuments.{weight_more}
use Rattle.mt_reader.proofs.documents.read_pages.Goals as goal

pub returns-in_err-page-clause-is : goal.returns-in_err-page-clause-is
returns-in_err-page-clause-is c = λ tokens read.
    let p = err_from_is_err_and c.from_residual.result c.from_residual.ensures.1 in
    rw (p.1, p.2) (c.in_err-page.ensures.is tokens c.loop-pages.pages.items (c.loop-pages.invariant.is tokens read))

pub returns-in_err-page-clause-fault : goal.returns-in_err-page-clause-fault
returns-in_err-page-clause-fault c = λ cause e.
    let p = err_from_is_err_and c.from_residual.result c.from_residual.ensures.1 in
    rw (p.1, p.2) (c.in_err-page.ensures.fault cause (c.loop-pages.invariant.fault cause e))

pub returns-clause-is : goal.returns-clause-is
returns-clause-is c = λ tokens read.
    (rw c.in_default.is at c.in_ok-page.ensures.is tokens c.loop-pages.pages.items (c.loop-pages.invariant.is tokens read)).0 ∙ ap Ok (sym c.from_vec.ensures)

pub returns-clause-fault : goal.returns-clause-fault
returns-clause-fault c = λ cause e.
    rw c.in_default.is at c.in_ok-page.ensures.fault cause (c.loop-pages.invariant.fault cause e)

pub loop-pages-preserved : goal.loop-pages-preserved
loop-pages-preserved c =
    let h = c.loop-pages.invariant in
    let bounded = rw c.in-Some.is at c.in_ok-page.ensures.more in
    let pushed : c.push_page.new.pages.items ≡ c.loop-pages.pages.items ++ c.in-Some.page ∷ [] =
    c.in_ok-push_page.ensures ∙ ap (λ (page : List Formula). c.loop-pages.pages.items ++ page ∷ []) c.in_ok-to_page.ensures in
    record {
      is = λ tokens read.
          subst (λ (pages : List (List Formula)). IsReadOf c.args.units tokens pages c.next_page.new.self) (sym pushed)
          (rw c.in-Some.is at c.in_ok-page.ensures.is tokens c.loop-pages.pages.items (h.is tokens read));
      fault = λ cause e. rw c.in-Some.is at c.in_ok-page.ensures.fault cause (h.fault cause e);
      more = bounded.more;
      weight = omega (arith, ap pages_weight pushed, weight_more c.loop-pages.pages.items c.in-Some.page, bounded.weight, h.weight);
    }
