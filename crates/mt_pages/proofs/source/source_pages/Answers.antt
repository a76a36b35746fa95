use Rattle.std.proofs.Common.{List, ap, subst, sym, to_z-of_z, ◌∙◌, All, None, Ok, ◌≡◌}
use Rattle.mt_pages.proofs.Common.{Place, IsWritable}
use Rattle.mt_dvi.specs.Refusal.{refusal_of}
use Rattle.mt_pages.proofs.SetLemmas.{fit_none_refused}
use Rattle.mt_pages.proofs.source.source_pages.Goals as goal

pub returns-clause-is : goal.returns-clause-is
returns-clause-is c =
    let a = rw (to_z-of_z c.ranges.width) at c.in_ok-add_pages.ensures.is in
    a.is ∙ ap Ok (sym (c.from_vec.ensures ∙ a.has))

pub returns-clause-writable : goal.returns-clause-writable
returns-clause-writable c =
    let a = c.in_ok-add_pages.ensures.is in
    subst (λ (l : List (List Place)). All (λ (page : List Place). All (IsWritable c.args.fonts.now) page) l) (sym (c.from_vec.ensures ∙ a.has)) a.fit.writable

pub returns-clause-few_places : goal.returns-clause-few_places
returns-clause-few_places c =
    let a = c.in_ok-add_pages.ensures.is in
    subst (λ (l : List (List Place)). refusal_of l ≡ None) (sym (c.from_vec.ensures ∙ a.has)) (fit_none_refused c.args.fonts.now a.pages a.fit)
