use Rattle.std.proofs.Common.{refl, arith}
use Rattle.std.proofs.lemmas.Result.{err_from_is_err_and}
use Rattle.mt_dvi.specs.Fonts.{first_definition}
use Rattle.mt_dviread.proofs.OpenFiles.{in_page_other, other_deed, selection_goes}
use Rattle.mt_dviread.proofs.file.OpenFile.in_page.Goals as goal

pub returns-in_err-end_page-in-Eop-clause-does : goal.returns-in_err-end_page-in-Eop-clause-does
returns-in_err-end_page-in-Eop-clause-does c = λ file meant s none is.
    let eop = rw c.in-Eop.is at is in
    let p = err_from_is_err_and c.from_residual.result c.from_residual.ensures.1 in
    rw (p.1, p.2, eop) (c.in_err-end_page-in-Eop.ensures.goes c.args.fonts.now file s none)

pub returns-in_err-perform-in-Select-clause-does : goal.returns-in_err-perform-in-Select-clause-does
returns-in_err-perform-in-Select-clause-does c = λ file meant s none is.
    let select = rw c.in-Select.is at is in
    let fills = c.in_err-perform-in-Select.ensures.fills file meant s none is in
    let refused = rw select at fills in
    let p = err_from_is_err_and c.from_residual-in_err-perform-in-Select.result c.from_residual-in_err-perform-in-Select.ensures.1 in
    rw (p.1, p.2, select) refused

pub returns-in_ok-perform-in-Select-clause-does : goal.returns-in_ok-perform-in-Select-clause-does
returns-in_ok-perform-in-Select-clause-does c = λ file meant s none is.
    let select = rw c.in-Select.is at is in
    let fills = c.in_ok-perform-in-Select.ensures.fills file meant s none is in
    let goes = rw select at fills in
    rw select (selection_goes c.args.fonts.now _ file c.perform.new.self (first_definition file.fonts c.in-Select.field-0) goes, refl)

pub returns-in_err-place-in_default : goal.returns-in_err-place-in_default
returns-in_err-place-in_default c =
    let p = err_from_is_err_and c.from_residual-in_err-place-in_default.result c.from_residual-in_err-place-in_default.ensures.1 in
    let e = c.in_err-place-in_default.ensures in
    let pages = e.pages in
    record {
      does = λ file meant s none is. rw (p.1, p.2, in_page_other c.args.fonts.now file c.args.operation meant c.in_default.not-Eop c.in_default.not-Define c.in_default.not-Special is) (e.fills file meant s none is);
      near = rw p.1 tt;
      at = e.at;
      rest = e.rest;
      pages = omega (arith, pages);
    }

pub returns-in_ok-place-in_default : goal.returns-in_ok-place-in_default
returns-in_ok-place-in_default c =
    let e = c.in_ok-place-in_default.ensures in
    let pages = e.pages in
    record {
      does = λ file meant s none is. (
        rw (in_page_other c.args.fonts.now file c.args.operation meant c.in_default.not-Eop c.in_default.not-Define c.in_default.not-Special is) (e.fills file meant s none is),
        other_deed c.args.operation meant _ c.in_default.not-Eop c.in_default.not-Define c.in_default.not-Select is,
      );
      near = e.near;
      at = e.at;
      rest = e.rest;
      pages = omega (arith, pages);
    }
