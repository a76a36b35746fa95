use Rattle.std.proofs.Common.{◌≡◌, ◌∙◌, List, ℕ, ap, length, sym, subst, arith, of_z, to_z, w32}
use Rattle.std.specs.Prelude.{◌<ℤ◌, None, Some, pos}
use Rattle.std.proofs.lemmas.Int.{ints}
use Rattle.std.proofs.lemmas.Result.{err_from_is_err_and}
use Rattle.mt_dviops.specs.declared.copies.Copies.{Copies}
use Rattle.mt_dviops.specs.declared.page.PageCopy.{PageCopy}
use Rattle.mt_dviops.specs.Source.{SourceFile}
use Rattle.mt_dviops.specs.Copied.{Every, all_pages, copied, files_answer, mag_of}
use Rattle.mt_dviops.specs.inner.Chosen.{AllHold}
use Rattle.mt_dviops.specs.inner.Shown.{AreShown}
use Rattle.mt_dviops.proofs.Joined.{all_joined, bad_files, clashes, joins, too_many_joined}
use Rattle.mt_dviops.proofs.PageTotals.{shown_long}
use Rattle.mt_dviops.proofs.PagesRead.{below_limit, ok_reads}
use Rattle.mt_dviops.proofs.Picking.{answers_err, answers_ok, refuses_on}
use Rattle.mt_dviops.proofs.ShownBytes.{all_full, all_short}
use Rattle.mt_dviops.proofs.append.append_files.Goals as goal

pub returns-in_err-sources-clause-refused : goal.returns-in_err-sources-clause-refused
returns-in_err-sources-clause-refused c =
    let p = err_from_is_err_and c.from_residual.result c.from_residual.ensures.1 in
    rw (p.1, p.2) (refuses_on {T = List SourceFile} {U = List ℕ} c.in_err-sources.field-0.0 (files_answer c.args.fonts.now 0 c.as_slice.result.now) (copied c.args.fonts.now c.args.files.now Every)
    (λ r e. bad_files c.args.fonts.now c.args.files.now r (ap (files_answer c.args.fonts.now 0) (sym c.as_slice.ensures) ∙ e)) c.in_err-sources.ensures.refused)

pub returns-in-Some-clause-refused : goal.returns-in-Some-clause-refused
returns-in-Some-clause-refused c =
    let s = c.in_ok-sources.ensures.is in
    let t = c.magnification-mag.type_inv in
    let same : to_z w32 (of_z w32 c.magnification-mag.result) ≡ c.magnification-mag.result = omega (arith, ints, t) in
    let j = joins c.args.fonts.now c.args.files.now c.as_slice.result.now c.in_ok-sources.sources.items c.deref.result.now s.0 c.index.result.now (to_z w32 (of_z w32 c.magnification-mag.result)) c.magnification-mag.result (Some c.in-Some.file) c.first_with_other_mag.result
    c.as_slice.ensures s.1 s.2 c.in_ok-sources.ensures.count c.requires.some c.index.ensures c.magnification-mag.ensures same c.deref.ensures.value c.first_with_other_mag.ensures c.in-Some.is in
    clashes c.args.fonts.now c.args.files.now c.in_ok-sources.sources.items s.0 (to_z w32 (of_z w32 c.magnification-mag.result)) c.in-Some.file j

pub returns-in_err-test_page_count-clause-refused : goal.returns-in_err-test_page_count-clause-refused
returns-in_err-test_page_count-clause-refused c =
    let s = c.in_ok-sources.ensures.is in
    let t = c.magnification-mag.type_inv in
    let same : to_z w32 (of_z w32 c.magnification-mag.result) ≡ c.magnification-mag.result = omega (arith, ints, t) in
    let j = joins c.args.fonts.now c.args.files.now c.as_slice.result.now c.in_ok-sources.sources.items c.deref.result.now s.0 c.index.result.now (to_z w32 (of_z w32 c.magnification-mag.result)) c.magnification-mag.result None c.first_with_other_mag.result
    c.as_slice.ensures s.1 s.2 c.in_ok-sources.ensures.count c.requires.some c.index.ensures c.magnification-mag.ensures same c.deref.ensures.value c.first_with_other_mag.ensures c.in_default.is in
    let held = subst (λ (l : List Copies). AllHold c.args.fonts.now l s.0) (sym c.deref-2.ensures.value) s.2 in
    let are = c.in_ok-chosen.ensures c.args.fonts.now s.0 held in
    let n : length (all_pages s.0) ≡ c.len.result = omega (arith, shown_long _ _ _ are, c.len.ensures) in
    let r = c.in_err-test_page_count.ensures.refused in
    let p = err_from_is_err_and c.from_residual-in_err-test_page_count.result c.from_residual-in_err-test_page_count.ensures.1 in
    rw (p.1, p.2, r.0) (too_many_joined c.args.fonts.now c.args.files.now c.in_ok-sources.sources.items s.0 (to_z w32 (of_z w32 c.magnification-mag.result)) c.len.result j n r.1)

pub write_copied-requires-clause-short : goal.write_copied-requires-clause-short
write_copied-requires-clause-short c =
    let s = c.in_ok-sources.ensures.is in
    let held = subst (λ (l : List Copies). AllHold c.args.fonts.now l s.0) (sym c.deref-2.ensures.value) s.2 in
    let are = c.in_ok-chosen.ensures c.args.fonts.now s.0 held in
    let lent = subst (λ (l : List PageCopy). AreShown c.args.fonts.now l (all_pages s.0)) (sym c.deref-3.ensures.value) are in
    all_short c.args.fonts.now c.deref-3.result.now _ lent

pub write_copied-requires-clause-counts : goal.write_copied-requires-clause-counts
write_copied-requires-clause-counts c =
    let s = c.in_ok-sources.ensures.is in
    let held = subst (λ (l : List Copies). AllHold c.args.fonts.now l s.0) (sym c.deref-2.ensures.value) s.2 in
    let are = c.in_ok-chosen.ensures c.args.fonts.now s.0 held in
    let lent = subst (λ (l : List PageCopy). AreShown c.args.fonts.now l (all_pages s.0)) (sym c.deref-3.ensures.value) are in
    all_full c.args.fonts.now c.deref-3.result.now _ lent

pub returns-clause-is : goal.returns-clause-is
returns-clause-is c =
    let s = c.in_ok-sources.ensures.is in
    let t = c.magnification-mag.type_inv in
    let same : to_z w32 (of_z w32 c.magnification-mag.result) ≡ c.magnification-mag.result = omega (arith, ints, t) in
    let j = joins c.args.fonts.now c.args.files.now c.as_slice.result.now c.in_ok-sources.sources.items c.deref.result.now s.0 c.index.result.now (to_z w32 (of_z w32 c.magnification-mag.result)) c.magnification-mag.result None c.first_with_other_mag.result
    c.as_slice.ensures s.1 s.2 c.in_ok-sources.ensures.count c.requires.some c.index.ensures c.magnification-mag.ensures same c.deref.ensures.value c.first_with_other_mag.ensures c.in_default.is in
    let held = subst (λ (l : List Copies). AllHold c.args.fonts.now l s.0) (sym c.deref-2.ensures.value) s.2 in
    let are = c.in_ok-chosen.ensures c.args.fonts.now s.0 held in
    let lent = subst (λ (l : List PageCopy). AreShown c.args.fonts.now l (all_pages s.0)) (sym c.deref-3.ensures.value) are in
    answers_ok c.write_copied.result _ (copied c.args.fonts.now c.args.files.now Every) (c.write_copied.ensures.is (all_pages s.0) lent) (all_joined c.args.fonts.now c.args.files.now c.in_ok-sources.sources.items s.0 (to_z w32 (of_z w32 c.magnification-mag.result)) j)

pub returns-clause-read : goal.returns-clause-read
returns-clause-read c =
    let s = c.in_ok-sources.ensures.is in
    let t = c.magnification-mag.type_inv in
    let same : to_z w32 (of_z w32 c.magnification-mag.result) ≡ c.magnification-mag.result = omega (arith, ints, t) in
    let j = joins c.args.fonts.now c.args.files.now c.as_slice.result.now c.in_ok-sources.sources.items c.deref.result.now s.0 c.index.result.now (to_z w32 (of_z w32 c.magnification-mag.result)) c.magnification-mag.result None c.first_with_other_mag.result
    c.as_slice.ensures s.1 s.2 c.in_ok-sources.ensures.count c.requires.some c.index.ensures c.magnification-mag.ensures same c.deref.ensures.value c.first_with_other_mag.ensures c.in_default.is in
    let q : mag_of s.0 ≡ c.magnification-mag.result = j.mag_is ∙ same in
    let low : mag_of s.0 <ℤ pos 2147483648 = omega (arith, ints, t, q) in
    ok_reads c.write_copied.result c.args.fonts.now c.args.files.now Every s.0 c.write_copied.ensures.set c.requires.some j.is (below_limit (mag_of s.0) low) (returns-clause-is c)

pub returns-clause-refused : goal.returns-clause-refused
returns-clause-refused c =
    let s = c.in_ok-sources.ensures.is in
    let t = c.magnification-mag.type_inv in
    let same : to_z w32 (of_z w32 c.magnification-mag.result) ≡ c.magnification-mag.result = omega (arith, ints, t) in
    let j = joins c.args.fonts.now c.args.files.now c.as_slice.result.now c.in_ok-sources.sources.items c.deref.result.now s.0 c.index.result.now (to_z w32 (of_z w32 c.magnification-mag.result)) c.magnification-mag.result None c.first_with_other_mag.result
    c.as_slice.ensures s.1 s.2 c.in_ok-sources.ensures.count c.requires.some c.index.ensures c.magnification-mag.ensures same c.deref.ensures.value c.first_with_other_mag.ensures c.in_default.is in
    let held = subst (λ (l : List Copies). AllHold c.args.fonts.now l s.0) (sym c.deref-2.ensures.value) s.2 in
    let are = c.in_ok-chosen.ensures c.args.fonts.now s.0 held in
    let lent = subst (λ (l : List PageCopy). AreShown c.args.fonts.now l (all_pages s.0)) (sym c.deref-3.ensures.value) are in
    answers_err c.write_copied.result _ (copied c.args.fonts.now c.args.files.now Every) (c.write_copied.ensures.is (all_pages s.0) lent) (all_joined c.args.fonts.now c.args.files.now c.in_ok-sources.sources.items s.0 (to_z w32 (of_z w32 c.magnification-mag.result)) j)
