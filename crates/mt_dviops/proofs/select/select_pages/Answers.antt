use Rattle.std.proofs.Common.{◌≡◌, ◌∙◌, ◌∷◌, [], List, ℕ, ap, length, refl, sym, subst, arith, of_z, to_z, w32}
use Rattle.std.specs.Prelude.{ℤ, ◌<ℤ◌, Ok, map, pos}
use Rattle.std.proofs.lemmas.Int.{ints}
use Rattle.std.proofs.lemmas.Result.{err_from_is_err_and}
use Rattle.mt_dviops.specs.declared.page.PageCopy.{PageCopy}
use Rattle.mt_dviops.specs.Source.{SourceFile, source_file_of}
use Rattle.mt_dviops.specs.Copied.{Numbered, copied, copied_pages, file_answer, files_answer}
use Rattle.mt_dviops.specs.inner.Chosen.{page_or_empty}
use Rattle.mt_dviops.specs.inner.Shown.{AreShown}
use Rattle.mt_dviops.proofs.HeldPages.{held_long}
use Rattle.mt_dviops.proofs.PageTotals.{shown_long}
use Rattle.mt_dviops.proofs.PagesRead.{below_limit, ok_reads}
use Rattle.mt_dviops.proofs.Picking.{answers_err, answers_ok, bad_file, refuses_on}
use Rattle.mt_dviops.proofs.Selecting.{all_picked, numbers_long, one_out, too_many_picked}
use Rattle.mt_dviops.proofs.ShownBytes.{all_full, all_short}
use Rattle.mt_dviops.proofs.select.select_pages.Goals as goal

pub returns-in_err-source-clause-refused : goal.returns-in_err-source-clause-refused
returns-in_err-source-clause-refused c =
    let p = err_from_is_err_and c.from_residual.result c.from_residual.ensures.1 in
    rw (p.1, p.2) (refuses_on {T = SourceFile} {U = List ℕ} c.in_err-source.field-0.0 (file_answer 0 (source_file_of c.args.fonts.now c.args.bytes.now)) (copied c.args.fonts.now (c.args.bytes.now ∷ []) (Numbered c.args.pages.now))
    (λ r e. bad_file c.args.fonts.now c.args.bytes.now (Numbered c.args.pages.now) r e) c.in_err-source.ensures.refused)

pub returns-in-Some-clause-refused : goal.returns-in-Some-clause-refused
returns-in-Some-clause-refused c =
    let s = c.in_ok-source.ensures.is in
    let n : length s.0.pages ≡ c.len.result = omega (arith, held_long _ _ _ _ _ s.2.pages, c.len.ensures) in
    one_out c.args.fonts.now c.args.bytes.now c.args.pages.now s.0 c.len.result c.in-Some.page s.1 n (sym c.first_out_of_range.ensures ∙ c.in-Some.is)

pub returns-in_err-test_page_count-clause-refused : goal.returns-in_err-test_page_count-clause-refused
returns-in_err-test_page_count-clause-refused c =
    let s = c.in_ok-source.ensures.is in
    let n : length s.0.pages ≡ c.len.result = omega (arith, held_long _ _ _ _ _ s.2.pages, c.len.ensures) in
    let r = c.in_err-test_page_count.ensures.refused in
    let p = err_from_is_err_and c.from_residual-in_err-test_page_count.result c.from_residual-in_err-test_page_count.ensures.1 in
    rw (p.1, p.2, r.0) (too_many_picked c.args.fonts.now c.args.bytes.now c.args.pages.now s.0 c.len.result s.1 n (sym c.first_out_of_range.ensures ∙ c.in_default.is) r.1)

pub write_copied-requires-clause-few : goal.write_copied-requires-clause-few
write_copied-requires-clause-few c =
    let s = c.in_ok-source.ensures.is in
    let are = c.in_ok-chosen.ensures c.args.fonts.now s.0 s.2 in
    omega (arith, shown_long _ _ _ are, numbers_long c.args.fonts.now (page_or_empty s.0.pages) c.args.pages.now, c.in_ok-test_page_count.ensures.few, c.deref.ensures.len)

pub write_copied-requires-clause-short : goal.write_copied-requires-clause-short
write_copied-requires-clause-short c =
    let s = c.in_ok-source.ensures.is in
    let are = subst (λ (l : List PageCopy). AreShown c.args.fonts.now l (map (page_or_empty s.0.pages) c.args.pages.now)) (sym c.deref.ensures.value) (c.in_ok-chosen.ensures c.args.fonts.now s.0 s.2) in
    all_short c.args.fonts.now c.deref.result.now _ are

pub write_copied-requires-clause-counts : goal.write_copied-requires-clause-counts
write_copied-requires-clause-counts c =
    let s = c.in_ok-source.ensures.is in
    let are = subst (λ (l : List PageCopy). AreShown c.args.fonts.now l (map (page_or_empty s.0.pages) c.args.pages.now)) (sym c.deref.ensures.value) (c.in_ok-chosen.ensures c.args.fonts.now s.0 s.2) in
    all_full c.args.fonts.now c.deref.result.now _ are

pub returns-clause-is : goal.returns-clause-is
returns-clause-is c =
    let s = c.in_ok-source.ensures.is in
    let n : length s.0.pages ≡ c.len.result = omega (arith, held_long _ _ _ _ _ s.2.pages, c.len.ensures) in
    let are = subst (λ (l : List PageCopy). AreShown c.args.fonts.now l (map (page_or_empty s.0.pages) c.args.pages.now)) (sym c.deref.ensures.value) (c.in_ok-chosen.ensures c.args.fonts.now s.0 s.2) in
    let t = c.magnification.type_inv in
    let same : to_z w32 (of_z w32 c.magnification.result) ≡ c.magnification.result = omega (arith, ints, t) in
    let mag : to_z w32 (of_z w32 c.magnification.result) ≡ s.0.mag = same ∙ c.magnification.ensures ∙ sym s.2.mag in
    let is = all_picked c.args.fonts.now c.args.bytes.now c.args.pages.now s.0 c.len.result s.1 n (sym c.first_out_of_range.ensures ∙ c.in_default.is) in
    answers_ok c.write_copied.result _ (copied c.args.fonts.now (c.args.bytes.now ∷ []) (Numbered c.args.pages.now)) (c.write_copied.ensures.is (map (page_or_empty s.0.pages) c.args.pages.now) are)
    (is ∙ ap (λ (z : ℤ). copied_pages c.args.fonts.now z (map (page_or_empty s.0.pages) c.args.pages.now)) (sym mag))

pub returns-clause-refused : goal.returns-clause-refused
returns-clause-refused c =
    let s = c.in_ok-source.ensures.is in
    let n : length s.0.pages ≡ c.len.result = omega (arith, held_long _ _ _ _ _ s.2.pages, c.len.ensures) in
    let are = subst (λ (l : List PageCopy). AreShown c.args.fonts.now l (map (page_or_empty s.0.pages) c.args.pages.now)) (sym c.deref.ensures.value) (c.in_ok-chosen.ensures c.args.fonts.now s.0 s.2) in
    let t = c.magnification.type_inv in
    let same : to_z w32 (of_z w32 c.magnification.result) ≡ c.magnification.result = omega (arith, ints, t) in
    let mag : to_z w32 (of_z w32 c.magnification.result) ≡ s.0.mag = same ∙ c.magnification.ensures ∙ sym s.2.mag in
    let is = all_picked c.args.fonts.now c.args.bytes.now c.args.pages.now s.0 c.len.result s.1 n (sym c.first_out_of_range.ensures ∙ c.in_default.is) in
    answers_err c.write_copied.result _ (copied c.args.fonts.now (c.args.bytes.now ∷ []) (Numbered c.args.pages.now)) (c.write_copied.ensures.is (map (page_or_empty s.0.pages) c.args.pages.now) are)
    (is ∙ ap (λ (z : ℤ). copied_pages c.args.fonts.now z (map (page_or_empty s.0.pages) c.args.pages.now)) (sym mag))

pub returns-clause-read : goal.returns-clause-read
returns-clause-read c =
    let s = c.in_ok-source.ensures.is in
    let t = c.magnification.type_inv in
    let e : files_answer c.args.fonts.now 0 (c.args.bytes.now ∷ []) ≡ Ok (s.0 ∷ []) = rw s.1 refl in
    let same : c.magnification.result ≡ s.0.mag = c.magnification.ensures ∙ sym s.2.mag in
    let low : s.0.mag <ℤ pos 2147483648 = omega (arith, ints, t, same) in
    ok_reads c.write_copied.result c.args.fonts.now (c.args.bytes.now ∷ []) (Numbered c.args.pages.now) (s.0 ∷ []) c.write_copied.ensures.set (omega arith) e (below_limit s.0.mag low) (returns-clause-is c)
