use Rattle.std.proofs.Common.{◌≡◌, ◌<◌, ◌∙◌, ℕ, length, ap, sym, to_z-of_z, arith}
use Rattle.mt_dviops.specs.inner.Shown.{all_told, file_length, file_with_totals}
use Rattle.mt_dviops.proofs.CopiedAnswer.{length_told_by, taken, too_long, too_many_places}
use Rattle.mt_dviops.proofs.write.write_copied.Goals as goal

pub returns-then-totals-gt-MAX_PLACES-clause-is : goal.returns-then-totals-gt-MAX_PLACES-clause-is
returns-then-totals-gt-MAX_PLACES-clause-is c = λ shown are.
    too_many_places c.args.fonts.now c.args.mag c.of-totals.result c.args.pages.now shown c.requires.few are (c.of-totals.ensures.is c.args.fonts.now shown are) c.if-totals-gt-MAX_PLACES.true

pub write_file-requires-clause-short : goal.write_file-requires-clause-short
write_file-requires-clause-short c =
    let e = length_told_by c.args.mag c.deref.result.now c.of-totals.result c.args.pages.now c.requires.counts c.of-totals.ensures.bytes in
    let k : c.len.result ≡ length c.deref.result.now = omega (arith, c.len.ensures, c.deref.ensures.len) in
    let same : length (file_with_totals c.args.mag c.deref.result.now c.of-totals.result (all_told c.args.pages.now)) ≡ c.file_length_of-length.result = e ∙ ap (λ (n : ℕ). file_length n c.of-totals.result.bytes) (sym k) ∙ sym c.file_length_of-length.ensures in
    let t = c.if-length-gt-MAX_DVI.false in
    let short : length (file_with_totals c.args.mag c.deref.result.now c.of-totals.result (all_told c.args.pages.now)) < 2147483648 = omega (arith, same, t) in
    rw (to_z-of_z c.ranges.mag) short

pub returns-then-length-gt-MAX_DVI-clause-is : goal.returns-then-length-gt-MAX_DVI-clause-is
returns-then-length-gt-MAX_DVI-clause-is c = λ shown are.
    let e = length_told_by c.args.mag c.in_ok-definitions.definitions.items c.of-totals.result c.args.pages.now c.requires.counts c.of-totals.ensures.bytes in
    let k : c.len.result ≡ length c.in_ok-definitions.definitions.items = omega (arith, c.len.ensures) in
    let same : length (file_with_totals c.args.mag c.in_ok-definitions.definitions.items c.of-totals.result (all_told c.args.pages.now)) ≡ c.file_length_of-length.result = e ∙ ap (λ (n : ℕ). file_length n c.of-totals.result.bytes) (sym k) ∙ sym c.file_length_of-length.ensures in
    too_long c.args.fonts.now c.args.mag c.in_ok-definitions.definitions.items c.of-totals.result c.args.pages.now shown c.file_length_of-length.result c.requires.few are (c.of-totals.ensures.is c.args.fonts.now shown are)
    c.in_ok-definitions.ensures.is c.if-totals-gt-MAX_PLACES.false same c.if-length-gt-MAX_DVI.true

pub returns-clause-is : goal.returns-clause-is
returns-clause-is c = λ shown are.
    let e = length_told_by c.args.mag c.deref.result.now c.of-totals.result c.args.pages.now c.requires.counts c.of-totals.ensures.bytes in
    let k : c.len.result ≡ length c.deref.result.now = omega (arith, c.len.ensures, c.deref.ensures.len) in
    let same : length (file_with_totals c.args.mag c.deref.result.now c.of-totals.result (all_told c.args.pages.now)) ≡ c.file_length_of-length.result = e ∙ ap (λ (n : ℕ). file_length n c.of-totals.result.bytes) (sym k) ∙ sym c.file_length_of-length.ensures in
    taken c.args.fonts.now c.args.mag c.deref.result.now c.of-totals.result c.args.pages.now shown c.file_length_of-length.result c.in_ok-bytes.bytes c.requires.few are (c.of-totals.ensures.is c.args.fonts.now shown are)
    (c.deref.ensures.value ∙ c.in_ok-definitions.ensures.is) c.if-totals-gt-MAX_PLACES.false same c.if-length-gt-MAX_DVI.false (rw (to_z-of_z c.ranges.mag) at c.in_ok-bytes.ensures)
