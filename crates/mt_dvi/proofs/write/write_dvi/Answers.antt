use Rattle.std.proofs.Common.{◌∙◌, ◌≤◌, List, length, sym, subst, arith}
use Rattle.std.specs.Prelude.{All}
use Rattle.mt_box.specs.declared.place.Place.{Place}
use Rattle.mt_dvi.specs.FileOf.{IsFileOf}
use Rattle.mt_dvi.specs.Limits.{max_dvi_pages, max_places}
use Rattle.mt_dvi.specs.Writable.{IsWritable}
use Rattle.mt_dvi.specs.WrittenPlaces.{all_places}
use Rattle.mt_dvi.proofs.FileLemmas.{all_taken, can_take, taken}
use Rattle.mt_dvi.proofs.write.write_dvi.Goals as goal

pub add_page-requires : goal.add_page-requires
add_page-requires c =
    let pages = c.as_slice-pages.result.now in
    let few : length pages ≤ max_dvi_pages = omega (arith, c.if-pages-gt-MAX_DVI_PAGES.false) in
    let places : length (all_places pages) ≤ max_places = omega (arith, c.if-count-gt-MAX_PLACES.false, c.count_places-count.ensures) in
    let can : All (λ (page : List Place). All (IsWritable c.args.fonts.now) page) pages = subst (All (λ (page : List Place). All (IsWritable c.args.fonts.now) page)) (sym c.as_slice-pages.ensures) c.requires.can in
    can_take c.args.fonts.now pages c.loop-page.page-index c.page-item.result c.as_slice.result.now c.loop-page.file c.loop-page-test.true (c.as_slice.ensures ∙ c.page-item.is) few places can c.loop-page.invariant

pub loop-page-preserved : goal.loop-page-preserved
loop-page-preserved c =
    taken c.args.fonts.now c.as_slice-pages.result.now c.loop-page.page-index c.page-item.result c.as_slice.result.now _ c.loop-page-test.true (c.as_slice.ensures ∙ c.page-item.is) (c.in_ok-add_page.ensures _ c.loop-page.invariant)

pub returns-clause-written : goal.returns-clause-written
returns-clause-written c =
    let file = all_taken c.args.fonts.now c.as_slice-pages.result.now c.loop-page.page-index c.loop-page.file c.loop-page-test.false c.loop-page.invariant in
    c.in_ok-bytes.ensures.written c.args.pages.now (subst (λ (pages : List (List Place)). IsFileOf c.args.fonts.now pages c.loop-page.file) c.as_slice-pages.ensures file)

pub returns-clause-read_back : goal.returns-clause-read_back
returns-clause-read_back c =
    let file = all_taken c.args.fonts.now c.as_slice-pages.result.now c.loop-page.page-index c.loop-page.file c.loop-page-test.false c.loop-page.invariant in
    c.in_ok-bytes.ensures.read_back c.args.pages.now (subst (λ (pages : List (List Place)). IsFileOf c.args.fonts.now pages c.loop-page.file) c.as_slice-pages.ensures file)
