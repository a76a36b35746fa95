use Rattle.std.proofs.Common.{◌≡◌, ◌<◌, true, false, arith, rules}
use Rattle.std.specs.Prelude.{Some}
use Rattle.mt_dvi.specs.Lean.{is_same_font}
use Rattle.mt_dvi.specs.writer.LeadsTo.{is_among}
use Rattle.mt_dvi.proofs.MoveLemmas.{near, small}
use Rattle.mt_dvi.proofs.FontLemmas.{added_among, chosen}
use Rattle.mt_dvi.proofs.RowLemmas.{row_back}
use Rattle.mt_dvi.proofs.page.select.Goals as goal

pub returns-then-contains-clause-leads : goal.returns-then-contains-clause-leads
returns-then-contains-clause-leads c =
    let other : is_same_font c.args.cursor.now.font (Some c.args.n) ≡ false = search rules in
    let few : c.args.n < 64 = omega (arith, c.requires.there, c.requires.set.loaded.count, c.requires.set.list.few) in
    let known : is_among c.args.defined.now c.args.n ≡ true = cc in
    let emits = rw c.deref_mut.ensures.value at c.select.ensures.emits in
    rw (row_back c.select.result c.args.out.now.len c.select.new.row c.deref_mut.result.now c.args.out.now.items c.select.ensures.long c.deref_mut.ensures.len)
    (λ reached stands. chosen c.args.fonts.now _ _ c.args.defined.now c.args.n c.args.cursor.now emits c.requires.set c.requires.there few known (near c.args.cursor.now.h (small _ c.requires.h)) (near c.args.cursor.now.v (small _ c.requires.v)) other reached stands)

pub returns-clause-leads : goal.returns-clause-leads
returns-clause-leads c =
    let other : is_same_font c.args.cursor.now.font (Some c.args.n) ≡ false = search rules in
    let few : c.args.n < 64 = omega (arith, c.requires.there, c.requires.set.loaded.count, c.requires.set.list.few) in
    let known : is_among c.introduce.new.defined c.args.n ≡ true = rw c.in_ok-at.ensures.defined (added_among c.args.defined.now c.args.n) in
    let emits = rw c.deref_mut-2.ensures.value at c.select-2.ensures.emits in
    rw (row_back c.select-2.result c.introduce.new.out.len c.select-2.new.row c.deref_mut-2.result.now c.introduce.new.out.items c.select-2.ensures.long c.deref_mut-2.ensures.len)
    (λ reached stands. chosen c.args.fonts.now _ _ c.introduce.new.defined c.args.n c.args.cursor.now emits c.requires.set c.requires.there few known (near c.args.cursor.now.h (small _ c.requires.h)) (near c.args.cursor.now.v (small _ c.requires.v)) other reached
    (c.in_ok-at.ensures.leads reached c.args.cursor.now stands))
