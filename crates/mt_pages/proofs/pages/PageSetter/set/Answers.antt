use Rattle.std.proofs.Common.{rules, refl, sym, ◌∙◌, of_z, subst, to_z, to_z-of_z, w64, ℤ, IfOk}
use Rattle.mt_pages.specs.inner.SetPages.{SetsPage}
use Rattle.mt_pages.proofs.SetLemmas.{setting_held}
use Rattle.mt_pages.proofs.pages.PageSetter.set.Goals as goal

pub returns-in-Ok-clause-is : goal.returns-in-Ok-clause-is
returns-in-Ok-clause-is c =
    let set = c.args.fonts.now in
    subst (λ (x : ℤ). IfOk c.place.result (λ places. SetsPage set x c.args.page.now c.args.self.now c.place.new.self places)) (to_z-of_z c.ranges.width)
    (c.place.ensures.is set (to_z w64 (of_z w64 c.args.width)) c.args.page.now c.in-Ok.ensures.page c.in-Ok.ensures.on c.in-Ok.ensures.is)

pub returns-in-Ok-clause-writable : goal.returns-in-Ok-clause-writable
returns-in-Ok-clause-writable c = c.place.ensures.writable c.args.fonts.now c.in-Ok.ensures.page c.in-Ok.ensures.on c.in-Ok.ensures.laid.hold

pub returns-in-Err : goal.returns-in-Err
returns-in-Err c = record {
  reader = refl;
  is =
      setting_held c.args.fonts.now c.args.width c.args.page.now c.args.self.now.room c.args.self.now.held c.in-Err.status (sym c.is_setting.ensures ∙ c.if-is_setting.false) (search rules)
      (rw (to_z-of_z c.ranges.width) at c.in-Err.ensures);
  writable = tt;
}
