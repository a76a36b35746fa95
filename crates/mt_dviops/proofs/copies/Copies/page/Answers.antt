use Rattle.std.proofs.Common.{◌∙◌, List, ℕ, ◌-◌, get_or, length, ap, sym, subst, arith}
use Rattle.mt_dvi.specs.Codes.{bytes_from}
use Rattle.mt_dviops.specs.declared.copies.CopiedPage.{CopiedPage}
use Rattle.mt_dviops.specs.inner.Copies.{HoldsPage}
use Rattle.mt_dviops.proofs.HeldPages.{held_at}
use Rattle.mt_dviops.proofs.copies.Copies.page.Goals as goal

pub returns : goal.returns
returns c = λ fonts source page holds.
    let x = c.index-page.result.now in
    let h = subst (λ (kept : CopiedPage). HoldsPage fonts c.args.self.now.bytes.now c.args.self.now.bodies.items kept (get_or source.pages c.args.k page)) (sym c.index-page.ensures)
    (held_at fonts c.args.self.now.bytes.now c.args.self.now.bodies.items c.args.self.now.pages.items source.pages c.args.k c.index-page.result.now page holds.pages c.requires) in
    let body = c.bytes_from-2.ensures.is ∙ ap (λ (l : List ℕ). bytes_from x.start (x.end - x.start) l) c.deref.ensures.value ∙ h.keeps.body in
    record {
      full = c.bytes_from.ensures.long;
      short = omega (arith, ap length body, h.short);
      counts = c.bytes_from.ensures.is ∙ h.keeps.counts;
      body = body;
      selected = h.keeps.selected;
      depth = h.keeps.depth;
      places = h.keeps.places;
      tallest = h.keeps.tallest;
      widest = h.keeps.widest;
    }
