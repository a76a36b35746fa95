use Rattle.std.proofs.Common.{◌^◌, lit<}
use Rattle.mt_scaled.specs.Number.{Within}
use Rattle.mt_scaled.proofs.Products.{kept}
use Rattle.mt_box.proofs.columns.put_entry.Goals as goal

pub returns-in-Rule : goal.returns-in-Rule
returns-in-Rule c = λ ps e.
    let near : Within (2 ^ 40) c.in-Rule.thickness = rw c.in-Rule.is at c.requires.modest in
    rw (c.in-Rule.is) (rw (kept (2 ^ 40) _ near (lit< tt)) at (c.put_rule.ensures ps e))
