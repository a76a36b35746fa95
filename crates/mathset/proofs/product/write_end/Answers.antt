use Rattle.std.proofs.Common.{ℕ, List, subst, sym}
use Rattle.mathset.specs.Product.{IsLean, Makes}
use Rattle.mathset.proofs.product.write_end.Goals as goal

pub returns-in-Ok : goal.returns-in-Ok
returns-in-Ok g c =
    rw c.in-Ok.is
    (λ product made lean.
    c.put_bytes.ensures product (subst (λ (b : List ℕ). Makes product b) (sym c.as_slice.ensures) made) (subst (λ (b : List ℕ). IsLean product b) (sym c.as_slice.ensures) lean))
