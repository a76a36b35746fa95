use Rattle.std.proofs.Common.{List, subst, All, IfOk, Result}
use Rattle.mt_pages.proofs.Common.{Place, IsWritable}
use Rattle.mt_pages.specs.declared.pages.PlaceFault.{PlaceFault}
use Rattle.mt_pages.proofs.pages.PageSetter.place.Goals as goal

pub returns-in-Ok-clause-writable : goal.returns-in-Ok-clause-writable
returns-in-Ok-clause-writable c =
    λ fonts page on hold.
    subst (λ (r : Result (List Place) PlaceFault). IfOk r (λ page. All (IsWritable fonts) page)) c.in-Ok.is (c.in_ok-places.ensures.writable fonts page on hold)
