-- What the list of the toy fonts says.
use Rattle.std.specs.Prelude.{[], ◌∷◌, Some, None, pos, codes}
use Rattle.mt_family.specs.ListFacts.{ListValue}
use Rattle.mt_tfm.specs.declared.wanted.Wanted.TheVariants.{At}

abbrev pub toy_list : ListValue
toy_list = record {
  lines = record { name = codes "toyr"; wanted = At (pos 655360); skew = None }
      ∷ record { name = codes "toyr"; wanted = At (pos 458752); skew = None }
      ∷ record { name = codes "toyr"; wanted = At (pos 327680); skew = None }
      ∷ record { name = codes "toym"; wanted = At (pos 655360); skew = Some 127 }
      ∷ record { name = codes "toym"; wanted = At (pos 458752); skew = Some 127 }
      ∷ record { name = codes "toym"; wanted = At (pos 327680); skew = Some 127 }
      ∷ record { name = codes "toys"; wanted = At (pos 655360); skew = None }
      ∷ record { name = codes "toys"; wanted = At (pos 458752); skew = None }
      ∷ record { name = codes "toys"; wanted = At (pos 327680); skew = None }
      ∷ record { name = codes "toyx"; wanted = At (pos 655360); skew = None } ∷ [];
  families = record { fam = 0; fonts = Some 0 ∷ Some 1 ∷ Some 2 ∷ [] }
      ∷ record { fam = 1; fonts = Some 3 ∷ Some 4 ∷ Some 5 ∷ [] }
      ∷ record { fam = 2; fonts = Some 6 ∷ Some 7 ∷ Some 8 ∷ [] }
      ∷ record { fam = 3; fonts = Some 9 ∷ Some 9 ∷ Some 9 ∷ [] } ∷ [];
}
