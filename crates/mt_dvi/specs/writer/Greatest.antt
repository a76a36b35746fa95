-- The greatest edges of places, as the writer keeps them (`edges_after`).
use Rattle.std.specs.Prelude.{ℤ, max, List}
use Rattle.mt_family.specs.SetValue.{SetValue}
use Rattle.mt_box.specs.declared.place.Place.{Place}
use Rattle.mt_dvi.specs.Edges.{greatest_edge, lower_edge, or_zero, right_edge}
use Rattle.mt_dvi.specs.declared.edges.GreatestEdges.{GreatestEdges}

-- one place more, which ends there
abbrev pub with_edges : GreatestEdges → ℤ → ℤ → GreatestEdges
with_edges greatest right lower = record {
  right = max greatest.right (or_zero right);
  lower = max greatest.lower (or_zero lower);
}

-- of no place
abbrev pub no_edges : GreatestEdges
no_edges = record { right = 0; lower = 0 }

-- these places more
abbrev pub edges_after : SetValue → GreatestEdges → List Place → GreatestEdges
edges_after fonts greatest places = record {
  right = greatest_edge (right_edge fonts) greatest.right places;
  lower = greatest_edge (lower_edge fonts) greatest.lower places;
}
