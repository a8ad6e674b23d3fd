-- Paths that are remembered, and what they lead to.
use Rattle.std.specs.Prelude.{◌≡◌, ℕ, Some, IfSome}
use Rattle.mesh_names.specs.Names.{Name, depth}
use Rattle.name_tree.specs.Trees.{LeadsTo, Pairs, place}
use Rattle.name_tree.specs.declared.path.Path.{Path}

-- the path has the places of all first letters of its name
abbrev pub IsPath : Pairs → Path → Type 0
IsPath pairs path = IfSome path.name (λ n. LeadsTo pairs n (depth n) path.places)

-- the path leads to this name, whose node is at this place
pub record IsAt (pairs : Pairs) (path : Path) (n : Name) (i : ℕ) : Type 0 where
  pub name : path.name ≡ Some n
  pub place : place pairs n.0 n.1 ≡ Some i
