-- Names with one refinement edge, and macro elements with one edge, over triangles alone.
use Rattle.std.specs.Prelude.{◌≡◌, ℕ, ◌<◌}
use Rattle.mesh_names.specs.Names.{Name}
use Rattle.mesh_names.specs.Partners.{Edge}
use Rattle.mesh_names.specs.Validity.{Shares}
use Rattle.mesh_names.specs.Triangles.{Shape, size, triangle, midpoint}

-- m is another name of the mesh with the refinement edge of n: the midpoint names the unordered pair of the edge's ends
pub record SharesEdge (mesh : Shape) (n m : Name) : Type 0 where
  pub rooted : m.0 < size mesh
  pub other : m ≡ n → ⊥
  pub shares : midpoint (triangle mesh m) ≡ midpoint (triangle mesh n)

-- s is another element with the two vertices of edge e of element r
pub record IsNeighbour (mesh : Shape) (r : ℕ) (e : Edge) (s : ℕ) : Type 0 where
  pub inside : s < size mesh
  pub other : s ≡ r → ⊥
  pub edge : Edge
  pub shares : Shares mesh r e s edge
