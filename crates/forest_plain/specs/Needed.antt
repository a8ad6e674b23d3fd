-- The needed names as a list, leaf by leaf.
use Rattle.std.specs.Prelude.{◌≡◌, ℤ, pos, false, List, [], ◌∷◌, ◌++◌, map}
use Rattle.mesh_names.specs.Names.{Name, name_cmp}
use Rattle.mesh_names.specs.LeastForest.{Work, names_below}
use Rattle.std.specs.FinSet.{contains, from_list}
use Rattle.mesh_names.specs.Triangles.{Shape}
use Rattle.mesh_names.specs.Forests.{Names, Has, IsLeaf}
use Rattle.mesh_names.specs.Marks.{bisections, effective_mark}
use Rattle.mesh_names.specs.declared.rows.MarkRow.{MarkRow}

-- each leaf, and how often its mark asks to bisect it
abbrev pub work_by : (Name → ℤ) → List Name → Work
work_by mark leaves = map (λ (t : Name). (t, bisections (mark t))) leaves

-- the needed names of the work, leaf by leaf
abbrev pub names_of : Work → List Name
names_of [] = []
names_of (a ∷ work) = names_below a.1 a.0.0 a.0.1 ++ names_of work

-- leaves of the forest, among them each that has a mark other than 0
pub record AreMarked (mesh : Shape) (old : Names) (rows : List MarkRow) (list : List Name) : Type 0 where
  pub leaves : (n : Name) → Has (from_list list) n → IsLeaf mesh old n
  pub others : (n : Name) → IsLeaf mesh old n → contains {R = name_cmp} (from_list list) n ≡ false → effective_mark rows n ≡ pos 0
