-- Steps of a walk down from a macro element.
use Rattle.std.specs.Prelude.{◌≡◌, ◌<◌, Bool, List, ◌∷◌, Option, Some, None}
use Rattle.mesh_names.specs.Names.{Name}
use Rattle.mesh_names.specs.Partners.{partner}
use Rattle.mesh_names.specs.Triangles.{size}
use Rattle.compat_check.specs.Meshes.{Mesh, across_in, shape_of}
use Rattle.compat_check.specs.Points.{labels, points}
use Rattle.compat_check.specs.declared.around.Above.{Above}
use Rattle.compat_check.specs.declared.around.Around.{Around}
use Rattle.compat_check.specs.declared.steps.Step.{Step}

-- the name that a step has come to
abbrev pub name_of : Step → Name
name_of s = s.name

-- the child of a name on a side
abbrev pub child_of : Name → Bool → Name
child_of n side = (n.0, side ∷ n.1)

-- the partner of a parent, where there is one
abbrev pub partner_above : Option Above → Option (Name × Bool)
partner_above None = None
partner_above (Some a) = a.partner

-- the name of a step, under its parent
abbrev pub around_by : Step → Option Above → Around
around_by s above = record { name = s.name; partner = s.partner; above = above }

-- the step has come to a name of the mesh, and knows its partner and its parent's, where its corners lie and the labels of its edges
pub record IsStep (mesh : Mesh) (s : Step) : Type 0 where
  pub rooted : s.name.0 < size (shape_of mesh)
  pub partner_is : s.partner ≡ partner (across_in mesh) s.name.0 s.name.1
  pub above_is : (b : Bool) (w : List Bool) → s.name.1 ≡ b ∷ w → s.parent_partner ≡ partner (across_in mesh) s.name.0 w
  pub points : s.points ≡ points mesh s.name
  pub labels : s.labels ≡ labels mesh s.name
