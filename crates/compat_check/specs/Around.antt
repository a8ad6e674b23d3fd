-- What a walk down a word knows at each name.
use Rattle.std.specs.Prelude.{◌≡◌, [], ◌∷◌, Option, Some, None}
use Rattle.mesh_names.specs.Names.{Name}
use Rattle.mesh_names.specs.Partners.{Across, partner}
use Rattle.compat_check.specs.Meshes.{Mesh, across_in}
use Rattle.compat_check.specs.declared.around.Above.{Above}
use Rattle.compat_check.specs.declared.around.Around.{Around}

-- the parent, if there is one, the side on which the name lies, and the parent's partner
abbrev pub IsAbove : Across → Name → Option Above → Type 0
IsAbove x n None = n.1 ≡ []
IsAbove x n (Some a) = (n ≡ (a.name.0, a.side ∷ a.name.1)) × (a.partner ≡ partner x a.name.0 a.name.1)

-- the walk stands at a name, and knows its partner and its parent's
pub record IsAround (mesh : Mesh) (a : Around) : Type 0 where
  pub partner_is : a.partner ≡ partner (across_in mesh) a.name.0 a.name.1
  pub above_is : IsAbove (across_in mesh) a.name a.above
