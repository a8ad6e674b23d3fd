-- What a round adds to a forest and takes away from it, as lists of patches.
use Rattle.std.specs.Prelude.{◌≡◌, ℕ, zero, suc, Bool, not, ◌&&◌, ◌==◌, List, [], ◌++◌, map, filter}
use Rattle.std.specs.FinSet.{contains}
use Rattle.mesh_names.specs.Names.{Name}
use Rattle.mesh_names.specs.Triangles.{Shape, level}
use Rattle.mesh_names.specs.Partners.{Across}
use Rattle.mesh_names.specs.Forests.{Names, IsListOf}
use Rattle.mesh_names.specs.Patches.{owns, patch_of}
use Rattle.mesh_names.specs.declared.patch.PatchName.{PatchName}

-- the name owns a patch that is not in the other forest
abbrev pub owns_new : Across → Names → Name → Bool
owns_new across other n = not (contains other n) && owns across n

-- the owners of the patches that are not in the other forest
abbrev pub new_owners : Across → Names → List Name → List Name
new_owners across other list = filter (owns_new across other) list

-- the patches of the owners of one level, in the order of the owners
abbrev pub patches_at : Shape → Across → ℕ → List Name → List PatchName
patches_at mesh across l owners = map (patch_of across) (filter (λ n. level mesh n == l) owners)

-- the patches of the owners below a level, by level and then by owner
abbrev pub patches_below : Shape → Across → ℕ → List Name → List PatchName
patches_below mesh across zero owners = []
patches_below mesh across (suc l) owners = patches_below mesh across l owners ++ patches_at mesh across l owners

-- the patches of the owners below a level, by level from the greatest down and then by owner
abbrev pub patches_down : Shape → Across → ℕ → List Name → List PatchName
patches_down mesh across zero owners = []
patches_down mesh across (suc l) owners = patches_at mesh across l owners ++ patches_down mesh across l owners

-- the patches of the refined forest that are not in the old one, by level and then by owner
pub record AreBorn (mesh : Shape) (across : Across) (old refined : Names) (patches : List PatchName) : Type 0 where
  pub list : List Name
  pub is_list : IsListOf refined list
  pub are : patches ≡ patches_below mesh across 24 (new_owners across old list)

-- the patches of the refined forest that are not in the coarsened one, by level from the greatest down and then by owner
pub record AreDied (mesh : Shape) (across : Across) (refined coarsened : Names) (patches : List PatchName) : Type 0 where
  pub list : List Name
  pub is_list : IsListOf refined list
  pub are : patches ≡ patches_down mesh across 24 (new_owners across coarsened list)
