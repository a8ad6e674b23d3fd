-- What a round changes of a forest: patches are bisected one after another, and then members are taken away level by level.
use Rattle.std.specs.Prelude.{◌≡◌, ◌≢◌, ◌<◌, ◌↔◌, false, true, List, [], ◌∷◌, All, AllPairs, IsSome}
use Rattle.std.specs.FinSet.{contains, difference, from_list, union}
use Rattle.mesh_names.specs.Names.{Name, depth}
use Rattle.mesh_names.specs.Triangles.{Shape, size}
use Rattle.mesh_names.specs.Forests.{Names, Has, IsForest, IsLeaf}
use Rattle.mesh_names.specs.declared.patch.PatchName.{PatchName}
use Rattle.dof_transfer.specs.Held.{Held, value_of}
use Rattle.dof_transfer.specs.Exchanges.{IsPair, all_members, by_level, child, members_of}

-- the patch can be bisected: its elements are leaves
pub record CanBisect (mesh : Shape) (members : Names) (p : PatchName) : Type 0 where
  pub pair : IsPair p
  pub leaves : All (IsLeaf mesh members) (members_of p)

-- patches are bisected one after another, each when its elements are leaves
abbrev pub AreBisections : Shape → Names → List PatchName → Names → Type 0
AreBisections mesh members [] after = after ≡ members
AreBisections mesh members (p ∷ ps) after = CanBisect mesh members p × AreBisections mesh (union members (from_list (members_of p))) ps after

-- the name is a member, and its children are none
pub record IsBottom (members : Names) (n : Name) : Type 0 where
  pub member : Has members n
  pub zero : contains members (child false n) ≡ false
  pub one : contains members (child true n) ≡ false

-- members are taken away one list after another, each when the children of its names are no members
abbrev pub AreCoarsenings : Names → List (List Name) → Names → Type 0
AreCoarsenings members [] after = after ≡ members
AreCoarsenings members (ns ∷ lists) after = All (IsBottom members) ns × AreCoarsenings (difference members (from_list ns)) lists after

-- names of the mesh that can have children, none twice
pub record AreParents (mesh : Shape) (names : List Name) : Type 0 where
  pub rooted : All (λ n. n.0 < size mesh) names
  pub deep : All (λ n. depth n < 24) names
  pub apart : AllPairs (λ m n. m ≢ n) names

-- from one forest to another: the born patches are bisected in order, and then the members of the died ones are taken away level by level
pub record IsChange (mesh : Shape) (before : Names) (born died : List PatchName) (after : Names) : Type 0 where
  pub refined : Names
  pub bisections : AreBisections mesh before born refined
  pub coarsenings : AreCoarsenings refined (by_level mesh (all_members died)) after

-- exactly the leaves of the forest have values
pub record AreOfForest (mesh : Shape) (members : Names) (held : Held) : Type 0 where
  pub forest : IsForest mesh members
  pub live : (n : Name) → (IsLeaf mesh members n ↔ IsSome (value_of held n))
