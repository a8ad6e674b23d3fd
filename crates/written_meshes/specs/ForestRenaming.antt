-- Forests under a renaming: the names of one mesh stand for the names at and below the leaves of a forest of another.
use Rattle.std.specs.Prelude.{◌≡◌, ◌+◌, ◌<◌, ◌≤◌, ℕ, Bool, List, [], ◌∷◌, Some, ◌⊎◌}
use Rattle.std.specs.FinSet.{contains}
use Rattle.mesh_names.specs.Names.{Name, name_cmp}
use Rattle.mesh_names.specs.Triangles.{Shape, size, level}
use Rattle.mesh_names.specs.Forests.{Names, Has, Within, IsForest, IsLeaf}
use Rattle.mesh_names.specs.Conformity.{HoldsPartners}
use Rattle.mesh_names.specs.Partners.{Across, Tells, partner}
use Rattle.mesh_names.specs.LeastForest.{IsLeast}
use Rattle.mesh_names.specs.Coarsening.{IsCoarsened, IsConforming, MarkedForest, child_at}
use Rattle.mesh_names.specs.Patches.{patch_count}
use Rattle.mesh_names.specs.Validity.{across_of}
use Rattle.written_meshes.specs.Renaming.{IsWrittenFrom, renamed}

-- each name of the other mesh stands for one at or below a leaf of a forest of the mesh, and each name there for which none stands is a member
-- a macro element stands for a leaf, a child for a child, a partner for a partner, the order is kept, and the levels below one leaf differ by one number
pub record IsRenaming (mesh other : Shape) (x y : Across) (members : Names) (rename : Name → Name) : Type 0 where
  pub tells : Tells mesh x
  pub tells_other : Tells other y
  pub forest : IsForest mesh members
  pub holds : HoldsPartners x members
  pub tops : (r : ℕ) → r < size other → IsLeaf mesh members (rename (r, []))
  pub children : (r : ℕ) (b : Bool) (w : List Bool) → rename (r, b ∷ w) ≡ child_at (rename (r, w)) b
  pub below : (n : Name) → n.0 < size other → Has members (rename n) → ⊥
  pub one : (m n : Name) → m.0 < size other → n.0 < size other → rename m ≡ rename n → m ≡ n
  pub all : (n : Name) → n.0 < size mesh → Has members n ⊎ ((m : Name) × (m.0 < size other) × (rename m ≡ n))
  pub partners : (n m : Name) (t : Bool) → n.0 < size other → partner y n.0 n.1 ≡ Some (m, t) →
      (s : Bool) × (partner x (rename n).0 (rename n).1 ≡ Some (rename m, s))
  pub back : (n m : Name) (t : Bool) → n.0 < size other → partner x (rename n).0 (rename n).1 ≡ Some (m, t) →
      (k : Name) × ((s : Bool) × (partner y n.0 n.1 ≡ Some (k, s)) × (rename k ≡ m))
  pub order : (m n : Name) → m.0 < size other → n.0 < size other → name_cmp (rename m) (rename n) ≡ name_cmp m n
  pub levels : (r : ℕ) → r < size other → (c : ℕ) × ((w : List Bool) → level mesh (rename (r, w)) ≡ level other (r, w) + c)

-- the law that a written mesh's names stand so for those of the mesh that it was written from
abbrev pub WrittenIsRenaming : Type 0
WrittenIsRenaming = (mesh : Shape) (x : Across) (count : ℕ) (members : Names) (list : List Name) (other : Shape) →
    IsWrittenFrom mesh x count members list other → IsRenaming mesh other x (across_of other) members (renamed list)

-- a set of names of the other mesh has exactly those that stand for names of a set
pub record StandsFor (other : Shape) (rename : Name → Name) (new old : Names) : Type 0 where
  pub rooted : (n : Name) → Has new n → n.0 < size other
  pub same : (n : Name) → n.0 < size other → contains new n ≡ contains old (rename n)

-- and so do the marks of its forest's leaves
pub record MarksStandFor (other : Shape) (rename : Name → Name) (new old : MarkedForest) : Type 0 where
  pub forest : StandsFor other rename new.forest old.forest
  pub marks : (n : Name) → n.0 < size other → new.marks n ≡ old.marks (rename n)

-- the law that the least forest of names that stand for names stands for the least forest of these,
-- where the old one holds the forest at and below whose leaves the names stand
abbrev pub LeastStandsFor : Type 0
LeastStandsFor = (mesh other : Shape) (x y : Across) (members : Names) (rename : Name → Name) → IsRenaming mesh other x y members rename →
    (old needs least new_old new_needs new_least : Names) → Within members old → StandsFor other rename new_old old → StandsFor other rename new_needs needs →
    IsLeast mesh old needs least → IsLeast other new_old new_needs new_least → StandsFor other rename new_least least

-- the law that the coarsened forest of names that stand for names stands for the coarsened forest of these, where no patch of that forest is coarsened
abbrev pub CoarsenedStandsFor : Type 0
CoarsenedStandsFor = (mesh other : Shape) (x y : Across) (members : Names) (rename : Name → Name) → IsRenaming mesh other x y members rename →
    (s new_s : MarkedForest) (coarsened new_coarsened : Names) → IsConforming mesh x s → IsConforming other y new_s → MarksStandFor other rename new_s s →
    IsCoarsened x s coarsened → Within members coarsened → IsCoarsened y new_s new_coarsened → StandsFor other rename new_coarsened coarsened

-- the law that names that stand for names have no more patches than these
abbrev pub PatchesAreFewer : Type 0
PatchesAreFewer = (mesh other : Shape) (x y : Across) (members : Names) (rename : Name → Name) → IsRenaming mesh other x y members rename →
    (new old : Names) → StandsFor other rename new old → patch_count y new ≤ patch_count x old
