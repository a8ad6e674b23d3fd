-- Coarsening: patches are taken away, one after another, while the marks of their members' children are below 0.
use Rattle.std.specs.Prelude.{◌≡◌, ℕ, suc, ◌≤◌, ℤ, pos, negsuc, ◌+ℤ◌, Bool, true, false, cond, not, ◌||◌, List, [], ◌∷◌, Option, Some, None, ◌↔◌}
use Rattle.std.specs.Int.{is_negative, int_max}
use Rattle.std.specs.FinSet.{contains, retain}
use Rattle.mesh_names.specs.Names.{Name, name_eq}
use Rattle.mesh_names.specs.Triangles.{Shape}
use Rattle.mesh_names.specs.Forests.{Names, Has, Within, IsForest, Conforms}
use Rattle.mesh_names.specs.Partners.{Across, Tells, InPatch, partner}
use Rattle.mesh_names.specs.Leaves.{leaves}
use Rattle.mesh_names.specs.Marks.{effective_mark}
use Rattle.mesh_names.specs.declared.rows.MarkRow.{MarkRow}

-- a forest with the marks of its leaves; a leaf without a mark has 0, and what `marks` says of other names is not read
pub record MarkedForest : Type 0 where
  pub forest : Names
  pub marks : Name → ℤ

-- a leaf of the old forest has its effective mark, and every other name none
abbrev pub mark_of_old : Shape → Names → List MarkRow → Name → ℤ
mark_of_old mesh old rows n = cond (contains (leaves mesh old) n) (effective_mark rows n) (pos 0)

-- a round's refined forest, where each leaf that is one of the old forest has its effective mark, and other leaves have none
abbrev pub marked_by : Shape → Names → List MarkRow → Names → MarkedForest
marked_by mesh old rows refined = record { forest = refined; marks = mark_of_old mesh old rows }

-- the child of a name on this side
abbrev pub child_at : Name → Bool → Name
child_at n side = (n.0, side ∷ n.1)

-- a member whose children are leaves with marks below 0
pub record IsFullyMarked (s : MarkedForest) (n : Name) : Type 0 where
  pub member : Has s.forest n
  pub leaves : (side : Bool) → contains s.forest (child_at n side) ≡ false
  pub below : (side : Bool) → is_negative (s.marks (child_at n side)) ≡ true

-- the patch of p can be taken away: the children of its members are all leaves, and all have marks below 0
abbrev pub CanCoarsen : Across → MarkedForest → Name → Type 0
CanCoarsen x s p = (q : Name) → InPatch x p q → IsFullyMarked s q

-- the partner, if there is one, is q
abbrev pub is_partner : Option (Name × Bool) → Name → Bool
is_partner None q = false
is_partner (Some m) q = name_eq q m.0

-- q is p, or is its partner
abbrev pub in_patch : Across → Name → Name → Bool
in_patch x p q = name_eq q p || is_partner (partner x p.0 p.1) q

-- the greater of two marks, plus one
abbrev pub joined_mark : ℤ → ℤ → ℤ
joined_mark a b = int_max a b +ℤ pos 1

-- a step takes away the patch of p: its members become leaves, each with the greater of its children's marks, plus one
abbrev pub after_step : Across → Name → MarkedForest → MarkedForest
after_step x p s = record {
  forest = retain s.forest (λ q. not (in_patch x p q));
  marks = λ q. cond (in_patch x p q) (joined_mark (s.marks (child_at q false)) (s.marks (child_at q true))) (s.marks q);
}

-- steps, one after another
abbrev pub after_steps : Across → List Name → MarkedForest → MarkedForest
after_steps x [] s = s
after_steps x (p ∷ ps) s = after_steps x ps (after_step x p s)

-- each patch can be taken away when its turn comes
abbrev pub AreSteps : Across → List Name → MarkedForest → Type 0
AreSteps x [] s = Unit {0}
AreSteps x (p ∷ ps) s = CanCoarsen x s p × AreSteps x ps (after_step x p s)

-- no patch can be taken away
abbrev pub HasEnded : Across → MarkedForest → Type 0
HasEnded x s = (p : Name) → CanCoarsen x s p → ⊥

-- the coarsened forest: that at which steps end
pub record IsCoarsened (x : Across) (s : MarkedForest) (coarsened : Names) : Type 0 where
  pub steps : List Name
  pub are_steps : AreSteps x steps s
  pub ended : HasEnded x (after_steps x steps s)
  pub is : coarsened ≡ (after_steps x steps s).forest

-- how often a leaf of this mark may be coarsened
abbrev pub allowance : ℤ → ℕ
allowance (pos n) = 0
allowance (negsuc n) = suc n

-- a conforming forest, in a mesh whose neighbours `x` tells
pub record IsConforming (mesh : Shape) (x : Across) (s : MarkedForest) : Type 0 where
  pub tells : Tells mesh x
  pub forest : IsForest mesh s.forest
  pub conforms : Conforms mesh s.forest

-- the law that a step keeps a conforming forest
abbrev pub StepsKeep : Type 0
StepsKeep = (mesh : Shape) (x : Across) (s : MarkedForest) → IsConforming mesh x s → (p : Name) → CanCoarsen x s p → IsConforming mesh x (after_step x p s)

-- the law that steps on two patches can change places, with the same forest and the same marks after both
abbrev pub StepsSwap : Type 0
StepsSwap = (mesh : Shape) (x : Across) (s : MarkedForest) → IsConforming mesh x s → (p q : Name) → (InPatch x p q → ⊥) → CanCoarsen x s p → CanCoarsen x s q →
    CanCoarsen x (after_step x p s) q × CanCoarsen x (after_step x q s) p × (after_step x q (after_step x p s) ≡ after_step x p (after_step x q s))

-- the law that there is a coarsened forest: steps can come to an end
abbrev pub StepsCanEnd : Type 0
StepsCanEnd = (mesh : Shape) (x : Across) (s : MarkedForest) → IsConforming mesh x s → (coarsened : Names) × IsCoarsened x s coarsened

-- the law that there is one alone: steps in any order end at it
abbrev pub StepsEndAtOne : Type 0
StepsEndAtOne = (mesh : Shape) (x : Across) (s : MarkedForest) → IsConforming mesh x s → (a b : Names) → IsCoarsened x s a → IsCoarsened x s b → a ≡ b

-- the law that the coarsened forest is a conforming forest within the refined one
abbrev pub CoarsenedConforms : Type 0
CoarsenedConforms = (mesh : Shape) (x : Across) (s : MarkedForest) → IsConforming mesh x s → (coarsened : Names) → IsCoarsened x s coarsened → IsForest mesh coarsened × Conforms mesh coarsened × Within coarsened s.forest

-- the law that with no mark below -1 exactly those patches go whose members' children are all leaves marked -1
abbrev pub CoarsenedOnce : Type 0
CoarsenedOnce = (mesh : Shape) (x : Across) (s : MarkedForest) → IsConforming mesh x s → ((n : Name) → allowance (s.marks n) ≤ 1) → (coarsened : Names) → IsCoarsened x s coarsened →
    (n : Name) → Has s.forest n → ((contains coarsened n ≡ false) ↔ CanCoarsen x s n)
