-- The faults that each pass of the check finds.
use Rattle.std.specs.Prelude.{◌≡◌, ℕ, suc, ◌+◌, ◌*◌, ◌<◌, ℤ, Bool, true, List, length, Option, Some, None, slice_index_or}
use Rattle.macro_file.specs.declared.text.MacroVertex.{MacroVertex}
use Rattle.macro_file.specs.declared.text.MacroElem.{MacroElem}
use Rattle.mesh_names.specs.Triangles.{Triple}
use Rattle.compat_check.specs.Checks.{AreFirstTwins, IsEdgeOfThree, IsFirstEdge}
use Rattle.compat_check.specs.Faults.{AreSound, IsFirst, IsFlat, IsOutside, IsRepeated, triple_in}
use Rattle.compat_check.specs.Twins.{TwinFree}
use Rattle.compat_check.specs.Tables.{Differs}
use Rattle.compat_check.specs.Parts.{Satisfies}
use Rattle.compat_check.specs.Grading.{AreGrades, rules_before}
use Rattle.compat_check.specs.declared.mesh.Side.{Side}
use Rattle.compat_check.specs.declared.refusal.CheckRefusal.{CheckRefusal}
use Rattle.compat_check.specs.declared.refusal.CheckRefusal.TheVariants.{VertexRange, RepeatedVertex, Flat, TwinElements, EdgeOfThree, NeighboursDiffer, Incompatible, GradeTooHigh, Memory}

-- the first element with a fault by itself
abbrev pub IsElementFault : List MacroVertex → List Triple → CheckRefusal → Type 0
IsElementFault vertices triples (VertexRange r) = IsFirst (length triples) (λ q. IsOutside (length vertices) (triple_in triples q)) (Some r)
IsElementFault vertices triples (RepeatedVertex r) = IsFirst (length triples) (λ q. IsOutside (length vertices) (triple_in triples q)) None × IsFirst (length triples) (λ q. IsRepeated (triple_in triples q)) (Some r)
IsElementFault vertices triples (Flat r) = IsFirst (length triples) (λ q. IsOutside (length vertices) (triple_in triples q)) None × IsFirst (length triples) (λ q. IsRepeated (triple_in triples q)) None × IsFirst (length triples) (λ q. IsFlat vertices (triple_in triples q)) (Some r)
IsElementFault vertices triples _ = ⊥

-- the first twins, or want of memory
abbrev pub IsTwinFault : List Triple → CheckRefusal → Type 0
IsTwinFault triples (TwinElements a b) = AreFirstTwins triples a b
IsTwinFault triples Memory = Unit {0}
IsTwinFault triples _ = ⊥

-- the first edge of three, or want of memory
abbrev pub IsEdgeFault : List Triple → CheckRefusal → Type 0
IsEdgeFault triples (EdgeOfThree r k) = IsFirstEdge (length triples) (IsEdgeOfThree triples) r k
IsEdgeFault triples Memory = Unit {0}
IsEdgeFault triples _ = ⊥

-- the first of these, in their order
abbrev pub IsValidityFault : List MacroVertex → List Triple → CheckRefusal → Type 0
IsValidityFault vertices triples (TwinElements a b) = AreSound vertices triples × AreFirstTwins triples a b
IsValidityFault vertices triples (EdgeOfThree r k) = AreSound vertices triples × TwinFree triples × IsFirstEdge (length triples) (IsEdgeOfThree triples) r k
IsValidityFault vertices triples Memory = Unit {0}
IsValidityFault vertices triples refusal = IsElementFault vertices triples refusal

-- the first given neighbour that is not the one of the table
abbrev pub IsNeighbourFault : Bool → List MacroElem → List (Option Side) → CheckRefusal → Type 0
IsNeighbourFault given elements sides (NeighboursDiffer r k) = (given ≡ true) × (k < 3) × IsFirst (length sides) (Differs elements sides) (Some (r * 3 + k))
IsNeighbourFault given elements sides _ = ⊥

-- the first place at which no grades meet what is asked up to it
pub record IsStuck (sides : List (Option Side)) (place : ℕ) : Type 0 where
  pub inside : place < length sides
  pub side : Side
  pub here : slice_index_or sides place None ≡ Some side
  pub before : (g : ℕ → ℤ) × Satisfies g (rules_before sides place)
  pub none : (g : ℕ → ℤ) → Satisfies g (rules_before sides (suc place)) → ⊥

-- the first grade above 24
pub record IsTooGreat (n : ℕ) (sides : List (Option Side)) (r grade : ℕ) : Type 0 where
  pub grades : List ℕ
  pub are : AreGrades n (rules_before sides (length sides)) grades
  pub first : IsFirst n (λ q. 24 < slice_index_or grades q 0) (Some r)
  pub told : grade ≡ slice_index_or grades r 0

abbrev pub IsGradeFault : ℕ → List (Option Side) → CheckRefusal → Type 0
IsGradeFault n sides (Incompatible r k) = (k < 3) × IsStuck sides (r * 3 + k)
IsGradeFault n sides (GradeTooHigh r grade) = IsTooGreat n sides r grade
IsGradeFault n sides Memory = Unit {0}
IsGradeFault n sides _ = ⊥
