-- Edges that two elements share, by their places.
use Rattle.std.specs.Prelude.{◌≡◌, ℕ, ◌*◌, ◌/◌, ◌%◌, ◌<◌, eqb, not, List, length, Option, Some, None, IfSome, IsSome, slice_index_or}
use Rattle.mesh_names.specs.Triangles.{Triple}
use Rattle.compat_check.specs.Faults.{AreSound, IsFirst}
use Rattle.compat_check.specs.Places.{AreEarlier, Meets, ends_at}
use Rattle.compat_check.specs.Twins.{TwinFree}
use Rattle.macro_file.specs.declared.text.MacroVertex.{MacroVertex}
use Rattle.compat_check.specs.declared.mesh.Side.{Side}

-- each place leads to one before it
abbrev pub FallBack : List (Option ℕ) → Type 0
FallBack earlier = (i : ℕ) → i < length earlier → IfSome (slice_index_or earlier i None) (λ j. j < i)

-- the place has an earlier one, which has an earlier one
abbrev pub IsThirdAt : List (Option ℕ) → ℕ → Type 0
IsThirdAt earlier i = (j : ℕ) × (slice_index_or earlier i None ≡ Some j) × IsSome (slice_index_or earlier j None)

-- what the edge at one place sees of the edge at another
abbrev pub side_of : List Triple → ℕ → ℕ → Side
side_of triples from to = record { element = to / 3; edge = to % 3; turned = not (eqb (ends_at triples from).0 (ends_at triples to).0) }

-- the side tells another place of the same edge
abbrev pub IsSide : List Triple → ℕ → Side → Type 0
IsSide triples k s = (l : ℕ) × (l < length triples * 3) × (l ≡ k → ⊥) × Meets triples l k × (s ≡ side_of triples k l)

-- the sides of the first n places and of those that they lead to
pub record AreSides (triples : List Triple) (earlier : List (Option ℕ)) (sides : List (Option Side)) (n : ℕ) : Type 0 where
  pub each : length sides ≡ length triples * 3
  pub right : (k : ℕ) → k < length triples * 3 → IfSome (slice_index_or sides k None) (IsSide triples k)
  pub done : (k j : ℕ) → k < n → slice_index_or earlier k None ≡ Some j → IsSome (slice_index_or sides k None) × IsSome (slice_index_or sides j None)

-- the table of an edge that is nowhere in three: what lies across each edge, found from the earlier places
pub record IsTable (triples : List Triple) (sides : List (Option Side)) : Type 0 where
  pub earlier : List (Option ℕ)
  pub known : AreEarlier triples earlier
  pub free : IsFirst (length earlier) (IsThirdAt earlier) None
  pub sides_are : AreSides triples earlier sides (length triples * 3)

-- a valid mesh, and its table
pub record Passes (vertices : List MacroVertex) (triples : List Triple) (sides : List (Option Side)) : Type 0 where
  pub sound : AreSound vertices triples
  pub twin_free : TwinFree triples
  pub table : IsTable triples sides
