-- What a write to a sink takes, and the sink in memory.
use Rattle.std.specs.Prelude.{◌≡◌, ℕ, ◌≤◌, List, [], ◌++◌, length, take, Option, Some, IfSome, Result, Ok, Err, IfOk, IfErr}
use Rattle.mesh_io.specs.Faults.{Rose, Plan, first_plan}

-- what a write of a piece answers, and what becomes of the count of faults and of the bytes that the sink tells
pub record Writes {E : Type 0} (before now : ℕ) (old new : Option (List ℕ)) (piece : List ℕ) (result : Result ℕ E) : Type 0 where
  pub never_falls : before ≤ now
  pub taken : IfOk result (λ count. (1 ≤ count) × (count ≤ length piece) × (now ≡ before) × IfSome old (λ held. new ≡ Some (held ++ take count piece)))
  pub failed : IfErr result (λ _. Rose before now × (new ≡ old))

-- a sink in memory: what it holds, how many bytes it has room for, how many a write takes at most
pub record MemBytes : Type 0 where
  pub held : List ℕ
  pub room : ℕ
  pub most : ℕ
  pub plan : Plan

-- a sink in memory that holds nothing
abbrev pub empty_sink : ℕ → ℕ → List ℕ → MemBytes
empty_sink room most listed = record { held = []; room = room; most = most; plan = first_plan listed }

-- the bytes of the piece that a write has taken
abbrev pub taken_of : {E : Type 0} → Result ℕ E → List ℕ → List ℕ
taken_of (Ok count) piece = take count piece
taken_of (Err e) piece = []
