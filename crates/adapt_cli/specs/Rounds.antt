-- Rounds, one after another, up to the first that is refused.
use Rattle.std.specs.Prelude.{◌≡◌, ℕ, ◌⊎◌, List, [], ◌∷◌, Result, Ok, Err, Some}
use Rattle.std.specs.Result.{result_map_both}
use Rattle.mesh_names.specs.Forests.{Names}
use Rattle.compat_check.specs.Meshes.{Mesh, across_in, shape_of}
use Rattle.forest_plain.specs.Rounds.{IsRoundRefusal, Room}
use Rattle.forest_plain.specs.declared.refusal.RoundRefusal.{RoundRefusal}
use Rattle.mark_file.specs.Meaning.{Round}
use Rattle.mesh_rounds.specs.State.{IsMeshRound, State}
use Rattle.adapt_cli.specs.FaultTexts.{Fault, round_fault}

-- the whole pool, of which nothing is kept back
abbrev pub whole : ℕ → Room
whole pool = record { pool = pool; kept = 0 }

-- the round is refused, and this is what becomes of it
pub record Refuses (mesh : Mesh) (pool : ℕ) (old : Names) (round : Round) (fault : Fault) : Type 0 where
  pub refusal : RoundRefusal
  pub cause : IsRoundRefusal (shape_of mesh) (across_in mesh) (whole pool) old round.rows refusal
  pub told : round_fault round.number refusal ≡ Some fault

-- with this state before all others, where there is no fault
abbrev pub preceded : State → Result (List State) Fault → Result (List State) Fault
preceded state end = result_map_both (λ states. state ∷ states) (λ fault. fault) end

-- what the rounds lead to from a state: the state after each of them, or the first fault
abbrev pub LeadTo : Mesh → ℕ → List Round → State → Result (List State) Fault → Type 0
LeadTo mesh pool [] old end = end ≡ Ok []
LeadTo mesh pool (round ∷ rounds) old end =
    ((new : State) × IsMeshRound mesh (whole pool) round.rows old new × (rest : Result (List State) Fault) × LeadTo mesh pool rounds new rest × (end ≡ preceded new rest))
    ⊎ ((fault : Fault) × Refuses mesh pool old.members round fault × (end ≡ Err fault))

-- the last of the states, or the first one where no round was made
abbrev pub last_state : State → List State → State
last_state old [] = old
last_state old (new ∷ states) = last_state new states
