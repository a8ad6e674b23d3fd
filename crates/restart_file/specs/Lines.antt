-- What reading the line of one element answers.
use Rattle.std.specs.Prelude.{◌≡◌, ℕ, List, [], ◌++◌}
use Rattle.mesh_names.specs.Names.{Name}
use Rattle.compat_check.specs.Meshes.{Mesh}
use Rattle.restart_file.specs.Trees.{Tree, bisected}
use Rattle.restart_file.specs.Refusals.{AreLow, HasLine, HasNoLine, HasDeepLine}
use Rattle.restart_file.specs.declared.refusal.RestartRefusal.{RestartRefusal}
use Rattle.restart_file.specs.declared.refusal.RestartRefusal.TheVariants.{BadWord, TooDeep, Memory}

-- the line was read: its members, which are of low levels, were added
pub record IsLineRead (mesh : Mesh) (element : ℕ) (bytes rest : List ℕ) (old new : List Name) : Type 0 where
  pub tree : Tree
  pub line : HasLine bytes tree rest
  pub added : new ≡ old ++ bisected (element, []) tree
  pub low : AreLow mesh (bisected (element, []) tree)

-- when the line of this element is refused
abbrev pub IsLineRefusal : Mesh → ℕ → List ℕ → RestartRefusal → Type 0
IsLineRefusal mesh element bytes (BadWord e) = (e ≡ element) × HasNoLine bytes
IsLineRefusal mesh element bytes (TooDeep e) = (e ≡ element) × HasDeepLine mesh element bytes
IsLineRefusal mesh element bytes Memory = Unit {0}
IsLineRefusal mesh element bytes other = ⊥

-- the refusal of this element, whose word has a deep name: its word is bad where it does not go on to its end
abbrev pub MatchDeep : ℕ → Type 0 → RestartRefusal → Type 0
MatchDeep element goes_on (BadWord e) = (e ≡ element) × (goes_on → ⊥)
MatchDeep element goes_on (TooDeep e) = (e ≡ element) × goes_on
MatchDeep element goes_on other = ⊥
