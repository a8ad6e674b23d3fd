-- Files that a command loads, one after another, and what they lead to.
use Rattle.std.specs.Prelude.{◌≡◌, ℕ, ◌⊎◌, List, Option, Some, IfSome, Err}
use Rattle.std.specs.FinMap.{get}
use Rattle.mesh_io.specs.Shelves.{Files}
use Rattle.adapt_words.specs.Numbers.{Word}
use Rattle.adapt_cli.specs.FaultTexts.{End}

-- what the bytes of a file lead to: they are refused with a line, which goes with this status, or are read as something that `next` goes on with
abbrev pub Follows : {A : Type 0} → ℕ → (List ℕ → List ℕ → Type 0) → (List ℕ → A → Type 0) → (A → End → Type 0) → List ℕ → End → Type 0
Follows {A} status refuses accepts next bytes end = ((line : List ℕ) × refuses bytes line × (end ≡ Err (status, line))) ⊎ ((read : A) × accepts bytes read × next read end)

-- what a file of this name leads to, which has to be there
abbrev pub Loads : {A : Type 0} → Word → ℕ → (List ℕ → List ℕ → Type 0) → (List ℕ → A → Type 0) → (A → Files → End → Type 0) → Files → End → Type 0
Loads name status refuses accepts next files end = (bytes : List ℕ) × (get files name ≡ Some bytes) × Follows status refuses accepts (λ read. next read files) bytes end

-- where the shelf tells its files, the one of this name is there and is accepted
abbrev pub IsAccepted : {A : Type 0} → (List ℕ → A → Type 0) → Option Files → Word → Type 0
IsAccepted {A} accepts files name = IfSome files (λ told. (bytes : List ℕ) × (get told name ≡ Some bytes) × (read : A) × accepts bytes read)

-- which files are asked for: the one of this name; and, once it is accepted, those that `next` tells
abbrev pub Asks : {A : Type 0} → Word → (List ℕ → A → Type 0) → (Option Files → Word → Type 0) → Option Files → Word → Type 0
Asks name accepts next files asked = (asked ≡ name) ⊎ (IsAccepted accepts files name × next files asked)

-- the file of this name alone is asked for
abbrev pub AsksOnce : Word → Option Files → Word → Type 0
AsksOnce name files asked = asked ≡ name
