-- The lists of a round as sets of names: the target is the least forest.
use Rattle.std.specs.Prelude.{◌≡◌, ℕ, true, List, ◌+◌, ◌<◌, ◌≤◌}
use Rattle.mesh_names.specs.Names.{Name, depth}
use Rattle.mesh_names.specs.Triangles.{Shape, size, level}
use Rattle.mesh_names.specs.Forests.{Names, Has, IsForest, Conforms}
use Rattle.mesh_names.specs.Coarsening.{MarkedForest, after_steps}
use Rattle.mesh_names.specs.Patches.{owns}
use Rattle.mesh_names.specs.LeastForest.{IsLeast}
use Rattle.mesh_names.specs.Partners.{Across, Tells}
use Rattle.table_words.specs.declared.layout.Layout.{Layout}
use Rattle.table_words.specs.Entries.{HasEntry}
use Rattle.table_words.specs.NameWords.{name_code}
use Rattle.table_words.specs.Setup.{setup_of}
use Rattle.table_words.specs.Views.{FirstHalf, Plan, Views}
use Rattle.table_words.specs.Words.{Words}
use Rattle.table_state.specs.Bisections.{IsKept, MayRead}
use Rattle.table_state.specs.Lists.{Holds, IsTarget, IsListed}
use Rattle.table_state.specs.Rule.{Lawful}

-- the numbers are the codes of the names of the set, each of at most 24 letters
pub record AreCodes (names : Names) (Coded : ℕ → Type 0) : Type 0 where
  pub low : (n : Name) → Has names n → depth n ≤ 24
  pub codes : (n : Name) → Has names n → Coded (name_code n)
  pub names_of : (k : ℕ) → Coded k → (n : Name) × Has names n × (k ≡ name_code n)

-- the law that the codes of the least forest are a target, so that a round can begin with them
abbrev pub LeastIsTarget : Type 0
LeastIsTarget = (mesh : Shape) (across : Across) (l : Layout) (passes : ℕ) → Tells mesh across → (old needs new : Names) → IsLeast mesh old needs new
    → (names : List ℕ) (p : Plan) → AreCodes old (HasEntry names) → AreCodes needs (HasEntry p.needs) → AreCodes new (HasEntry p.target)
    → IsTarget (setup_of mesh across l passes) (HasEntry names) p

-- so it is of each round that may be read of a table over a mesh
abbrev pub OverMeshes : (Shape → (ℕ → ℕ) → Type 0) → Type 0
OverMeshes P = (mesh : Shape) (across : Across) (l : Layout) (passes : ℕ) → Tells mesh across
    → (w : Words) (n : ℕ) (v : Views) (lawful : Lawful (setup_of mesh across l passes) w n v) → (q : ℕ) → MayRead w.round v.ruling.phase v.read q
    → P mesh (lawful.0.who q)

-- the law that each bisected name is the code of a name of the mesh, of a level below 24
abbrev pub BisectedCoded : Type 0
BisectedCoded = OverMeshes (λ mesh who. (k : ℕ) → Holds who k → (n : Name) × (n.0 < size mesh) × (level mesh n < 24) × (depth n ≤ 24) × (k ≡ name_code n))

-- the law that the bisected names are a conforming forest
abbrev pub ReadsForests : Type 0
ReadsForests = OverMeshes (λ mesh who. (members : Names) → AreCodes members (Holds who) → IsForest mesh members × Conforms mesh members)

-- the law that there is a set of names whose codes are those that are bisected at the round, and it is a conforming forest: at each round that may be read
abbrev pub ReadableForests : Type 0
ReadableForests = (mesh : Shape) (across : Across) (l : Layout) (passes : ℕ) → Tells mesh across
    → (w : Words) (n : ℕ) (v : Views) (lawful : Lawful (setup_of mesh across l passes) w n v) → (q : ℕ) → MayRead w.round v.ruling.phase v.read q
    → (members : Names) × AreCodes members (Holds (lawful.0.who q)) × IsForest mesh members × Conforms mesh members

-- the same of the kept rounds: the last finished one, and each of which a pin is out
abbrev pub KeptForests : Type 0
KeptForests = (mesh : Shape) (across : Across) (l : Layout) (passes : ℕ) → Tells mesh across
    → (w : Words) (n : ℕ) (v : Views) (lawful : Lawful (setup_of mesh across l passes) w n v) → (q : ℕ) → IsKept w.round v.read q → (members : Names)
    × AreCodes members (Holds (lawful.0.who q)) × IsForest mesh members × Conforms mesh members

-- the law that in the first half, once the names that the round needs are bisected, the
-- bisected names are the least forest that holds these and the last finished round's
abbrev pub LeastWhenNeeded : Type 0
LeastWhenNeeded = (mesh : Shape) (across : Across) (l : Layout) (passes : ℕ) → Tells mesh across
    → (w : Words) (n : ℕ) (v : Views) (lawful : Lawful (setup_of mesh across l passes) w n v) → v.ruling.phase ≡ FirstHalf
    → ((k : ℕ) → HasEntry v.ruling.plan.needs k → Holds (lawful.0.who (w.round + 1)) k)
    → (old needs new : Names) → AreCodes old (Holds (lawful.0.who w.round)) → AreCodes needs (HasEntry v.ruling.plan.needs)
    → AreCodes new (Holds (lawful.0.who (w.round + 1))) → IsLeast mesh old needs new

-- the law that the names which the history gets are those of the target after coarsening
-- steps, where the retire list has the codes of the patches that the steps take away
abbrev pub HistoryCoarsens : Type 0
HistoryCoarsens = (mesh : Shape) (across : Across) (l : Layout) (passes : ℕ) → Tells mesh across → (m : MarkedForest) (steps : List Name) (p : Plan)
    → IsForest mesh m.forest → ((q : Name) → HasEntry steps q → Has m.forest q × (owns across q ≡ true))
    → AreCodes m.forest (HasEntry p.target) → ((q : Name) → HasEntry steps q → HasEntry p.retire (name_code q))
    → ((k : ℕ) → HasEntry p.retire k → (q : Name) × HasEntry steps q × (k ≡ name_code q))
    → (forest : List ℕ) → ((i : ℕ) → HasEntry forest i → HasEntry p.target i × (IsListed (setup_of mesh across l passes) p.retire i → ⊥))
    → ((i : ℕ) → HasEntry p.target i → (IsListed (setup_of mesh across l passes) p.retire i → ⊥) → HasEntry forest i)
    → AreCodes (after_steps across steps m).forest (HasEntry forest)
