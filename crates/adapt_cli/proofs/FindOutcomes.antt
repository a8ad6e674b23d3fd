-- From the rounds to the leaves of points.
use Rattle.std.proofs.Common.{ℕ, ◌≤◌, subst, List}
use Rattle.std.specs.Prelude.{Ok, Err}
use Rattle.mesh_names.specs.Names.{Name}
use Rattle.compat_check.specs.Meshes.{Mesh}
use Rattle.compat_check.specs.Points.{Point}
use Rattle.mark_file.specs.Meaning.{Round}
use Rattle.mesh_rounds.specs.State.{IsFirst, State}
use Rattle.locate_point.specs.PlaceTexts.{IsPlacesText}
use Rattle.adapt_words.specs.Finding.{FindWords}
use Rattle.adapt_cli.specs.FaultTexts.{Fault}
use Rattle.adapt_cli.specs.Finding.{FindsTo}
use Rattle.mesh_rounds.specs.Texts.{AreLeaves}
use Rattle.adapt_cli.specs.Rounds.{LeadTo}
use Rattle.adapt_cli.specs.Stops.{IsRun, StopsBy}
use Rattle.adapt_cli.specs.declared.fault.Stop.{Stop}
use Rattle.adapt_cli.specs.declared.fault.Stop.TheVariants.{Refused, Memory}
use Rattle.adapt_cli.proofs.Outcomes.{lead_status}

-- a call that is refused by a round has status 4 or 5
pub find_status : (mesh : Mesh) (find : FindWords) (rounds : List Round) (points : List Point) (fault : Fault) → FindsTo mesh find rounds points (Err fault) → (3 ≤ fault.0) × (fault.0 ≤ 5)
find_status mesh find rounds points fault h = lead_status mesh find.pool rounds h.0 fault h.2

-- the rounds on a new forest are refused
pub find_refused : (mesh : Mesh) (find : FindWords) (rounds : List Round) (points : List Point) (first : State) (stop : Stop) → IsFirst mesh first → StopsBy (LeadTo mesh find.pool rounds first) stop → StopsBy (FindsTo mesh find rounds points) stop
find_refused mesh find rounds points first (Refused fault) is_first stops = (first, is_first, stops)
find_refused mesh find rounds points first Memory is_first stops = tt

-- they end in leaves, among which each point has its place
pub find_made : (mesh : Mesh) (find : FindWords) (rounds : List Round) (points : List Point) (first last : State) (list : List Name) (text : List ℕ) → IsFirst mesh first → IsRun mesh find.pool rounds first last → AreLeaves mesh last list → IsPlacesText mesh list points text → FindsTo mesh find rounds points (Ok text)
find_made mesh find rounds points first last list text is_first ran listed written = (first, is_first, ran.0, ran.1, list, subst (λ (s : State). AreLeaves mesh s list) ran.2 listed, written)
