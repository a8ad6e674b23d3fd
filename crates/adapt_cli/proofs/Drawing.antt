-- Rounds of drawn marks, one after another.
use Rattle.std.proofs.Common.{◌≡◌, ℕ, suc, ◌+◌, ◌-◌, ◌<◌, ◌≤◌, refl, sym, subst, List, All, inl, inr, ⊎_elim, arith}
use Rattle.std.specs.Prelude.{Result, Ok, Err, string_bytes}
use Rattle.mesh_names.specs.Names.{Name}
use Rattle.mesh_names.specs.Triangles.{level}
use Rattle.mesh_names.specs.Forests.{IsForest}
use Rattle.mesh_names.specs.declared.rows.MarkRow.{MarkRow}
use Rattle.compat_check.specs.Meshes.{Mesh, across_in, shape_of}
use Rattle.forest_plain.specs.Rounds.{IsRoundRefusal}
use Rattle.forest_plain.specs.declared.refusal.RoundRefusal.{RoundRefusal}
use Rattle.mesh_rounds.specs.State.{IsFirst, IsMeshRound, State}
use Rattle.soak.specs.Rows.{Drawing, IsDrawn, rows_for}
use Rattle.adapt_words.specs.Rounds.{SoakWords}
use Rattle.adapt_cli.specs.FaultTexts.{Fault}
use Rattle.mesh_rounds.specs.Texts.{AreLeaves}
use Rattle.adapt_cli.specs.Rounds.{whole}
use Rattle.adapt_cli.specs.Soaks.{DrawnTo, DrawsTo, IsGridMesh, IsSoakOutcome, Overfills, TellsOf}
use Rattle.adapt_cli.specs.Stops.{IsRoundStop, StopsBy}
use Rattle.adapt_cli.specs.declared.fault.Stop.{Stop}
use Rattle.adapt_cli.specs.declared.fault.Stop.TheVariants.{Refused, Memory}
use Rattle.adapt_cli.proofs.FullPools.{all-fine, overfills}

-- a drawn round is refused
pub draw-stops : (mesh : Mesh) (pool number : ℕ) (drawing : Drawing) (old : State) (list : List Name) (rows : List MarkRow) (refusal : RoundRefusal) (stop : Stop) → IsForest (shape_of mesh) old.members → AreLeaves mesh old list → All (IsDrawn (level (shape_of mesh)) list) rows → rows ≡ rows_for (level (shape_of mesh)) drawing list →
    IsRoundRefusal (shape_of mesh) (across_in mesh) (whole pool) old.members rows refusal → IsRoundStop number refusal stop → StopsBy (DrawsTo mesh pool 1 number drawing old) stop
draw-stops mesh pool number drawing old list rows refusal (Refused fault) forest listed drawn are cause told = (
  list,
  listed,
  inr (
    (fault.status, string_bytes fault.line),
    subst (λ (r : List MarkRow). Overfills mesh pool old.members number r (fault.status, string_bytes fault.line)) are
        (overfills mesh pool number old.members rows refusal (fault.status, string_bytes fault.line) (all-fine (shape_of mesh) old.members forest list listed rows drawn) cause told),
    refl,
  ),
)
draw-stops mesh pool number drawing old list rows refusal Memory forest listed drawn are cause told = tt

module _ (mesh : Mesh) (pool rounds : ℕ) (begin : Drawing) (first : State) where
  -- what the rounds that are left lead to from here, all of them lead to from the start
  pub record DrawnSoFar (made : ℕ) (drawing : Drawing) (now : State) : Type 0 where
    pub leads : (end : Result State Fault) → DrawsTo mesh pool (rounds - made) (made + 1) drawing now end → DrawsTo mesh pool rounds 1 begin first end

  pub none-drawn : DrawnSoFar 0 begin first
  none-drawn = record { leads = λ end h. subst (λ (n : ℕ). DrawsTo mesh pool n 1 begin first end) all h }
    where
      all : rounds - 0 ≡ rounds
      all = omega arith

  next-left : (made : ℕ) → made < rounds → suc (rounds - (made + 1)) ≡ rounds - made
  next-left made low = omega (arith, low)

  pub one-drawn : (made : ℕ) (drawing next : Drawing) (now new : State) → DrawnSoFar made drawing now → made < rounds → DrawnTo mesh pool (made + 1) drawing now next new → DrawnSoFar (made + 1) next new
  one-drawn made drawing next now new so_far low drawn = record {
    leads = λ end h. so_far.leads end (subst (λ (n : ℕ). DrawsTo mesh pool n (made + 1) drawing now end) (next-left made low)
        (drawn.0, drawn.1, inl (new, drawn.2, subst (λ (d : Drawing). DrawsTo mesh pool (rounds - (made + 1)) (made + 1 + 1) d new end) drawn.3 h)));
  }

  pub stops-drawing : (made : ℕ) (drawing : Drawing) (now : State) (stop : Stop) → DrawnSoFar made drawing now → made < rounds → StopsBy (DrawsTo mesh pool 1 (made + 1) drawing now) stop → StopsBy (DrawsTo mesh pool rounds 1 begin first) stop
  stops-drawing made drawing now Memory so_far low stops = tt
  stops-drawing made drawing now (Refused fault) so_far low stops = so_far.leads (Err (fault.status, string_bytes fault.line)) (subst (λ (n : ℕ). DrawsTo mesh pool n (made + 1) drawing now (Err (fault.status, string_bytes fault.line))) (next-left made low) (
    stops.0,
    stops.1,
    ⊎_elim
        (λ (a : (new : State) × IsMeshRound mesh (whole pool) (rows_for (level (shape_of mesh)) drawing stops.0) now new × (Err (fault.status, string_bytes fault.line) ≡ Ok new)). absurd (apart a.2))
        (λ (b : (f : Fault) × Overfills mesh pool now.members (made + 1) (rows_for (level (shape_of mesh)) drawing stops.0) f × (◌≡◌ {A = Result State Fault} (Err (fault.status, string_bytes fault.line)) (Err f))). inr b)
        stops.2,
  ))
    where
      apart : {A B : Type 0} {a : A} {b : B} → ◌≡◌ {A = Result A B} (Err b) (Ok a) → ⊥
      apart q = cc

  pub all-drawn : (made : ℕ) (drawing : Drawing) (now : State) → DrawnSoFar made drawing now → rounds ≤ made → DrawsTo mesh pool rounds 1 begin first (Ok now)
  all-drawn made drawing now so_far done = so_far.leads (Ok now) (subst (λ (n : ℕ). DrawsTo mesh pool n (made + 1) drawing now (Ok now)) (sym nothing) refl)
    where
      nothing : rounds - made ≡ 0
      nothing = omega (arith, done)

-- a soak that ends
pub soaks : (soak : SoakWords) (mesh : Mesh) (first last : State) (pool : ℕ) (line : List ℕ) → IsGridMesh soak.grid mesh → IsFirst mesh first → pool ≡ soak.pool → DrawsTo mesh pool soak.rounds 1 (record { state = soak.start; row = 1 }) first (Ok last) → TellsOf mesh soak last line → IsSoakOutcome soak (Ok line)
soaks soak mesh first last pool line grid is_first same drawn tells = (mesh, grid, first, is_first, last, subst (λ (p : ℕ). DrawsTo mesh p soak.rounds 1 (record { state = soak.start; row = 1 }) first (Ok last)) same drawn, tells)

-- and one that is refused
pub soak-stops : (soak : SoakWords) (mesh : Mesh) (first : State) (pool : ℕ) (stop : Stop) → IsGridMesh soak.grid mesh → IsFirst mesh first → pool ≡ soak.pool → StopsBy (DrawsTo mesh pool soak.rounds 1 (record { state = soak.start; row = 1 }) first) stop → StopsBy (IsSoakOutcome soak) stop
soak-stops soak mesh first pool (Refused fault) grid is_first same stops = (mesh, grid, first, is_first, subst (λ (p : ℕ). DrawsTo mesh p soak.rounds 1 (record { state = soak.start; row = 1 }) first (Err (fault.status, string_bytes fault.line))) same stops)
soak-stops soak mesh first pool Memory grid is_first same stops = tt

pub soak-wants : (soak : SoakWords) (stop : Stop) → stop ≡ Memory → StopsBy (IsSoakOutcome soak) stop
soak-wants soak stop is = subst (StopsBy (IsSoakOutcome soak)) (sym is) tt
