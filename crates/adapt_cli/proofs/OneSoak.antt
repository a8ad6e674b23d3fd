-- A soak has one outcome.
use Rattle.std.proofs.Common.{◌≡◌, ℕ, zero, suc, ◌+◌, ℤ, sym, ap, ◌∙◌, subst, List, ⊎_elim, inl, inr, arith}
use Rattle.std.specs.Prelude.{Result, Ok, Err, min, length}
use Rattle.mesh_names.specs.Names.{Name}
use Rattle.mesh_names.specs.Triangles.{level}
use Rattle.mesh_names.specs.Leaves.{leaves}
use Rattle.mesh_names.specs.Patches.{patch_count}
use Rattle.mesh_names.proofs.Lists.{lists_are_one}
use Rattle.compat_check.specs.Meshes.{Mesh, across_in, label_of, shape_of}
use Rattle.dof_transfer.proofs.NamedVertices.{Laws}
use Rattle.forest_plain.proofs.OneAnswer.{count-same}
use Rattle.mesh_writer.specs.MeshText.{IsMeshText}
use Rattle.mesh_rounds.specs.State.{IsFirst, IsMeshRound, State}
use Rattle.mesh_rounds.specs.Texts.{AreLeaves, IsTextOfState, vertex_count}
use Rattle.mesh_rounds.proofs.OneState.{HasNoOthers, first-no-others, first_is_one, next-no-others, same-round, same-text}
use Rattle.mesh_rounds.proofs.Relabelled.{first-as, relabelled, round-as, text-as}
use Rattle.soak.specs.Rows.{Drawing, after, rows_for}
use Rattle.adapt_words.specs.Rounds.{SoakWords}
use Rattle.adapt_cli.specs.FaultTexts.{Fault, full_pool}
use Rattle.adapt_cli.specs.OneOutcome.{OneSoak}
use Rattle.adapt_cli.specs.Rounds.{whole}
use Rattle.adapt_cli.specs.Soaks.{DrawsTo, IsGridMesh, IsSoakText, Overfills, TellsOf, soak_line}
use Rattle.adapt_cli.proofs.SameMeshes.{AreAlike, alike, owners-of}

abbrev Step : Mesh → ℕ → ℕ → ℕ → Drawing → State → Result State Fault → List Name → Type 0
Step mesh pool left number drawing old end list = (new : State) × IsMeshRound mesh (whole pool) (rows_for (level (shape_of mesh)) drawing list) old new × DrawsTo mesh pool left (number + 1) (after (level (shape_of mesh)) drawing list) new end

abbrev Stop : Mesh → ℕ → ℕ → Drawing → State → Result State Fault → List Name → Type 0
Stop mesh pool number drawing old end list = (fault : Fault) × Overfills mesh pool old.members number (rows_for (level (shape_of mesh)) drawing list) fault × (end ≡ Err fault)

-- the leaves of a state, in order
pub same-leaves : (mesh : Mesh) (state : State) (a b : List Name) → AreLeaves mesh state a → AreLeaves mesh state b → a ≡ b
same-leaves mesh state a b x y = lists_are_one (leaves (shape_of mesh) state.members) a b x y

module _ (mesh : Mesh) (laws : Laws mesh) (pool : ℕ) where
  apart : (old : State) (number : ℕ) (drawing : Drawing) (list : List Name) (new : State) (fault : Fault) → IsMeshRound mesh (whole pool) (rows_for (level (shape_of mesh)) drawing list) old new → Overfills mesh pool old.members number (rows_for (level (shape_of mesh)) drawing list) fault → ⊥
  apart old number drawing list new fault done full =
      let same = count-same (shape_of mesh) old.members (across_in mesh) (rows_for (level (shape_of mesh)) drawing list) full.needs.refined done.forest.round.refined full.needs.is_refined done.forest.round.is_refined in
      let count = full.needs.count in
      let above = full.above in
      let fits = done.forest.round.fits in
      omega (arith, same, count, above, fits)

  one-full : (old : State) (number : ℕ) (drawing : Drawing) (list : List Name) (fault other : Fault) → Overfills mesh pool old.members number (rows_for (level (shape_of mesh)) drawing list) fault → Overfills mesh pool old.members number (rows_for (level (shape_of mesh)) drawing list) other → fault ≡ other
  one-full old number drawing list fault other x y =
      let same : x.patches ≡ y.patches = x.needs.count ∙ count-same (shape_of mesh) old.members (across_in mesh) (rows_for (level (shape_of mesh)) drawing list) x.needs.refined y.needs.refined x.needs.is_refined y.needs.is_refined ∙ sym y.needs.count in
      x.told ∙ (λ i. full_pool number (min (same i) 4294967295) pool) ∙ sym y.told

  one-draw : (left number : ℕ) (drawing : Drawing) (old : State) (a b : Result State Fault) → HasNoOthers mesh old → DrawsTo mesh pool left number drawing old a → DrawsTo mesh pool left number drawing old b → a ≡ b
  one-draw zero number drawing old a b is x y = x ∙ sym y
  one-draw (suc left) number drawing old a b is x y =
      let lists : y.0 ≡ x.0 = same-leaves mesh old y.0 x.0 y.1 x.1 in
      ⊎_elim
      (λ (p : Step mesh pool left number drawing old a x.0). ⊎_elim
      (λ (q : Step mesh pool left number drawing old b y.0).
      let r = subst (Step mesh pool left number drawing old b) lists q in
      let states : p.0 ≡ r.0 = (same-round mesh laws old is (whole pool) (rows_for (level (shape_of mesh)) drawing x.0) p.0 r.0 p.1 r.1).0 in
      one-draw left (number + 1) (after (level (shape_of mesh)) drawing x.0) p.0 a b (next-no-others mesh (whole pool) (rows_for (level (shape_of mesh)) drawing x.0) old p.0 p.1) p.2
      (subst (λ (s : State). DrawsTo mesh pool left (number + 1) (after (level (shape_of mesh)) drawing x.0) s b) (sym states) r.2))
      (λ (q : Stop mesh pool number drawing old b y.0). let r = subst (Stop mesh pool number drawing old b) lists q in absurd (apart old number drawing x.0 p.0 r.0 p.1 r.1))
      y.2)
      (λ (p : Stop mesh pool number drawing old a x.0). ⊎_elim
      (λ (q : Step mesh pool left number drawing old b y.0). let r = subst (Step mesh pool left number drawing old b) lists q in absurd (apart old number drawing x.0 r.0 p.0 r.1 p.1))
      (λ (q : Stop mesh pool number drawing old b y.0).
      let r = subst (Stop mesh pool number drawing old b) lists q in
      let faults : p.0 ≡ r.0 = one-full old number drawing x.0 p.0 r.0 p.1 r.1 in
      p.2 ∙ (λ i. Err (faults i)) ∙ sym r.2)
      y.2)
      x.2

-- drawn rounds lead to the same on meshes that are alike
draw-as : (mesh : Mesh) (from to : List (List ℤ)) (pool left number : ℕ) (drawing : Drawing) (old : State) (end : Result State Fault) → DrawsTo (relabelled mesh from) pool left number drawing old end → DrawsTo (relabelled mesh to) pool left number drawing old end
draw-as mesh from to pool zero number drawing old end h = h
draw-as mesh from to pool (suc left) number drawing old end h = (
  h.0,
  h.1,
  ⊎_elim
      (λ (p : Step (relabelled mesh from) pool left number drawing old end h.0). inl (p.0, round-as mesh from to (whole pool) (rows_for (level (shape_of mesh)) drawing h.0) old p.0 p.1, draw-as mesh from to pool left (number + 1) (after (level (shape_of mesh)) drawing h.0) p.0 end p.2))
      (λ (p : Stop (relabelled mesh from) pool number drawing old end h.0). inr (p.0, record { patches = p.1.patches; needs = p.1.needs; above = p.1.above; told = p.1.told }, p.2))
      h.2,
)

-- a text of a state on a mesh that is alike
pub text-alike : (m n : Mesh) → AreAlike m n → (state : State) (text : List ℕ) → IsTextOfState n state text → IsTextOfState m state text
text-alike m n same state text h =
    let there = subst (λ (x : Mesh). IsTextOfState x state text) (sym same.is) h in
    (there.0, there.1, text-as m n.labels m.labels (λ r k low. ap (λ (x : Mesh). label_of x r k) same.is ∙ sym (same.labels r k low)) there.0 state.vertices state.elements text there.2)

pub one-text : (mesh : Mesh) → Laws mesh → (state : State) (a b : List ℕ) → IsTextOfState mesh state a → IsTextOfState mesh state b → a ≡ b
one-text mesh laws state a b x y =
    let lists : y.0 ≡ x.0 = same-leaves mesh state y.0 x.0 y.1 x.1 in
    same-text mesh laws x.0 state.vertices state.elements a b x.2 (subst (λ (l : List Name). IsMeshText mesh l state.vertices state.elements b) lists y.2)

pub first-alike : (m n : Mesh) → AreAlike m n → (state : State) → IsFirst n state → IsFirst m state
first-alike m n same state h = first-as m n.labels m.labels state (subst (λ (x : Mesh). IsFirst x state) (sym same.is) h)

module _ (soak : SoakWords) where
  abbrev drawing : Drawing
  drawing = record { state = soak.start; row = 1 }

  -- the parts of an outcome
  record Soaked (end : Result State Fault) : Type 0 where
    mesh : Mesh
    is_grid : IsGridMesh soak.grid mesh
    first : State
    is_first : IsFirst mesh first
    draws : DrawsTo mesh soak.pool soak.rounds 1 drawing first end

  draws-alike : (end : Result State Fault) (one : Soaked end) (other : Result State Fault) (two : Soaked other) → AreAlike one.mesh two.mesh → DrawsTo one.mesh soak.pool soak.rounds 1 drawing one.first other
  draws-alike end one other two same =
      let there = draw-as one.mesh two.mesh.labels one.mesh.labels soak.pool soak.rounds 1 drawing two.first other (subst (λ (x : Mesh). DrawsTo x soak.pool soak.rounds 1 drawing two.first other) (sym same.is) two.draws) in
      let firsts : two.first ≡ one.first = first_is_one one.mesh two.first one.first (first-alike one.mesh two.mesh same two.first two.is_first) one.is_first in
      subst (λ (s : State). DrawsTo one.mesh soak.pool soak.rounds 1 drawing s other) firsts there

  grids-alike : (m n : Mesh) → IsGridMesh soak.grid m → IsGridMesh soak.grid n → AreAlike m n
  grids-alike m n x y = alike x.text y.text (x.is_grid ∙ sym y.is_grid) m n x.checked y.checked

  one-soaked : (end other : Result State Fault) → (one : Soaked end) (two : Soaked other) → end ≡ other
  one-soaked end other one two =
      let laws = owners-of one.is_grid.text one.mesh one.is_grid.checked in
      one-draw one.mesh laws soak.pool soak.rounds 1 drawing one.first end other (first-no-others one.mesh one.first one.is_first) one.draws (draws-alike end one other two (grids-alike one.mesh two.mesh one.is_grid two.is_grid))

  ok_is : {A B : Type 0} {a b : A} → ◌≡◌ {A = Result A B} (Ok a) (Ok b) → a ≡ b
  ok_is q = cc

  err_is : {A B : Type 0} {a b : B} → ◌≡◌ {A = Result A B} (Err a) (Err b) → a ≡ b
  err_is q = cc

  no_end : {A B : Type 0} {a : A} {b : B} → ◌≡◌ {A = Result A B} (Ok a) (Err b) → ⊥
  no_end q = cc

  one-line : (m n : Mesh) → Laws m → AreAlike m n → (last : State) (a b : List ℕ) → TellsOf m soak last a → TellsOf n soak last b → a ≡ b
  one-line m n laws same last a b x y =
      let texts : x.0 ≡ y.0 = one-text m laws last x.0 y.0 x.1 (text-alike m n same last y.0 y.1) in
      let there = subst (λ (z : Mesh). IsSoakText z soak last (length y.0) b) (sym same.is) y.2 in
      let lists : x.2.0 ≡ there.0 = same-leaves m last x.2.0 there.0 x.2.1 there.1 in
      x.2.2 ∙ (λ i. soak_line soak (length (lists i)) (vertex_count m last) (patch_count (across_in m) last.members) (length (texts i))) ∙ sym there.2

pub one_soak : OneSoak
one_soak soak (Ok a) (Ok b) x y =
    let one : Soaked soak (Ok x.4) = record { mesh = x.0; is_grid = x.1; first = x.2; is_first = x.3; draws = x.5 } in
    let two : Soaked soak (Ok y.4) = record { mesh = y.0; is_grid = y.1; first = y.2; is_first = y.3; draws = y.5 } in
    let lasts : y.4 ≡ x.4 = sym (ok_is soak (one-soaked soak (Ok x.4) (Ok y.4) one two)) in
    let lines : a ≡ b = one-line soak x.0 y.0 (owners-of x.1.text x.0 x.1.checked) (grids-alike soak x.0 y.0 x.1 y.1) x.4 a b x.6 (subst (λ (s : State). TellsOf y.0 soak s b) lasts y.6) in
    λ i. Ok (lines i)
one_soak soak (Ok a) (Err fault) x y =
    let one : Soaked soak (Ok x.4) = record { mesh = x.0; is_grid = x.1; first = x.2; is_first = x.3; draws = x.5 } in
    let two : Soaked soak (Err fault) = record { mesh = y.0; is_grid = y.1; first = y.2; is_first = y.3; draws = y.4 } in
    absurd (no_end soak (one-soaked soak (Ok x.4) (Err fault) one two))
one_soak soak (Err fault) (Ok b) x y =
    let one : Soaked soak (Err fault) = record { mesh = x.0; is_grid = x.1; first = x.2; is_first = x.3; draws = x.4 } in
    let two : Soaked soak (Ok y.4) = record { mesh = y.0; is_grid = y.1; first = y.2; is_first = y.3; draws = y.5 } in
    absurd (no_end soak (sym (one-soaked soak (Err fault) (Ok y.4) one two)))
one_soak soak (Err fault) (Err other) x y =
    let one : Soaked soak (Err fault) = record { mesh = x.0; is_grid = x.1; first = x.2; is_first = x.3; draws = x.4 } in
    let two : Soaked soak (Err other) = record { mesh = y.0; is_grid = y.1; first = y.2; is_first = y.3; draws = y.4 } in
    let faults : fault ≡ other = err_is soak (one-soaked soak (Err fault) (Err other) one two) in
    λ i. Err (faults i)
