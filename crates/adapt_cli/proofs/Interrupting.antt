-- A run that is saved and resumed has the forest of the run that is not interrupted.
use Rattle.std.proofs.Common.{◌≡◌, ℕ, sym, ap, ◌∙◌, subst, List, [], ◌∷◌, ◌++◌, ⊎_elim}
use Rattle.std.specs.Prelude.{Result, Ok, Err}
use Rattle.mesh_names.specs.Triangles.{Shape}
use Rattle.mesh_names.specs.Partners.{Across, Tells}
use Rattle.mesh_names.specs.Forests.{Names}
use Rattle.mesh_names.specs.Validity.{across_of}
use Rattle.mesh_names.specs.declared.patch.RoundDelta.{RoundDelta}
use Rattle.mesh_names.proofs.Neighbours.{valid_tells}
use Rattle.compat_check.specs.Meshes.{Mesh, across_in, shape_of}
use Rattle.mark_file.specs.Meaning.{Round}
use Rattle.forest_plain.specs.Rounds.{IsRoundBy}
use Rattle.mesh_rounds.specs.State.{IsMeshRound, State}
use Rattle.mesh_rounds.proofs.OneRound.{rounds_end_at_one}
use Rattle.restart_file.specs.Kept.{set_of}
use Rattle.restart_file.proofs.OneFile.{restarts_are_one}
use Rattle.adapt_cli.specs.Continuing.{AreSameRounds, InterruptedAsWhole}
use Rattle.adapt_cli.specs.FaultTexts.{Fault}
use Rattle.adapt_cli.specs.Rounds.{LeadTo, Refuses, last_state, preceded, whole}

-- the rounds lead from one forest to another
abbrev Grows : Shape → Across → ℕ → List Round → Names → Names → Type 0
Grows mesh x pool [] old end = end ≡ old
Grows mesh x pool (round ∷ rounds) old end = (new : Names) × (delta : RoundDelta) × IsRoundBy mesh x (whole pool) old round.rows new delta × Grows mesh x pool rounds new end

apart : {A B : Type 0} {a : A} {b : B} → ◌≡◌ {A = Result A B} (Ok a) (Err b) → ⊥
apart q = cc

ok_is : {A B : Type 0} {a b : A} → ◌≡◌ {A = Result A B} (Ok a) (Ok b) → a ≡ b
ok_is q = cc

-- and so do those of a run
lead-grows : (mesh : Mesh) (pool : ℕ) (rounds : List Round) (old : State) (states : List State) → LeadTo mesh pool rounds old (Ok states) → Grows (shape_of mesh) (across_in mesh) pool rounds old.members (last_state old states).members
lead-grows mesh pool [] old states h = ap (λ (ss : List State). (last_state old ss).members) (ok_is h)
lead-grows mesh pool (round ∷ rounds) old states h = ⊎_elim
    (λ (a : (new : State) × IsMeshRound mesh (whole pool) round.rows old new × (rest : Result (List State) Fault) × LeadTo mesh pool rounds new rest × (Ok states ≡ preceded new rest)).
    (a.0.members, a.1.delta, a.1.forest, by a.0 a.2 a.3 a.4 (lead-grows mesh pool rounds a.0)))
    (λ (b : (fault : Fault) × Refuses mesh pool old.members round fault × (Ok states ≡ Err fault)). absurd (apart b.2))
    h
  where
    by : (new : State) (rest : Result (List State) Fault) → LeadTo mesh pool rounds new rest → Ok states ≡ preceded new rest → ((ss : List State) → LeadTo mesh pool rounds new (Ok ss) → Grows (shape_of mesh) (across_in mesh) pool rounds new.members (last_state new ss).members) → Grows (shape_of mesh) (across_in mesh) pool rounds new.members (last_state old states).members
    by new (Ok ss) leads e later = subst (λ (us : List State). Grows (shape_of mesh) (across_in mesh) pool rounds new.members (last_state old us).members) (sym (ok_is e)) (later ss leads)
    by new (Err fault) leads e later = absurd (apart e)

module _ (mesh : Shape) (x : Across) (tells : Tells mesh x) where
  -- the same rounds from one forest lead to one forest
  one-end : (pool other : ℕ) (rounds same : List Round) (old begin end last : Names) → AreSameRounds rounds same → old ≡ begin → Grows mesh x pool rounds old end → Grows mesh x other same begin last → end ≡ last
  one-end pool other [] [] old begin end last h e g k = g ∙ e ∙ sym k
  one-end pool other [] (b ∷ bs) old begin end last h e g k = absurd h
  one-end pool other (a ∷ more) [] old begin end last h e g k = absurd h
  one-end pool other (a ∷ more) (b ∷ bs) old begin end last h e g k =
      one-end pool other more bs g.0 k.0 end last h.1
      (rounds_end_at_one mesh x tells (whole pool) (whole other) old a.rows b.rows g.0 k.0 g.1 k.1 h.0 g.2 (subst (λ (s : Names). IsRoundBy mesh x (whole other) s b.rows k.0 k.1) (sym e) k.2))
      g.3 k.3

  -- first the earlier rounds, and then the later ones
  parted : (pool other room : ℕ) (earlier later rounds : List Round) (old begin mid start end last : Names) → AreSameRounds (earlier ++ later) rounds → old ≡ begin → mid ≡ start → Grows mesh x pool earlier old mid → Grows mesh x other later start end → Grows mesh x room rounds begin last → end ≡ last
  parted pool other room [] later rounds old begin mid start end last h e f a b c = one-end other room later rounds start begin end last h (sym f ∙ a ∙ e) b c
  parted pool other room (r ∷ earlier) later [] old begin mid start end last h e f a b c = absurd h
  parted pool other room (r ∷ earlier) later (s ∷ rounds) old begin mid start end last h e f a b c =
      parted pool other room earlier later rounds a.0 c.0 mid start end last h.1
      (rounds_end_at_one mesh x tells (whole pool) (whole room) old r.rows s.rows a.0 c.0 a.1 c.1 h.0 a.2 (subst (λ (t : Names). IsRoundBy mesh x (whole room) t s.rows c.0 c.1) (sym e) c.2))
      f a.3 b c.3

pub interrupted_as_whole : InterruptedAsWhole
interrupted_as_whole mesh earlier later rounds end uncut same run one =
    let first = run.saved.0 in
    let states = run.saved.2 in
    let listed = run.saved.5 in
    let file = run.saved.6 in
    let read = restarts_are_one run.file run.part run.kept.part mesh run.kept.mesh run.saved.4 run.kept.members file run.read.1 in
    let tells : Tells (shape_of mesh) (across_in mesh) = valid_tells (shape_of mesh) file.is_part.checked.valid file.is_part.checked.compatible.graded in
    let mid : (last_state first states).members ≡ run.start.members = sym listed.all ∙ ap set_of read.2 ∙ sym run.is_start.members_are in
    let later_grows = subst (λ (s : Shape). Grows s (across_of s) run.pool later run.start.members (last_state run.start run.states).members) (sym read.1.shape) (lead-grows run.kept.mesh run.pool later run.start run.states run.leads) in
    ap (λ (s : State). s.members) run.end_is
    ∙ parted (shape_of mesh) (across_in mesh) tells run.save.pool run.pool one.pool earlier later rounds first.members one.first.members (last_state first states).members run.start.members (last_state run.start run.states).members (last_state one.first one.states).members
    same (run.saved.1.members ∙ sym one.is_first.members) mid (lead-grows mesh run.save.pool earlier first states run.saved.3) later_grows (lead-grows mesh one.pool rounds one.first one.states one.leads)
    ∙ sym (ap (λ (s : State). s.members) one.end_is)
