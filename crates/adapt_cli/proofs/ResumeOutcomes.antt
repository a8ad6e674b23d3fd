-- From a kept forest and the rounds after it to what going on leads to.
use Rattle.std.proofs.Common.{◌≡◌, ℕ, ◌<◌, ◌≤◌, ap, ◌∙◌, subst, List, [], inl, inr, ⊎_elim, arith}
use Rattle.std.specs.Prelude.{Ok, Err, Result, length}
use Rattle.std.specs.FinSet.{empty, from_list}
use Rattle.std.proofs.lemmas.List.{length-map}
use Rattle.mesh_names.specs.Conformity.{HoldsPartners}
use Rattle.mesh_names.specs.Forests.{Names}
use Rattle.mesh_names.specs.Names.{Name}
use Rattle.mesh_names.specs.Partners.{Across}
use Rattle.mesh_names.specs.Triangles.{Shape}
use Rattle.mesh_names.specs.declared.patch.RoundDelta.{RoundDelta}
use Rattle.mesh_names.specs.declared.rows.RoundMarks.{RoundMarks}
use Rattle.mesh_names.proofs.Conforming.{conforms_by_partners}
use Rattle.compat_check.specs.Meshes.{IsChecked, Mesh, across_in, shape_of}
use Rattle.forest_plain.specs.Deltas.{AreBorn}
use Rattle.forest_plain.specs.Rounds.{Stands}
use Rattle.mark_file.specs.Meaning.{Round, round_read, rounds_read}
use Rattle.mesh_rounds.specs.Resumed.{IsWhole}
use Rattle.mesh_rounds.specs.State.{State}
use Rattle.restart_file.specs.Kept.{IsKept, set_of}
use Rattle.adapt_words.specs.Restarts.{ResumeWords}
use Rattle.adapt_cli.specs.FaultTexts.{Fault, full_forest, no_round_left}
use Rattle.adapt_cli.specs.Marks.{IsNoRoundLeft}
use Rattle.mesh_rounds.specs.Texts.{IsTextOfState}
use Rattle.adapt_cli.specs.Resuming.{CanGoOn, IsForestTooLarge, IsStart, IsTooLarge, ResumesTo, most_resumed, patches_of}
use Rattle.adapt_cli.specs.Rounds.{LeadTo}
use Rattle.adapt_cli.specs.Stops.{IsRun, StopsBy}
use Rattle.adapt_cli.specs.declared.fault.Stop.{Stop}
use Rattle.adapt_cli.specs.declared.fault.Stop.TheVariants.{Refused, Memory}
use Rattle.adapt_cli.proofs.Outcomes.{lead_status}

inside : {A B : Type 0} {a b : B} → ◌≡◌ {A = Result A B} (Err a) (Err b) → a ≡ b
inside q = cc

-- ---- the forest
module _ (mesh : Mesh) (members : List Name) (checked : IsChecked mesh) (kept : IsKept (shape_of mesh) members) where
  -- it holds the partners of its members
  partners : HoldsPartners (across_in mesh) (set_of members)
  partners = (conforms_by_partners (shape_of mesh) (across_in mesh) checked.tells (set_of members) kept.forest).0 kept.conforms

  -- it stands in a pool that has room for it
  pub kept_stands : (pool : ℕ) (rounds : List Round) → CanGoOn mesh members pool rounds → 1 ≤ pool → pool ≤ 1048576 → Stands (shape_of mesh) (across_in mesh) pool (from_list members)
  kept_stands pool rounds can some most = record { forest = kept.forest; partners = partners; room = can.room; some = some; most = most }

  -- it is given whole by the patches that lead to it
  pub kept_whole : (shape : Shape) (x : Across) (now : Names) (delta : RoundDelta) → shape ≡ shape_of mesh → x ≡ across_in mesh → now ≡ from_list members → AreBorn shape x empty now delta.born.items → delta.died.items ≡ [] → IsWhole mesh (set_of members) delta
  kept_whole shape x now delta same sides is born died = record {
    forest = kept.forest;
    partners = partners;
    born = subst (λ (t : Shape × Across × Names). AreBorn t.0 t.1 empty t.2 delta.born.items) (λ i. (same i, sides i, is i)) born;
    died = died;
  }

-- the rounds can follow
pub can_go_on : (mesh : Mesh) (members : List Name) (pool needed : ℕ) (rounds : List RoundMarks) → length rounds ≤ most_resumed → needed ≡ patches_of mesh members → needed ≤ pool → CanGoOn mesh members pool (rounds_read rounds)
can_go_on mesh members pool needed rounds few is fits = let many = length-map rounds round_read in record { left = omega (arith, many, few); room = subst (λ (n : ℕ). n ≤ pool) is fits }

module _ (mesh : Mesh) (members : List Name) (resume : ResumeWords) where
  -- a run that goes on and is refused has status 4 or 5
  pub resume_status : (rounds : List Round) (fault : Fault) → ResumesTo mesh members resume rounds (Err fault) → (3 ≤ fault.0) × (fault.0 ≤ 5)
  resume_status rounds fault h = ⊎_elim
      (λ (a : (most_resumed < length rounds) × (fault ≡ no_round_left)). let s = ap (λ (f : Fault). f.0) a.1 in (omega (arith, s), omega (arith, s)))
      (⊎_elim
      (λ (b : IsForestTooLarge mesh members resume.pool rounds × (fault ≡ full_forest (patches_of mesh members) resume.pool)). let s = ap (λ (f : Fault). f.0) b.1 in (omega (arith, s), omega (arith, s)))
      (λ (d : CanGoOn mesh members resume.pool rounds × (start : State) × IsStart mesh members start × LeadTo mesh resume.pool rounds start (Err fault)). lead_status mesh resume.pool rounds d.1 fault d.3))
      h

  -- no round is left
  pub resume_without : (rounds : List RoundMarks) (stop : Stop) → most_resumed < length rounds → StopsBy IsNoRoundLeft stop → StopsBy (ResumesTo mesh members resume (rounds_read rounds)) stop
  resume_without rounds (Refused fault) many told = let same = length-map rounds round_read in inl (omega (arith, many, same), inside told)
  resume_without rounds Memory many told = tt

  -- the pool has no room for the forest
  pub resume_full : (rounds : List RoundMarks) (needed : ℕ) (stop : Stop) → length rounds ≤ most_resumed → needed ≡ patches_of mesh members → resume.pool < needed → StopsBy (IsTooLarge needed resume.pool) stop → StopsBy (ResumesTo mesh members resume (rounds_read rounds)) stop
  resume_full rounds needed (Refused fault) few is full told =
      let many = length-map rounds round_read in
      inr (inl (record { left = omega (arith, many, few); full = subst (λ (n : ℕ). resume.pool < n) is full }, inside told ∙ ap (λ (n : ℕ). full_forest n resume.pool) is))
  resume_full rounds needed Memory few is full told = tt

  -- the rounds from the forest are refused
  pub resume_refused : (rounds : List Round) (start : State) (stop : Stop) → CanGoOn mesh members resume.pool rounds → IsStart mesh members start → StopsBy (LeadTo mesh resume.pool rounds start) stop → StopsBy (ResumesTo mesh members resume rounds) stop
  resume_refused rounds start (Refused fault) can is_start stops = inr (inr (can, start, is_start, stops))
  resume_refused rounds start Memory can is_start stops = tt

  -- they end in a mesh
  pub resume_made : (rounds : List Round) (start last : State) (text : List ℕ) → CanGoOn mesh members resume.pool rounds → IsStart mesh members start → IsRun mesh resume.pool rounds start last → IsTextOfState mesh last text → ResumesTo mesh members resume rounds (Ok text)
  resume_made rounds start last text can is_start ran written = (can, start, is_start, ran.0, ran.1, subst (λ (s : State). IsTextOfState mesh s text) ran.2 written)
