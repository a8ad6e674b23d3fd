-- Rounds lead from a state to one end.
use Rattle.std.proofs.Common.{◌≡◌, ℕ, sym, ap, ◌∙◌, subst, List, [], ◌∷◌, ⊎_elim, arith}
use Rattle.std.specs.Prelude.{Some, None, Result, Err, min}
use Rattle.mesh_names.specs.Triangles.{Shape}
use Rattle.mesh_names.specs.Partners.{Across}
use Rattle.mesh_names.specs.Forests.{Names}
use Rattle.mesh_names.specs.declared.rows.MarkRow.{MarkRow}
use Rattle.compat_check.specs.Meshes.{Mesh, across_in, shape_of}
use Rattle.dof_transfer.proofs.NamedVertices.{Laws}
use Rattle.forest_plain.specs.Rounds.{IsRound, IsRoundRefusal, Room}
use Rattle.forest_plain.specs.declared.refusal.RoundRefusal.{RoundRefusal}
use Rattle.forest_plain.specs.declared.refusal.RoundRefusal.TheVariants.{RoundsUsedUp, NotALeaf, LevelTooDeep, PoolFull, Memory}
use Rattle.forest_plain.proofs.OneAnswer.{count-same, fine-or-refused, first_is_one}
use Rattle.mark_file.specs.Meaning.{Round}
use Rattle.mesh_rounds.specs.State.{IsMeshRound, State}
use Rattle.mesh_rounds.proofs.OneState.{HasNoOthers, next-no-others, same-round}
use Rattle.adapt_cli.specs.FaultTexts.{Fault, round_fault}
use Rattle.adapt_cli.specs.Rounds.{LeadTo, Refuses, preceded, whole}

pub some_is : {A : Type 0} {a b : A} → Some a ≡ Some b → a ≡ b
some_is q = cc

pub no_fault : {A : Type 0} {a : A} → None ≡ Some a → ⊥
no_fault q = cc

module _ (mesh : Shape) (across : Across) (room : Room) (old : Names) (rows : List MarkRow) where
  -- a round that is done is not refused
  done-or-told : (new : Names) (number : ℕ) (refusal : RoundRefusal) (fault : Fault) → IsRound mesh across room old rows new → IsRoundRefusal mesh across room old rows refusal → round_fault number refusal ≡ Some fault → ⊥
  done-or-told new number (RoundsUsedUp n) fault done refused told = refused
  done-or-told new number (NotALeaf row) fault done refused told = fine-or-refused mesh old rows (NotALeaf row) done.fine refused
  done-or-told new number (LevelTooDeep row deep) fault done refused told = fine-or-refused mesh old rows (LevelTooDeep row deep) done.fine refused
  done-or-told new number (PoolFull needed kept pool) fault done refused told =
      let patches = refused.1 in
      let same = count-same mesh old across rows patches.refined done.refined patches.is_refined done.is_refined in
      let count = patches.count in
      let above = refused.2 in
      let fits = done.fits in
      omega (arith, same, count, above, fits)
  done-or-told new number Memory fault done refused told = no_fault told

  -- two refusals that have a line are one
  one-refusal : (number : ℕ) (r s : RoundRefusal) (fault other : Fault) → IsRoundRefusal mesh across room old rows r → IsRoundRefusal mesh across room old rows s → round_fault number r ≡ Some fault → round_fault number s ≡ Some other → r ≡ s
  one-refusal number (RoundsUsedUp n) s fault other hr hs e f = absurd hr
  one-refusal number Memory s fault other hr hs e f = absurd (no_fault e)
  one-refusal number (NotALeaf row) (RoundsUsedUp n) fault other hr hs e f = absurd hs
  one-refusal number (NotALeaf row) Memory fault other hr hs e f = absurd (no_fault f)
  one-refusal number (NotALeaf row) (NotALeaf m) fault other hr hs e f = first_is_one mesh old rows (NotALeaf row) (NotALeaf m) hr hs
  one-refusal number (NotALeaf row) (LevelTooDeep m deep) fault other hr hs e f = first_is_one mesh old rows (NotALeaf row) (LevelTooDeep m deep) hr hs
  one-refusal number (NotALeaf row) (PoolFull needed kept pool) fault other hr hs e f = absurd (fine-or-refused mesh old rows (NotALeaf row) hs.1.fine hr)
  one-refusal number (LevelTooDeep row d) (RoundsUsedUp n) fault other hr hs e f = absurd hs
  one-refusal number (LevelTooDeep row d) Memory fault other hr hs e f = absurd (no_fault f)
  one-refusal number (LevelTooDeep row d) (NotALeaf m) fault other hr hs e f = first_is_one mesh old rows (LevelTooDeep row d) (NotALeaf m) hr hs
  one-refusal number (LevelTooDeep row d) (LevelTooDeep m deep) fault other hr hs e f = first_is_one mesh old rows (LevelTooDeep row d) (LevelTooDeep m deep) hr hs
  one-refusal number (LevelTooDeep row d) (PoolFull needed kept pool) fault other hr hs e f = absurd (fine-or-refused mesh old rows (LevelTooDeep row d) hs.1.fine hr)
  one-refusal number (PoolFull needed kept pool) (RoundsUsedUp n) fault other hr hs e f = absurd hs
  one-refusal number (PoolFull needed kept pool) Memory fault other hr hs e f = absurd (no_fault f)
  one-refusal number (PoolFull needed kept pool) (NotALeaf m) fault other hr hs e f = absurd (fine-or-refused mesh old rows (NotALeaf m) hr.1.fine hs)
  one-refusal number (PoolFull needed kept pool) (LevelTooDeep m deep) fault other hr hs e f = absurd (fine-or-refused mesh old rows (LevelTooDeep m deep) hr.1.fine hs)
  one-refusal number (PoolFull needed kept pool) (PoolFull needed' kept' pool') fault other hr hs e f =
      let same : hr.0 ≡ hs.0 = hr.1.count ∙ count-same mesh old across rows hr.1.refined hs.1.refined hr.1.is_refined hs.1.is_refined ∙ sym hs.1.count in
      let needs : needed ≡ needed' = hr.3 ∙ ap (λ n. min n 4294967295) same ∙ sym hs.3 in
      λ i. PoolFull (needs i) ((hr.4 ∙ sym hs.4) i) ((hr.5 ∙ sym hs.5) i)

  one-told : (number : ℕ) (r s : RoundRefusal) (fault other : Fault) → IsRoundRefusal mesh across room old rows r → IsRoundRefusal mesh across room old rows s → round_fault number r ≡ Some fault → round_fault number s ≡ Some other → fault ≡ other
  one-told number r s fault other hr hs e f = some_is (sym e ∙ ap (round_fault number) (one-refusal number r s fault other hr hs e f) ∙ f)

module _ (mesh : Mesh) (laws : Laws mesh) (pool : ℕ) where
  -- a round that was done and a refusal
  apart : (old new : State) (round : Round) (fault : Fault) → IsMeshRound mesh (whole pool) round.rows old new → Refuses mesh pool old.members round fault → ⊥
  apart old new round fault done refused = done-or-told (shape_of mesh) (across_in mesh) (whole pool) old.members round.rows new.members round.number refused.refusal fault done.forest.round refused.cause refused.told

  pub one-lead : (rounds : List Round) (old : State) (a b : Result (List State) Fault) → HasNoOthers mesh old → LeadTo mesh pool rounds old a → LeadTo mesh pool rounds old b → a ≡ b
  one-lead [] old a b is x y = x ∙ sym y
  one-lead (round ∷ rounds) old a b is x y = ⊎_elim
      (λ (p : (new : State) × IsMeshRound mesh (whole pool) round.rows old new × (rest : Result (List State) Fault) × LeadTo mesh pool rounds new rest × (a ≡ preceded new rest)).
      ⊎_elim
      (λ (q : (new : State) × IsMeshRound mesh (whole pool) round.rows old new × (rest : Result (List State) Fault) × LeadTo mesh pool rounds new rest × (b ≡ preceded new rest)).
      let states : p.0 ≡ q.0 = (same-round mesh laws old is (whole pool) round.rows p.0 q.0 p.1 q.1).0 in
      let rests : p.2 ≡ q.2 = one-lead rounds p.0 p.2 q.2 (next-no-others mesh (whole pool) round.rows old p.0 p.1) p.3 (subst (λ (s : State). LeadTo mesh pool rounds s q.2) (sym states) q.3) in
      p.4 ∙ (λ i. preceded (states i) (rests i)) ∙ sym q.4)
      (λ (q : (fault : Fault) × Refuses mesh pool old.members round fault × (b ≡ Err fault)). absurd (apart old p.0 round q.0 p.1 q.1))
      y)
      (λ (p : (fault : Fault) × Refuses mesh pool old.members round fault × (a ≡ Err fault)).
      ⊎_elim
      (λ (q : (new : State) × IsMeshRound mesh (whole pool) round.rows old new × (rest : Result (List State) Fault) × LeadTo mesh pool rounds new rest × (b ≡ preceded new rest)). absurd (apart old q.0 round p.0 q.1 p.1))
      (λ (q : (fault : Fault) × Refuses mesh pool old.members round fault × (b ≡ Err fault)).
      let faults : p.0 ≡ q.0 = one-told (shape_of mesh) (across_in mesh) (whole pool) old.members round.rows round.number p.1.refusal q.1.refusal p.0 q.0 p.1.cause q.1.cause p.1.told q.1.told in
      p.2 ∙ (λ i. Err (faults i)) ∙ sym q.2)
      y)
      x
