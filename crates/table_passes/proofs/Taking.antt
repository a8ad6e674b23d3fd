-- The owner takes over what passes of the second half did.
use Rattle.std.proofs.Common.{◌≡◌, ℕ, zero, suc, ◌+◌, ◌-◌, Bool, List, [], ◌∷◌, ◌++◌, false, map, reverse, refl, sym, ap, ◌∙◌, subst, inl, inr, arith, All}
use Rattle.std.proofs.lemmas.List.{append_assoc, map-append}
use Rattle.compat_check.specs.Meshes.{across_in, shape_of}
use Rattle.mesh_names.specs.declared.patch.PatchName.{PatchName}
use Rattle.table_words.specs.Claims.{Claim}
use Rattle.table_words.specs.Entries.{HasEntry}
use Rattle.table_words.specs.Setup.{Setup}
use Rattle.table_words.specs.Views.{Owner, SecondHalf, Worker}
use Rattle.table_words.proofs.Entries.{entry_left, entry_right}
use Rattle.mesh_table.specs.Crews.{left_lone}
use Rattle.mesh_table.specs.Passes.{joined, made_worker}
use Rattle.mesh_table.specs.Rounds.{planned}
use Rattle.mesh_table.specs.Sights.{Sight}
use Rattle.patch_walk.specs.Finished.{StillKnows}
use Rattle.patch_claims.specs.Retired.{AreRetired}
use Rattle.table_passes.specs.Joining.{HasTaken}
use Rattle.table_passes.specs.Late.{AreGoneBut, AreJoined, CanRetire, CanSplitLate, IsPlanOld, IsPlanWhole, all_retired}
use Rattle.table_passes.specs.declared.late_work.LateJoined.{LateJoined}
use Rattle.table_passes.proofs.Leaving.{gone_but_still}

module _ (s : Setup) (v : Sight) where
  pub planned_can : (retire : List ℕ) → v.kind ≡ Owner → IsPlanOld s v retire → IsPlanWhole s v.ruling.plan.target retire → CanSplitLate s (planned v retire)
  planned_can retire rules old whole = record { rules = rules; half = refl; old = old; whole = whole }

  pub made_can_retire : (number : ℕ) → CanSplitLate s v → CanRetire s (made_worker v number)
  made_can_retire number can = record {
    works = (refl, can.half);
    positive = omega arith;
    old = λ k l. let o = can.old k l in (v.ruling.finished, o.0, refl, o.1, o.2);
    whole = can.whole;
  }

  pub split_can : (lone : Bool) → CanSplitLate s v → CanSplitLate s (left_lone v lone)
  split_can lone can = record { rules = can.rules; half = can.half; old = can.old; whole = can.whole }

  pub joined_can : (w : Sight) → CanSplitLate s v → CanSplitLate s (joined v w)
  joined_can w can = record { rules = can.rules; half = can.half; old = can.old; whole = can.whole }

  pub joined_gone : (w : Sight) (ps left : List PatchName) → AreGoneBut s w ps left → AreGoneBut s (joined v w) ps left
  joined_gone w ps left gone = gone_but_still s w (joined v w) ps left (λ a e. entry_right {A = ℕ} v.work.open_ w.work.open_ a e) gone

append_nil : (cs : List Claim) → cs ++ [] ≡ cs
append_nil [] = refl
append_nil (c ∷ cs) = ap (λ (ds : List Claim). c ∷ ds) (append_nil cs)

-- a pass of the second half that was made, worked, and is joined
pub taken_one : (v w0 w : Sight) (number : ℕ) (lone : Bool) (blocks : List ℕ) → w0 ≡ made_worker v number → StillKnows w0 w → AreRetired w blocks → HasTaken v (joined (left_lone v lone) w) blocks
taken_one v w0 w number lone blocks made keeps retired = record {
  kind = refl;
  claims = ap (λ (cs : List Claim). v.claims ++ cs) (keeps.claims ∙ ap (λ (a : Sight). a.claims) made) ∙ append_nil v.claims;
  history = refl;
  finished = refl;
  phase = refl;
  plan = refl;
  workers = omega arith;
  ruling = (let e : v.ruling.workers + 1 - 1 ≡ v.ruling.workers = omega arith in λ i. record v.ruling { workers = e i; lone = false });
  open_ = λ k e. entry_left {A = ℕ} v.work.open_ w.work.open_ k e;
  retired = ap (λ (bs : List ℕ). v.work.retired ++ bs) retired;
}

pub no_claims : (v w : Sight) → w.claims ≡ [] → (joined v w).claims ≡ v.claims
no_claims v w none = ap (λ (cs : List Claim). v.claims ++ cs) none ∙ append_nil v.claims

-- what the owner knew of passes that were joined before stays
pub all_joined : (s : Setup) (v w : Sight) (done : List LateJoined) → All (AreJoined s v) done → All (AreJoined s (joined v w)) done
all_joined s v w done all = λ j d l. gone_but_still s v (joined v w) _ _ (λ a e. entry_left {A = ℕ} v.work.open_ w.work.open_ a e) (all j d l)

-- the blocks of one list more
pub retired_last : (lists : List (List ℕ)) (blocks : List ℕ) → all_retired (lists ++ blocks ∷ []) ≡ all_retired lists ++ reverse blocks
retired_last [] blocks = numbers_nil (reverse blocks)
  where
    numbers_nil : (ns : List ℕ) → ns ++ [] ≡ ns
    numbers_nil [] = refl
    numbers_nil (n ∷ ns) = ap (λ (ms : List ℕ). n ∷ ms) (numbers_nil ns)
retired_last (b ∷ lists) blocks = ap (λ (ns : List ℕ). reverse b ++ ns) (retired_last lists blocks) ∙ sym (append_assoc (reverse b) (all_retired lists) (reverse blocks))

-- the owner has the blocks that passes retired which were joined, and those of one more
pub retired_joined : (u v w : Sight) (done more : List LateJoined) (d : LateJoined) → more ≡ done ++ d ∷ [] → AreRetired w d.retired.items → v.work.retired ≡ u.work.retired ++ all_retired (map (λ (j : LateJoined). j.retired.items) done)
    → (joined v w).work.retired ≡ u.work.retired ++ all_retired (map (λ (j : LateJoined). j.retired.items) more)
retired_joined u v w done more d em one e =
    let lists = map (λ (j : LateJoined). j.retired.items) done in
    (λ i. e i ++ one i)
    ∙ append_assoc u.work.retired (all_retired lists) (reverse d.retired.items)
    ∙ ap (λ (ns : List ℕ). u.work.retired ++ ns) (sym (retired_last lists d.retired.items))
    ∙ ap (λ (ls : List (List ℕ)). u.work.retired ++ all_retired ls) (sym (ap (map (λ (j : LateJoined). j.retired.items)) em ∙ map-append (λ (j : LateJoined). j.retired.items) done (d ∷ [])))
