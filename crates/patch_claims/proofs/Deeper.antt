-- Patches that cannot be retired yet; and what the retire list says of the children of its patches.
use Rattle.std.proofs.Common.{◌≡◌, ℕ, ◌+◌, ◌-◌, Bool, true, false, List, [], ◌∷◌, ◌++◌, refl, Option, None, Some, IfSome, sym, ap, ◌∙◌, subst, inl, inr, arith}
use Rattle.std.proofs.lemmas.List.{append_assoc}
use Rattle.mesh_names.specs.Names.{Name}
use Rattle.table_words.specs.Entries.{HasEntry}
use Rattle.table_words.specs.NameWords.{name_code, name_word}
use Rattle.table_words.specs.Setup.{Setup}
use Rattle.table_words.specs.Views.{Plan}
use Rattle.table_state.specs.Lists.{IsListed}
use Rattle.mesh_table.specs.Saw.{Saw, SawDied, SawHad, SawRetire}
use Rattle.mesh_table.specs.Sights.{Sight}
use Rattle.patch_walk.specs.Finished.{StillKnows}
use Rattle.patch_walk.proofs.Climbing.{Later}
use Rattle.patch_claims.specs.Retired.{ChildrenOld, IsDeeper, IsDeeperIn, IsListOld, IsListWhole, IsRetired, IsUndead}
use Rattle.patch_claims.specs.declared.retire.RetireRefusal.{RetireRefusal}
use Rattle.patch_claims.specs.declared.retire.RetireRefusal.TheVariants.{Deeper}
use Rattle.patch_claims.proofs.Leaving.{old_on}

module _ (u v w : Sight) (p : Later u v) where
  -- an account of the call before and of this one
  longer : (l : List Saw) (news : List Saw) → w.saw ≡ l ++ (news ++ v.saw) → w.saw ≡ l ++ ((news ++ p.0) ++ u.saw)
  longer l news e = e ∙ ap (λ (xs : List Saw). l ++ (news ++ xs)) p.1 ∙ ap (λ (xs : List Saw). l ++ xs) (sym (append_assoc news p.0 u.saw))

  pub retired_after : (s : Setup) (k : ℕ) (done : Bool) → IsRetired s v w k done → IsRetired s u w k done
  retired_after s k done h = (h.0, h.1, h.2, (h.3.0 ++ p.0, longer (SawRetire h.0 h.1 ∷ []) h.3.0 h.3.1), h.4, h.5, h.6, h.7)

-- what an earlier call left as it was told is told of both calls
module _ (u v w : Sight) (p : Later u v) (still : StillKnows u v) where
  pub undead_after : (k : ℕ) (e : RetireRefusal) → IsUndead v w k e → IsUndead u w k e
  undead_after k (Deeper b) h = (h.0, (h.1.0 ++ p.0, longer u v w p (SawDied b 0 ∷ SawHad k ∷ []) h.1.0 h.1.1), subst (λ (a : Plan). HasEntry a.target k) still.plan h.2, (λ gone. h.3 (still.open_ k gone)))

  pub deeper_in_after : (s : Setup) (k : ℕ) (e : RetireRefusal) → IsDeeperIn s v w k e → IsDeeperIn s u w k e
  deeper_in_after s k e h = (h.0, h.1, undead_after (s.child k h.0) e h.2)

  pub deeper_after : (s : Setup) (k : ℕ) (e : RetireRefusal) → IsDeeper s v w k e → IsDeeper s u w k e
  deeper_after s k e (inl h) = inl (deeper_in_after s k e h)
  deeper_after s k e (inr h) = inr (h.0, h.1, h.2, deeper_in_after s (h.0 + 1) e h.3)

-- what is said of children stays
pub children_old_on : (s : Setup) (u v : Sight) → StillKnows u v → (k : ℕ) → ChildrenOld s u k → ChildrenOld s v k
children_old_on s u v still k old = λ c h. old_on u v still (s.child k c) (old c (subst (λ (p : Plan). HasEntry p.target (s.child k c)) still.plan h))

module _ (s : Setup) (v : Sight) (old : IsListOld s v) (whole : IsListWhole s v) (k : ℕ) (listed : HasEntry v.work.plan.retire k) where
  pub first_old : ChildrenOld s v k
  first_old = λ c h. old (s.child k c) (whole k c (k, listed, inl refl) h)

  pub second_old : (second : Option Name) → s.mate k ≡ name_word second → IfSome second (λ m. ChildrenOld s v (name_code m))
  second_old None e = tt
  second_old (Some m) e =
      let i : name_code m ≡ (name_code m - 1) + 1 = omega arith in
      λ c h. old (s.child (name_code m) c) (whole (name_code m) c (k, listed, inr (name_code m - 1, e ∙ i, i)) h)

pub both_open : (P : Bool → Type 0) → P false → P true → (b : Bool) → P b
both_open P f t false = f
both_open P f t true = t

-- the second member of a patch, by its name
pub mate_named : (s : Setup) (P : ℕ → Type 0) (k : ℕ) (m : Name) → s.mate k ≡ name_word (Some m) → P (name_code m) → (i : ℕ) → s.mate k ≡ i + 1 → P (i + 1)
mate_named s P k m e h i j = subst P (sym e ∙ j) h

pub mate_number_of : (m : Name) → name_code m ≡ (name_code m - 1) + 1
mate_number_of m = omega arith

pub list_old_on : (s : Setup) (u v : Sight) → StillKnows u v → IsListOld s u → IsListOld s v
list_old_on s u v still old = λ k l. old_on u v still k (old k (subst (λ (p : Plan). IsListed s p.retire k) still.plan l))

pub list_whole_on : (s : Setup) (u v : Sight) → StillKnows u v → IsListWhole s u → IsListWhole s v
list_whole_on s u v still whole = λ k c l h. subst (λ (p : Plan). IsListed s p.retire (s.child k c)) (sym still.plan)
    (whole k c (subst (λ (p : Plan). IsListed s p.retire k) still.plan l) (subst (λ (p : Plan). HasEntry p.target (s.child k c)) still.plan h))
