-- What retiring a patch did, in the view of its pass.
use Rattle.std.specs.Prelude.{◌≡◌, ℕ, ◌+◌, ◌<◌, Bool, true, false, List, ◌∷◌, ◌++◌, ◌==◌, reverse, ◌⊎◌}
use Rattle.mesh_names.specs.Names.{Name}
use Rattle.mesh_names.specs.Triangles.{Shape, size, level}
use Rattle.table_words.specs.Entries.{HasEntry}
use Rattle.table_words.specs.Setup.{Setup}
use Rattle.table_state.specs.Lists.{IsListed}
use Rattle.mesh_table.specs.Saw.{Saw, SawDied, SawHad, SawRetire}
use Rattle.mesh_table.specs.SecondHalf.{IsOld}
use Rattle.mesh_table.specs.Sights.{Sight}
use Rattle.patch_claims.specs.declared.retire.RetireRefusal.{RetireRefusal}
use Rattle.patch_claims.specs.declared.retire.RetireRefusal.TheVariants.{Deeper}

-- the name is of a macro element that is there, and can be bisected
abbrev pub IsInner : Shape → Name → Type 0
IsInner mesh n = (n.0 < size mesh) × (level mesh n < 24)

-- each member of a patch of the retire list is of the last finished forest
abbrev pub IsListOld : Setup → Sight → Type 0
IsListOld s v = (k : ℕ) → IsListed s v.work.plan.retire k → IsOld v k

-- and each child of it that is of the target is a member of such a patch too
abbrev pub IsListWhole : Setup → Sight → Type 0
IsListWhole s v = (k : ℕ) (c : Bool) → IsListed s v.work.plan.retire k → HasEntry v.work.plan.target (s.child k c) → IsListed s v.work.plan.retire (s.child k c)

-- each child of the name k that is of the target is of the last finished forest
abbrev pub ChildrenOld : Setup → Sight → ℕ → Type 0
ChildrenOld s v k = (c : Bool) → HasEntry v.work.plan.target (s.child k c) → IsOld v (s.child k c)

-- the last step of the call was a retirement of the block that the last finished round has for the patch of
-- the first member k: it found this DIED, and the answer is whether that was 0. The members are known as not
-- bisected.
abbrev pub IsRetired : Setup → Sight → Sight → ℕ → Bool → Type 0
IsRetired s u v k done = (b n : ℕ) × HasEntry v.work.given (b, k) × ((news : List Saw) × (v.saw ≡ SawRetire b n ∷ (news ++ u.saw))) × (done ≡ (n == 0))
    × (done ≡ true → HasEntry v.work.retired b)
    × HasEntry v.work.open_ k × ((i : ℕ) → s.mate k ≡ i + 1 → HasEntry v.work.open_ (i + 1))

-- the last steps of the call were a walk that ended at the block by which the last finished round bisects the
-- name k, and a load of its DIED, which found 0. The name is of the target, and before the call it was not known
-- as not bisected.
abbrev pub IsUndead : Sight → Sight → ℕ → RetireRefusal → Type 0
IsUndead u v k (Deeper b) = HasEntry v.work.had (b, k) × ((news : List Saw) × (v.saw ≡ SawDied b 0 ∷ SawHad k ∷ (news ++ u.saw)))
    × HasEntry u.work.plan.target k × (HasEntry u.work.open_ k → ⊥)

-- such is a child of the name k, and the child before it is known as not bisected
abbrev pub IsDeeperIn : Setup → Sight → Sight → ℕ → RetireRefusal → Type 0
IsDeeperIn s u v k e = (c : Bool) × (c ≡ true → HasEntry v.work.open_ (s.child k false)) × IsUndead u v (s.child k c) e

-- such is a child of the first member k of the patch; or of the second, and the children of the first are
-- known as not bisected
abbrev pub IsDeeper : Setup → Sight → Sight → ℕ → RetireRefusal → Type 0
IsDeeper s u v k e = IsDeeperIn s u v k e ⊎ ((i : ℕ) × (s.mate k ≡ i + 1) × ((c : Bool) → HasEntry v.work.open_ (s.child k c)) × IsDeeperIn s u v (i + 1) e)

-- the pass has retired the blocks of the list, in this order, and no others
abbrev pub AreRetired : Sight → List ℕ → Type 0
AreRetired v blocks = v.work.retired ≡ reverse blocks
