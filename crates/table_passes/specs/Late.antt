-- Passes of the second half, with the patches that they are to retire.
use Rattle.std.specs.Prelude.{◌≡◌, ℕ, Bool, ◌+◌, ◌<◌, ◌≤◌, ◌∷◌, ◌++◌, List, [], All, length, map, reverse, ◌⊎◌}
use Rattle.atomic_table.specs.Seated.{TableId}
use Rattle.compat_check.specs.Meshes.{across_in, shape_of}
use Rattle.mesh_names.specs.Partners.{Across}
use Rattle.mesh_names.specs.Patches.{patch_of}
use Rattle.mesh_names.specs.Triangles.{Shape}
use Rattle.mesh_names.specs.declared.patch.PatchName.{PatchName}
use Rattle.table_words.specs.Entries.{EntryAt, HasEntry}
use Rattle.table_words.specs.NameWords.{name_code}
use Rattle.table_words.specs.Setup.{Setup}
use Rattle.table_words.specs.Views.{Owner, SecondHalf, Worker}
use Rattle.table_state.specs.Lists.{IsListed}
use Rattle.mesh_table.specs.SecondHalf.{WorksLate}
use Rattle.mesh_table.specs.Sights.{Sight, setup_at}
use Rattle.mesh_table.specs.Told.{IsOf, Stays, sight}
use Rattle.mesh_table.specs.declared.rule.Site.{Site}
use Rattle.patch_walk.specs.Finished.{StillKnows}
use Rattle.patch_claims.specs.Retired.{AreRetired, IsInner, IsListOld, IsListWhole}
use Rattle.table_passes.specs.declared.late_work.LateJoined.{LateJoined}
use Rattle.table_passes.specs.declared.late_work.LateTask.{LateTask}

-- a worker's pass of the second half; each listed patch is of the last finished forest, and with it those of its members' children that are of the target
pub record CanRetire (s : Setup) (v : Sight) : Type 0 where
  pub works : WorksLate v
  pub positive : 0 < v.work.round
  pub old : IsListOld s v
  pub whole : IsListWhole s v

-- the patch is whole and of the list, and can be bisected
abbrev pub IsRetirable : Shape → Across → List ℕ → PatchName → Type 0
IsRetirable mesh x list p = IsInner mesh p.first × (patch_of x p.first ≡ p) × HasEntry list (name_code p.first)

-- the members of the patch whose first is k are known as not bisected
abbrev pub IsGone : Setup → Sight → ℕ → Type 0
IsGone s v k = HasEntry v.work.open_ k × ((i : ℕ) → s.mate k ≡ i + 1 → HasEntry v.work.open_ (i + 1))

-- the codes of the patches' first members
abbrev pub firsts_of : List PatchName → List ℕ
firsts_of ps = map (λ p. name_code p.first) ps

-- each patch of the list is gone, or left
abbrev pub AreGoneBut : Setup → Sight → List PatchName → List PatchName → Type 0
AreGoneBut s v ps left = (k : ℕ) → HasEntry (firsts_of ps) k → IsGone s v k ⊎ HasEntry (firsts_of left) k

-- one patch more is gone, or left
abbrev pub IsGoneOrLeft : Setup → Sight → List PatchName → List PatchName → PatchName → Type 0
IsGoneOrLeft s v before after p = ((after ≡ before) × IsGone s v (name_code p.first)) ⊎ (after ≡ before ++ p ∷ [])

-- a pass went through the patches: each is gone, or left, and then of the retire list; and these blocks it retired
pub record IsLateWorked (k : Site) (u v : Sight) (ps rest : List PatchName) (bs : List ℕ) : Type 0 where
  pub keeps : StillKnows u v
  pub gone : AreGoneBut (setup_at k) v ps rest
  pub left : All (IsRetirable (shape_of k.mesh.now) (across_in k.mesh.now) u.work.plan.retire) rest
  pub blocks : AreRetired v bs
  pub few : length bs ≤ length ps

-- the pass can begin with its patches
pub record IsLateReady (id : TableId) (k : Site) (t : LateTask) : Type 0 where
  pub fit : IsOf id t.pass.seat
  pub can : CanRetire (setup_at k) (sight t.pass.seat)
  pub claims : (sight t.pass.seat).claims ≡ []
  pub none : (sight t.pass.seat).work.retired ≡ []
  pub patches : All (IsRetirable (shape_of k.mesh.now) (across_in k.mesh.now) (sight t.pass.seat).work.plan.retire) t.patches.items
  pub empty : (t.retired.items ≡ []) × (t.left.items ≡ [])

-- the pass of t has worked through its patches, and is then that of u
pub record IsLateDone (k : Site) (t u : LateTask) : Type 0 where
  pub stays : Stays t.pass.seat u.pass.seat
  pub round : u.pass.round ≡ t.pass.round
  pub number : u.pass.number ≡ t.pass.number
  pub lists : u.pass.lists ≡ t.pass.lists
  pub patches : u.patches.items ≡ t.patches.items
  pub worked : IsLateWorked k (sight t.pass.seat) (sight u.pass.seat) t.patches.items u.left.items u.retired.items

-- the task's pass is a worker's of this table that has no claims: each of its patches is gone or left, and these blocks it retired
pub record IsLateWorker (id : TableId) (k : Site) (t : LateTask) : Type 0 where
  pub fit : IsOf id t.pass.seat
  pub kind : (sight t.pass.seat).kind ≡ Worker
  pub claims : (sight t.pass.seat).claims ≡ []
  pub gone : AreGoneBut (setup_at k) (sight t.pass.seat) t.patches.items t.left.items
  pub blocks : AreRetired (sight t.pass.seat) t.retired.items

-- the blocks of these lists, one after the other, the last of each first
abbrev pub all_retired : List (List ℕ) → List ℕ
all_retired [] = []
all_retired (blocks ∷ lists) = reverse blocks ++ all_retired lists

-- the owner knows the patches of a joined pass as not bisected, but for those that are left
abbrev pub AreJoined : Setup → Sight → LateJoined → Type 0
AreJoined s v d = AreGoneBut s v d.patches.items d.left.items

-- each name of the retire list is of the owner's last finished forest
abbrev pub IsPlanOld : Setup → Sight → List ℕ → Type 0
IsPlanOld s v retire = (k : ℕ) → IsListed s retire k → (names : List ℕ) × EntryAt v.ruling.history v.ruling.finished names × HasEntry names k

-- and each child of such a name that is of the target is listed too
abbrev pub IsPlanWhole : Setup → List ℕ → List ℕ → Type 0
IsPlanWhole s target retire = (k : ℕ) (c : Bool) → IsListed s retire k → HasEntry target (s.child k c) → IsListed s retire (s.child k c)

-- the second half has begun with such a list, so that passes of it can be made
pub record CanSplitLate (s : Setup) (v : Sight) : Type 0 where
  pub rules : v.kind ≡ Owner
  pub half : v.ruling.phase ≡ SecondHalf
  pub old : IsPlanOld s v v.ruling.plan.retire
  pub whole : IsPlanWhole s v.ruling.plan.target v.ruling.plan.retire
