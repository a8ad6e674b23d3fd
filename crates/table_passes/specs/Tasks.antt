-- Passes with their names: before they work, and after.
use Rattle.std.specs.Prelude.{◌≡◌, ℕ, ◌<◌, ◌≤◌, List, [], All, None, length, vec_capacity}
use Rattle.atomic_table.specs.Seated.{TableId}
use Rattle.compat_check.specs.Meshes.{across_in, shape_of}
use Rattle.mesh_names.specs.Names.{Name}
use Rattle.table_words.specs.Views.{Worker}
use Rattle.mesh_table.specs.Passes.{made_worker}
use Rattle.mesh_table.specs.Sights.{Sight, setup_at}
use Rattle.mesh_table.specs.Told.{IsOf, Stays, sight}
use Rattle.mesh_table.specs.declared.rule.Site.{Site}
use Rattle.table_passes.specs.Answers.{CanRefine, IsAimed, IsWorked, NoneFull}
use Rattle.table_passes.specs.Kept.{HasKept}
use Rattle.table_passes.specs.declared.lists.Lists.{Lists}
use Rattle.table_passes.specs.declared.work.Task.{Task}

-- the pass's list has room for all blocks of the pool, if there is a name to refine
abbrev pub HasRoom : ℕ → List Name → Lists → Type 0
HasRoom pool names a = 0 < length names → pool ≤ vec_capacity a.published

-- the pass can begin with its names: they are of the target, and there is room for what it does
pub record IsReady (id : TableId) (k : Site) (t : Task) : Type 0 where
  pub fit : IsOf id t.pass.seat
  pub can : CanRefine (setup_at k) (sight t.pass.seat)
  pub names : All (IsAimed (shape_of k.mesh.now) (sight t.pass.seat).work.plan.target) t.names.items
  pub empty : t.answers.items ≡ []
  pub kept : HasKept k t.pass
  pub room : HasRoom k.layout.pool t.names.items t.pass.lists

-- the pass of t has worked through its names, and is then that of u
pub record IsDone (k : Site) (t u : Task) : Type 0 where
  pub stays : Stays t.pass.seat u.pass.seat
  pub round : u.pass.round ≡ t.pass.round
  pub number : u.pass.number ≡ t.pass.number
  pub names : u.names.items ≡ t.names.items
  pub worked : IsWorked (shape_of k.mesh.now) (across_in k.mesh.now) (sight t.pass.seat) (sight u.pass.seat) t.names.items u.answers.items
  pub kept : HasKept k u.pass
  pub failed : u.pass.lists.failed ≡ None → NoneFull u.answers.items

-- the task's pass was made by the owner from this view
abbrev pub IsMade : Sight → Task → Type 0
IsMade v t = sight t.pass.seat ≡ made_worker v t.pass.number

-- the task's pass is a worker's of this table, and its lists have its claims
abbrev pub IsWorkers : TableId → Site → Task → Type 0
IsWorkers id k t = IsOf id t.pass.seat × ((sight t.pass.seat).kind ≡ Worker) × HasKept k t.pass

-- and it has no answers yet
pub record IsNew (id : TableId) (k : Site) (v : Sight) (t : Task) : Type 0 where
  pub fit : IsOf id t.pass.seat
  pub made : IsMade v t
  pub empty : t.answers.items ≡ []
  pub kept : HasKept k t.pass
  pub room : HasRoom k.layout.pool t.names.items t.pass.lists
