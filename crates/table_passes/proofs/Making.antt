-- Tasks as they are made.
use Rattle.std.proofs.Common.{◌≡◌, ℕ, ◌+◌, ◌<◌, List, [], ◌∷◌, ◌++◌, map, length, slice_index_or, refl, sym, ap, ◌∙◌, subst, All}
use Rattle.atomic_table.specs.Seated.{TableId}
use Rattle.mesh_names.specs.Names.{Name}
use Rattle.compat_check.specs.Meshes.{shape_of}
use Rattle.table_words.specs.Entries.{HasEntry}
use Rattle.table_words.specs.Setup.{Setup}
use Rattle.table_words.specs.Views.{FirstHalf, Plan}
use Rattle.table_state.specs.Lists.{IsClosed}
use Rattle.mesh_table.specs.Passes.{made_worker}
use Rattle.mesh_table.specs.Sights.{Sight, setup_at}
use Rattle.mesh_table.specs.declared.rule.Site.{Site}
use Rattle.mesh_table.specs.Told.{IsOf, sight}
use Rattle.table_passes.specs.Answers.{CanRefine, IsAimed}
use Rattle.table_passes.specs.Crew.{left_by}
use Rattle.table_passes.specs.Tasks.{IsMade, IsNew, IsReady}
use Rattle.table_passes.specs.declared.pass.Pass.{Pass}
use Rattle.table_passes.specs.declared.work.Task.{Task}
use Rattle.table_passes.proofs.Crews.{left_makes, all_shown}

pub made_can : (s : Setup) (v : Sight) (number : ℕ) → v.ruling.phase ≡ FirstHalf → IsClosed s (HasEntry v.ruling.plan.target) → CanRefine s (made_worker v number)
made_can s v number half closed = record { works = refl; half = half; closed = closed; living = λ c e. absurd e }

-- the pass that is made after n others
pub made_next : (v u w : Sight) (n number : ℕ) → u ≡ left_by n v → w ≡ made_worker u (n + 1) → number ≡ n + 1 → w ≡ made_worker v number
made_next v u w n number left made same = made ∙ ap (λ (y : Sight). made_worker y (n + 1)) left ∙ left_makes n v (n + 1) ∙ ap (made_worker v) (sym same)

module _ (id : TableId) (k : Site) (v : Sight) (half : v.ruling.phase ≡ FirstHalf) (closed : IsClosed (setup_at k) (HasEntry v.ruling.plan.target)) where
  ready_one : (t : Task) → IsNew id k v t → All (IsAimed (shape_of k.mesh.now) v.ruling.plan.target) t.names.items → IsReady id k t
  ready_one t new aimed = record {
    fit = new.fit;
    can = subst (CanRefine (setup_at k)) (sym new.made) (made_can (setup_at k) v t.pass.number half closed);
    names = subst (λ (y : Sight). All (IsAimed (shape_of k.mesh.now) y.work.plan.target) t.names.items) (sym new.made) aimed;
    empty = new.empty;
    kept = new.kept;
    room = new.room;
  }

  pub ready_all : {A : Type 0} (names_of : A → List Name) (work : List A) (tasks : List Task) → map (λ (t : Task). t.names.items) tasks ≡ map names_of work
      → All (λ w. All (IsAimed (shape_of k.mesh.now) v.ruling.plan.target) (names_of w)) work → All (IsNew id k v) tasks → All (IsReady id k) tasks
  ready_all names_of work tasks same aimed new j d l = ready_one (slice_index_or tasks j d) (new j d l)
      (all_shown (λ (t : Task). t.names.items) names_of (λ names. All (IsAimed (shape_of k.mesh.now) v.ruling.plan.target) names) tasks work same aimed j d l)

pub made_all : (id : TableId) (k : Site) (v : Sight) (tasks : List Task) → All (IsNew id k v) tasks → All (IsMade v) tasks
made_all id k v tasks new j d l = (new j d l).made
