-- The fresh table meets the rule.
use Rattle.std.proofs.Common.{◌≡◌, ℕ, zero, suc, List, [], ◌∷◌, refl, sym, subst}
use mathlib.Core.Path.{fun_ext}
use Rattle.atomic_table.specs.Table.{opening}
use Rattle.compat_check.specs.Meshes.{shape_of, across_in}
use Rattle.mesh_names.specs.Partners.{Tells}
use Rattle.table_words.specs.FreshWords.{AreFresh}
use Rattle.table_words.specs.Views.{Views}
use Rattle.table_words.specs.Words.{Words}
use Rattle.table_state.specs.Fresh.{idle, fresh_views, fresh_owned, fresh_kind, fresh_ghost, blank}
use Rattle.table_state.specs.Rule.{Lawful}
use Rattle.table_state.proofs.Fresh.{fresh_is_lawful}
use Rattle.table_state.proofs.FreshList.{fresh_from_list}
use Rattle.mesh_table.specs.declared.rule.Site.{Site}
use Rattle.mesh_table.specs.Sights.{Sight, nobody, owner_sight, seat_at, views_of, setup_at}
use Rattle.mesh_table.specs.Holds.{Holds}

first_views : (k : Site) → views_of (seat_at (owner_sight k ∷ [])) ≡ fresh_views k.layout.pool
first_views k t = record {
  kind = fun_ext {f = λ j. (seat_at (owner_sight k ∷ []) j).kind} {g = fresh_kind} kind_at t;
  claims = fun_ext {f = λ j. (seat_at (owner_sight k ∷ []) j).claims} {g = λ _. []} (same (λ (v : Sight). v.claims) refl) t;
  work = fun_ext {f = λ j. (seat_at (owner_sight k ∷ []) j).work} {g = λ _. idle} (same (λ (v : Sight). v.work) refl) t;
  owned = fun_ext {f = λ j. (seat_at (owner_sight k ∷ []) j).owned} {g = fresh_owned k.layout.pool} owned_at t;
  read = fun_ext {f = λ j. (seat_at (owner_sight k ∷ []) j).read} {g = λ _. blank []} (same (λ (v : Sight). v.read) refl) t;
  ruling = (fresh_views k.layout.pool).ruling;
}
  where
    kind_at : (j : ℕ) → (seat_at (owner_sight k ∷ []) j).kind ≡ fresh_kind j
    kind_at zero = refl
    kind_at (suc j) = refl

    owned_at : (j : ℕ) → (seat_at (owner_sight k ∷ []) j).owned ≡ fresh_owned k.layout.pool j
    owned_at zero = refl
    owned_at (suc j) = refl

    same : {B : Type 0} (part : Sight → B) → part (owner_sight k) ≡ part nobody → (j : ℕ) → part (seat_at (owner_sight k ∷ []) j) ≡ part nobody
    same part e zero = e
    same part e (suc j) = refl

pub opens_table : (k : Site) (words : List ℕ) → Tells (shape_of k.mesh.now) (across_in k.mesh.now) → AreFresh k.layout words → Holds k (opening words [] (owner_sight k))
opens_table k words tells fresh = record {
  size_is = fresh.0;
  lawful = subst (λ (x : Words × Views). Lawful (setup_at k) x.0 1 x.1) (λ t. (sym (fresh_from_list k.layout words fresh) t, sym (first_views k) t))
      (fresh_ghost, fresh_is_lawful (shape_of k.mesh.now) (across_in k.mesh.now) tells k.layout k.passes);
}
