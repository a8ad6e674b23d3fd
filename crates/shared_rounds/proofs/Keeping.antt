-- The owner's lists, while a round begins and goes on.
use Rattle.std.proofs.Common.{◌≡◌, ℕ, ◌+◌, ◌<◌, List, [], false, length, refl, sym, ap, ◌∙◌, subst}
use Rattle.mesh_names.specs.Names.{Name}
use Rattle.mesh_names.specs.Partners.{Across}
use Rattle.mesh_names.specs.Triangles.{Shape}
use Rattle.table_words.specs.Views.{Owned, Plan, Ruling}
use Rattle.table_state.specs.DrawLaws.{Enumerates, IsFirst, IsHeldBack}
use Rattle.mesh_table.specs.Crews.{plan_for}
use Rattle.table_words.specs.Setup.{Setup}
use Rattle.table_words.specs.declared.layout.Layout.{Layout}
use Rattle.mesh_table.specs.Passes.{begun}
use Rattle.mesh_table.specs.Rounds.{planned}
use Rattle.mesh_table.specs.Sights.{Sight}
use Rattle.table_rounds.specs.Stocks.{IsStock, KeepsStock}
use Rattle.table_rounds.specs.Refusals.{RolledBackAll}
use Rattle.table_rounds.specs.declared.patch.Held.{Held}
use Rattle.table_rounds.specs.declared.stock.Stock.{Stock}
use Rattle.shared_rounds.specs.Claims.{IsTooLarge}
use Rattle.shared_rounds.specs.FirstHalf.{IsOverfull}
use Rattle.shared_rounds.specs.Refining.{HasRolledBack, IsBetween}
use Rattle.table_rounds.proofs.Stocking.{stock_keeps}

-- a round was begun, and its passes are joined
pub stock_begun : (l : Layout) (u w v : Sight) (p : Plan) (s : Stock) → w ≡ begun u p → v.ruling ≡ record w.ruling { workers = 0; lone = false } → IsStock l u s → IsStock l v s
stock_begun l u w v p s e r is = stock_keeps l u v s (kept now) is
  where
    now : v.ruling ≡ record (begun u p).ruling { workers = 0; lone = false }
    now = r ∙ (λ i. record (e i).ruling { workers = 0; lone = false })

    kept : v.ruling ≡ record (begun u p).ruling { workers = 0; lone = false } → KeepsStock u v
    kept q = record {
      hand = ap (λ (x : Ruling). x.hand) q;
      kept = ap (λ (x : Ruling). x.kept) q;
      rolled_back = ap (λ (x : Ruling). x.rolled_back) q;
      placed = ap (λ (x : Ruling). x.placed) q;
      finished = ap (λ (x : Ruling). x.finished) q;
      readers = ap (λ (x : Ruling). x.readers) q;
      early = ap (λ (x : Ruling). x.early) q;
      left = ap (λ (x : Ruling). x.left) q;
      drained = ap (λ (x : Ruling). x.drained) q;
      free = ap (λ (x : Ruling). x.free) q;
      low = ap (λ (x : Ruling). x.low) q;
      high = ap (λ (x : Ruling). x.high) q;
    }

-- and its second half is planned
pub stock_planned : (l : Layout) (u v : Sight) (s : Stock) → v ≡ planned u [] → IsStock l u s → IsStock l v s
stock_planned l u v s e is = subst (λ (z : Sight). IsStock l z s) (sym e) (stock_keeps l u (planned u []) s record {
  hand = refl;
  kept = refl;
  rolled_back = refl;
  placed = refl;
  finished = refl;
  readers = refl;
  early = refl;
  left = refl;
  drained = refl;
  free = refl;
  low = refl;
  high = refl;
} is)

pub stock_just_begun : (l : Layout) (u v : Sight) (p : Plan) (s : Stock) → v ≡ begun u p → IsStock l u s → IsStock l v s
stock_just_begun l u v p s e is = subst (λ (z : Sight). IsStock l z s) (sym e) (stock_keeps l u (begun u p) s record {
  hand = refl;
  kept = refl;
  rolled_back = refl;
  placed = refl;
  finished = refl;
  readers = refl;
  early = refl;
  left = refl;
  drained = refl;
  free = refl;
  low = refl;
  high = refl;
} is)

-- a round too large for the pool, in the words of the view before it
module _ (s : Setup) (l : Layout) (mesh : Shape) (x : Across) (u opened w v : Sight) (needs : List Name) (owned : Owned) (rows : ℕ)
    (open_ : opened ≡ record u { owned = owned; ruling = record u.ruling { hand = []; cursor = 1; free = rows; low = 0; high = 0 } })
    (began : w ≡ begun opened (plan_for mesh x opened needs)) (held : List Held) (over : IsOverfull s l w v held) where
  ruling_from : v.ruling ≡ record (begun (record u { owned = owned; ruling = record u.ruling { hand = []; cursor = 1; free = rows; low = 0; high = 0 } }) (plan_for mesh x u needs)).ruling { workers = 0; lone = false }
  ruling_from = over.ruling ∙ (λ i. record (began i).ruling { workers = 0; lone = false })
      ∙ (λ i. record (begun (open_ i) (plan_for mesh x (open_ i) needs)).ruling { workers = 0; lone = false })

  pub too_large : IsTooLarge s (begun (record u { ruling = record u.ruling { hand = [] } }) (plan_for mesh x u needs))
  too_large = subst (λ (r : Ruling). (goal held : List ℕ) → Enumerates (IsFirst s r.plan.target) goal → Enumerates (IsHeldBack r) held → s.pool < length goal + length held) ruling_from over.cause

  pub rolled_back : (z : Sight) → RolledBackAll l v z held → IsBetween u → HasRolledBack u z
  rolled_back z back between = record {
    between = record {
      rules = back.kind ∙ over.kind ∙ ap (λ (y : Sight). y.kind) began ∙ ap (λ (y : Sight). y.kind) open_ ∙ between.rules;
      rests = ap (λ (r : Ruling). r.phase) back.ruling;
      home = ap (λ (r : Ruling). r.workers) back.ruling ∙ ap (λ (r : Ruling). r.workers) ruling_from;
      alone = ap (λ (r : Ruling). r.lone) back.ruling ∙ ap (λ (r : Ruling). r.lone) ruling_from;
      none = back.claims;
      fresh = ap (λ (r : Ruling). r.retired) back.ruling ∙ ap (λ (r : Ruling). r.retired) ruling_from ∙ between.fresh;
    };
    history = ap (λ (r : Ruling). r.history) back.ruling ∙ ap (λ (r : Ruling). r.history) ruling_from;
    finished = ap (λ (r : Ruling). r.finished) back.ruling ∙ ap (λ (r : Ruling). r.finished) ruling_from;
  }
