-- Blocks that were given up are cleared, one after the other, and may then be freed.
use Rattle.std.proofs.Common.{◌≡◌, ℕ, zero, suc, ◌+◌, ◌<◌, ◌≤◌, Bool, true, false, List, [], ◌∷◌, length, ◌⊎◌, inl, inr, ⊎_elim, refl, sym, ap, ◌∙◌, subst, arith}
use mathlib.Core.Logic.{dite}
use native.Mathlib.Decide.{ℕ_discrete}
use Rattle.table_words.specs.declared.layout.Layout.{Layout}
use Rattle.table_words.specs.Entries.{HasEntry, Noted}
use Rattle.table_words.specs.Places.{place_number}
use Rattle.table_words.specs.Words.{Node, node}
use Rattle.table_state.specs.Ghosts.{Placed, stands}
use Rattle.mesh_table.specs.Sights.{Sight}
use Rattle.mesh_table.specs.Rounds.{DrainedTo, MayFree, CanGo, CleanPlaceIn, listed, freed}
use Rattle.mesh_table.specs.Told.{mate_number}
use Rattle.mesh_table.proofs.Cutting.{listed_has, has_listed}
use Rattle.table_rounds.specs.declared.patch.Patch.{Patch}
use Rattle.table_rounds.specs.Patches.{nth, spot}
use Rattle.table_rounds.specs.Sweeps.{AreBack, AreFreed, AreGivenUp, AreKept, AreOld, IsOld, MaySweep, PlaceClear, StillClear, BlockClear, WordsClear, ClearTo, WordsTo, FreeReady}
use Rattle.table_rounds.proofs.Cuts.{place_on, still_none, still_on, rooted_on}

pub block_done : (l : Layout) (u v : Sight) (p : Patch) (n : ℕ) → IsOld l u p → StillClear u v → Noted v.owned.died p.block n → 0 < n → n ≤ u.ruling.finished → PlaceClear v (place_number l p.first) → ((y : ℕ) → mate_number l p.second ≡ y + 1 → PlaceClear v y) → BlockClear v p.block
block_done l u v p n old still died some_ late first second = (
  n,
  place_number l p.first,
  mate_number l p.second,
  died,
  some_,
  subst (λ (z : Sight). n ≤ z.ruling.finished) (sym still.same) late,
  subst (λ (z : Sight). HasEntry z.ruling.placed (spot l p)) (sym still.same) old.placed,
  by,
)
  where
    by : (t : Bool) (x : ℕ) → stands (Placed (place_number l p.first) (mate_number l p.second)) t ≡ x + 1 → PlaceClear v x
    by false x e = subst (PlaceClear v) (let z : place_number l p.first + 1 ≡ x + 1 = e in omega arith) first
    by true x e = second x e

pub old_on : (l : Layout) (u v : Sight) (p : Patch) → v ≡ record u { owned = v.owned } → IsOld l u p → IsOld l v p
old_on l u v p same old = subst (λ (z : Sight). IsOld l z p) (sym same) record { fits = old.fits; kept = old.kept; placed = old.placed; rooted = old.rooted }

block_on : (u v : Sight) (b : ℕ) → StillClear u v → BlockClear u b → BlockClear v b
block_on u v b still (e, y, m, died, some_, late, placed, clear) = (
  e,
  y,
  m,
  still.dieds b e died,
  some_,
  subst (λ (z : Sight). e ≤ z.ruling.finished) (sym still.same) late,
  subst (λ (z : Sight). HasEntry z.ruling.placed (b, y, m)) (sym still.same) placed,
  λ t x st. place_on u v x still (clear t x st),
)

words_on : (u v : Sight) (b : ℕ) → StillClear u v → WordsClear u b → WordsClear v b
words_on u v b still clear y m t x h st = still.olds b t (clear y m t x (subst (λ (z : Sight). HasEntry z.ruling.placed (b, y, m)) still.same h) st)

module _ (l : Layout) (u : Sight) (ps : List Patch) where
  pub clear_begins : ClearTo l u u ps 0
  clear_begins = record { still = still_none u; clear = λ k a. absurd (omega arith) }

  pub clear_goes : (v w : Sight) (n : ℕ) → ClearTo l u v ps n → StillClear v w → BlockClear w (nth ps n).block → ClearTo l u w ps (n + 1)
  clear_goes v w n so still one = record {
    still = still_on u v w so.still still;
    clear = λ k a. dite (ℕ_discrete k n) (λ e. subst (λ (j : ℕ). BlockClear w (nth ps j).block) (sym e) one) (λ o. block_on v w (nth ps k).block still (so.clear k (omega arith)));
  }

  pub words_begin : WordsTo l u u ps 0
  words_begin = record { still = still_none u; clear = λ k a. absurd (omega arith) }

  pub words_go : (v w : Sight) (n : ℕ) → WordsTo l u v ps n → StillClear v w → WordsClear w (nth ps n).block → WordsTo l u w ps (n + 1)
  words_go v w n so still one = record {
    still = still_on u v w so.still still;
    clear = λ k a. dite (ℕ_discrete k n) (λ e. subst (λ (j : ℕ). WordsClear w (nth ps j).block) (sym e) one) (λ o. words_on v w (nth ps k).block still (so.clear k (omega arith)));
  }

by_bool : (x : Bool) → (x ≡ true) ⊎ (x ≡ false)
by_bool true = inl refl
by_bool false = inr refl

-- all kept blocks go, and of those that were rolled back all or none
module _ (v : Sight) (blocks : List ℕ) (ready : FreeReady v blocks) where
  stays_out : (c : ℕ) → (HasEntry v.ruling.kept c → ⊥) × (HasEntry v.ruling.rolled_back c → ⊥) → listed blocks c ≡ false
  stays_out c f = ⊎_elim (λ e. absurd (⊎_elim f.0 (λ q. f.1 q.0) (ready.only c (listed_has blocks c e)))) (λ e. e) (by_bool (listed blocks c))

  clean : (x : ℕ) → PlaceClear v x → CleanPlaceIn v (listed blocks) x
  clean x p = (
    (p.0.0, p.0.1, λ c e. stays_out c (p.0.2 c e)),
    λ b y m t h st. ⊎_elim
        (λ k. inl (has_listed blocks b (ready.kept b k)))
        (λ a. ⊎_elim
        (λ k. ⊎_elim (λ i. inl (has_listed blocks b i)) (λ old. inr (node 0 0, old y m t x h st, λ c e. absurd (let z : 0 ≡ c + 1 = e in omega arith))) (ready.back b k))
        (λ old. inr (node 0 0, old, λ c e. absurd (let z : 0 ≡ c + 1 = e in omega arith))) a)
        (p.1 b y m t h st),
  )

  can_go : (c : ℕ) → HasEntry blocks c → CanGo v (listed blocks) c
  can_go c h = ⊎_elim
      (λ k. let t = ready.clear c k in inr (t.0, t.1, t.2, t.3, t.4, t.5, ready.drained t.0 t.5, t.6, λ s x st. clean x (t.7 s x st)))
      (λ q. inl (q.0, ready.drained v.ruling.finished (omega arith), q.1)) (ready.only c h)

  pub may_free : MayFree v blocks
  may_free = record { rules = ready.rules; rests = ready.rests; each = can_go }

-- where words were led on, and nothing else changed
module _ (l : Layout) (u v : Sight) (places kept : List Patch) (blocks : List ℕ) (may : MaySweep l u places) (old : AreOld l u kept) (still : StillClear u v) (clear : (k : ℕ) → k < length kept → BlockClear v (nth kept k).block) where
  same_kept : v.ruling ≡ u.ruling
  same_kept = ap (λ (z : Sight). z.ruling) still.same

  each_clear : (b : ℕ) → HasEntry v.ruling.kept b → BlockClear v b
  each_clear b h = let t = old.all b (subst (λ (z : Sight). HasEntry z.ruling.kept b) still.same h) in subst (BlockClear v) (sym t.2) (clear t.0 t.1)

  ready_with : ((c : ℕ) → HasEntry blocks c → HasEntry u.ruling.kept c ⊎ (HasEntry u.ruling.rolled_back c × (u.ruling.quiet ≡ true))) → ((b : ℕ) → HasEntry u.ruling.kept b → HasEntry blocks b) → ((b : ℕ) → HasEntry u.ruling.rolled_back b → HasEntry blocks b ⊎ WordsClear v b) → FreeReady v blocks
  ready_with only all back = record {
    rules = ap (λ (z : Sight). z.kind) still.same ∙ may.rules;
    rests = ap (λ (z : Sight). z.ruling.phase) still.same ∙ may.rests;
    drained = λ e late. subst (λ (z : Sight). DrainedTo z e) (sym still.same) (may.drained e (subst (λ (z : Sight). e ≤ z.ruling.finished) still.same late));
    only = λ c h. subst (λ (z : Sight). HasEntry z.ruling.kept c ⊎ (HasEntry z.ruling.rolled_back c × (z.ruling.quiet ≡ true))) (sym still.same) (only c h);
    kept = λ b h. all b (subst (λ (z : Sight). HasEntry z.ruling.kept b) still.same h);
    back = λ b h. back b (subst (λ (z : Sight). HasEntry z.ruling.rolled_back b) still.same h);
    clear = each_clear;
  }

  pub all_ready : AreGivenUp u blocks → u.ruling.quiet ≡ true → MayFree v blocks
  all_ready are quiet = may_free v blocks (ready_with (λ c h. ⊎_elim inl (λ q. inr (q, quiet)) ((are c).0 h)) (λ b h. (are b).1 (inl h)) (λ b h. inl ((are b).1 (inr h))))

  pub retired_ready : (rolled_back : List Patch) → AreBack l u rolled_back → ((k : ℕ) → k < length rolled_back → WordsClear v (nth rolled_back k).block) → AreKept u blocks → MayFree v blocks
  retired_ready rolled_back are words list = may_free v blocks (ready_with (λ c h. inl ((list c).0 h)) (λ b h. (list b).1 h) (λ b h. let t = are.all b h in inr (subst (WordsClear v) (sym t.2) (words t.0 t.1))))

pub clear_over : (u v : Sight) (l : Layout) (ps : List Patch) → StillClear u v → ((k : ℕ) → k < length ps → BlockClear u (nth ps k).block) → (k : ℕ) → k < length ps → BlockClear v (nth ps k).block
clear_over u v l ps still clear k a = block_on u v (nth ps k).block still (clear k a)

pub old_over : (l : Layout) (u v : Sight) (ps : List Patch) → v ≡ record u { owned = v.owned } → AreOld l u ps → AreOld l v ps
old_over l u v ps same old = subst (λ (z : Sight). AreOld l z ps) (sym same) record { each = λ k a. let t = old.each k a in record { fits = t.fits; kept = t.kept; placed = t.placed; rooted = t.rooted }; all = old.all }

pub back_over : (l : Layout) (u v : Sight) (ps : List Patch) → v ≡ record u { owned = v.owned } → AreBack l u ps → AreBack l v ps
back_over l u v ps same back = subst (λ (z : Sight). AreBack l z ps) (sym same) record { fits = back.fits; each = back.each; all = back.all }

pub freed_over : (u v w : Sight) (blocks : List ℕ) → v ≡ record u { owned = v.owned } → w ≡ freed v blocks → AreFreed u w blocks
freed_over u v w blocks same is = subst (λ (z : Sight). AreFreed u z blocks) (sym (is ∙ ap (λ (z : Sight). freed z blocks) same)) refl
