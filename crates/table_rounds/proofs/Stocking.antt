-- The owner's lists as blocks become free.
use Rattle.std.proofs.Common.{◌≡◌, ℕ, zero, suc, ◌+◌, ◌<◌, ◌≤◌, Bool, true, List, [], ◌∷◌, ◌++◌, drop, take, length, vec_capacity, ◌⊎◌, inl, inr, ⊎_elim, slice_index, refl, sym, ap, ◌∙◌, subst, arith}
use Rattle.std.proofs.lemmas.List.{length-append}
use Rattle.table_words.specs.declared.layout.Layout.{Layout}
use Rattle.table_words.specs.Entries.{HasEntry}
use Rattle.table_words.specs.Views.{Owner, Read, Resting}
use Rattle.mesh_table.specs.Sights.{Sight}
use Rattle.mesh_table.specs.Rounds.{DrainedTo}
use Rattle.table_rounds.specs.declared.patch.Patch.{Patch}
use Rattle.table_rounds.specs.declared.stock.Stock.{Stock}
use Rattle.table_rounds.specs.Patches.{nth, spot}
use Rattle.table_rounds.specs.Drained.{AllDrained, AreLeft, MoreDrained}
use Rattle.table_rounds.specs.Kinds.{BlocksTold}
use Rattle.table_rounds.specs.Rows.{IsHand}
use Rattle.table_rounds.specs.Sweeps.{AreBack, AreFreed, AreOld, ArePlaced, MaySweep}
use Rattle.table_rounds.specs.Stocks.{AreDrained, EachOnce, IsRoomy, IsStock, KeepsStock, blocks_of}
use Rattle.table_rounds.proofs.Piles.{are_kept, are_given_up, blocks_length, hand_after, old_after, back_after, back_stays, placed_after, low_kept, low_both, once_kept, once_both}

-- the blocks of one patch more
pub blocks_next : (ps : List Patch) (n : ℕ) → n < length ps → blocks_of (take (suc n) ps) ≡ blocks_of (take n ps) ++ (nth ps n).block ∷ []
blocks_next [] n l = absurd (omega arith)
blocks_next (p ∷ ps) zero l = refl
blocks_next (p ∷ ps) (suc n) l = ap (λ (xs : List ℕ). p.block ∷ xs) (blocks_next ps n (omega arith))

pub blocks_plus : (ps : List Patch) (n : ℕ) → n < length ps → blocks_of (take (n + 1) ps) ≡ blocks_of (take n ps) ++ (nth ps n).block ∷ []
blocks_plus ps n l = let e : suc n ≡ n + 1 = omega arith in subst (λ (k : ℕ). blocks_of (take k ps) ≡ blocks_of (take n ps) ++ (nth ps n).block ∷ []) e (blocks_next ps n l)

pub take_whole : (ps : List Patch) → take (length ps) ps ≡ ps
take_whole [] = refl
take_whole (p ∷ ps) = ap (λ (qs : List Patch). p ∷ qs) (take_whole ps)

pub append_apart : (xs ys zs : List ℕ) → (xs ++ ys) ++ zs ≡ xs ++ (ys ++ zs)
append_apart [] ys zs = refl
append_apart (x ∷ xs) ys zs = ap (λ (r : List ℕ). x ∷ r) (append_apart xs ys zs)

pub may_sweep : (l : Layout) (v : Sight) (s : Stock) → v.kind ≡ Owner → v.ruling.phase ≡ Resting → AreDrained v → IsStock l v s → MaySweep l v s.places.items
may_sweep l v s rules rests drained is = record { rules = rules; rests = rests; drained = drained; placed = is.placed }

-- the lists stay where only what is known of pins changed
pub stock_more : (l : Layout) (u v : Sight) (s : Stock) → MoreDrained u v → IsStock l u s → IsStock l v s
stock_more l u v s more is = subst (λ (z : Sight). IsStock l z s) (sym more.same) record {
  hand = record { held = is.hand.held; all = is.hand.all; once = is.hand.once };
  old = record { each = λ k a. let t = is.old.each k a in record { fits = t.fits; kept = t.kept; placed = t.placed; rooted = t.rooted }; all = is.old.all };
  old_once = is.old_once;
  back = record { fits = is.back.fits; each = is.back.each; all = is.back.all };
  back_once = is.back_once;
  placed = is.placed;
  few = is.few;
  table = is.table;
  room = is.room;
  finished = is.finished;
  readers = is.readers;
  early = is.early;
  left = is.left;
  drained = ((λ q a. more.more q (is.drained.0 q a)), is.drained.1);
  rounds = is.rounds;
  rows = is.rows;
  none = is.none;
}

pub stock_quiet : (l : Layout) (u v : Sight) (s : Stock) → v ≡ record u { ruling = record u.ruling { seen = v.ruling.seen; quiet = v.ruling.quiet } } → IsStock l u s → IsStock l v s
stock_quiet l u v s same is = subst (λ (z : Sight). IsStock l z s) (sym same) record {
  hand = record { held = is.hand.held; all = is.hand.all; once = is.hand.once };
  old = record { each = λ k a. let t = is.old.each k a in record { fits = t.fits; kept = t.kept; placed = t.placed; rooted = t.rooted }; all = is.old.all };
  old_once = is.old_once;
  back = record { fits = is.back.fits; each = is.back.each; all = is.back.all };
  back_once = is.back_once;
  placed = is.placed;
  few = is.few;
  table = is.table;
  room = is.room;
  finished = is.finished;
  readers = is.readers;
  early = is.early;
  left = is.left;
  drained = is.drained;
  rounds = is.rounds;
  rows = is.rows;
  none = is.none;
}

pub drained_early : (v : Sight) → v.ruling.early ≡ 0 → AreDrained v
drained_early v none e l = inl none

pub drained_all : (v : Sight) (n : ℕ) → AllDrained v n → v.ruling.finished ≡ n → AreDrained v
drained_all v n all is e l = inr (λ q a. all q (omega arith))

pub append_none : (xs : List ℕ) → xs ++ [] ≡ xs
append_none [] = refl
append_none (x ∷ xs) = ap (λ (r : List ℕ). x ∷ r) (append_none xs)

-- The lists after blocks became free: the same but for the hand, and for those blocks' patches
module _ (l : Layout) (u w : Sight) (s s' : Stock) (is : IsStock l u s) (told : BlocksTold l.elements u) (places : s'.places.items ≡ s.places.items) (room : (vec_capacity s'.hand ≡ vec_capacity s.hand) × (vec_capacity s'.kept ≡ vec_capacity s.kept) × (vec_capacity s'.rolled_back ≡ vec_capacity s.rolled_back) × (vec_capacity s'.left ≡ vec_capacity s.left)) (finished : s'.finished ≡ s.finished) (early : (s'.early ≡ s.early) × (s'.readers ≡ s.readers)) (left : s'.left.items ≡ s.left.items) (drained : s'.drained ≡ s.drained) (rows : s'.rows ≡ s.rows) where
  others_same : (blocks : List ℕ) → AreFreed u w blocks → IsHand w l.pool s'.hand.items → AreOld l w s'.kept.items → EachOnce s'.kept.items → AreBack l w s'.rolled_back.items → EachOnce s'.rolled_back.items → length s'.hand.items + length s'.kept.items + length s'.rolled_back.items ≤ l.pool → ArePlaced l w s.places.items → IsStock l w s'
  others_same blocks freed hand old old_once back back_once few known = record {
    hand = hand;
    old = old;
    old_once = old_once;
    back = back;
    back_once = back_once;
    placed = subst (ArePlaced l w) (sym places) known;
    few = few;
    table = ap (λ (ps : List Patch). length ps) places ∙ is.table;
    room = let r = is.room in let r0 = r.hand in let r1 = r.kept in let r2 = r.back in let r3 = r.left in let c0 = room.0 in let c1 = room.1 in let c2 = room.2 in let c3 = room.3 in
        record { hand = omega arith; kept = omega arith; back = omega arith; left = omega arith };
    finished = ap (λ (z : Sight). z.ruling.finished) freed ∙ is.finished ∙ sym finished;
    readers = ap (λ (z : Sight). z.ruling.readers) freed ∙ is.readers ∙ sym early.1;
    early = ap (λ (z : Sight). z.ruling.early) freed ∙ is.early ∙ sym early.0;
    left = subst (λ (z : Sight × List ℕ × ℕ). AreLeft z.0 z.1 × (length z.1 ≡ z.2)) (λ t. (sym freed t, sym left t, sym finished t)) is.left;
    drained = subst (λ (z : Sight × ℕ × ℕ). AllDrained z.0 z.1 × (z.1 ≤ z.2)) (λ t. (sym freed t, sym drained t, sym finished t)) is.drained;
    rounds = subst (λ (z : ℕ). z ≤ l.rounds) (sym finished) is.rounds;
    rows = subst (λ (z : Sight × ℕ). (z.0.ruling.free ≡ z.1 + 1) × (z.1 ≤ l.pool)) (λ t. (sym freed t, sym rows t)) is.rows;
    none = subst (λ (z : Sight). z.ruling.high ≤ z.ruling.low) (sym freed) is.none;
  }

  pub stock_both : AreFreed u w (blocks_of s.kept.items ++ blocks_of s.rolled_back.items) → s'.hand.items ≡ s.hand.items ++ (blocks_of s.kept.items ++ blocks_of s.rolled_back.items) → s'.kept.items ≡ [] → s'.rolled_back.items ≡ [] → IsStock l w s'
  stock_both freed hand kept back =
      let given = are_given_up l u s.hand.items s.kept.items s.rolled_back.items is.hand is.old is.old_once is.back is.back_once told in
      let a = length-append s.hand.items (blocks_of s.kept.items ++ blocks_of s.rolled_back.items) in
      let b = length-append (blocks_of s.kept.items) (blocks_of s.rolled_back.items) in
      let c = blocks_length s.kept.items in
      let d = blocks_length s.rolled_back.items in
      let e = ap (λ (xs : List ℕ). length xs) hand in
      let f = ap (λ (xs : List Patch). length xs) kept in
      let g = ap (λ (xs : List Patch). length xs) back in
      let few = is.few in
      others_same (blocks_of s.kept.items ++ blocks_of s.rolled_back.items) freed
      (subst (IsHand w l.pool) (sym hand) (hand_after l u s.hand.items s.kept.items s.rolled_back.items is.hand is.old is.old_once is.back is.back_once told w (blocks_of s.kept.items ++ blocks_of s.rolled_back.items) freed (low_both l u s.hand.items s.kept.items s.rolled_back.items is.hand is.old is.old_once is.back is.back_once told) (once_both l u s.hand.items s.kept.items s.rolled_back.items is.hand is.old is.old_once is.back is.back_once told)))
      (subst (AreOld l w) (sym kept) (old_after l u s.hand.items s.kept.items s.rolled_back.items is.hand is.old is.old_once is.back is.back_once told w (blocks_of s.kept.items ++ blocks_of s.rolled_back.items) freed (low_both l u s.hand.items s.kept.items s.rolled_back.items is.hand is.old is.old_once is.back is.back_once told) (once_both l u s.hand.items s.kept.items s.rolled_back.items is.hand is.old is.old_once is.back is.back_once told) (λ i h. (given i).1 (inl h))))
      (subst EachOnce (sym kept) (λ j k x. absurd (omega arith)))
      (subst (AreBack l w) (sym back) (back_after l u s.hand.items s.kept.items s.rolled_back.items is.hand is.old is.old_once is.back is.back_once told w (blocks_of s.kept.items ++ blocks_of s.rolled_back.items) freed (low_both l u s.hand.items s.kept.items s.rolled_back.items is.hand is.old is.old_once is.back is.back_once told) (once_both l u s.hand.items s.kept.items s.rolled_back.items is.hand is.old is.old_once is.back is.back_once told) (λ i h. (given i).1 (inr h))))
      (subst EachOnce (sym back) (λ j k x. absurd (omega arith)))
      (omega arith)
      (placed_after l u s.hand.items s.kept.items s.rolled_back.items is.hand is.old is.old_once is.back is.back_once told w (blocks_of s.kept.items ++ blocks_of s.rolled_back.items) freed (low_both l u s.hand.items s.kept.items s.rolled_back.items is.hand is.old is.old_once is.back is.back_once told) (once_both l u s.hand.items s.kept.items s.rolled_back.items is.hand is.old is.old_once is.back is.back_once told) s.places.items is.placed)

  pub stock_kept : AreFreed u w (blocks_of s.kept.items) → s'.hand.items ≡ s.hand.items ++ blocks_of s.kept.items → s'.kept.items ≡ [] → s'.rolled_back.items ≡ s.rolled_back.items → IsStock l w s'
  stock_kept freed hand kept back =
      let given = are_kept l u s.hand.items s.kept.items s.rolled_back.items is.hand is.old is.old_once is.back is.back_once told in
      let low = low_kept l u s.hand.items s.kept.items s.rolled_back.items is.hand is.old is.old_once is.back is.back_once told in
      let once = once_kept l u s.hand.items s.kept.items s.rolled_back.items is.hand is.old is.old_once is.back is.back_once told in
      let a = length-append s.hand.items (blocks_of s.kept.items) in
      let c = blocks_length s.kept.items in
      let e = ap (λ (xs : List ℕ). length xs) hand in
      let f = ap (λ (xs : List Patch). length xs) kept in
      let g = ap (λ (xs : List Patch). length xs) back in
      let few = is.few in
      others_same (blocks_of s.kept.items) freed
      (subst (IsHand w l.pool) (sym hand) (hand_after l u s.hand.items s.kept.items s.rolled_back.items is.hand is.old is.old_once is.back is.back_once told w (blocks_of s.kept.items) freed low once))
      (subst (AreOld l w) (sym kept) (old_after l u s.hand.items s.kept.items s.rolled_back.items is.hand is.old is.old_once is.back is.back_once told w (blocks_of s.kept.items) freed low once (λ i h. (given i).1 h)))
      (subst EachOnce (sym kept) (λ j k x. absurd (omega arith)))
      (subst (AreBack l w) (sym back) (back_stays l u s.hand.items s.kept.items s.rolled_back.items is.hand is.old is.old_once is.back is.back_once told w (blocks_of s.kept.items) freed low once (λ i h. (given i).0 h)))
      (subst EachOnce (sym back) is.back_once)
      (omega arith)
      (placed_after l u s.hand.items s.kept.items s.rolled_back.items is.hand is.old is.old_once is.back is.back_once told w (blocks_of s.kept.items) freed low once s.places.items is.placed)

-- further rounds are drained
pub stock_drained : (l : Layout) (u v : Sight) (s : Stock) (d : ℕ) → MoreDrained u v → IsStock l u s → AllDrained v d → d ≤ s.finished → IsStock l v record s { drained = d }
stock_drained l u v s d more is all low = let t = stock_more l u v s more is in record {
  hand = t.hand;
  old = t.old;
  old_once = t.old_once;
  back = t.back;
  back_once = t.back_once;
  placed = t.placed;
  few = t.few;
  table = t.table;
  room = let r = t.room in record { hand = r.hand; kept = r.kept; back = r.back; left = r.left };
  finished = t.finished;
  readers = t.readers;
  early = t.early;
  left = t.left;
  drained = (all, low);
  rounds = t.rounds;
  rows = t.rows;
  none = t.none;
}

-- the hand was laid
pub stock_laid : (l : Layout) (u v : Sight) (s : Stock) (h : Stock) (n : ℕ) → IsStock l u s → v ≡ record u { owned = v.owned; ruling = record u.ruling { hand = []; cursor = 1; free = n + 1; low = 0; high = 0 } } → n ≤ l.pool → h.hand.items ≡ [] → vec_capacity h.hand ≡ vec_capacity s.hand → IsStock l v record s { hand = h.hand; rows = n }
stock_laid l u v s h n is same low empty room = subst (λ (z : Sight). IsStock l z record s { hand = h.hand; rows = n }) (sym same) record {
  hand = subst (IsHand (record u { owned = v.owned; ruling = record u.ruling { hand = []; cursor = 1; free = n + 1; low = 0; high = 0 } }) l.pool) (sym empty) record { held = λ k a. absurd (omega arith); all = λ b e. absurd e; once = λ j k a. absurd (omega arith) };
  old = record { each = λ k a. let t = is.old.each k a in record { fits = t.fits; kept = t.kept; placed = t.placed; rooted = t.rooted }; all = is.old.all };
  old_once = is.old_once;
  back = record { fits = is.back.fits; each = is.back.each; all = is.back.all };
  back_once = is.back_once;
  placed = is.placed;
  few = let e = ap (λ (xs : List ℕ). length xs) empty in let f = is.few in omega arith;
  table = is.table;
  room = let f = is.room in let g = f.hand in record { hand = omega arith; kept = f.kept; back = f.back; left = f.left };
  finished = is.finished;
  readers = is.readers;
  early = is.early;
  left = is.left;
  drained = is.drained;
  rounds = is.rounds;
  rows = (refl, low);
  none = omega arith;
}

-- and they stay where nothing of them changed
pub stock_keeps : (l : Layout) (u v : Sight) (s : Stock) → KeepsStock u v → IsStock l u s → IsStock l v s
stock_keeps l u v s keeps is = record {
  hand = record {
    held = λ k a. let t = is.hand.held k a in (subst (λ (xs : List ℕ). HasEntry xs (slice_index s.hand.items k)) (sym keeps.hand) t.0, t.1);
    all = λ b h. is.hand.all b (subst (λ (xs : List ℕ). HasEntry xs b) keeps.hand h);
    once = is.hand.once;
  };
  old = record {
    each = λ k a. let t = is.old.each k a in record {
      fits = t.fits;
      kept = subst (λ (xs : List ℕ). HasEntry xs (nth s.kept.items k).block) (sym keeps.kept) t.kept;
      placed = subst (λ (xs : List (ℕ × ℕ × ℕ)). HasEntry xs (spot l (nth s.kept.items k))) (sym keeps.placed) t.placed;
      rooted = λ q x st. ⊎_elim inl (λ z. inr (z.0, z.1, z.2, z.3, z.4, z.5, subst (λ (xs : List (ℕ × ℕ × ℕ)). HasEntry xs (z.0, z.1, z.2)) (sym keeps.placed) z.6)) (t.rooted q x st);
    };
    all = λ b h. is.old.all b (subst (λ (xs : List ℕ). HasEntry xs b) keeps.kept h);
  };
  old_once = is.old_once;
  back = record {
    fits = is.back.fits;
    each = λ k a. let t = is.back.each k a in (
      subst (λ (xs : List ℕ). HasEntry xs (nth s.rolled_back.items k).block) (sym keeps.rolled_back) t.0,
      subst (λ (xs : List (ℕ × ℕ × ℕ)). HasEntry xs (spot l (nth s.rolled_back.items k))) (sym keeps.placed) t.1,
    );
    all = λ b h. is.back.all b (subst (λ (xs : List ℕ). HasEntry xs b) keeps.rolled_back h);
  };
  back_once = is.back_once;
  placed = λ b y m h. is.placed b y m (subst (λ (xs : List (ℕ × ℕ × ℕ)). HasEntry xs (b, y, m)) keeps.placed h);
  few = is.few;
  table = is.table;
  room = is.room;
  finished = keeps.finished ∙ is.finished;
  readers = keeps.readers ∙ is.readers;
  early = keeps.early ∙ is.early;
  left = ((λ q a. subst (λ (xs : List (ℕ × ℕ)). HasEntry xs (q, slice_index s.left.items q)) (sym keeps.left) (is.left.0 q a)), is.left.1);
  drained = ((λ q a. subst (λ (xs : List ℕ). HasEntry xs q) (sym keeps.drained) (is.drained.0 q a)), is.drained.1);
  rounds = is.rounds;
  rows = (keeps.free ∙ is.rows.0, is.rows.1);
  none = let e = keeps.low in let f = keeps.high in let g = is.none in omega arith;
}

-- readers' passes were counted
pub stock_counted : (l : Layout) (u v : Sight) (s : Stock) (r : Read) (n e m f : ℕ) → v ≡ record u { read = r; ruling = record u.ruling { readers = n; early = e } } → n ≡ m → e ≡ f → IsStock l u s → IsStock l v record s { readers = m; early = f }
stock_counted l u v s r n e m f same a b is = subst (λ (z : Sight). IsStock l z record s { readers = m; early = f }) (sym same) record {
  hand = record { held = is.hand.held; all = is.hand.all; once = is.hand.once };
  old = record { each = λ k c. let t = is.old.each k c in record { fits = t.fits; kept = t.kept; placed = t.placed; rooted = t.rooted }; all = is.old.all };
  old_once = is.old_once;
  back = record { fits = is.back.fits; each = is.back.each; all = is.back.all };
  back_once = is.back_once;
  placed = is.placed;
  few = is.few;
  table = is.table;
  room = let g = is.room in record { hand = g.hand; kept = g.kept; back = g.back; left = g.left };
  finished = is.finished;
  readers = a;
  early = b;
  left = is.left;
  drained = is.drained;
  rounds = is.rounds;
  rows = is.rows;
  none = is.none;
}
