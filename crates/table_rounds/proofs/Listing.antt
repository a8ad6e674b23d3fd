-- The owner's lists after a round is finished.
use Rattle.std.proofs.Common.{◌≡◌, ℕ, zero, suc, ◌+◌, ◌<◌, ◌≤◌, Bool, List, [], ◌∷◌, ◌++◌, ◌⊎◌, inl, inr, ⊎_elim, length, set, slice_index, take, vec_capacity, refl, sym, ap, ◌∙◌, subst, arith}
use Rattle.std.proofs.lemmas.List.{get_or-set_same, get_or-set_other, length-append}
use mathlib.Core.Logic.{dite}
use native.Mathlib.Decide.{ℕ_discrete}
use Rattle.table_words.specs.declared.layout.Layout.{Layout}
use Rattle.table_words.specs.Entries.{HasEntry}
use Rattle.table_words.specs.Views.{Ruling}
use Rattle.table_words.proofs.Entries.{entry_of_both, entry_left, entry_right}
use Rattle.table_state.specs.Ghosts.{Placed, stands}
use Rattle.mesh_table.specs.Sights.{Sight}
use Rattle.table_rounds.specs.declared.patch.Patch.{Patch}
use Rattle.table_rounds.specs.declared.stock.Stock.{Stock}
use Rattle.table_rounds.specs.Drained.{AllDrained, AreLeft}
use Rattle.table_rounds.specs.Kinds.{BlocksTold}
use Rattle.table_rounds.specs.Patches.{AllFit, Finished, IsPatch, WereRetired, nth, no_patch, spot}
use Rattle.table_rounds.specs.Rows.{IsHand}
use Rattle.table_rounds.specs.Stocks.{EachOnce, IsStock, PlacesNoted}
use Rattle.table_rounds.specs.Sweeps.{AreBack, AreOld, ArePlaced, IsOld}
use Rattle.table_rounds.specs.Versions.{IsRooted}
use Rattle.table_rounds.proofs.Piles.{fit_pool}

-- a patch of two lists is of the one or of the other
pub nth_both : (xs ys : List Patch) (k : ℕ) → k < length xs + length ys → ((k < length xs) × (nth (xs ++ ys) k ≡ nth xs k)) ⊎ ((j : ℕ) × (j < length ys) × (k ≡ length xs + j) × (nth (xs ++ ys) k ≡ nth ys j))
nth_both [] ys k a = inr (k, omega arith, omega arith, refl)
nth_both (x ∷ xs) ys zero a = inl (omega arith, refl)
nth_both (x ∷ xs) ys (suc k) a = ⊎_elim (λ r. let b = r.0 in inl (omega arith, r.1)) (λ r. let b = r.2 in inr (r.0, r.1, omega arith, r.3)) (nth_both xs ys k (omega arith))

pub nth_left : (xs ys : List Patch) (k : ℕ) → k < length xs → nth (xs ++ ys) k ≡ nth xs k
nth_left [] ys k a = absurd (omega arith)
nth_left (x ∷ xs) ys zero a = refl
nth_left (x ∷ xs) ys (suc k) a = nth_left xs ys k (omega arith)

-- each patch of the second list is one of both
pub nth_right : (xs ys : List Patch) (j : ℕ) → j < length ys → (k : ℕ) × (k < length (xs ++ ys)) × (nth (xs ++ ys) k ≡ nth ys j)
nth_right [] ys j a = (j, a, refl)
nth_right (x ∷ xs) ys j a = let t = nth_right xs ys j a in let b = t.1 in (suc t.0, omega arith, t.2)

-- the numbers of a list with one more
pub number_both : (xs : List ℕ) (t q : ℕ) → q < length xs + 1 → ((q < length xs) × (slice_index (xs ++ t ∷ []) q ≡ slice_index xs q)) ⊎ ((q ≡ length xs) × (slice_index (xs ++ t ∷ []) q ≡ t))
number_both [] t zero a = inr (refl, refl)
number_both [] t (suc q) a = absurd (omega arith)
number_both (x ∷ xs) t zero a = inl (omega arith, refl)
number_both (x ∷ xs) t (suc q) a = ⊎_elim (λ r. let b = r.0 in inl (omega arith, r.1)) (λ r. let b = r.0 in inr (omega arith, r.1)) (number_both xs t q (omega arith))

-- the first patches of a list, and one more
take_next : (ps : List Patch) (n : ℕ) → n < length ps → take (suc n) ps ≡ take n ps ++ nth ps n ∷ []
take_next [] n l = absurd (omega arith)
take_next (p ∷ ps) zero l = refl
take_next (p ∷ ps) (suc n) l = ap (λ (xs : List Patch). p ∷ xs) (take_next ps n (omega arith))

pub take_plus : (ps : List Patch) (n : ℕ) → n < length ps → take (n + 1) ps ≡ take n ps ++ nth ps n ∷ []
take_plus ps n l = let e : suc n ≡ n + 1 = omega arith in subst (λ (k : ℕ). take k ps ≡ take n ps ++ nth ps n ∷ []) e (take_next ps n l)

pub patches_apart : (xs ys zs : List Patch) → (xs ++ ys) ++ zs ≡ xs ++ (ys ++ zs)
patches_apart [] ys zs = refl
patches_apart (x ∷ xs) ys zs = ap (λ (r : List Patch). x ∷ r) (patches_apart xs ys zs)

pub patches_none : (xs : List Patch) → xs ++ [] ≡ xs
patches_none [] = refl
patches_none (x ∷ xs) = ap (λ (r : List Patch). x ∷ r) (patches_none xs)

-- places are noted one after the other
pub noted_none : (old ps : List Patch) → PlacesNoted old old ps 0
noted_none old ps b = inl ((λ k a. absurd (omega arith)), refl)

pub noted_one : (old now ps : List Patch) (n i : ℕ) (p : Patch) → PlacesNoted old now ps n → p ≡ nth ps n → i ≡ (nth ps n).block → i < length now → PlacesNoted old (set now i p) ps (n + 1)
noted_one old now ps n i p so is at room b = dite (ℕ_discrete b i)
    (λ e. inr (n, omega arith, sym at ∙ sym e, ap (λ (j : ℕ). nth (set now i p) j) e ∙ get_or-set_same now i p no_patch room ∙ is))
    (λ o.
    let stays : nth (set now i p) b ≡ nth now b = get_or-set_other now i b p no_patch o in
    ⊎_elim
    (λ t. inl ((λ k a q. dite (ℕ_discrete k n) (λ e. o (sym q ∙ ap (λ (j : ℕ). (nth ps j).block) e ∙ sym at)) (λ r. t.0 k (omega arith) q)), stays ∙ t.1))
    (λ t. let a = t.1 in inr (t.0, omega arith, t.2, stays ∙ t.3)) (so b))

module _ (l : Layout) (u w : Sight) (s : Stock) (claims retired : List Patch) (forest : List ℕ) (pins : ℕ) (is : IsStock l u s) (before : BlocksTold l.elements u) (after : BlocksTold l.elements w) (done : Finished l u w claims forest pins) (fit : AllFit l claims) (fits : AllFit l retired) (were : WereRetired l u retired) (once : EachOnce retired) where
  kept_is : w.ruling.kept ≡ (u.work.retired ++ u.ruling.retired) ++ u.ruling.kept
  kept_is = ap (λ (z : Ruling). z.kept) done.ruling

  rooted_more : (x : ℕ) → IsRooted l.elements u x → IsRooted l.elements w x
  rooted_more x = ⊎_elim inl (λ z. inr (z.0, z.1, z.2, z.3, z.4, z.5, done.more (z.0, z.1, z.2) z.6))

  kept_old : (k : ℕ) → k < length s.kept.items → IsOld l w (nth s.kept.items k)
  kept_old k a = let t = is.old.each k a in record {
    fits = t.fits;
    kept = subst (λ (xs : List ℕ). HasEntry xs (nth s.kept.items k).block) (sym kept_is) (entry_right (u.work.retired ++ u.ruling.retired) u.ruling.kept (nth s.kept.items k).block t.kept);
    placed = done.more (spot l (nth s.kept.items k)) t.placed;
    rooted = λ q x st. rooted_more x (t.rooted q x st);
  }

  kept_new : (k : ℕ) → k < length retired → IsOld l w (nth retired k)
  kept_new k a = let t = were.right k a in record {
    fits = fits k a;
    kept = subst (λ (xs : List ℕ). HasEntry xs (nth retired k).block) (sym kept_is) (entry_left (u.work.retired ++ u.ruling.retired) u.ruling.kept (nth retired k).block t.0);
    placed = done.more (spot l (nth retired k)) t.1;
    rooted = λ q x st. rooted_more x (before.rooted (nth retired k).block (spot l (nth retired k)).1 (spot l (nth retired k)).2 x q t.0 t.1 st);
  }

  old_after : AreOld l w (s.kept.items ++ retired)
  old_after = record {
    each = λ k a. let e = length-append s.kept.items retired in
        ⊎_elim (λ t. subst (IsOld l w) (sym t.1) (kept_old k t.0)) (λ t. subst (IsOld l w) (sym t.3) (kept_new t.0 t.1)) (nth_both s.kept.items retired k (omega arith));
    all = λ b h. ⊎_elim
        (λ r. let t = were.all b r in let j = nth_right s.kept.items retired t.0 t.1 in (j.0, j.1, t.2 ∙ sym (ap (λ (p : Patch). p.block) j.2)))
        (λ r. let t = is.old.all b r in let e = length-append s.kept.items retired in let a = t.1 in (t.0, omega arith, t.2 ∙ sym (ap (λ (p : Patch). p.block) (nth_left s.kept.items retired t.0 t.1))))
        (entry_of_both (u.work.retired ++ u.ruling.retired) u.ruling.kept b (subst (λ (xs : List ℕ). HasEntry xs b) kept_is h));
  }

  -- a kept block is not retired again
  apart : (i j : ℕ) → i < length s.kept.items → j < length retired → (nth s.kept.items i).block ≡ (nth retired j).block → ⊥
  apart i j a b e = before.retired_kept (nth retired j).block (were.right j b).0 (subst (HasEntry u.ruling.kept) e (is.old.each i a).kept)

  once_after : EachOnce (s.kept.items ++ retired)
  once_after j k a b e =
      let n = length-append s.kept.items retired in
      ⊎_elim
      (λ t. ⊎_elim
      (λ r. is.old_once j k t.0 r.0 (sym (ap (λ (p : Patch). p.block) t.1) ∙ e ∙ ap (λ (p : Patch). p.block) r.1))
      (λ r. absurd (apart j r.0 t.0 r.1 (sym (ap (λ (p : Patch). p.block) t.1) ∙ e ∙ ap (λ (p : Patch). p.block) r.3)))
      (nth_both s.kept.items retired k (omega arith)))
      (λ t. ⊎_elim
      (λ r. absurd (apart k t.0 r.0 t.1 (sym (ap (λ (p : Patch). p.block) r.1) ∙ sym e ∙ ap (λ (p : Patch). p.block) t.3)))
      (λ r. let q = once t.0 r.0 t.1 r.1 (sym (ap (λ (p : Patch). p.block) t.3) ∙ e ∙ ap (λ (p : Patch). p.block) r.3) in let f = t.2 in let g = r.2 in omega arith)
      (nth_both s.kept.items retired k (omega arith)))
      (nth_both s.kept.items retired j (omega arith))

  hand_after : IsHand w l.pool s.hand.items
  hand_after = let e : w.ruling.hand ≡ u.ruling.hand = ap (λ (z : Ruling). z.hand) done.ruling in record {
    held = λ k a. let t = is.hand.held k a in (subst (λ (xs : List ℕ). HasEntry xs (slice_index s.hand.items k)) (sym e) t.0, t.1);
    all = λ b h. is.hand.all b (subst (λ (xs : List ℕ). HasEntry xs b) e h);
    once = is.hand.once;
  }

  back_after : AreBack l w s.rolled_back.items
  back_after = let e : w.ruling.rolled_back ≡ u.ruling.rolled_back = ap (λ (z : Ruling). z.rolled_back) done.ruling in record {
    fits = is.back.fits;
    each = λ k a. let t = is.back.each k a in (subst (λ (xs : List ℕ). HasEntry xs (nth s.rolled_back.items k).block) (sym e) t.0, done.more (spot l (nth s.rolled_back.items k)) t.1);
    all = λ b h. is.back.all b (subst (λ (xs : List ℕ). HasEntry xs b) e h);
  }

  fit_after : length s.hand.items + length (s.kept.items ++ retired) + length s.rolled_back.items ≤ l.pool
  fit_after = fit_pool l w s.hand.items (s.kept.items ++ retired) s.rolled_back.items hand_after old_after once_after back_after is.back_once after

  -- there is room for the retired blocks
  pub room_after : length s.kept.items + length retired ≤ vec_capacity s.kept
  room_after = let a = fit_after in let b = is.room.kept in let c = length-append s.kept.items retired in omega arith

  abbrev IsAt : ℕ → ℕ → ℕ → Patch → Type 0
  IsAt b y m p = (spot l p ≡ (b, y, m)) × IsPatch l p

  placed_after : (places : List Patch) → length places ≡ l.pool → PlacesNoted s.places.items places claims (length claims) → ArePlaced l w places
  placed_after places size noted b y m h = ⊎_elim
      (λ t. ⊎_elim
      (λ r. let q = is.placed b y m r in let c = is.table in let d = q.0 in let n : b < length places = omega arith in let f = subst (IsAt b y m) (sym t.1) (q.1, q.2) in (n, f.0, f.1))
      (λ r. absurd (t.0 r.0 r.1 (sym (ap (λ (z : ℕ × ℕ × ℕ). z.0) r.2))))
      (done.only (b, y, m) h))
      (λ t.
      let at : HasEntry w.ruling.placed (b, (spot l (nth claims t.0)).1, (spot l (nth claims t.0)).2) = subst (λ (c : ℕ). HasEntry w.ruling.placed (c, (spot l (nth claims t.0)).1, (spot l (nth claims t.0)).2)) t.2 (done.noted t.0 t.1) in
      let same = after.once b (spot l (nth claims t.0)).1 (spot l (nth claims t.0)).2 y m at h in
      let in_pool = (fit t.0 t.1).0 in let c = t.2 in
      let n : b < length places = omega arith in
      let f = subst (IsAt b y m) (sym t.3) ((λ i. (t.2 i, same.0 i, same.1 i)), fit t.0 t.1) in (n, f.0, f.1))
      (noted b)

  left_after : AreLeft w (s.left.items ++ pins ∷ [])
  left_after q a =
      let e : w.ruling.left ≡ (u.ruling.finished, pins) ∷ u.ruling.left = ap (λ (z : Ruling). z.left) done.ruling in
      let n = length-append s.left.items (pins ∷ []) in
      subst (λ (xs : List (ℕ × ℕ)). HasEntry xs (q, slice_index (s.left.items ++ pins ∷ []) q)) (sym e) (⊎_elim
      (λ t. inr (subst (λ (p : ℕ). HasEntry u.ruling.left (q, p)) (sym t.1) (is.left.0 q t.0)))
      (λ t. inl (λ i. ((t.0 ∙ is.left.1 ∙ sym is.finished) i, t.1 i)))
      (number_both s.left.items pins q (omega arith)))

  pub stock_finished : (s' : Stock) → s.finished < l.rounds → s'.hand ≡ s.hand → s'.rolled_back ≡ s.rolled_back → s'.kept.items ≡ s.kept.items ++ retired → vec_capacity s'.kept ≡ vec_capacity s.kept → length s'.places.items ≡ length s.places.items → PlacesNoted s.places.items s'.places.items claims (length claims) → s'.left.items ≡ s.left.items ++ pins ∷ [] → vec_capacity s'.left ≡ vec_capacity s.left → s'.finished ≡ s.finished + 1 → (s'.readers ≡ s.readers) × (s'.early ≡ s.readers) → s'.drained ≡ s.drained → s'.rows ≡ s.rows → IsStock l w s'
  stock_finished s' more hand back kept kept_room size noted left left_room now early drained rows = record {
    hand = subst (λ (xs : List ℕ). IsHand w l.pool xs) (sym hand_items) hand_after;
    old = subst (AreOld l w) (sym kept) old_after;
    old_once = subst EachOnce (sym kept) once_after;
    back = subst (AreBack l w) (sym back_items) back_after;
    back_once = subst EachOnce (sym back_items) is.back_once;
    placed = placed_after s'.places.items (size ∙ is.table) noted;
    few = let a = fit_after in let b = ap (λ (xs : List ℕ). length xs) hand_items in let c = ap (λ (xs : List Patch). length xs) kept in let d = ap (λ (xs : List Patch). length xs) back_items in omega arith;
    table = size ∙ is.table;
    room = let a = is.room.hand in let b = is.room.kept in let c = is.room.back in let d = is.room.left in
        let e = hand_room in let f = back_room in record { hand = omega arith; kept = omega arith; back = omega arith; left = omega arith };
    finished = let a : w.ruling.finished ≡ u.ruling.finished + 1 = ap (λ (z : Ruling). z.finished) done.ruling in let b = is.finished in omega arith;
    readers = ap (λ (z : Ruling). z.readers) done.ruling ∙ is.readers ∙ sym early.0;
    early = ap (λ (z : Ruling). z.early) done.ruling ∙ is.readers ∙ sym early.1;
    left = (subst (AreLeft w) (sym left) left_after, let a = ap (λ (xs : List ℕ). length xs) left in let b = length-append s.left.items (pins ∷ []) in let c = is.left.1 in omega arith);
    drained = (
      (λ q a. let d : w.ruling.drained ≡ u.ruling.drained = ap (λ (z : Ruling). z.drained) done.ruling in subst (λ (xs : List ℕ). HasEntry xs q) (sym d) (is.drained.0 q (omega arith))),
      let a = is.drained.1 in omega arith,
    );
    rounds = omega arith;
    rows = (
      ap (λ (z : Ruling). z.free) done.ruling ∙ is.rows.0 ∙ ap (λ (n : ℕ). n + 1) (sym rows),
      let a = is.rows.1 in omega arith,
    );
    none = let a : w.ruling.high ≡ u.ruling.high = ap (λ (z : Ruling). z.high) done.ruling in let b : w.ruling.low ≡ u.ruling.low = ap (λ (z : Ruling). z.low) done.ruling in let c = is.none in omega arith;
  }
    where
      hand_items : s'.hand.items ≡ s.hand.items
      hand_items = λ i. (hand i).items

      back_items : s'.rolled_back.items ≡ s.rolled_back.items
      back_items = λ i. (back i).items

      hand_room : vec_capacity s'.hand ≡ vec_capacity s.hand
      hand_room = λ i. vec_capacity (hand i)

      back_room : vec_capacity s'.rolled_back ≡ vec_capacity s.rolled_back
      back_room = λ i. vec_capacity (back i)
