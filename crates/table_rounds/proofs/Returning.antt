-- The owner's lists after a round was rolled back.
use Rattle.std.proofs.Common.{◌≡◌, ℕ, zero, suc, ◌+◌, ◌-◌, ◌<◌, ◌≤◌, Bool, List, [], ◌∷◌, ◌++◌, ◌⊎◌, inl, inr, ⊎_elim, length, take, drop, slice_index, vec_capacity, Option, None, Some, IfSome, refl, sym, ap, ◌∙◌, subst, arith}
use Rattle.std.proofs.lemmas.List.{length-append}
use Rattle.table_words.specs.declared.layout.Layout.{Layout}
use Rattle.table_words.specs.declared.layout.ElemAt.{ElemAt}
use Rattle.table_words.specs.Claims.{Progress, Living, claim}
use Rattle.table_words.specs.Entries.{HasEntry}
use Rattle.table_words.specs.Layout.{IsElemAt}
use Rattle.table_words.specs.Places.{place_number}
use Rattle.table_words.specs.Views.{Ruling}
use Rattle.table_state.specs.OwnerLaws.{Once}
use Rattle.mesh_table.specs.Sights.{Sight}
use Rattle.mesh_table.specs.Told.{mate_number}
use Rattle.table_rounds.specs.declared.patch.Held.{Held}
use Rattle.table_rounds.specs.declared.patch.Patch.{Patch}
use Rattle.table_rounds.specs.declared.stock.Stock.{Stock}
use Rattle.table_rounds.specs.Kinds.{BlocksTold}
use Rattle.table_rounds.specs.Patches.{IsPatch, nth, spot}
use Rattle.table_rounds.specs.Refusals.{AreHeld, HeldFit, RolledBackAll, held_at, place_of, progress_of}
use Rattle.table_rounds.specs.Rows.{IsHand}
use Rattle.table_rounds.specs.Stocks.{EachOnce, IsStock, PlacesNoted, blocks_of, patches_of, with_block}
use Rattle.table_rounds.specs.Sweeps.{AreBack, AreOld, ArePlaced, IsOld}
use Rattle.table_rounds.specs.Versions.{IsRooted}
use Rattle.table_rounds.proofs.Listing.{nth_both, nth_left, nth_right}
use Rattle.table_rounds.proofs.Piles.{block_at, block_find, blocks_length, fit_pool, once_index}

with_append : (o : Option ℕ) (h : Held) (xs ys : List Patch) → with_block o h (xs ++ ys) ≡ with_block o h xs ++ ys
with_append None h xs ys = refl
with_append (Some b) h xs ys = refl

with_more : (o : Option ℕ) (h : Held) (xs ys : List Patch) → length xs ≤ length ys → length (with_block o h xs) ≤ length (with_block o h ys)
with_more None h xs ys l = l
with_more (Some b) h xs ys l = omega arith

held_next : (hs : List Held) (n : ℕ) → n < length hs → patches_of (take (suc n) hs) ≡ patches_of (take n hs) ++ patches_of (held_at hs n ∷ [])
held_next [] n l = absurd (omega arith)
held_next (h ∷ hs) zero l = refl
held_next (h ∷ hs) (suc n) l = ap (with_block h.block h) (held_next hs n (omega arith)) ∙ with_append h.block h (patches_of (take n hs)) (patches_of (held_at hs n ∷ []))

pub held_plus : (hs : List Held) (n : ℕ) → n < length hs → patches_of (take (n + 1) hs) ≡ patches_of (take n hs) ++ patches_of (held_at hs n ∷ [])
held_plus hs n l = let e : suc n ≡ n + 1 = omega arith in subst (λ (k : ℕ). patches_of (take k hs) ≡ patches_of (take n hs) ++ patches_of (held_at hs n ∷ [])) e (held_next hs n l)

pub held_more : (hs : List Held) (n : ℕ) → length (patches_of (take n hs)) ≤ length (patches_of hs)
held_more [] zero = omega arith
held_more [] (suc n) = omega arith
held_more (h ∷ hs) zero = omega arith
held_more (h ∷ hs) (suc n) = with_more h.block h (patches_of (take n hs)) (patches_of hs) (held_more hs n)

pub held_whole : (hs : List Held) → take (length hs) hs ≡ hs
held_whole [] = refl
held_whole (h ∷ hs) = ap (λ (xs : List Held). h ∷ xs) (held_whole hs)

-- the patch is the block of a claim of the list, with its places
abbrev IsFrom : List Held → Patch → Type 0
IsFrom hs p = (k : ℕ) × (k < length hs) × ((held_at hs k).block ≡ Some p.block) × (p.first ≡ (held_at hs k).first) × (p.second ≡ (held_at hs k).second)

from_case : (o : Option ℕ) (h : Held) (hs : List Held) → h.block ≡ o → ((j : ℕ) → j < length (patches_of hs) → IsFrom hs (nth (patches_of hs) j)) → (j : ℕ) → j < length (with_block o h (patches_of hs)) → IsFrom (h ∷ hs) (nth (with_block o h (patches_of hs)) j)
from_case None h hs e ih j a = let t = ih j a in let b = t.1 in (suc t.0, omega arith, t.2, t.3, t.4)
from_case (Some b) h hs e ih zero a = (0, omega arith, e, refl, refl)
from_case (Some b) h hs e ih (suc j) a = let t = ih j (omega arith) in let c = t.1 in (suc t.0, omega arith, t.2, t.3, t.4)

from_patch : (hs : List Held) (j : ℕ) → j < length (patches_of hs) → IsFrom hs (nth (patches_of hs) j)
from_patch [] j a = absurd (omega arith)
from_patch (h ∷ hs) j a = from_case h.block h hs refl (from_patch hs) j a

none_some : (b : ℕ) → None ≡ Some b → ⊥
none_some b e = cc

abbrev number : Option ℕ → ℕ
number None = 0
number (Some b) = b

some_one : (b c : ℕ) → Some b ≡ Some c → b ≡ c
some_one b c e = ap number e

abbrev IsIn : List Patch → ℕ → Type 0
IsIn ps b = (j : ℕ) × (j < length ps) × (b ≡ (nth ps j).block)

to_case : (o : Option ℕ) (h : Held) (hs : List Held) → h.block ≡ o → ((k b : ℕ) → k < length hs → (held_at hs k).block ≡ Some b → IsIn (patches_of hs) b) → (k b : ℕ) → k < length (h ∷ hs) → (held_at (h ∷ hs) k).block ≡ Some b → IsIn (with_block o h (patches_of hs)) b
to_case None h hs e ih zero b a f = absurd (none_some b (sym e ∙ f))
to_case None h hs e ih (suc k) b a f = ih k b (omega arith) f
to_case (Some c) h hs e ih zero b a f = (0, omega arith, sym (some_one c b (sym e ∙ f)))
to_case (Some c) h hs e ih (suc k) b a f = let t = ih k b (omega arith) f in let d = t.1 in (suc t.0, omega arith, t.2)

to_patch : (hs : List Held) (k b : ℕ) → k < length hs → (held_at hs k).block ≡ Some b → IsIn (patches_of hs) b
to_patch [] k b a f = absurd (omega arith)
to_patch (h ∷ hs) k b a f = to_case h.block h hs refl (to_patch hs) k b a f

-- no two claims have one block
abbrev AreApart : List Held → Type 0
AreApart hs = (j k b : ℕ) → j < length hs → k < length hs → (held_at hs j).block ≡ Some b → (held_at hs k).block ≡ Some b → j ≡ k

once_case : (o : Option ℕ) (h : Held) (hs : List Held) → h.block ≡ o → AreApart (h ∷ hs) → Once (blocks_of (patches_of hs)) → Once (blocks_of (with_block o h (patches_of hs)))
once_case None h hs e f ih = ih
once_case (Some b) h hs e f ih = (
  (λ i. let t = block_find (patches_of hs) b i in let u = from_patch hs t.0 t.1 in let d = u.1 in
      let z : 0 ≡ suc u.0 = f 0 (suc u.0) b (omega arith) (omega arith) e (u.2 ∙ ap Some (sym t.2)) in absurd (omega arith)),
  ih,
)

once_held : (hs : List Held) → AreApart hs → Once (blocks_of (patches_of hs))
once_held [] f = tt
once_held (h ∷ hs) f = once_case h.block h hs refl f (once_held hs (λ j k b a c d e. let q : suc j ≡ suc k = f (suc j) (suc k) b (omega arith) (omega arith) d e in omega arith))

each_once : (ps : List Patch) → Once (blocks_of ps) → EachOnce ps
each_once ps o j k a c e = let n = blocks_length ps in once_index (blocks_of ps) o j k (omega arith) (omega arith) (block_at ps j a ∙ e ∙ sym (block_at ps k c))

-- what stands behind a list that was added to
drop_held : (xs ys : List Patch) → drop (length xs) (xs ++ ys) ≡ ys
drop_held [] ys = refl
drop_held (x ∷ xs) ys = drop_held xs ys

take_held : (xs : List Patch) → take (length xs) xs ≡ xs
take_held [] = refl
take_held (x ∷ xs) = ap (λ (r : List Patch). x ∷ r) (take_held xs)

tail_held : (xs ys : List Patch) → take (length (xs ++ ys) - length xs) (drop (length xs) (xs ++ ys)) ≡ ys
tail_held xs ys = let a = length-append xs ys in let e : length (xs ++ ys) - length xs ≡ length ys = omega arith in
    ap (λ (n : ℕ). take n (drop (length xs) (xs ++ ys))) e ∙ ap (λ (zs : List Patch). take (length ys) zs) (drop_held xs ys) ∙ take_held ys

pub held_slice : (h xs ys : List Patch) (n : ℕ) → h ≡ xs ++ ys → n ≡ length xs → take (length h - n) (drop n h) ≡ ys
held_slice h xs ys n e m = ap (λ (z : List Patch × ℕ). take (length z.0 - z.1) (drop z.1 z.0)) (λ t. (e t, m t)) ∙ tail_held xs ys

-- the patches of claims are of the table
pub held_fit : (l : Layout) (hs : List Held) → HeldFit l hs → (j : ℕ) → j < length (patches_of hs) → IsPatch l (nth (patches_of hs) j)
held_fit l hs fit j a =
    let t = from_patch hs j a in
    let f = fit t.0 t.1 in (
      subst (λ (o : Option ℕ). IfSome o (λ b. b < l.pool)) t.2 f.2,
      subst (IsElemAt l) (sym t.3) f.0,
      subst (λ (o : Option ElemAt). IfSome o (IsElemAt l)) (sym t.4) f.1,
    )

module _ (l : Layout) (u w : Sight) (s : Stock) (hs : List Held) (is : IsStock l u s) (before : BlocksTold l.elements u) (after : BlocksTold l.elements w) (done : RolledBackAll l u w hs) (fit : HeldFit l hs) (are : AreHeld l u hs) where
  back_block : (j : ℕ) → j < length (patches_of hs) → HasEntry w.ruling.rolled_back (nth (patches_of hs) j).block × HasEntry w.ruling.placed (spot l (nth (patches_of hs) j))
  back_block j a =
      let t = from_patch hs j a in
      let n = done.noted t.0 (nth (patches_of hs) j).block t.1 t.2 in
      (n.0, subst (λ (z : ElemAt × Option ElemAt). HasEntry w.ruling.placed ((nth (patches_of hs) j).block, place_number l z.0, mate_number l z.1)) (λ i. (sym t.3 i, sym t.4 i)) n.1)

  -- it was not rolled back before
  new_block : (j : ℕ) → j < length (patches_of hs) → HasEntry u.ruling.rolled_back (nth (patches_of hs) j).block → ⊥
  new_block j a h =
      let t = from_patch hs j a in
      let b = (nth (patches_of hs) j).block in
      let has : HasEntry u.claims (claim (place_of l hs t.0) (mate_number l (held_at hs t.0).second) (Living b)) = subst (λ (o : Option ℕ). HasEntry u.claims (claim (place_of l hs t.0) (mate_number l (held_at hs t.0).second) (progress_of o))) t.2 (are.held t.0 t.1) in
      before.claimed_back b (place_of l hs t.0) (mate_number l (held_at hs t.0).second) has h

  apart : AreApart hs
  apart j k b a c d e =
      let same = after.once b (place_of l hs j) (mate_number l (held_at hs j).second) (place_of l hs k) (mate_number l (held_at hs k).second) (done.noted j b a d).1 (done.noted k b c e).1 in
      are.apart j k a c same.0

  rooted_more : (x : ℕ) → IsRooted l.elements u x → IsRooted l.elements w x
  rooted_more x = ⊎_elim inl (λ z. inr (z.0, z.1, z.2, z.3, z.4, z.5, done.placed (z.0, z.1, z.2) z.6))

  kept_is : w.ruling.kept ≡ u.ruling.kept
  kept_is = ap (λ (z : Ruling). z.kept) done.ruling

  old_after : AreOld l w s.kept.items
  old_after = record {
    each = λ k a. let t = is.old.each k a in record {
      fits = t.fits;
      kept = subst (λ (xs : List ℕ). HasEntry xs (nth s.kept.items k).block) (sym kept_is) t.kept;
      placed = done.placed (spot l (nth s.kept.items k)) t.placed;
      rooted = λ q x st. rooted_more x (t.rooted q x st);
    };
    all = λ b h. is.old.all b (subst (λ (xs : List ℕ). HasEntry xs b) kept_is h);
  }

  hand_after : IsHand w l.pool s.hand.items
  hand_after = let e : w.ruling.hand ≡ u.ruling.hand = ap (λ (z : Ruling). z.hand) done.ruling in record {
    held = λ k a. let t = is.hand.held k a in (subst (λ (xs : List ℕ). HasEntry xs (slice_index s.hand.items k)) (sym e) t.0, t.1);
    all = λ b h. is.hand.all b (subst (λ (xs : List ℕ). HasEntry xs b) e h);
    once = is.hand.once;
  }

  back_after : AreBack l w (s.rolled_back.items ++ patches_of hs)
  back_after = record {
    fits = λ k a. let e = length-append s.rolled_back.items (patches_of hs) in
        ⊎_elim (λ t. subst (IsPatch l) (sym t.1) (is.back.fits k t.0)) (λ t. subst (IsPatch l) (sym t.3) (held_fit l hs fit t.0 t.1)) (nth_both s.rolled_back.items (patches_of hs) k (omega arith));
    each = λ k a. let e = length-append s.rolled_back.items (patches_of hs) in
        ⊎_elim (λ t. let q = is.back.each k t.0 in subst (λ (p : Patch). HasEntry w.ruling.rolled_back p.block × HasEntry w.ruling.placed (spot l p)) (sym t.1) (done.more (nth s.rolled_back.items k).block q.0, done.placed (spot l (nth s.rolled_back.items k)) q.1))
        (λ t. subst (λ (p : Patch). HasEntry w.ruling.rolled_back p.block × HasEntry w.ruling.placed (spot l p)) (sym t.3) (back_block t.0 t.1)) (nth_both s.rolled_back.items (patches_of hs) k (omega arith));
    all = λ b h. ⊎_elim
        (λ r. let t = is.back.all b r in let e = length-append s.rolled_back.items (patches_of hs) in let a = t.1 in (t.0, omega arith, t.2 ∙ sym (ap (λ (p : Patch). p.block) (nth_left s.rolled_back.items (patches_of hs) t.0 t.1))))
        (λ r. let t = to_patch hs r.0 b r.1 r.2 in let j = nth_right s.rolled_back.items (patches_of hs) t.0 t.1 in (j.0, j.1, t.2 ∙ sym (ap (λ (p : Patch). p.block) j.2)))
        (done.only b h);
  }

  far : (i j : ℕ) → i < length s.rolled_back.items → j < length (patches_of hs) → (nth s.rolled_back.items i).block ≡ (nth (patches_of hs) j).block → ⊥
  far i j a b e = new_block j b (subst (HasEntry u.ruling.rolled_back) e (is.back.each i a).0)

  once_after : EachOnce (s.rolled_back.items ++ patches_of hs)
  once_after j k a b e =
      let n = length-append s.rolled_back.items (patches_of hs) in
      let new : EachOnce (patches_of hs) = each_once (patches_of hs) (once_held hs apart) in
      ⊎_elim
      (λ t. ⊎_elim
      (λ r. is.back_once j k t.0 r.0 (sym (ap (λ (p : Patch). p.block) t.1) ∙ e ∙ ap (λ (p : Patch). p.block) r.1))
      (λ r. absurd (far j r.0 t.0 r.1 (sym (ap (λ (p : Patch). p.block) t.1) ∙ e ∙ ap (λ (p : Patch). p.block) r.3)))
      (nth_both s.rolled_back.items (patches_of hs) k (omega arith)))
      (λ t. ⊎_elim
      (λ r. absurd (far k t.0 r.0 t.1 (sym (ap (λ (p : Patch). p.block) r.1) ∙ sym e ∙ ap (λ (p : Patch). p.block) t.3)))
      (λ r. let q = new t.0 r.0 t.1 r.1 (sym (ap (λ (p : Patch). p.block) t.3) ∙ e ∙ ap (λ (p : Patch). p.block) r.3) in let f = t.2 in let g = r.2 in omega arith)
      (nth_both s.rolled_back.items (patches_of hs) k (omega arith)))
      (nth_both s.rolled_back.items (patches_of hs) j (omega arith))

  fit_after : length s.hand.items + length s.kept.items + length (s.rolled_back.items ++ patches_of hs) ≤ l.pool
  fit_after = fit_pool l w s.hand.items s.kept.items (s.rolled_back.items ++ patches_of hs) hand_after old_after is.old_once back_after once_after after

  pub room_back : length s.rolled_back.items + length (patches_of hs) ≤ vec_capacity s.rolled_back
  room_back = let a = fit_after in let b = is.room.back in let c = length-append s.rolled_back.items (patches_of hs) in omega arith

  abbrev IsAt : ℕ → ℕ → ℕ → Patch → Type 0
  IsAt b y m p = (spot l p ≡ (b, y, m)) × IsPatch l p

  placed_after : (places : List Patch) → length places ≡ l.pool → PlacesNoted s.places.items places (patches_of hs) (length (patches_of hs)) → ArePlaced l w places
  placed_after places size noted b y m h = ⊎_elim
      (λ t. ⊎_elim
      (λ r. let q = is.placed b y m r in let c = is.table in let d = q.0 in let n : b < length places = omega arith in let f = subst (IsAt b y m) (sym t.1) (q.1, q.2) in (n, f.0, f.1))
      (λ r. let z = r.2 in let j = to_patch hs r.0 z.0 r.1 z.1 in absurd (t.0 j.0 j.1 (sym j.2 ∙ sym (ap (λ (a : ℕ × ℕ × ℕ). a.0) z.2))))
      (done.spots (b, y, m) h))
      (λ t.
      let p = nth (patches_of hs) t.0 in
      let at : HasEntry w.ruling.placed (b, (spot l p).1, (spot l p).2) = subst (λ (c : ℕ). HasEntry w.ruling.placed (c, (spot l p).1, (spot l p).2)) t.2 (back_block t.0 t.1).1 in
      let same = after.once b (spot l p).1 (spot l p).2 y m at h in
      let fine = held_fit l hs fit t.0 t.1 in let in_pool = fine.0 in let c = t.2 in
      let n : b < length places = omega arith in
      let f = subst (IsAt b y m) (sym t.3) ((λ i. (t.2 i, same.0 i, same.1 i)), fine) in (n, f.0, f.1))
      (noted b)

  pub stock_refused : (s' : Stock) → s'.hand ≡ s.hand → s'.kept ≡ s.kept → s'.rolled_back.items ≡ s.rolled_back.items ++ patches_of hs → vec_capacity s'.rolled_back ≡ vec_capacity s.rolled_back → length s'.places.items ≡ length s.places.items → PlacesNoted s.places.items s'.places.items (patches_of hs) (length (patches_of hs)) → s'.left ≡ s.left → (s'.finished ≡ s.finished) × (s'.readers ≡ s.readers) × (s'.early ≡ s.early) × (s'.drained ≡ s.drained) × (s'.rows ≡ s.rows) → IsStock l w s'
  stock_refused s' hand kept back back_cap size noted left same = record {
    hand = subst (λ (xs : List ℕ). IsHand w l.pool xs) (sym hand_items) hand_after;
    old = subst (AreOld l w) (sym kept_items) old_after;
    old_once = subst EachOnce (sym kept_items) is.old_once;
    back = subst (AreBack l w) (sym back) back_after;
    back_once = subst EachOnce (sym back) once_after;
    placed = placed_after s'.places.items (size ∙ is.table) noted;
    few = let a = fit_after in let b = ap (λ (xs : List ℕ). length xs) hand_items in let c = ap (λ (xs : List Patch). length xs) kept_items in let d = ap (λ (xs : List Patch). length xs) back in omega arith;
    table = size ∙ is.table;
    room = let a = is.room.hand in let b = is.room.kept in let c = is.room.back in let d = is.room.left in
        let e = hand_room in let f = kept_room in let g = left_room in record { hand = omega arith; kept = omega arith; back = omega arith; left = omega arith };
    finished = ap (λ (z : Ruling). z.finished) done.ruling ∙ is.finished ∙ sym same.0;
    readers = ap (λ (z : Ruling). z.readers) done.ruling ∙ is.readers ∙ sym same.1;
    early = ap (λ (z : Ruling). z.early) done.ruling ∙ is.early ∙ sym same.2;
    left =
        let e : w.ruling.left ≡ u.ruling.left = ap (λ (z : Ruling). z.left) done.ruling in
        subst (λ (z : List (ℕ × ℕ) × List ℕ × ℕ). ((q : ℕ) → q < length z.1 → HasEntry z.0 (q, slice_index z.1 q)) × (length z.1 ≡ z.2)) (λ i. (sym e i, sym left_items i, sym same.0 i)) is.left;
    drained =
        let e : w.ruling.drained ≡ u.ruling.drained = ap (λ (z : Ruling). z.drained) done.ruling in
        subst (λ (z : List ℕ × ℕ × ℕ). ((q : ℕ) → q < z.1 → HasEntry z.0 q) × (z.1 ≤ z.2)) (λ i. (sym e i, sym same.3 i, sym same.0 i)) is.drained;
    rounds = subst (λ (n : ℕ). n ≤ l.rounds) (sym same.0) is.rounds;
    rows = (
      ap (λ (z : Ruling). z.free) done.ruling ∙ is.rows.0 ∙ ap (λ (n : ℕ). n + 1) (sym same.4),
      subst (λ (n : ℕ). n ≤ l.pool) (sym same.4) is.rows.1,
    );
    none = let a : w.ruling.high ≡ u.ruling.high = ap (λ (z : Ruling). z.high) done.ruling in let b : w.ruling.low ≡ u.ruling.low = ap (λ (z : Ruling). z.low) done.ruling in let c = is.none in omega arith;
  }
    where
      hand_items : s'.hand.items ≡ s.hand.items
      hand_items = λ i. (hand i).items

      kept_items : s'.kept.items ≡ s.kept.items
      kept_items = λ i. (kept i).items

      left_items : s'.left.items ≡ s.left.items
      left_items = λ i. (left i).items

      hand_room : vec_capacity s'.hand ≡ vec_capacity s.hand
      hand_room = λ i. vec_capacity (hand i)

      kept_room : vec_capacity s'.kept ≡ vec_capacity s.kept
      kept_room = λ i. vec_capacity (kept i)

      left_room : vec_capacity s'.left ≡ vec_capacity s.left
      left_room = λ i. vec_capacity (left i)
