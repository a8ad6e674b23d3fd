-- Lists of the blocks that the owner has.
use Rattle.std.proofs.Common.{◌≡◌, ℕ, zero, suc, ◌+◌, ◌-◌, ◌<◌, ◌≤◌, Bool, true, false, List, [], ◌∷◌, ◌++◌, drop, take, length, slice_index, ◌⊎◌, inl, inr, ⊎_elim, refl, sym, ap, ◌∙◌, subst, arith}
use Rattle.std.proofs.lemmas.List.{length-append}
use native.Mathlib.Decide.{dec_lt}
use Rattle.table_words.specs.declared.layout.Layout.{Layout}
use Rattle.table_words.specs.Entries.{HasEntry}
use Rattle.table_words.proofs.Entries.{entry_of_both, entry_left, entry_right}
use Rattle.table_state.specs.OwnerLaws.{Once}
use Rattle.table_state.proofs.Counts.{once_append, once_within}
use Rattle.mesh_table.specs.Sights.{Sight}
use Rattle.mesh_table.specs.Rounds.{listed, others, freed}
use Rattle.mesh_table.proofs.Cutting.{has_listed, listed_has, others_back, others_on}
use Rattle.table_rounds.specs.declared.patch.Patch.{Patch}
use Rattle.table_rounds.specs.Patches.{nth, spot}
use Rattle.table_rounds.specs.Rows.{IsHand}
use Rattle.table_rounds.specs.Kinds.{BlocksTold}
use Rattle.table_rounds.specs.Stocks.{EachOnce, blocks_of}
use Rattle.table_rounds.specs.Sweeps.{AreBack, AreFreed, AreGivenUp, AreKept, AreOld, ArePlaced}

-- entries by their numbers
pub index_in : (xs : List ℕ) (k : ℕ) → k < length xs → HasEntry xs (slice_index xs k)
index_in [] k l = absurd (omega arith)
index_in (x ∷ xs) zero l = inl refl
index_in (x ∷ xs) (suc k) l = inr (index_in xs k (omega arith))

pub index_find : (xs : List ℕ) (b : ℕ) → HasEntry xs b → (k : ℕ) × (k < length xs) × (b ≡ slice_index xs k)
index_find [] b h = absurd h
index_find (x ∷ xs) b (inl e) = (0, omega arith, e)
index_find (x ∷ xs) b (inr h) = let t = index_find xs b h in let l = t.1 in (suc t.0, omega arith, t.2)

pub once_list : (xs : List ℕ) → ((j k : ℕ) → j < length xs → k < length xs → slice_index xs j ≡ slice_index xs k → j ≡ k) → Once xs
once_list [] f = tt
once_list (x ∷ xs) f = (
  (λ h. let t = index_find xs x h in let l = t.1 in let e : 0 ≡ suc t.0 = f 0 (suc t.0) (omega arith) (omega arith) t.2 in absurd (omega arith)),
  once_list xs (λ j k a b e. let q : suc j ≡ suc k = f (suc j) (suc k) (omega arith) (omega arith) e in omega arith),
)

pub once_index : (xs : List ℕ) → Once xs → (j k : ℕ) → j < length xs → k < length xs → slice_index xs j ≡ slice_index xs k → j ≡ k
once_index [] o j k a b e = absurd (omega arith)
once_index (x ∷ xs) o zero zero a b e = refl
once_index (x ∷ xs) o zero (suc k) a b e = absurd (o.0 (subst (HasEntry xs) (sym e) (index_in xs k (omega arith))))
once_index (x ∷ xs) o (suc j) zero a b e = absurd (o.0 (subst (HasEntry xs) e (index_in xs j (omega arith))))
once_index (x ∷ xs) o (suc j) (suc k) a b e = let q = once_index xs o.1 j k (omega arith) (omega arith) e in omega arith

-- the numbers below p
abbrev below : ℕ → List ℕ
below zero = []
below (suc p) = p ∷ below p

below_length : (p : ℕ) → length (below p) ≡ p
below_length zero = refl
below_length (suc p) = let e = below_length p in omega arith

below_has : (p b : ℕ) → b < p → HasEntry (below p) b
below_has zero b l = absurd (omega arith)
below_has (suc p) b l = elim (dec_lt b p) [ yes m ↦ inr (below_has p b m) | no o ↦ inl (omega arith) ]

pub few : (p : ℕ) (xs : List ℕ) → Once xs → ((b : ℕ) → HasEntry xs b → b < p) → length xs ≤ p
few p xs o low = let e = below_length p in let l = once_within xs (below p) o (λ b h. below_has p b (low b h)) in omega arith

-- the blocks of patches
pub blocks_length : (ps : List Patch) → length (blocks_of ps) ≡ length ps
blocks_length [] = refl
blocks_length (p ∷ ps) = let e = blocks_length ps in omega arith

pub block_at : (ps : List Patch) (k : ℕ) → k < length ps → slice_index (blocks_of ps) k ≡ (nth ps k).block
block_at [] k l = absurd (omega arith)
block_at (p ∷ ps) zero l = refl
block_at (p ∷ ps) (suc k) l = block_at ps k (omega arith)

pub block_in : (ps : List Patch) (k : ℕ) → k < length ps → HasEntry (blocks_of ps) (nth ps k).block
block_in [] k l = absurd (omega arith)
block_in (p ∷ ps) zero l = inl refl
block_in (p ∷ ps) (suc k) l = inr (block_in ps k (omega arith))

pub block_find : (ps : List Patch) (b : ℕ) → HasEntry (blocks_of ps) b → (k : ℕ) × (k < length ps) × (b ≡ (nth ps k).block)
block_find [] b h = absurd h
block_find (p ∷ ps) b (inl e) = (0, omega arith, e)
block_find (p ∷ ps) b (inr h) = let t = block_find ps b h in let l = t.1 in (suc t.0, omega arith, t.2)

pub once_blocks : (ps : List Patch) → EachOnce ps → Once (blocks_of ps)
once_blocks ps o = once_list (blocks_of ps) (λ j k a b e. let n = blocks_length ps in
    o j k (omega arith) (omega arith) (sym (block_at ps j (omega arith)) ∙ e ∙ block_at ps k (omega arith)))

drop_append : (xs ys : List ℕ) → drop (length xs) (xs ++ ys) ≡ ys
drop_append [] ys = refl
drop_append (x ∷ xs) ys = drop_append xs ys

take_whole : (xs : List ℕ) → take (length xs) xs ≡ xs
take_whole [] = refl
take_whole (x ∷ xs) = ap (λ (r : List ℕ). x ∷ r) (take_whole xs)

slice_tail : (xs ys : List ℕ) → take (length (xs ++ ys) - length xs) (drop (length xs) (xs ++ ys)) ≡ ys
slice_tail xs ys = let a = length-append xs ys in let e : length (xs ++ ys) - length xs ≡ length ys = omega arith in
    ap (λ (n : ℕ). take n (drop (length xs) (xs ++ ys))) e ∙ ap (λ (zs : List ℕ). take (length ys) zs) (drop_append xs ys) ∙ take_whole ys

-- what stands behind a list that was added to
pub slice_is : (h xs ys : List ℕ) (n : ℕ) → h ≡ xs ++ ys → n ≡ length xs → take (length h - n) (drop n h) ≡ ys
slice_is h xs ys n e m = ap (λ (z : List ℕ × ℕ). take (length z.0 - z.1) (drop z.1 z.0)) (λ t. (e t, m t)) ∙ slice_tail xs ys

module _ (l : Layout) (v : Sight) (hand : List ℕ) (kept back : List Patch) (held : IsHand v l.pool hand) (old : AreOld l v kept) (old_once : EachOnce kept) (rolled : AreBack l v back) (back_once : EachOnce back) (told : BlocksTold l.elements v) where
  in_hand : (b : ℕ) → HasEntry hand b → HasEntry v.ruling.hand b × (b < l.pool)
  in_hand b h = let t = index_find hand b h in let u = held.held t.0 t.1 in subst (λ (c : ℕ). HasEntry v.ruling.hand c × (c < l.pool)) (sym t.2) u

  in_kept : (b : ℕ) → HasEntry (blocks_of kept) b → HasEntry v.ruling.kept b × (b < l.pool)
  in_kept b h = let t = block_find kept b h in let u = old.each t.0 t.1 in subst (λ (c : ℕ). HasEntry v.ruling.kept c × (c < l.pool)) (sym t.2) (u.kept, u.fits.0)

  in_back : (b : ℕ) → HasEntry (blocks_of back) b → HasEntry v.ruling.rolled_back b × (b < l.pool)
  in_back b h = let t = block_find back b h in let u = rolled.each t.0 t.1 in subst (λ (c : ℕ). HasEntry v.ruling.rolled_back c × (c < l.pool)) (sym t.2) (u.0, (rolled.fits t.0 t.1).0)

  given_up : List ℕ
  given_up = blocks_of kept ++ blocks_of back

  pub once_given : Once (blocks_of kept ++ blocks_of back)
  once_given = once_append (blocks_of kept) (blocks_of back) (once_blocks kept old_once) (once_blocks back back_once) (λ b h k. told.kept_back b (in_kept b h).0 (in_back b k).0)

  once_all : Once (hand ++ (blocks_of kept ++ blocks_of back))
  once_all = once_append hand (blocks_of kept ++ blocks_of back) (once_list hand held.once) once_given
      (λ b h k. ⊎_elim (λ a. told.hand_kept b (in_hand b h).0 (in_kept b a).0) (λ a. told.hand_back b (in_hand b h).0 (in_back b a).0) (entry_of_both (blocks_of kept) (blocks_of back) b k))

  -- all of them are no more than the pool
  pub fit_pool : length hand + length kept + length back ≤ l.pool
  fit_pool =
      let a = length-append hand (blocks_of kept ++ blocks_of back) in
      let b = length-append (blocks_of kept) (blocks_of back) in
      let c = blocks_length kept in
      let d = blocks_length back in
      let e = few l.pool (hand ++ (blocks_of kept ++ blocks_of back)) once_all
      (λ i h. ⊎_elim (λ k. (in_hand i k).1) (λ k. ⊎_elim (λ q. (in_kept i q).1) (λ q. (in_back i q).1) (entry_of_both (blocks_of kept) (blocks_of back) i k)) (entry_of_both hand (blocks_of kept ++ blocks_of back) i h)) in
      omega arith

  pub are_kept : AreKept v (blocks_of kept)
  are_kept b = ((λ h. (in_kept b h).0), λ h. let t = old.all b h in subst (HasEntry (blocks_of kept)) (sym t.2) (block_in kept t.0 t.1))

  pub are_given_up : AreGivenUp v (blocks_of kept ++ blocks_of back)
  are_given_up b = (
    (λ h. ⊎_elim (λ k. inl (in_kept b k).0) (λ k. inr (in_back b k).0) (entry_of_both (blocks_of kept) (blocks_of back) b h)),
    ⊎_elim (λ h. entry_left (blocks_of kept) (blocks_of back) b ((are_kept b).1 h)) (λ h. let t = rolled.all b h in entry_right (blocks_of kept) (blocks_of back) b (subst (HasEntry (blocks_of back)) (sym t.2) (block_in back t.0 t.1))),
  )

  -- after these blocks became free
  module _ (w : Sight) (blocks : List ℕ) (is : AreFreed v w blocks) (low : (b : ℕ) → HasEntry blocks b → b < l.pool) (once : Once (hand ++ blocks)) where
    pub hand_after : IsHand w l.pool (hand ++ blocks)
    hand_after = subst (λ (z : Sight). IsHand z l.pool (hand ++ blocks)) (sym is) record {
      held = λ k a. ⊎_elim (λ h. let t = in_hand (slice_index (hand ++ blocks) k) h in (entry_right blocks v.ruling.hand (slice_index (hand ++ blocks) k) t.0, t.1))
          (λ h. (entry_left blocks v.ruling.hand (slice_index (hand ++ blocks) k) h, low (slice_index (hand ++ blocks) k) h))
          (entry_of_both hand blocks (slice_index (hand ++ blocks) k) (index_in (hand ++ blocks) k a));
      all = λ b h. ⊎_elim (λ e. index_find (hand ++ blocks) b (entry_right hand blocks b e))
          (λ e. let t = held.all b e in index_find (hand ++ blocks) b (entry_left hand blocks b (subst (HasEntry hand) (sym t.2) (index_in hand t.0 t.1))))
          (entry_of_both blocks v.ruling.hand b h);
      once = once_index (hand ++ blocks) once;
    }

    not_false : (b : ℕ) → HasEntry blocks b → listed blocks b ≡ false → ⊥
    not_false b h e = let q : true ≡ false = sym (has_listed blocks b h) ∙ e in cc

    pub old_after : ((b : ℕ) → HasEntry v.ruling.kept b → HasEntry blocks b) → AreOld l w []
    old_after all = subst (λ (z : Sight). AreOld l z []) (sym is) record {
      each = λ k a. absurd (omega arith);
      all = λ b h. let t = others_back (λ z. z) blocks v.ruling.kept b h in absurd (not_false b (all b t.0) t.1);
    }

    pub back_after : ((b : ℕ) → HasEntry v.ruling.rolled_back b → HasEntry blocks b) → AreBack l w []
    back_after all = subst (λ (z : Sight). AreBack l z []) (sym is) record {
      fits = λ k a. absurd (omega arith);
      each = λ k a. absurd (omega arith);
      all = λ b h. let t = others_back (λ z. z) blocks v.ruling.rolled_back b h in absurd (not_false b (all b t.0) t.1);
    }

    pub back_stays : ((b : ℕ) → HasEntry blocks b → HasEntry v.ruling.kept b) → AreBack l w back
    back_stays only = subst (λ (z : Sight). AreBack l z back) (sym is) record {
      fits = rolled.fits;
      each = λ k a.
          let t = rolled.each k a in
          let out : listed blocks (nth back k).block ≡ true → ⊥ = λ e. told.kept_back (nth back k).block (only (nth back k).block (listed_has blocks (nth back k).block e)) t.0 in (
            ⊎_elim (λ h. h) (λ e. absurd (out e)) (others_on (λ z. z) blocks v.ruling.rolled_back (nth back k).block t.0),
            ⊎_elim (λ h. h) (λ e. absurd (out e)) (others_on (λ (z : ℕ × ℕ × ℕ). z.0) blocks v.ruling.placed (spot l (nth back k)) t.1),
          );
      all = λ b h. rolled.all b (others_back (λ z. z) blocks v.ruling.rolled_back b h).0;
    }

    pub placed_after : (places : List Patch) → ArePlaced l v places → ArePlaced l w places
    placed_after places known = subst (λ (z : Sight). ArePlaced l z places) (sym is) (λ b y m h. known b y m (others_back (λ (z : ℕ × ℕ × ℕ). z.0) blocks v.ruling.placed (b, y, m) h).0)

  pub once_kept : Once (hand ++ blocks_of kept)
  once_kept = once_append hand (blocks_of kept) (once_list hand held.once) (once_blocks kept old_once) (λ b h k. told.hand_kept b (in_hand b h).0 (in_kept b k).0)

  pub once_both : Once (hand ++ (blocks_of kept ++ blocks_of back))
  once_both = once_all

  pub low_kept : (b : ℕ) → HasEntry (blocks_of kept) b → b < l.pool
  low_kept b h = (in_kept b h).1

  pub low_both : (b : ℕ) → HasEntry (blocks_of kept ++ blocks_of back) b → b < l.pool
  low_both b h = ⊎_elim (λ q. (in_kept b q).1) (λ q. (in_back b q).1) (entry_of_both (blocks_of kept) (blocks_of back) b h)
