-- The blocks that were retired in a round, with their places.
use Rattle.std.proofs.Common.{◌≡◌, ℕ, zero, suc, ◌+◌, ◌<◌, List, [], ◌∷◌, ◌++◌, inl, inr, All, length, map, slice_index, slice_index_or, take, refl, sym, ap, ◌∙◌, subst, arith}
use Rattle.std.proofs.lemmas.List.{get_or-map, get_or_default, length-map}
use Rattle.std.proofs.lemmas.List.Kept.{AllPairs-from_increasing}
use Rattle.std.specs.List.{Contains}
use Rattle.std.specs.List.Sorted.{IsStrictlyIncreasing}
use mathlib.Core.Logic.{dite}
use native.Mathlib.Decide.{dec_lt}
use Rattle.table_words.specs.declared.layout.Layout.{Layout}
use Rattle.table_words.specs.Entries.{HasEntry}
use Rattle.mesh_table.specs.Sights.{Sight}
use Rattle.table_rounds.specs.declared.patch.Patch.{Patch}
use Rattle.table_rounds.specs.Kinds.{BlocksTold, IsRetired}
use Rattle.table_rounds.specs.Patches.{AllFit, IsPatch, WereRetired, nth, no_patch, spot}
use Rattle.table_rounds.specs.Stocks.{EachOnce}
use Rattle.table_rounds.specs.Sweeps.{ArePlaced}

pub entry_contained : (xs : List ℕ) (b : ℕ) → HasEntry xs b → Contains xs b
entry_contained [] b h = absurd h
entry_contained (x ∷ xs) b (inl e) = (0, omega arith, sym e)
entry_contained (x ∷ xs) b (inr h) = let c = entry_contained xs b h in let d = c.1 in (suc c.0, omega arith, c.2)

pub contained_entry : (xs : List ℕ) (b : ℕ) → Contains xs b → HasEntry xs b
contained_entry [] b (k, l, e) = absurd (omega arith)
contained_entry (x ∷ xs) b (zero, l, e) = inl (sym e)
contained_entry (x ∷ xs) b (suc k, l, e) = inr (contained_entry xs b (k, omega arith, e))

-- the entry of this number is one
pub entry_of : (xs : List ℕ) (k : ℕ) → k < length xs → HasEntry xs (slice_index xs k)
entry_of [] k l = absurd (omega arith)
entry_of (x ∷ xs) zero l = inl refl
entry_of (x ∷ xs) (suc k) l = inr (entry_of xs k (omega arith))

-- and each entry has a number
pub number_of : (xs : List ℕ) (b : ℕ) → HasEntry xs b → (k : ℕ) × (k < length xs) × (slice_index xs k ≡ b)
number_of [] b h = absurd h
number_of (x ∷ xs) b (inl e) = (0, omega arith, sym e)
number_of (x ∷ xs) b (inr h) = let c = number_of xs b h in let d = c.1 in (suc c.0, omega arith, c.2)

-- the patches at the first numbers, and at one more
placed_next : (f : ℕ → Patch) (xs : List ℕ) (n : ℕ) → n < length xs → map f (take (suc n) xs) ≡ map f (take n xs) ++ f (slice_index xs n) ∷ []
placed_next f [] n l = absurd (omega arith)
placed_next f (x ∷ xs) zero l = refl
placed_next f (x ∷ xs) (suc n) l = ap (λ (ps : List Patch). f x ∷ ps) (placed_next f xs n (omega arith))

pub placed_plus : (f : ℕ → Patch) (xs : List ℕ) (n : ℕ) → n < length xs → map f (take (n + 1) xs) ≡ map f (take n xs) ++ f (slice_index xs n) ∷ []
placed_plus f xs n l = let e : suc n ≡ n + 1 = omega arith in subst (λ (k : ℕ). map f (take k xs) ≡ map f (take n xs) ++ f (slice_index xs n) ∷ []) e (placed_next f xs n l)

pub taken_whole : (xs : List ℕ) → take (length xs) xs ≡ xs
taken_whole [] = refl
taken_whole (x ∷ xs) = ap (λ (ys : List ℕ). x ∷ ys) (taken_whole xs)

module _ (l : Layout) (v : Sight) (places : List Patch) (told : BlocksTold l.elements v) (placed : ArePlaced l v places) (bs : List ℕ) (rises : IsStrictlyIncreasing bs) (right : (b : ℕ) → HasEntry bs b → IsRetired v b) (all : (b : ℕ) → IsRetired v b → HasEntry bs b) where
  abbrev patches : List Patch
  patches = map (nth places) bs

  long : length patches ≡ length bs
  long = length-map bs (nth places)

  -- the patch of this number is that at the number's block, and is noted with these places
  at : (k : ℕ) → k < length bs → (nth patches k ≡ nth places (slice_index bs k)) × ((nth patches k).block ≡ slice_index bs k) × IsPatch l (nth patches k) × HasEntry v.ruling.placed (spot l (nth patches k))
  at k a =
      let b = slice_index bs k in
      let n = told.retired_placed b (right b (entry_of bs k a)) in
      let p = placed b n.0 n.1 n.2 in
      let same : nth patches k ≡ nth places b = get_or-map (nth places) bs k 0 no_patch a in
      let where_ : spot l (nth patches k) ≡ (b, n.0, n.1) = ap (spot l) same ∙ p.1 in
      (same, ap (λ (q : ℕ × ℕ × ℕ). q.0) where_, subst (IsPatch l) (sym same) p.2, subst (HasEntry v.ruling.placed) (sym where_) n.2)

  pub retired_inside : All (λ (b : ℕ). b < length places) bs
  retired_inside k d a =
      let e : slice_index_or bs k d ≡ slice_index bs k = get_or_default bs k d 0 a in
      let n = told.retired_placed (slice_index bs k) (right (slice_index bs k) (entry_of bs k a)) in
      let b = (placed (slice_index bs k) n.0 n.1 n.2).0 in
      omega arith

  pub retired_fit : AllFit l (map (nth places) bs)
  retired_fit k a = (at k (let e = long in omega arith)).2

  pub retired_told : WereRetired l v (map (nth places) bs)
  retired_told = record {
    right = λ k a. let b : k < length bs = (let e = long in omega arith) in let t = at k b in (subst (IsRetired v) (sym t.1) (right (slice_index bs k) (entry_of bs k b)), t.3);
    all = λ b h. let n = number_of bs b (all b h) in (n.0, (let e = long in let d = n.1 in omega arith), sym n.2 ∙ sym (at n.0 n.1).1);
  }

  pub retired_once : EachOnce (map (nth places) bs)
  retired_once j k a b e =
      let long_ = long in
      let aj : j < length bs = omega arith in
      let ak : k < length bs = omega arith in
      let same : slice_index bs j ≡ slice_index bs k = sym (at j aj).1 ∙ e ∙ (at k ak).1 in
      dite (dec_lt j k) (λ less. let up = AllPairs-from_increasing bs rises j k 0 less ak in absurd (omega arith))
      (λ not_less. dite (dec_lt k j) (λ less. let up = AllPairs-from_increasing bs rises k j 0 less aj in absurd (omega arith)) (λ not_more. omega arith))
