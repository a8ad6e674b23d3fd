-- Indices that are renumbered without holes.
use Rattle.std.proofs.Common.{◌≡◌, ℕ, zero, suc, ◌+◌, ◌<◌, ◌≤◌, Bool, true, false, cond, List, [], ◌∷◌, take, length, replicate, refl, ap, sym, ◌∙◌, subst, arith, Option, Some, None, option_map, unwrap_or, is_some, true≢false, ◌⊎◌, ⊎_elim}
use Rattle.std.proofs.lemmas.List.Sums.{sum_by-cons}
use Rattle.std.specs.FinMap.{get}
use Rattle.dof_admin.specs.Administration.{IsRenumbering, used_at, used_count}
use Rattle.mesh_names.specs.Names.{Name}
use Rattle.name_tree.specs.declared.nodes.Entry.{Entry}
use Rattle.dof_transfer.specs.declared.ledger.Ledger.{Ledger}
use Rattle.name_tree.specs.Slots.{live_at, moved_slot}
use Rattle.dof_transfer.specs.Held.{Held, AreSized, IsCompressed, IsSound, index_of, value_of}
use Rattle.dof_transfer.specs.Ledgers.{held_of}
use Rattle.name_tree.proofs.LiveNames.{get-live}
use Rattle.dof_transfer.proofs.Soundness.{beyond}
use Rattle.dof_transfer.proofs.Exchanging.{get_or-other}

-- the number of used indices below one rises at each used one
pub rank-less : (flags : List Bool) (i j : ℕ) → i < j → used_at flags i ≡ true → used_count (take i flags) < used_count (take j flags)
rank-less [] i j less used = absurd (true≢false (sym used))
rank-less (u ∷ flags) i zero less used = absurd (omega arith)
rank-less (true ∷ flags) zero (suc j) less used = let e : used_count (true ∷ take j flags) ≡ 1 + used_count (take j flags) = sum_by-cons (λ u. cond u 1 0) true (take j flags) in omega (arith, e)
rank-less (false ∷ flags) zero (suc j) less used = absurd (true≢false (sym used))
rank-less (true ∷ flags) (suc i) (suc j) less used =
    let h = rank-less flags i j (omega arith) used in
    let a : used_count (true ∷ take i flags) ≡ 1 + used_count (take i flags) = sum_by-cons (λ u. cond u 1 0) true (take i flags) in
    let b : used_count (true ∷ take j flags) ≡ 1 + used_count (take j flags) = sum_by-cons (λ u. cond u 1 0) true (take j flags) in
    omega (arith, h, a, b)
rank-less (false ∷ flags) (suc i) (suc j) less used = rank-less flags i j (omega arith) used

-- used indices lie below the size
pub used-within : (flags : List Bool) (i : ℕ) → used_at flags i ≡ true → i < length flags
used-within flags i used = ⊎_elim (λ (h : i < length flags). h) (λ (h : length flags ≤ i). absurd (true≢false (sym used ∙ beyond flags i h))) (either i (length flags)) where
  either : (a b : ℕ) → (a < b) ⊎ (b ≤ a)
  either a b = grind arith

pub rank-below : (flags : List Bool) (i : ℕ) → used_at flags i ≡ true → used_count (take i flags) < used_count flags
rank-below flags i used = subst (λ (l : List Bool). used_count (take i flags) < used_count l) (whole flags) (rank-less flags i (length flags) (used-within flags i used) used) where
  whole : (l : List Bool) → take (length l) l ≡ l
  whole [] = refl
  whole (u ∷ l) = ap (λ (t : List Bool). u ∷ t) (whole l)

pub all-used : (n k : ℕ) → k < n → used_at (replicate n true) k ≡ true
all-used zero k h = absurd (omega arith)
all-used (suc n) zero h = refl
all-used (suc n) (suc k) h = all-used n k (omega arith)

-- the indices once each entry has its new one
module _ (old new : Ledger) (moved : List ℕ) (sound : IsSound (held_of old)) (is : IsRenumbering old.admin.flags moved) (live : (n : Name) → live_at new.entries n ≡ moved_slot moved (live_at old.entries n)) where
  at-moved : (n : Name) → get (held_of new).live n ≡ moved_slot moved (get (held_of old).live n)
  at-moved n = get-live new.entries n ∙ live n ∙ ap (moved_slot moved) (sym (get-live old.entries n))

  pub compressed : new.admin.flags ≡ replicate (used_count old.admin.flags) true → IsCompressed (held_of old) (held_of new)
  compressed flags = record {
    indices = λ n. ap (option_map (λ (e : Entry). e.index)) (at-moved n) ∙ index n (get (held_of old).live n) refl;
    values = λ n. ap (option_map (λ (e : Entry). e.value)) (at-moved n) ∙ value (get (held_of old).live n);
    flags = flags;
  } where
    index : (n : Name) (o : Option Entry) → get (held_of old).live n ≡ o → option_map (λ (e : Entry). e.index) (moved_slot moved o) ≡ option_map (λ i. used_count (take i old.admin.flags)) (option_map (λ (e : Entry). e.index) o)
    index n None e = refl
    index n (Some x) e =
        let used : used_at old.admin.flags x.index ≡ true = sound.used n x.index (ap (option_map (λ (y : Entry). y.index)) e) in
        let within : x.index < length moved = subst (λ (k : ℕ). x.index < k) (sym is.whole) (used-within old.admin.flags x.index used) in
        ap Some (get_or-other moved x.index x.index 0 within ∙ is.used x.index used)

    value : (o : Option Entry) → option_map (λ (e : Entry). e.value) (moved_slot moved o) ≡ option_map (λ (e : Entry). e.value) o
    value None = refl
    value (Some x) = refl

module _ (old new : Held) (sound : IsSound old) (is : IsCompressed old new) where
  -- the old index of a name, and that it is used
  pub came-from : (n : Name) (i : ℕ) → index_of new n ≡ Some i → (j : ℕ) × (index_of old n ≡ Some j) × (used_count (take j old.flags) ≡ i)
  came-from n i h = by (index_of old n) refl (sym (is.indices n) ∙ h) where
    by : (o : Option ℕ) → index_of old n ≡ o → option_map (λ i. used_count (take i old.flags)) o ≡ Some i → (j : ℕ) × (o ≡ Some j) × (used_count (take j old.flags) ≡ i)
    by None e g = absurd (true≢false (sym (ap is_some g)))
    by (Some j) e g = (j, refl, ap (λ (o : Option ℕ). unwrap_or o i) g)

  rank-same : (i j : ℕ) → used_at old.flags i ≡ true → used_at old.flags j ≡ true → used_count (take i old.flags) ≡ used_count (take j old.flags) → i ≡ j
  rank-same i j ui uj e = ⊎_elim
      (λ (h : i < j). absurd (omega (arith, e, rank-less old.flags i j h ui)))
      (λ (h : (j < i) ⊎ (i ≡ j)). ⊎_elim (λ (g : j < i). absurd (omega (arith, e, rank-less old.flags j i g uj))) (λ (g : i ≡ j). g) h)
      (three i j) where
        three : (a b : ℕ) → (a < b) ⊎ ((b < a) ⊎ (a ≡ b))
        three a b = grind arith

  pub sound-compressed : IsSound new
  sound-compressed = record {
    used = λ n i h.
        let r = came-from n i h in
        subst (λ (f : List Bool). used_at f i ≡ true) (sym is.flags)
        (all-used (used_count old.flags) i (subst (λ (k : ℕ). k < used_count old.flags) r.2 (rank-below old.flags r.0 (sound.used n r.0 r.1))));
    apart = λ m n i hm hn.
        let a = came-from m i hm in
        let b = came-from n i hn in
        let one : a.0 ≡ b.0 = rank-same a.0 b.0 (sound.used m a.0 a.1) (sound.used n b.0 b.1) (a.2 ∙ sym b.2) in
        sound.apart m n b.0 (a.1 ∙ ap Some one) b.1;
  }

-- values within their ranges stay so
pub sized-same : (old new : Held) → ((n : Name) → value_of new n ≡ value_of old n) → AreSized old → AreSized new
sized-same old new same sized = record {
  deep = λ n v h. sized.deep n v (sym (same n) ∙ h);
  sized = λ n v h. sized.sized n v (sym (same n) ∙ h);
}
