-- The macro elements, taken over one by one.
use Rattle.std.proofs.Common.{◌≡◌, ◌≢◌, ℕ, zero, suc, ◌+◌, ◌<◌, ◌≤◌, ◌^◌, ◌*◌, ◌-◌, ℤ, pos, Bool, true, false, cond, ltb, List, [], ◌∷◌, ◌++◌, take, drop, replicate, refl, ap, sym, ◌∙◌, subst, arith, Option, Some, None, option_map, unwrap_or, is_some, true≢false, add-one, ◌⊎◌, inl, inr}
use Rattle.std.proofs.lemmas.Bool.{ltb-true, ltb-false, lt-ltb}
use Rattle.std.specs.Prelude.{slice_index_or, nat_abs}
use Rattle.std.specs.Ordering.{eq_by_cmp}
use Rattle.std.specs.FinMap.{FinMap, get, get-insert, empty, get-empty}
use Rattle.dof_admin.specs.Administration.{with_used}
use Rattle.mesh_names.specs.Names.{Name, name_cmp, depth}
use Rattle.mesh_names.specs.Order.{name_cmp_total}
use Rattle.mesh_names.proofs.Sets.{same-tied, tied-same}
use Rattle.compat_check.specs.Meshes.{Mesh}
use Rattle.name_tree.specs.declared.nodes.Entry.{Entry}
use Rattle.dof_transfer.specs.declared.ledger.Ledger.{Ledger}
use Rattle.name_tree.specs.Slots.{Slots, live_of}
use Rattle.dof_transfer.specs.Ledgers.{held_of}
use Rattle.name_tree.proofs.LiveNames.{live-empty}
use Rattle.dof_transfer.specs.Held.{Held, AreSized, least_unused, taken, value_of}
use Rattle.dof_transfer.specs.Macros.{HoldsFirst, first_entry}
use Rattle.dof_transfer.proofs.Soundness.{sound-taken}

pub least-all : (n : ℕ) → least_unused (replicate n true) ≡ n
least-all zero = refl
least-all (suc n) = omega (arith, least-all n)

all-between : (n : ℕ) → take n (replicate n true) ++ true ∷ drop (suc n) (replicate n true) ≡ replicate (suc n) true
all-between zero = refl
all-between (suc n) = ap (λ (l : List Bool). true ∷ l) (all-between n)

pub used-all : (n : ℕ) → with_used (replicate n true) n ≡ replicate (n + 1) true
used-all n = rw add-one (all-between n)

pub untied : (q n : Name) → q ≢ n → eq_by_cmp name_cmp q n ≡ false
untied q n other = elim (eq_by_cmp name_cmp q n) as (λ (b : Bool). eq_by_cmp name_cmp q n ≡ b → b ≡ false) [ true ↦ λ (t : eq_by_cmp name_cmp q n ≡ true). absurd (other (tied-same q n t)) | false ↦ λ _. refl ] refl

-- one macro element more
next_entry : (mesh : Mesh) (k : ℕ) (e : Entry) (n : Name) → e.index ≡ k → e.value ≡ slice_index_or mesh.values k (pos 0) → cond (eq_by_cmp name_cmp n (k, [])) (Some e) (first_entry mesh k n) ≡ first_entry mesh (k + 1) n
next_entry mesh k e (r, b ∷ w) index value = ap (λ (t : Bool). cond t (Some e) None) (untied (r, b ∷ w) (k, []) (λ h. true≢false (ap (λ (n : Name). is_empty n.1) (sym h)))) where
  is_empty : List Bool → Bool
  is_empty [] = true
  is_empty (b ∷ w) = false
next_entry mesh k e (r, []) index value =
    elim (ltb r k) as (λ (b : Bool). ltb r k ≡ b → cond (eq_by_cmp name_cmp (r, []) (k, [])) (Some e) (cond b (Some (record { index = r; value = slice_index_or mesh.values r (pos 0) })) None) ≡ first_entry mesh (k + 1) (r, [])) [
      | true ↦ λ (t : ltb r k ≡ true).
          let below : r < k = ltb-true r k t in
          ap (λ (b : Bool). cond b (Some e) (Some (record { index = r; value = slice_index_or mesh.values r (pos 0) }))) (untied (r, []) (k, []) (λ h. absurd (omega (arith, ap (λ (n : Name). n.0) h))))
          ∙ ap (λ (b : Bool). cond b (Some (record { index = r; value = slice_index_or mesh.values r (pos 0) })) None) (sym (lt-ltb r (k + 1) (omega arith)))
      | false ↦ λ (t : ltb r k ≡ false).
          let above : k ≤ r = ltb-false r k t in
          elim (ltb k r) as (λ (b : Bool). ltb k r ≡ b → cond (eq_by_cmp name_cmp (r, []) (k, [])) (Some e) None ≡ first_entry mesh (k + 1) (r, [])) [
            | true ↦ λ (u : ltb k r ≡ true).
                let beyond : k < r = ltb-true k r u in
                ap (λ (b : Bool). cond b (Some e) None) (untied (r, []) (k, []) (λ h. absurd (omega (arith, ap (λ (n : Name). n.0) h))))
                ∙ ap (λ (b : Bool). cond b (Some (record { index = r; value = slice_index_or mesh.values r (pos 0) })) None) (sym (not_below r (k + 1) (omega arith)))
            | false ↦ λ (u : ltb k r ≡ false).
                let here : r ≡ k = omega (arith, ltb-false k r u) in
                ap (λ (b : Bool). cond b (Some e) None) (same-tied (r, []) (k, []) (λ i. (here i, [])))
                ∙ (λ i. Some (record { index = (index ∙ sym here) i; value = (value ∙ ap (λ (j : ℕ). slice_index_or mesh.values j (pos 0)) (sym here)) i }))
                ∙ ap (λ (b : Bool). cond b (Some (record { index = r; value = slice_index_or mesh.values r (pos 0) })) None) (sym (lt-ltb r (k + 1) (omega arith)))
          ] refl
    ] refl where
      not_below : (r n : ℕ) → n ≤ r → ltb r n ≡ false
      not_below r n h = elim (ltb r n) as (λ (b : Bool). ltb r n ≡ b → b ≡ false) [ true ↦ λ (t : ltb r n ≡ true). absurd (omega (arith, ltb-true r n t)) | false ↦ λ _. refl ] refl

last_or_before : (i n : ℕ) → i < n + 1 → (i < n) ⊎ (i ≡ n)
last_or_before i n h = grind arith

pub first-taken : (mesh : Mesh) (k : ℕ) (held : Held) (v : ℤ) → HoldsFirst mesh k held → v ≡ slice_index_or mesh.values k (pos 0) → nat_abs v ≤ 2 ^ 55 → HoldsFirst mesh (k + 1) (taken held (k, []) v)
first-taken mesh k held v first value small =
    let least : least_unused held.flags ≡ k = ap least_unused first.used ∙ least-all k in
    record {
      live = λ n.
          get-insert name_cmp_total held.live (k, []) (record { index = least_unused held.flags; value = v }) n
          ∙ ap (cond (eq_by_cmp name_cmp n (k, [])) (Some (record { index = least_unused held.flags; value = v }))) (first.live n)
          ∙ next_entry mesh k (record { index = least_unused held.flags; value = v }) n least value;
      used = (λ i. with_used (first.used i) (least i)) ∙ used-all k;
      sound = sound-taken held (k, []) v first.sound;
      small = λ r below. all_small r (last_or_before r k below);
    } where
      all_small : (r : ℕ) → (r < k) ⊎ (r ≡ k) → nat_abs (slice_index_or mesh.values r (pos 0)) ≤ 2 ^ 55
      all_small r (inl before) = first.small r before
      all_small r (inr here) = subst (λ (j : ℕ). nat_abs (slice_index_or mesh.values j (pos 0)) ≤ 2 ^ 55) (sym here) (subst (λ (z : ℤ). nat_abs z ≤ 2 ^ 55) value small)

none_below : (r : ℕ) → ltb r 0 ≡ false
none_below r = elim (ltb r 0) as (λ (b : Bool). ltb r 0 ≡ b → b ≡ false) [ true ↦ λ (t : ltb r 0 ≡ true). absurd (omega (arith, ltb-true r 0 t)) | false ↦ λ _. refl ] refl

-- before the first one
pub first-none : (mesh : Mesh) (ledger : Ledger) → ledger.entries ≡ empty → ledger.admin.flags ≡ [] → HoldsFirst mesh 0 (held_of ledger)
first-none mesh ledger none flags = record {
  live = λ n. bare n ∙ nothing n;
  used = flags;
  sound = record {
    used = λ n i h. absurd (true≢false (sym (ap is_some h) ∙ ap (λ (o : Option Entry). is_some (option_map (λ (e : Entry). e.index) o)) (bare n)));
    apart = λ m n i h g. absurd (true≢false (sym (ap is_some h) ∙ ap (λ (o : Option Entry). is_some (option_map (λ (e : Entry). e.index) o)) (bare m)));
  };
  small = λ r below. absurd (omega arith);
} where
  bare : (n : Name) → get (live_of ledger.entries) n ≡ None
  bare n = ap (λ (s : Slots). get (live_of s) n) none ∙ ap (λ (m : FinMap name_cmp Entry). get m n) live-empty ∙ get-empty name_cmp n

  nothing : (n : Name) → None ≡ first_entry mesh 0 n
  nothing (r, []) = ap (λ (b : Bool). cond b (Some (record { index = r; value = slice_index_or mesh.values r (pos 0) })) None) (sym (none_below r))
  nothing (r, b ∷ w) = refl

-- the macro elements' values are within their range
pub first-sized : (mesh : Mesh) (count : ℕ) (held : Held) → HoldsFirst mesh count held → AreSized held
first-sized mesh count held first = record {
  deep = λ n v h. omega (arith, (of_first n v h).0);
  sized = λ n v h. let f = of_first n v h in subst (λ (k : ℕ). nat_abs v ≤ 2 ^ 31 * 2 ^ (24 - k)) (sym f.0) f.1;
} where
  of_entry : (n : Name) (v : ℤ) → option_map (λ (e : Entry). e.value) (first_entry mesh count n) ≡ Some v → (depth n ≡ 0) × (nat_abs v ≤ 2 ^ 55)
  of_entry (r, b ∷ w) v h = absurd (true≢false (sym (ap is_some h)))
  of_entry (r, []) v h = (
    refl,
    elim (ltb r count) as (λ (b : Bool). ltb r count ≡ b → option_map (λ (e : Entry). e.value) (cond b (Some (record { index = r; value = slice_index_or mesh.values r (pos 0) })) None) ≡ Some v → nat_abs v ≤ 2 ^ 55) [
      | true ↦ λ (t : ltb r count ≡ true) (g : Some (slice_index_or mesh.values r (pos 0)) ≡ Some v). subst (λ (z : ℤ). nat_abs z ≤ 2 ^ 55) (ap (λ (o : Option ℤ). unwrap_or o v) g) (first.small r (ltb-true r count t))
      | false ↦ λ _ (g : None ≡ Some v). absurd (true≢false (sym (ap is_some g)))
    ] refl h,
  )

  of_first : (n : Name) (v : ℤ) → value_of held n ≡ Some v → (depth n ≡ 0) × (nat_abs v ≤ 2 ^ 55)
  of_first n v h = of_entry n v (ap (option_map (λ (e : Entry). e.value)) (sym (first.live n)) ∙ h)
