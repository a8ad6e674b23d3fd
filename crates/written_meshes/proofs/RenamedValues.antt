-- Values of leaves, under a renaming.
use Rattle.std.proofs.Common.{◌≡◌, ℕ, ◌<◌, Bool, true, false, refl, sym, ap, subst, ◌∙◌, List, ◌∷◌, ◌++◌, arith, ⊎_elim}
use Rattle.std.specs.Prelude.{ℤ, ◌+ℤ◌, ◌-ℤ◌, Some, IsSome}
use Rattle.std.proofs.lemmas.Int.{ints}
use Rattle.std.specs.FinSet.{contains}
use Rattle.mesh_names.specs.Names.{Name}
use Rattle.mesh_names.specs.Triangles.{Shape, size}
use Rattle.mesh_names.specs.Forests.{Names, IsForest, IsLeaf}
use Rattle.mesh_names.specs.Leaves.{leaves}
use Rattle.mesh_names.specs.Partners.{Across}
use Rattle.mesh_names.proofs.Leaving.{leaves_are}
use Rattle.mesh_names.proofs.Neighbours.{some_inj}
use Rattle.mesh_names.proofs.Sets.{is_or_not, both_sides}
use Rattle.dof_transfer.specs.ByName.{AreElementValues, HasValue, split, sum, split_value}
use Rattle.dof_transfer.specs.Changes.{AreOfForest}
use Rattle.dof_transfer.specs.Exchanges.{child, floor_half, part}
use Rattle.dof_transfer.specs.Held.{Held, value_of}
use Rattle.written_meshes.specs.ForestRenaming.{IsRenaming}
use Rattle.written_meshes.specs.ValueRenaming.{ElementValuesStand, ForestStandsFor, ValuesStandFor}
use Rattle.written_meshes.proofs.LeafNames.{one_leaf}
use Rattle.written_meshes.proofs.RenamedRounds.{deeper, leaf_to, leaf_back, new_forest}

halves_sum : (v : ℤ) → part false v +ℤ part true v ≡ v
halves_sum v = by v (floor_half v)
  where
    by : (v h : ℤ) → h +ℤ (v -ℤ h) ≡ v
    by v h = omega (arith, ints)

-- ---- one value for a name
module _ (mesh : Shape) (before : Names) (old : Held) (of : AreOfForest mesh before old) where
  live : (n : Name) (v : ℤ) → value_of old n ≡ Some v → IsLeaf mesh before n
  live n v e = (of.live n).1 (subst IsSome (sym e) refl)

  -- at and below a leaf each value is split from the leaf's
  below_leaf : (n : Name) (v : ℤ) → HasValue old n v → (r : ℕ) (word leaf : List Bool) (value : ℤ) → n ≡ (r, word ++ leaf) → value_of old (r, leaf) ≡ Some value → v ≡ split_value value word
  below_leaf _ _ (split n v s) r word leaf value e held =
      let root : n.0 ≡ r = ap (λ (q : Name). q.0) e in
      let here : value_of old (r, s.leaf) ≡ Some s.value = subst (λ (k : ℕ). value_of old (k, s.leaf) ≡ Some s.value) root s.held in
      let same = one_leaf mesh before of.forest r s.word word s.leaf leaf (sym s.below ∙ ap (λ (q : Name). q.1) e) (live (r, s.leaf) s.value here) (live (r, leaf) value held) in
      let values : s.value ≡ value = some_inj s.value value (sym here ∙ (λ i. value_of old (r, same.1 i)) ∙ held) in
      s.is ∙ (λ i. split_value (values i) (same.0 i))
  below_leaf _ _ (sum n a b ha hb) r word leaf value e held =
      let x = below_leaf (child false n) a ha r (false ∷ word) leaf value (ap (child false) e) held in
      let y = below_leaf (child true n) b hb r (true ∷ word) leaf value (ap (child true) e) held in
      (λ i. x i +ℤ y i) ∙ halves_sum (split_value value word)

  one_value : (n : Name) (v u : ℤ) → HasValue old n v → HasValue old n u → v ≡ u
  one_value _ _ u (split n v s) h = s.is ∙ sym (below_leaf n u h n.0 s.word s.leaf s.value (λ i. (n.0, s.below i)) s.held)
  one_value _ _ _ (sum n a b ha hb) (split _ u s) = below_leaf n (a +ℤ b) (sum n a b ha hb) n.0 s.word s.leaf s.value (λ i. (n.0, s.below i)) s.held ∙ sym s.is
  one_value _ _ _ (sum n a b ha hb) (sum _ c d hc hd) = λ i. one_value (child false n) a c ha hc i +ℤ one_value (child true n) b d hb hd i

module _ (mesh other : Shape) (x y : Across) (members : Names) (rename : Name → Name) (r : IsRenaming mesh other x y members rename) where
  -- a value by name stands for a value by name
  moved : (old new : Held) → ValuesStandFor other rename new old → (n : Name) (v : ℤ) → n.0 < size other → HasValue new n v → HasValue old (rename n) v
  moved old new stands _ _ h (split n v s) =
      let below : rename n ≡ ((rename (n.0, s.leaf)).0, s.word ++ (rename (n.0, s.leaf)).1) = (λ i. rename (n.0, s.below i)) ∙ deeper mesh other x y members rename r n.0 s.word s.leaf in
      split (rename n) v (record {
        word = s.word;
        leaf = (rename (n.0, s.leaf)).1;
        value = s.value;
        below = ap (λ (q : Name). q.1) below;
        held = subst (λ (k : ℕ). value_of old (k, (rename (n.0, s.leaf)).1) ≡ Some s.value) (sym (ap (λ (q : Name). q.0) below)) (sym (stands (n.0, s.leaf) h) ∙ s.held);
        is = s.is;
      })
  moved old new stands _ _ h (sum n a b ha hb) =
      sum (rename n) a b
      (subst (λ (q : Name). HasValue old q a) (r.children n.0 false n.1) (moved old new stands (child false n) a h ha))
      (subst (λ (q : Name). HasValue old q b) (r.children n.0 true n.1) (moved old new stands (child true n) b h hb))

  stand : (before after new_before new_after : Names) (old end new_old new_end : Held) → ForestStandsFor mesh other x members rename new_before before → ForestStandsFor mesh other x members rename new_after after →
      AreOfForest mesh before old → ValuesStandFor other rename new_old old → AreElementValues mesh after old end → AreElementValues other new_after new_old new_end → ValuesStandFor other rename new_end end
  stand before after new_before new_after old end new_old new_end was now of values there here n h = ⊎_elim
      (λ yes.
      let leaf = (leaves_are other new_after forest n).0 yes in
      let a = here.leaves n leaf in
      let b = there.leaves (rename n) (leaf_to mesh other x y members rename r after new_after now.forest now.partners now.within now.stands n h leaf) in
      a.1 ∙ ap Some (one_value mesh before old of (rename n) a.0 b.0 (moved old new_old values n a.0 h a.2) b.2) ∙ sym b.1)
      (λ no.
      let none : IsLeaf other new_after n → ⊥ = λ leaf. both_sides (contains (leaves other new_after) n) ((leaves_are other new_after forest n).1 leaf) no in
      here.none n none ∙ sym (there.none (rename n) (λ leaf. none (leaf_back mesh other x y members rename r after new_after now.forest now.partners now.within now.stands n h leaf))))
      (is_or_not (contains (leaves other new_after) n))
    where
      forest : IsForest other new_after
      forest = new_forest mesh other x y members rename r after new_after now.forest now.partners now.within now.stands

pub element_values_stand : ElementValuesStand
element_values_stand mesh other x y members rename r before after new_before new_after old end new_old new_end was now of values there here = stand mesh other x y members rename r before after new_before new_after old end new_old new_end was now of values there here
