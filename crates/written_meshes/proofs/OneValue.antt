-- A vertex of a mesh has one key, and one value after a round.
use Rattle.std.proofs.Common.{◌≡◌, ◌<◌, true, sym, ap, subst, ◌∙◌, ◌⊎◌, inl, inr, ⊎_elim, arith}
use Rattle.std.specs.Prelude.{ℤ, ◌+ℤ◌, Some, None, length}
use Rattle.std.specs.FinSet.{contains}
use Rattle.std.specs.Ordering.{is_lt, ordering_reverse}
use Rattle.std.specs.declared.cmp.Ordering.{Ordering}
use Rattle.std.specs.declared.cmp.Ordering.TheVariants.{Less, Equal, Greater}
use Rattle.std.proofs.lemmas.Bool.{cases_lt}
use Rattle.std.proofs.lemmas.Int.{ints}
use Rattle.mesh_names.specs.Names.{Name, name_cmp}
use Rattle.mesh_names.specs.Order.{name_cmp_total}
use Rattle.mesh_names.specs.Triangles.{Vertex, size, triangle, midpoint}
use Rattle.mesh_names.specs.Forests.{Names}
use Rattle.mesh_names.specs.Partners.{Tells}
use Rattle.mesh_names.specs.Patches.{is_first, owns}
use Rattle.mesh_names.specs.declared.patch.VertexKey.{VertexKey}
use Rattle.mesh_names.specs.declared.patch.VertexKey.TheVariants.{Macro, Patch}
use Rattle.mesh_names.proofs.Levels.{middle-same, not_mid}
use Rattle.mesh_names.proofs.Neighbours.{corner-inj, none_some, some_inj}
use Rattle.mesh_names.proofs.Only.{partner_is_only}
use Rattle.mesh_names.proofs.Pairs.{partners_pair}
use Rattle.mesh_names.proofs.Sets.{is_or_not, both_sides}
use Rattle.compat_check.specs.Meshes.{Mesh, across_in, shape_of}
use Rattle.dof_transfer.specs.Exchanges.{floor_half}
use Rattle.dof_transfer.specs.VertexNames.{HasAt, HasVertexValue, IsVertexIn, kept, made}
use Rattle.dof_transfer.specs.VertexValues.{IsKeyOf, VertexHeld, value_at}

not_both : (r : Ordering) → is_lt r ≡ true → is_lt (ordering_reverse r) ≡ true → ⊥
not_both Less h g = absurd (cc)
not_both Equal h g = absurd (cc)
not_both Greater h g = absurd (cc)

plus_turned : (x y : ℤ) → x +ℤ y ≡ y +ℤ x
plus_turned x y = omega (arith, ints)

module _ (mesh : Mesh) (members : Names) where
  stands_or_not : (key : VertexKey) → IsVertexIn mesh members key ⊎ (IsVertexIn mesh members key → ⊥)
  stands_or_not (Macro i) = ⊎_elim (λ h. inl h) (λ h. inr (λ l. omega (arith, h, l))) (cases_lt i (length mesh.vertices))
  stands_or_not (Patch n) = ⊎_elim
      (λ h. ⊎_elim (λ o. inl (h, o)) (λ o. inr (λ p. both_sides (owns (across_in mesh) n) p.1 o)) (is_or_not (owns (across_in mesh) n)))
      (λ h. inr (λ p. both_sides (contains members n) p.0 h))
      (is_or_not (contains members n))

  -- what has a value is a vertex of the forest, where no other has one
  pub stands_there : (held : VertexHeld) → ((key : VertexKey) → (IsVertexIn mesh members key → ⊥) → value_at held key ≡ None) → (key : VertexKey) (x : ℤ) → value_at held key ≡ Some x → IsVertexIn mesh members key
  stands_there held none key x e = ⊎_elim (λ h. h) (λ h. absurd (none_some x (sym (none key h) ∙ e))) (stands_or_not key)

module _ (mesh : Mesh) (tells : Tells (shape_of mesh) (across_in mesh)) where
  one_owner : (n m : Name) → n.0 < size (shape_of mesh) → m.0 < size (shape_of mesh) → owns (across_in mesh) n ≡ true → owns (across_in mesh) m ≡ true → midpoint (triangle (shape_of mesh) n) ≡ midpoint (triangle (shape_of mesh) m) → n ≡ m
  one_owner n m hn hm first second e = ⊎_elim
      (λ (s : (n.0 ≡ m.0) × (n.1 ≡ m.1)). λ i. (s.0 i, s.1 i))
      (λ s.
      let back = (partners_pair (shape_of mesh) (across_in mesh) tells n m s.0 hn s.1).back in
      absurd (not_both (name_cmp n m) (sym (ap (is_first n) s.1) ∙ first) (ap is_lt (sym (name_cmp_total.antisymm m n)) ∙ sym (ap (is_first m) back.1) ∙ second)))
      (partner_is_only (shape_of mesh) (across_in mesh) tells n.0 m.0 n.1 m.1 hn hm e)

  pub one_key : (k l : VertexKey) (v : Vertex) → IsKeyOf mesh k v → IsKeyOf mesh l v → k ≡ l
  one_key (Macro i) (Macro j) v a b = ap Macro (corner-inj i j (a.is ∙ sym b.is))
  one_key (Macro i) (Patch m) v a b = let t = triangle (shape_of mesh) m in absurd (not_mid (shape_of mesh) i t.0 t.1 (a.is ∙ sym b.is))
  one_key (Patch n) (Macro j) v a b = let t = triangle (shape_of mesh) n in absurd (not_mid (shape_of mesh) j t.0 t.1 (b.is ∙ sym a.is))
  one_key (Patch n) (Patch m) v a b = ap Patch (one_owner n m a.of_mesh b.of_mesh a.only b.only (a.is ∙ sym b.is))

  pub one_at : (held : VertexHeld) (v u : Vertex) (x y : ℤ) → v ≡ u → HasAt mesh held v x → HasAt mesh held u y → x ≡ y
  one_at held v u x y e a b = some_inj x y (sym a.is ∙ ap (value_at held) (one_key a.key b.key u (subst (IsKeyOf mesh a.key) e a.names) b.names) ∙ b.is)

  pub one_value : (held : VertexHeld) (v u : Vertex) (x y : ℤ) → v ≡ u → HasVertexValue mesh held v x → HasVertexValue mesh held u y → x ≡ y
  one_value held _ _ _ _ e (kept v x a) (kept u y b) = one_at held v u x y e a b
  one_value held _ _ _ _ e (kept v x a) (made c d p q none hc hd) = absurd (none x (subst (λ (w : Vertex). HasAt mesh held w x) e a))
  one_value held _ _ _ _ e (made a b x y none ha hb) (kept u z k) = absurd (none z (subst (λ (w : Vertex). HasAt mesh held w z) (sym e) k))
  one_value held _ _ _ _ e (made a b x y none ha hb) (made c d p q other hc hd) = ⊎_elim
      (λ (s : (a ≡ c) × (b ≡ d)). λ i. floor_half (one_value held a c x p s.0 ha hc i +ℤ one_value held b d y q s.1 hb hd i))
      (λ (s : (a ≡ d) × (b ≡ c)). (λ i. floor_half (one_value held a d x q s.0 ha hd i +ℤ one_value held b c y p s.1 hb hc i)) ∙ ap floor_half (plus_turned q p))
      (middle-same a b c d e)
