-- Born patches in order: when the turn of one comes, its members are leaves, and the ends of its refinement edge are vertices.
use Rattle.std.proofs.Common.{◌≡◌, ◌⊎◌, ℕ, suc, ◌<◌, ◌≤◌, arith, Bool, false, refl, ap, subst, List, [], ◌∷◌, length, map, inl, inr, ⊎_elim}
use Rattle.std.specs.Prelude.{IfSome, Option, Some, None}
use Rattle.std.specs.FinSet.{contains, from_list, union}
use Rattle.mesh_names.specs.Names.{Name}
use Rattle.mesh_names.specs.Triangles.{size, level}
use Rattle.mesh_names.specs.Forests.{Names, Has, Within, IsLeaf}
use Rattle.mesh_names.specs.Partners.{InPatch, partner}
use Rattle.mesh_names.specs.Patches.{owns, patch_of}
use Rattle.mesh_names.specs.Conformity.{HoldsPartners}
use Rattle.mesh_names.proofs.Booleans.{not_true}
use Rattle.mesh_names.proofs.Pairs.{partners_pair}
use Rattle.mesh_names.proofs.Sets.{In, both_sides, in-has, union-left, union-right, within-both}
use Rattle.mesh_names.proofs.Steps.{patch-trans}
use Rattle.compat_check.specs.Meshes.{Mesh, IsChecked, across_in, shape_of}
use Rattle.dof_transfer.specs.Exchanges.{members_of}
use Rattle.dof_transfer.specs.Changes.{AreBisections, CanBisect}
use Rattle.dof_transfer.specs.VertexNames.{AreMakings, CanMake, IsOwned}
use Rattle.dof_transfer.proofs.NamedElements.{with-either}
use Rattle.mesh_rounds.proofs.NameLists.{Turns, all-names}
use Rattle.mesh_rounds.proofs.NewOwners.{Encloses, IsNew, Rises, has-patch}
use Rattle.mesh_rounds.proofs.PatchOwners.{member-of, of-member, of-owned, one_owner, other_of, patch-level, patch-rooted}
use Rattle.mesh_rounds.proofs.BornPatches.{owned-pair}
use Rattle.mesh_rounds.proofs.CornerKeys.{corners_stand}

-- the patch of a new owner is named by its owner
pub owned-owned : (mesh : Mesh) (more less : Names) → Encloses (shape_of mesh) (across_in mesh) more less → (n : Name) → IsNew (across_in mesh) more less n → IsOwned mesh (patch_of (across_in mesh) n)
owned-owned mesh more less two n is = of-owned (IsOwned mesh) (across_in mesh) n is.owns (record { rooted = low; owner = is.owns; other = by (partner (across_in mesh) n.0 n.1) refl })
  where
    low : n.0 < size (shape_of mesh)
    low = two.forest.rooted n is.inside

    by : (o : Option (Name × Bool)) → partner (across_in mesh) n.0 n.1 ≡ o → IfSome (other_of o) (λ m. owns (across_in mesh) m ≡ false)
    by None e = tt
    by (Some m) e = not_true (owns (across_in mesh) m.0) (λ h. (partners_pair (shape_of mesh) (across_in mesh) two.tells n m.0 m.1 low e).other (one_owner (shape_of mesh) (across_in mesh) two.tells n m.0 low is.owns h (inr (m.1, e))))

module _ (mesh : Mesh) (checked : IsChecked mesh) (more less : Names) (two : Encloses (shape_of mesh) (across_in mesh) more less) where
  -- a forest on the way from the smaller one to the greater, which lacks the patches of these owners
  pub record IsBetween (now : Names) (ns : List Name) : Type 0 where
    pub closed : (r : ℕ) (b : Bool) (w : List Bool) → Has now (r, b ∷ w) → Has now (r, w)
    pub holds : HoldsPartners (across_in mesh) now
    pub within : Within now more
    pub out : (n : Name) → In n ns → contains now n ≡ false
    pub rest : (q : Name) → Has more q → Has now q ⊎ ((n : Name) × In n ns × InPatch (across_in mesh) n q)
    pub new : (n : Name) → In n ns → IsNew (across_in mesh) more less n
    pub turns : Turns (Rises (shape_of mesh)) ns

  module _ (now : Names) (n : Name) (ns : List Name) (is : IsBetween now (n ∷ ns)) where
    first : IsNew (across_in mesh) more less n
    first = is.new n (inl refl)

    low : n.0 < size (shape_of mesh)
    low = two.forest.rooted n first.inside

    abbrev next : Names
    next = union now (from_list (members_of (patch_of (across_in mesh) n)))

    -- a member of the patch is a leaf
    leaf : (q : Name) → InPatch (across_in mesh) n q → IsLeaf (shape_of mesh) now q
    leaf q k = record { rooted = patch-rooted (shape_of mesh) (across_in mesh) two.tells n q low k; unsplit = not_true (contains now q) split; born = parent }
      where
        split : Has now q → ⊥
        split h = both_sides (contains now n) (⊎_elim
            (λ (e : q ≡ n). subst (Has now) e h)
            (λ (m : (t : Bool) × (partner (across_in mesh) n.0 n.1 ≡ Some (q, t))). let back = (partners_pair (shape_of mesh) (across_in mesh) two.tells n q m.0 low m.1).back in is.holds q.0 q.1 n back.0 h back.1)
            k) (is.out n (inl refl))

        -- a parent is of a smaller level than all that is still to come
        parent : (b : Bool) (w : List Bool) → q.1 ≡ b ∷ w → Has now (q.0, w)
        parent b w e = ⊎_elim
            (λ (h : Has now (q.0, w)). h)
            (λ (r : (m : Name) × In m (n ∷ ns) × InPatch (across_in mesh) m (q.0, w)). absurd (later r.0 r.1 r.2))
            (is.rest (q.0, w) (two.forest.closed q.0 b w (subst (λ (v : List Bool). Has more (q.0, v)) e (has-patch (shape_of mesh) (across_in mesh) more less two n q first.inside k))))
          where
            later : (m : Name) → In m (n ∷ ns) → InPatch (across_in mesh) m (q.0, w) → ⊥
            later m i l =
                let up : level (shape_of mesh) n ≤ level (shape_of mesh) m = ⊎_elim (λ (s : m ≡ n). let t = ap (level (shape_of mesh)) s in omega (arith, t)) (λ (j : In m ns). (is.turns.0 m j).level) i in
                let own = patch-level (shape_of mesh) (across_in mesh) two.tells n q low k in
                let above = patch-level (shape_of mesh) (across_in mesh) two.tells m (q.0, w) (two.forest.rooted m (is.new m i).inside) l in
                let deep : length q.1 ≡ suc (length w) = ap (λ (v : List Bool). length v) e in
                omega (arith, up, own, above, deep)

    pub can-bisect : CanBisect (shape_of mesh) now (patch_of (across_in mesh) n)
    can-bisect = record {
      pair = owned-pair (shape_of mesh) (across_in mesh) more less two n first;
      leaves = all-names (IsLeaf (shape_of mesh) now) (members_of (patch_of (across_in mesh) n)) (λ q i. leaf q (member-of (across_in mesh) n q first.owns i));
    }

    pub can-make : CanMake mesh now (patch_of (across_in mesh) n)
    can-make =
        let corners = corners_stand mesh checked now is.holds is.closed n.0 n.1 low (leaf n (inl refl)).born in
        of-owned (λ p. IsOwned mesh p → CanMake mesh now p) (across_in mesh) n first.owns
        (λ owned. record { owned = owned; fresh = is.out n (inl refl); first = corners.first; second = corners.second })
        (owned-owned mesh more less two n first)

    either : (q : Name) → Has next q → Has now q ⊎ InPatch (across_in mesh) n q
    either q h = ⊎_elim (λ (a : Has now q). inl a) (λ (i : In q (members_of (patch_of (across_in mesh) n))). inr (member-of (across_in mesh) n q first.owns i)) (with-either now (members_of (patch_of (across_in mesh) n)) q h)

    stays : (q : Name) → Has now q → Has next q
    stays q h = union-left now (from_list (members_of (patch_of (across_in mesh) n))) q h

    comes : (q : Name) → InPatch (across_in mesh) n q → Has next q
    comes q k = union-right now (from_list (members_of (patch_of (across_in mesh) n))) q (in-has q (members_of (patch_of (across_in mesh) n)) (of-member (across_in mesh) n q first.owns k))

    pub between-next : IsBetween next ns
    between-next = record {
      closed = λ r b w h. stays (r, w) (⊎_elim (λ (a : Has now (r, b ∷ w)). is.closed r b w a) (λ (k : InPatch (across_in mesh) n (r, b ∷ w)). (leaf (r, b ∷ w) k).born b w refl) (either (r, b ∷ w) h));
      holds = λ r w m t h e. ⊎_elim
          (λ (a : Has now (r, w)). stays m (is.holds r w m t a e))
          (λ (k : InPatch (across_in mesh) n (r, w)). comes m (patch-trans (across_in mesh) (shape_of mesh) two.tells n (r, w) m low k (inr (t, e))))
          (either (r, w) h);
      within = λ q h. ⊎_elim (λ (a : Has now q). is.within q a) (λ (k : InPatch (across_in mesh) n q). has-patch (shape_of mesh) (across_in mesh) more less two n q first.inside k) (either q h);
      out = λ m i. not_true (contains next m) (λ h. ⊎_elim
          (λ (a : Has now m). both_sides (contains now m) a (is.out m (inr i)))
          (λ (k : InPatch (across_in mesh) n m). (is.turns.0 m i).other (one_owner (shape_of mesh) (across_in mesh) two.tells n m low first.owns (is.new m (inr i)).owns k))
          (either m h));
      rest = λ q h. ⊎_elim
          (λ (a : Has now q). inl (stays q a))
          (λ (r : (m : Name) × In m (n ∷ ns) × InPatch (across_in mesh) m q). ⊎_elim
          (λ (s : r.0 ≡ n). inl (comes q (subst (λ (y : Name). InPatch (across_in mesh) y q) s r.2)))
          (λ (j : In r.0 ns). inr (r.0, j, r.2))
          r.1)
          (is.rest q h);
      new = λ m i. is.new m (inr i);
      turns = is.turns.1;
    }

  ended : (now : Names) → IsBetween now [] → more ≡ now
  ended now is = within-both more now (λ q h. ⊎_elim (λ (a : Has now q). a) (λ (r : (n : Name) × In n [] × InPatch (across_in mesh) n q). absurd r.1) (is.rest q h)) is.within

  pub all-bisections : (ns : List Name) (now : Names) → IsBetween now ns → AreBisections (shape_of mesh) now (map (patch_of (across_in mesh)) ns) more
  all-bisections [] now is = ended now is
  all-bisections (n ∷ ns) now is = (can-bisect now n ns is, all-bisections ns (union now (from_list (members_of (patch_of (across_in mesh) n)))) (between-next now n ns is))

  pub all-makings : (ns : List Name) (now : Names) → IsBetween now ns → AreMakings mesh now (map (patch_of (across_in mesh)) ns) more
  all-makings [] now is = ended now is
  all-makings (n ∷ ns) now is = (can-make now n ns is, all-makings ns (union now (from_list (members_of (patch_of (across_in mesh) n)))) (between-next now n ns is))
