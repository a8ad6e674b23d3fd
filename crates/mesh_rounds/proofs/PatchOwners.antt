-- The owner of a patch, and its members.
use Rattle.std.proofs.Common.{◌≡◌, ◌⊎◌, ◌<◌, Bool, true, false, cond, true≢false, refl, sym, ap, ◌∙◌, subst, ◌∷◌, inl, inr, ⊎_elim}
use Rattle.std.specs.Prelude.{Option, Some, None, option_map}
use Rattle.std.specs.Ordering.{is_lt, ordering_reverse}
use Rattle.std.specs.declared.cmp.Ordering.{Ordering}
use Rattle.std.specs.declared.cmp.Ordering.TheVariants.{Less, Equal, Greater}
use Rattle.mesh_names.specs.Names.{Name, name_cmp}
use Rattle.mesh_names.specs.Order.{name_cmp_total, name_cmp-same}
use Rattle.mesh_names.specs.Triangles.{Shape, size, level}
use Rattle.mesh_names.specs.Partners.{Across, Tells, InPatch, partner}
use Rattle.mesh_names.specs.Patches.{is_first, owns, patch_by, patch_of}
use Rattle.mesh_names.specs.declared.patch.PatchName.{PatchName}
use Rattle.mesh_names.proofs.Sets.{In, both_sides, is_or_not}
use Rattle.mesh_names.proofs.Pairs.{partners_pair}
use Rattle.mesh_names.proofs.Steps.{patch-back, patch-trans}
use Rattle.dof_transfer.specs.Exchanges.{listed, members_of}

not_both : (r : Ordering) → is_lt r ≡ true → is_lt (ordering_reverse r) ≡ true → ⊥
not_both Less h g = true≢false (sym g)
not_both Equal h g = true≢false (sym h)
not_both Greater h g = true≢false (sym h)

-- of two names that are not in order the other comes first
other_first : (q m : Name) → (m ≡ q → ⊥) → is_lt (name_cmp q m) ≡ false → is_lt (name_cmp m q) ≡ true
other_first q m apart h = by (name_cmp q m) refl
  where
    by : (r : Ordering) → name_cmp q m ≡ r → is_lt (name_cmp m q) ≡ true
    by Less e = absurd (both_sides (is_lt (name_cmp q m)) (ap is_lt e) h)
    by Equal e = absurd (apart (sym (name_cmp-same q m e)))
    by Greater e = ap is_lt (name_cmp_total.antisymm m q ∙ ap ordering_reverse e)

-- the other member
abbrev pub other_of : Option (Name × Bool) → Option Name
other_of o = option_map (λ (m : Name × Bool). m.0) o

-- the patch that this name owns
abbrev pub owned_patch : Across → Name → PatchName
owned_patch x n = record { first = n; second = other_of (partner x n.0 n.1) }

pub owner-patch : (x : Across) (n : Name) → owns x n ≡ true → patch_of x n ≡ owned_patch x n
owner-patch x n h = by (partner x n.0 n.1) h
  where
    by : (o : Option (Name × Bool)) → is_first n o ≡ true → patch_by n o ≡ record { first = n; second = other_of o }
    by None k = refl
    by (Some m) k = ap {B = PatchName} (λ (b : Bool). cond b (record { first = n; second = Some m.0 }) (record { first = m.0; second = Some n })) k

-- what is true of the patch that a name owns is true of the patch of the name
pub of-owned : (P : PatchName → Type 0) (x : Across) (n : Name) → owns x n ≡ true → P (owned_patch x n) → P (patch_of x n)
of-owned P x n own h = subst P (sym (owner-patch x n own)) h

pub member-of : (x : Across) (n q : Name) → owns x n ≡ true → In q (members_of (patch_of x n)) → InPatch x n q
member-of x n q own i = by (partner x n.0 n.1) refl (subst (λ (p : PatchName). In q (members_of p)) (owner-patch x n own) i)
  where
    by : (o : Option (Name × Bool)) → partner x n.0 n.1 ≡ o → In q (n ∷ listed (other_of o)) → InPatch x n q
    by None e j = ⊎_elim (λ (a : q ≡ n). inl a) (λ (f : ⊥). absurd f) j
    by (Some m) e j = ⊎_elim
        (λ (a : q ≡ n). inl a)
        (λ (k : (q ≡ m.0) ⊎ ⊥). ⊎_elim (λ (b : q ≡ m.0). inr (m.1, e ∙ (λ i. Some (sym b i, m.1)))) (λ (f : ⊥). absurd f) k)
        j

pub of-member : (x : Across) (n q : Name) → owns x n ≡ true → InPatch x n q → In q (members_of (patch_of x n))
of-member x n q own k = of-owned (λ p. In q (members_of p)) x n own (⊎_elim
    (λ (e : q ≡ n). inl e)
    (λ (m : (t : Bool) × (partner x n.0 n.1 ≡ Some (q, t))). inr (subst (λ (o : Option (Name × Bool)). In q (listed (other_of o))) (sym m.1) (inl refl)))
    k)

module _ (mesh : Shape) (x : Across) (tells : Tells mesh x) where
  pub patch-rooted : (n q : Name) → n.0 < size mesh → InPatch x n q → q.0 < size mesh
  patch-rooted n q low k = ⊎_elim (λ (e : q ≡ n). subst (λ (m : Name). m.0 < size mesh) (sym e) low) (λ (m : (t : Bool) × (partner x n.0 n.1 ≡ Some (q, t))). (partners_pair mesh x tells n q m.0 low m.1).rooted) k

  pub patch-level : (n q : Name) → n.0 < size mesh → InPatch x n q → level mesh q ≡ level mesh n
  patch-level n q low k = ⊎_elim (λ (e : q ≡ n). ap (level mesh) e) (λ (m : (t : Bool) × (partner x n.0 n.1 ≡ Some (q, t))). (partners_pair mesh x tells n q m.0 low m.1).level) k

  -- of the members of a patch one alone is an owner
  pub one_owner : (n m : Name) → n.0 < size mesh → owns x n ≡ true → owns x m ≡ true → InPatch x n m → m ≡ n
  one_owner n m low first second k = ⊎_elim
      (λ (e : m ≡ n). e)
      (λ (p : (t : Bool) × (partner x n.0 n.1 ≡ Some (m, t))).
      let back = (partners_pair mesh x tells n m p.0 low p.1).back in
      absurd (not_both (name_cmp n m) (sym (ap (is_first n) p.1) ∙ first) (ap is_lt (sym (name_cmp_total.antisymm m n)) ∙ sym (ap (is_first m) back.1) ∙ second)))
      k

  -- a name in two patches has the owner of both
  pub shared-owner : (n m q : Name) → n.0 < size mesh → m.0 < size mesh → owns x n ≡ true → owns x m ≡ true → InPatch x n q → InPatch x m q → m ≡ n
  shared-owner n m q low low' first second k l = one_owner n m low first second (patch-trans x mesh tells n q m low k (patch-back x mesh tells m q low' l))

  pub record HasOwner (q : Name) : Type 0 where
    pub owner : Name
    pub holds : InPatch x owner q
    pub back : InPatch x q owner
    pub owns : owns x owner ≡ true

  pub owner-of : (q : Name) → q.0 < size mesh → HasOwner q
  owner-of q low = by (partner x q.0 q.1) refl
    where
      by : (o : Option (Name × Bool)) → partner x q.0 q.1 ≡ o → HasOwner q
      by None e = record { owner = q; holds = inl refl; back = inl refl; owns = ap (is_first q) e }
      by (Some m) e = ⊎_elim
          (λ (h : is_lt (name_cmp q m.0) ≡ true). record { owner = q; holds = inl refl; back = inl refl; owns = ap (is_first q) e ∙ h })
          (λ (h : is_lt (name_cmp q m.0) ≡ false).
          let p = partners_pair mesh x tells q m.0 m.1 low e in
          record { owner = m.0; holds = inr p.back; back = inr (m.1, e); owns = ap (is_first m.0) p.back.1 ∙ other_first q m.0 p.other h })
          (is_or_not (is_lt (name_cmp q m.0)))
