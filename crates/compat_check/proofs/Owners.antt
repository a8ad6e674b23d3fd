-- The owner of a name's patch, as the key of its midpoint.
use Rattle.std.proofs.Common.{◌≡◌, ◌<◌, Bool, true, false, cond, refl, sym, ap, subst, ◌∙◌, true≢false}
use Rattle.std.specs.Prelude.{Option, Some, None}
use Rattle.std.specs.Ordering.{is_lt, ordering_reverse}
use Rattle.std.specs.declared.cmp.Ordering.{Ordering}
use Rattle.std.specs.declared.cmp.Ordering.TheVariants.{Less, Equal, Greater}
use Rattle.mesh_names.specs.Names.{Name, name_cmp}
use Rattle.mesh_names.specs.Order.{name_cmp_total, name_cmp-same}
use Rattle.mesh_names.specs.Triangles.{Shape, size, triangle, midpoint}
use Rattle.mesh_names.specs.Partners.{Across, Tells, partner, PartnersPair, PartnersShare}
use Rattle.mesh_names.specs.Patches.{patch_by, owns, is_first}
use Rattle.mesh_names.specs.declared.patch.PatchName.{PatchName}

after_or_same : (r : Ordering) → is_lt r ≡ false → (r ≡ Equal → ⊥) → is_lt (ordering_reverse r) ≡ true
after_or_same Less h other = absurd (true≢false h)
after_or_same Equal h other = absurd (other refl)
after_or_same Greater h other = refl

-- of two names that differ, the second is before the first where the first is not before it
pub before_if_not_after : (m n : Name) → is_lt (name_cmp n m) ≡ false → (m ≡ n → ⊥) → is_lt (name_cmp m n) ≡ true
before_if_not_after m n h other = ap is_lt (name_cmp_total.antisymm m n) ∙ after_or_same (name_cmp n m) h (λ e. other (sym (name_cmp-same n m e)))

-- what is shown of the owner of a patch
pub record IsOwner (mesh : Shape) (x : Across) (n o : Name) : Type 0 where
  pub shares : midpoint (triangle mesh o) ≡ midpoint (triangle mesh n)
  pub owner : owns x o ≡ true
  pub rooted : o.0 < size mesh

owner_of_two : (mesh : Shape) (x : Across) → PartnersPair → PartnersShare → Tells mesh x → (n : Name) (m : Name × Bool) → n.0 < size mesh → partner x n.0 n.1 ≡ Some m → (b : Bool) → is_lt (name_cmp n m.0) ≡ b → IsOwner mesh x n (cond b n m.0)
owner_of_two mesh x pairs shares tells n m hr e true h = record {
  shares = refl;
  owner = ap (is_first n) e ∙ h;
  rooted = hr;
}
owner_of_two mesh x pairs shares tells n m hr e false h =
    let pair = pairs mesh x tells n m.0 m.1 hr e in
    record {
      shares = shares mesh x tells n.0 n.1 m.0 m.1 e;
      owner = ap (is_first m.0) pair.back.1 ∙ before_if_not_after m.0 n h pair.other;
      rooted = pair.rooted;
    }

first_of_two : (n m : Name) (b : Bool) → (cond {A = PatchName} b (record { first = n; second = Some m }) (record { first = m; second = Some n })).first ≡ cond b n m
first_of_two n m true = refl
first_of_two n m false = refl

pub owner_is : (mesh : Shape) (x : Across) → PartnersPair → PartnersShare → Tells mesh x → (n : Name) (p : Option (Name × Bool)) → n.0 < size mesh → p ≡ partner x n.0 n.1 → (patch : PatchName) → patch ≡ patch_by n p → IsOwner mesh x n patch.first
owner_is mesh x pairs shares tells n None hr e patch is =
    subst (IsOwner mesh x n) (sym (ap (λ (y : PatchName). y.first) is)) (record { shares = refl; owner = ap (is_first n) (sym e); rooted = hr })
owner_is mesh x pairs shares tells n (Some m) hr e patch is =
    subst (IsOwner mesh x n) (sym (ap (λ (y : PatchName). y.first) is ∙ first_of_two n m.0 (is_lt (name_cmp n m.0))))
    (owner_of_two mesh x pairs shares tells n m hr (sym e) (is_lt (name_cmp n m.0)) refl)
