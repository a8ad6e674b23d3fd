-- A vertex of the mesh has one key.
use Rattle.std.proofs.Common.{◌≡◌, ℕ, ◌<◌, Bool, true, false, cond, refl, sym, ap, ◌∙◌, ⊎_elim}
use Rattle.std.specs.Prelude.{Some}
use Rattle.std.specs.Cmp.{both_ways}
use Rattle.std.specs.Ordering.{eq_by_cmp, is_lt, ordering_reverse}
use Rattle.std.specs.declared.cmp.Ordering.{Ordering}
use Rattle.std.specs.declared.cmp.Ordering.TheVariants.{Less, Equal, Greater}
use Rattle.mesh_names.specs.Names.{Name, name_cmp}
use Rattle.mesh_names.specs.Order.{name_cmp_total}
use Rattle.mesh_names.specs.Triangles.{Shape, Vertex, Corner, Mid, size, same, before, middle, triangle, midpoint}
use Rattle.mesh_names.specs.Partners.{Across, Tells, partner, PartnerIsOnly, PartnersPair}
use Rattle.mesh_names.specs.Patches.{owns, is_first}
use Rattle.mesh_names.proofs.Middles.{same_self, same-is}
use Rattle.mesh_names.proofs.Sets.{tied-same, same-tied}

-- a macro vertex is no middle
pub corner-middle : (i : ℕ) (a b : Vertex) → same (Corner i) (middle a b) ≡ false
corner-middle i a b = either (before b a)
  where
    either : (c : Bool) → same (Corner i) (cond c (Mid b a) (Mid a b)) ≡ false
    either true = refl
    either false = refl

pub middle-corner : (a b : Vertex) (i : ℕ) → same (middle a b) (Corner i) ≡ false
middle-corner a b i = either (before b a)
  where
    either : (c : Bool) → same (cond c (Mid b a) (Mid a b)) (Corner i) ≡ false
    either true = refl
    either false = refl

not_both : (r : Ordering) → is_lt r ≡ true → is_lt (ordering_reverse r) ≡ true → ⊥
not_both Less h g = absurd (cc)
not_both Equal h g = absurd (cc)
not_both Greater h g = absurd (cc)

-- of two partners only one is an owner
one_owner : (mesh : Shape) (x : Across) → PartnersPair → Tells mesh x → (n m : Name) (t : Bool) → n.0 < size mesh → partner x n.0 n.1 ≡ Some (m, t) → owns x n ≡ true → owns x m ≡ true → ⊥
one_owner mesh x pairs tells n m t low e first second =
    let back = (pairs mesh x tells n m t low e).back in
    not_both (name_cmp n m) (sym (ap (is_first n) e) ∙ first) (ap is_lt (sym (name_cmp_total.antisymm m n)) ∙ sym (ap (is_first m) back.1) ∙ second)

pub owners_are_one : (mesh : Shape) (x : Across) → PartnerIsOnly → PartnersPair → Tells mesh x → (n m : Name) → n.0 < size mesh → m.0 < size mesh → owns x n ≡ true → owns x m ≡ true → midpoint (triangle mesh n) ≡ midpoint (triangle mesh m) → n ≡ m
owners_are_one mesh x only pairs tells n m low low' first second e =
    ⊎_elim (λ (s : (n.0 ≡ m.0) × (n.1 ≡ m.1)). λ i. (s.0 i, s.1 i))
    (λ (s : (t : Bool) × (partner x n.0 n.1 ≡ Some (m, t))). absurd (one_owner mesh x pairs tells n m s.0 low s.1 first second))
    (only mesh x tells n.0 m.0 n.1 m.1 low low' e)

-- the vertices of two owners are the same exactly where the owners are
pub same-owners : (mesh : Shape) (x : Across) → PartnerIsOnly → PartnersPair → Tells mesh x → (n m : Name) → n.0 < size mesh → m.0 < size mesh → owns x n ≡ true → owns x m ≡ true → same (midpoint (triangle mesh m)) (midpoint (triangle mesh n)) ≡ eq_by_cmp name_cmp n m
same-owners mesh x only pairs tells n m low low' first second = both_ways _ _
    (λ h. same-tied n m (owners_are_one mesh x only pairs tells n m low low' first second (sym (same-is _ _ h))))
    (λ h. ap (λ (q : Name). same (midpoint (triangle mesh m)) (midpoint (triangle mesh q))) (tied-same n m h) ∙ same_self (midpoint (triangle mesh m)))
