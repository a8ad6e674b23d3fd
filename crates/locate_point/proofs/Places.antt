-- The first place of a list of leaves whose triangle contains a point.
use Rattle.std.proofs.Common.{◌≡◌, ℕ, ◌+◌, ◌<◌, ◌≤◌, List, length, refl, sym, ap, subst, ◌∙◌, arith, ⊎_elim, get_or}
use Rattle.std.specs.Cmp.{tied_itself}
use Rattle.std.specs.Prelude.{Some, None}
use Rattle.std.specs.declared.cmp.Ordering.TheVariants.{Less, Equal, Greater}
use Rattle.std.proofs.lemmas.Bool.{cases_lt}
use Rattle.std.proofs.lemmas.Map.Keys.{Less-from_sorted}
use Rattle.std.proofs.lemmas.List.{get_or_default}
use Rattle.mesh_names.specs.Names.{Name, name_cmp}
use Rattle.mesh_names.specs.Order.{name_cmp_total, name_cmp-same}
use Rattle.std.specs.Ordering.{ordering_reverse}
use Rattle.std.specs.declared.cmp.Ordering.{Ordering}
use Rattle.mesh_names.specs.Forests.{Names}
use Rattle.compat_check.specs.Meshes.{Mesh}
use Rattle.compat_check.specs.Points.{Point}
use Rattle.locate_point.specs.Covering.{IsAround}
use Rattle.locate_point.specs.Locating.{AreLeavesOf, IsAtMost, IsPlace, PlacesAreOne}

not_greater : (n m : Name) → name_cmp n m ≡ Less → IsAtMost n m
not_greater n m e g = absurd (cc)

itself : (n m : Name) → n ≡ m → IsAtMost n m
itself n m e g = let t : name_cmp n n ≡ Equal = tied_itself name_cmp_total n in let f : name_cmp n m ≡ Equal = sym (ap (name_cmp n) e) ∙ t in absurd (cc)

-- names of a list in order
pub in_order : (mesh : Mesh) (members : Names) (list : List Name) → AreLeavesOf mesh members list → (i j : ℕ) (n m : Name) → i ≤ j → j < length list → get_or list i n ≡ n → get_or list j m ≡ m → IsAtMost n m
in_order mesh members list are i j n m le inside at there = ⊎_elim
    (λ (less : i < j). not_greater n m (sym (λ k. name_cmp (at k) ((get_or_default list j n m inside ∙ there) k)) ∙ Less-from_sorted name_cmp list i j n are.listed.in_order less inside))
    (λ (more : j ≤ i). let same : i ≡ j = omega (arith, le, more) in itself n m (sym at ∙ ap (λ k. get_or list k n) same ∙ get_or_default list j n m inside ∙ there))
    (cases_lt i j)

pub first_place : (mesh : Mesh) (list : List Name) (p : Point) (members : Names) → AreLeavesOf mesh members list → (i : ℕ) (n : Name) → i < length list → get_or list i n ≡ n → IsAround mesh p n → ((k : ℕ) (d : Name) → k < i → IsAround mesh p (get_or list k d) → ⊥) → IsPlace mesh list p (Some n)
first_place mesh list p members are i n inside at around before = (
  (i, inside, at),
  around,
  λ m there h. ⊎_elim (λ (less : there.0 < i). absurd (before there.0 m less (subst (IsAround mesh p) (sym there.2) h))) (λ (more : i ≤ there.0). in_order mesh members list are i there.0 n m more there.1 at there.2) (cases_lt there.0 i),
)

pub more_before : (mesh : Mesh) (list : List Name) (p : Point) (i : ℕ) (n : Name) → i < length list → get_or list i n ≡ n → (IsAround mesh p n → ⊥) → ((k : ℕ) (d : Name) → k < i → IsAround mesh p (get_or list k d) → ⊥) → (k : ℕ) (d : Name) → k < i + 1 → IsAround mesh p (get_or list k d) → ⊥
more_before mesh list p i n inside at none before k d less = ⊎_elim (λ (early : k < i). before k d early)
    (λ (late : i ≤ k). let same : k ≡ i = omega (arith, less, late) in λ h. none (subst (IsAround mesh p) (ap (λ j. get_or list j d) same ∙ get_or_default list i d n inside ∙ at) h))
    (cases_lt k i)

-- two names of which neither comes after the other
one_name : (n m : Name) → IsAtMost n m → IsAtMost m n → n ≡ m
one_name n m h k = either (name_cmp n m) refl
  where
    either : (o : Ordering) → name_cmp n m ≡ o → n ≡ m
    either Less e = absurd (k (name_cmp_total.antisymm m n ∙ ap ordering_reverse e))
    either Equal e = name_cmp-same n m e
    either Greater e = absurd (h e)

pub places_are_one : PlacesAreOne
places_are_one mesh names p None None a b = refl
places_are_one mesh names p None (Some m) a b = absurd (a m b.0 b.1)
places_are_one mesh names p (Some n) None a b = absurd (b n a.0 a.1)
places_are_one mesh names p (Some n) (Some m) a b = ap Some (one_name n m (a.2 m b.0 b.1) (b.2 n a.0 a.1))
