-- The order of names along a tree: an element comes before all below it, and what is below child 0 before what is below child 1.
use Rattle.std.proofs.Common.{◌≡◌, ℕ, ◌<◌, Bool, true, false, refl, sym, ap, ◌∙◌, List, [], ◌∷◌, ◌++◌, reverse, append_assoc}
use Rattle.std.proofs.lemmas.List.{reverse-append, reverse-reverse}
use Rattle.std.specs.Cmp.{tied_itself, nat_cmp_is, nat_cmp_total}
use Rattle.std.specs.Cmp.Lexicographic.{slice_cmp}
use Rattle.std.specs.Ordering.{nat_cmp, bool_cmp, ordering_then}
use Rattle.std.specs.declared.cmp.Ordering.{Ordering}
use Rattle.std.specs.declared.cmp.Ordering.TheVariants.{Less, Equal}
use Rattle.mesh_names.specs.Names.{Name, name_cmp}
use Rattle.mesh_names.specs.Order.{name_cmp_total}

-- down from a name by letters, the first letter first
abbrev pub down : List Bool → Name → Name
down [] n = n
down (c ∷ p) n = down p (n.0, c ∷ n.1)

pub root-down : (p : List Bool) (n : Name) → (down p n).0 ≡ n.0
root-down [] n = refl
root-down (c ∷ p) n = root-down p (n.0, c ∷ n.1)

-- the letters of a name below another, the first letter first
pub reverse-down : (p : List Bool) (n : Name) → reverse (down p n).1 ≡ reverse n.1 ++ p
reverse-down [] n = sym (append-nil (reverse n.1))
  where
    append-nil : (l : List Bool) → l ++ [] ≡ l
    append-nil [] = refl
    append-nil (x ∷ l) = ap (λ (t : List Bool). x ∷ t) (append-nil l)
reverse-down (c ∷ p) n = reverse-down p (n.0, c ∷ n.1) ∙ ap (λ (l : List Bool). l ++ p) (reverse-append (c ∷ []) n.1) ∙ append_assoc (reverse n.1) (c ∷ []) p

-- each name is below its macro element
pub from_top : (n : Name) → n ≡ down (reverse n.1) (n.0, [])
from_top n =
    let e : reverse (down (reverse n.1) (n.0, [])).1 ≡ reverse n.1 = reverse-down (reverse n.1) (n.0, []) in
    let w : (down (reverse n.1) (n.0, [])).1 ≡ n.1 = sym (reverse-reverse (down (reverse n.1) (n.0, [])).1) ∙ ap reverse e ∙ reverse-reverse n.1 in
    λ i. (sym (root-down (reverse n.1) (n.0, [])) i, sym w i)

-- one step further down
pub down-last : (p : List Bool) (c : Bool) (n : Name) → down (p ++ c ∷ []) n ≡ ((down p n).0, c ∷ (down p n).1)
down-last [] c n = refl
down-last (b ∷ p) c n = down-last p c (n.0, b ∷ n.1)

same_bit : (b : Bool) (o : Ordering) → ordering_then (bool_cmp b b) o ≡ o
same_bit true o = refl
same_bit false o = refl

-- a word comes before each longer one that begins with it
prefix_less : (p s : List Bool) (c : Bool) → slice_cmp bool_cmp p (p ++ c ∷ s) ≡ Less
prefix_less [] s c = refl
prefix_less (b ∷ p) s c = same_bit b (slice_cmp bool_cmp p (p ++ c ∷ s)) ∙ prefix_less p s c

sides_less : (p s t : List Bool) → slice_cmp bool_cmp (p ++ false ∷ s) (p ++ true ∷ t) ≡ Less
sides_less [] s t = refl
sides_less (b ∷ p) s t = same_bit b (slice_cmp bool_cmp (p ++ false ∷ s) (p ++ true ∷ t)) ∙ sides_less p s t

one_root : (m n : Name) → m.0 ≡ n.0 → slice_cmp bool_cmp (reverse m.1) (reverse n.1) ≡ Less → name_cmp m n ≡ Less
one_root m n e h = ap (λ (o : Ordering). ordering_then o (slice_cmp bool_cmp (reverse m.1) (reverse n.1))) (ap (λ (r : ℕ). nat_cmp m.0 r) (sym e) ∙ tied_itself nat_cmp_total m.0) ∙ h

-- an element comes before all that is below it
pub below_after : (c : Bool) (p : List Bool) (n : Name) → name_cmp n (down (c ∷ p) n) ≡ Less
below_after c p n = one_root n (down (c ∷ p) n) (sym (root-down (c ∷ p) n))
    (ap (λ (l : List Bool). slice_cmp bool_cmp (reverse n.1) l) (reverse-down (c ∷ p) n) ∙ prefix_less (reverse n.1) p c)

-- what is at or below child 0 comes before what is at or below child 1
pub sides_in_order : (p s : List Bool) (n : Name) → name_cmp (down (false ∷ p) n) (down (true ∷ s) n) ≡ Less
sides_in_order p s n = one_root (down (false ∷ p) n) (down (true ∷ s) n) (root-down (false ∷ p) n ∙ sym (root-down (true ∷ s) n))
    ((λ i. slice_cmp bool_cmp (reverse-down (false ∷ p) n i) (reverse-down (true ∷ s) n i)) ∙ sides_less (reverse n.1) p s)

-- lesser roots come first
pub roots_in_order : (m n : Name) → m.0 < n.0 → name_cmp m n ≡ Less
roots_in_order m n h = ap (λ (o : Ordering). ordering_then o (slice_cmp bool_cmp (reverse m.1) (reverse n.1))) (sym (nat_cmp_is m.0 n.0 Less h))

apart : Less ≡ Equal → ⊥
apart e = cc

-- no name comes before itself
pub not_before : (n : Name) → name_cmp n n ≡ Less → ⊥
not_before n e = apart (sym e ∙ tied_itself name_cmp_total n)
