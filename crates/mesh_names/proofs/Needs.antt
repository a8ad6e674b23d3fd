-- The set of needs has the needed names, and within level 24 a forest can hold them.
use Rattle.std.proofs.Common.{◌≡◌, ℕ, zero, suc, ◌<◌, ◌≤◌, Bool, true, false, refl, sym, ap, ◌∙◌, subst, List, [], ◌∷◌, ◌++◌, length, arith, inl, inr, ⊎_elim, true≢false, length-append, append_assoc}
use Rattle.std.specs.FinSet.{from_list, contains-empty}
use Rattle.mesh_names.specs.Names.{Name, name_cmp}
use Rattle.mesh_names.specs.Triangles.{Shape, size, level}
use Rattle.mesh_names.specs.Forests.{Has}
use Rattle.mesh_names.specs.LeastForest.{Work, IsAsked, names_below, needs_of, Reaches, NeedsAre, NeedsCanBeHeld}
use Rattle.mesh_names.proofs.Sets.{In, has-in, in-has, in-append, in-first, in-second, union-either, union-left, union-right}

abbrev IsBelow : ℕ → ℕ → List Bool → Name → Type 0
IsBelow k r w n = (u : List Bool) × (length u < k) × (n ≡ (r, u ++ w))

-- a letter more in front of the word below
longer : (k r : ℕ) (b : Bool) (w : List Bool) (n : Name) → IsBelow k r (b ∷ w) n → IsBelow (suc k) r w n
longer k r b w n h = (h.0 ++ b ∷ [], omega (arith, h.1, length-append h.0 (b ∷ [])), h.2 ∙ (λ i. (r, sym (append_assoc h.0 (b ∷ []) w) i)))

below-in : (k r : ℕ) (w : List Bool) (n : Name) → In n (names_below k r w) → IsBelow k r w n
unfolding names_below
below-in zero r w n h = absurd h
below-in (suc k) r w n h = ⊎_elim
    (λ (e : n ≡ (r, w)). ([], omega arith, e))
    (λ (i : In n (names_below k r (false ∷ w) ++ names_below k r (true ∷ w))). ⊎_elim
    (λ a. longer k r false w n (below-in k r (false ∷ w) n a))
    (λ a. longer k r true w n (below-in k r (true ∷ w) n a))
    (in-append n (names_below k r (false ∷ w)) (names_below k r (true ∷ w)) i))
    h

-- the letter that is last in the list
last_of : (b : Bool) (u : List Bool) → (v : List Bool) × (c : Bool) × (b ∷ u ≡ v ++ c ∷ [])
last_of b [] = ([], b, refl)
last_of b (a ∷ u) = let s = last_of a u in (b ∷ s.0, s.1, ap (λ (y : List Bool). b ∷ y) s.2)

in-below : (k r : ℕ) (w u : List Bool) → length u < k → In (r, u ++ w) (names_below k r w)
unfolding names_below
in-below zero r w u h = absurd (omega arith)
in-below (suc k) r w [] h = inl refl
in-below (suc k) r w (b ∷ u) h =
    let s = last_of b u in
    let short : length s.0 < k = omega (arith, h, ap (λ (y : List Bool). length y) s.2, length-append s.0 (s.1 ∷ [])) in
    let same : b ∷ (u ++ w) ≡ s.0 ++ s.1 ∷ w = ap (λ (y : List Bool). y ++ w) s.2 ∙ append_assoc s.0 (s.1 ∷ []) w in
    inr (subst (λ (y : List Bool). In (r, y) (names_below k r (false ∷ w) ++ names_below k r (true ∷ w))) (sym same) (side (in-below k r (false ∷ w)) (in-below k r (true ∷ w)) s.1 s.0 short))
  where
    side : ((v : List Bool) → length v < k → In (r, v ++ false ∷ w) (names_below k r (false ∷ w))) → ((v : List Bool) → length v < k → In (r, v ++ true ∷ w) (names_below k r (true ∷ w))) →
        (c : Bool) (v : List Bool) → length v < k → In (r, v ++ c ∷ w) (names_below k r (false ∷ w) ++ names_below k r (true ∷ w))
    side f t false v h = in-first (r, v ++ false ∷ w) (names_below k r (false ∷ w)) (names_below k r (true ∷ w)) (f v h)
    side f t true v h = in-second (r, v ++ true ∷ w) (names_below k r (false ∷ w)) (names_below k r (true ∷ w)) (t v h)

need-is : (work : Work) (n : Name) → Has (needs_of work) n → IsAsked work n
need-is [] n h = true≢false (sym h ∙ contains-empty name_cmp n)
need-is (a ∷ work) n h = ⊎_elim
    (λ k. inl (below-in a.1 a.0.0 a.0.1 n (has-in n (names_below a.1 a.0.0 a.0.1) k)))
    (λ k. inr (need-is work n k))
    (union-either (from_list (names_below a.1 a.0.0 a.0.1)) (needs_of work) n h)

is-need : (work : Work) (n : Name) → IsAsked work n → Has (needs_of work) n
is-need [] n h = absurd h
is-need (a ∷ work) n h = ⊎_elim
    (λ (k : (u : List Bool) × (length u < a.1) × (n ≡ (a.0.0, u ++ a.0.1))).
    union-left (from_list (names_below a.1 a.0.0 a.0.1)) (needs_of work) n (in-has n (names_below a.1 a.0.0 a.0.1) (subst (λ (y : Name). In y (names_below a.1 a.0.0 a.0.1)) (sym k.2) (in-below a.1 a.0.0 a.0.1 k.0 k.1))))
    (λ (k : IsAsked work n). union-right (from_list (names_below a.1 a.0.0 a.0.1)) (needs_of work) n (is-need work n k))
    h

pub needs_are : NeedsAre
needs_are work n = (need-is work n, is-need work n)

need-low : (mesh : Shape) (work : Work) → Reaches mesh work → (n : Name) → IsAsked work n → (n.0 < size mesh) × (level mesh n ≤ 23)
need-low mesh [] reaches n h = absurd h
need-low mesh (a ∷ work) reaches n h = ⊎_elim
    (λ (k : (u : List Bool) × (length u < a.1) × (n ≡ (a.0.0, u ++ a.0.1))).
    let low : level mesh (a.0.0, k.0 ++ a.0.1) ≤ 23 = omega (arith, reaches.1, k.1, length-append k.0 a.0.1) in
    subst (λ (y : Name). (y.0 < size mesh) × (level mesh y ≤ 23)) (sym k.2) (reaches.0, low))
    (λ (k : IsAsked work n). need-low mesh work reaches.2 n k)
    h

pub needs_can_be_held : NeedsCanBeHeld
needs_can_be_held mesh work reaches = record {
  rooted = λ n h. (need-low mesh work reaches n (need-is work n h)).0;
  shallow = λ n h. (need-low mesh work reaches n (need-is work n h)).1;
}
