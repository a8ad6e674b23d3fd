-- Names at and below the leaves of a forest: each is below exactly one.
use Rattle.std.proofs.Common.{◌≡◌, ◌⊎◌, ℕ, zero, suc, ◌<◌, ◌≤◌, Bool, refl, sym, ap, subst, ◌∙◌, List, [], ◌∷◌, ◌++◌, length, arith, true≢false, inl, inr, ⊎_elim}
use Rattle.std.specs.Prelude.{slice_index_or}
use Rattle.std.specs.FinSet.{contains}
use Rattle.std.specs.List.Sorted.{IsStrictlySortedBy}
use Rattle.std.specs.Ordering.{is_eq}
use Rattle.std.specs.declared.cmp.Ordering.TheVariants.{Less}
use Rattle.std.proofs.lemmas.Bool.{cases_lt, cases_eq}
use Rattle.std.proofs.lemmas.Map.Keys.{sorted_tail}
use Rattle.std.proofs.lemmas.Map.Views.{All-after_first}
use Rattle.mesh_names.specs.Names.{Name, name_cmp}
use Rattle.mesh_names.specs.Triangles.{Shape, size}
use Rattle.mesh_names.specs.Forests.{Names, Has, IsForest, IsLeaf, IsListOf}
use Rattle.mesh_names.specs.Leaves.{leaves}
use Rattle.mesh_names.proofs.Leaving.{leaves_are}
use Rattle.mesh_names.proofs.Sets.{In, has-in, in-has, item-in, is_or_not, both_sides, same-tied}
use Rattle.written_meshes.specs.Renaming.{leaf_at, renamed}

-- ---- lists in order
pub sorted_pair : (ks : List Name) → IsStrictlySortedBy name_cmp ks → (i j : ℕ) (d : Name) → i < j → j < length ks → name_cmp (slice_index_or ks i d) (slice_index_or ks j d) ≡ Less
sorted_pair [] h i j d l inside = absurd (omega (arith, inside))
sorted_pair (k ∷ ks) h i zero d l inside = absurd (omega (arith, l))
sorted_pair (k ∷ ks) h zero (suc j) d l inside = All-after_first name_cmp k ks h j d (omega (arith, inside))
sorted_pair (k ∷ ks) h (suc i) (suc j) d l inside = sorted_pair ks (sorted_tail name_cmp k ks h) i j d (omega (arith, l)) (omega (arith, inside))

pub never_before_itself : (n : Name) → name_cmp n n ≡ Less → ⊥
never_before_itself n h = true≢false (sym (same-tied n n refl) ∙ ap is_eq h)

-- two places of a list in order that have one name are one
one_place : (ks : List Name) → IsStrictlySortedBy name_cmp ks → (i j : ℕ) (d : Name) → i < length ks → j < length ks → slice_index_or ks i d ≡ slice_index_or ks j d → i ≡ j
one_place ks h i j d hi hj e = ⊎_elim
    (λ (x : i < j). absurd (never_before_itself (slice_index_or ks j d) (subst (λ (n : Name). name_cmp n (slice_index_or ks j d) ≡ Less) e (sorted_pair ks h i j d x hj))))
    (λ (x : j ≤ i). ⊎_elim (λ y. y) (λ (y : i ≡ j → ⊥). absurd (never_before_itself (slice_index_or ks j d) (subst (λ (n : Name). name_cmp (slice_index_or ks j d) n ≡ Less) e (sorted_pair ks h j i d (omega (arith, x, y)) hi)))) (cases_eq i j))
    (cases_lt i j)

place-in : (q : Name) (ks : List Name) (d : Name) → In q ks → (i : ℕ) × (i < length ks) × (slice_index_or ks i d ≡ q)
place-in q [] d h = absurd h
place-in q (k ∷ ks) d h = ⊎_elim
    (λ (e : q ≡ k). (zero, omega arith, sym e))
    (λ (i : In q ks). let r = place-in q ks d i in (suc r.0, omega (arith, r.1), r.2))
    h

tails : {a b : Bool} {v w : List Bool} → a ∷ v ≡ b ∷ w → v ≡ w
tails e = cc

heads : {a b : Bool} {v w : List Bool} → a ∷ v ≡ b ∷ w → a ≡ b
heads e = cc

module _ (mesh : Shape) (members : Names) (forest : IsForest mesh members) where
  -- what is above a member is one
  pub up : (r : ℕ) (u w : List Bool) → Has members (r, u ++ w) → Has members (r, w)
  up r [] w h = h
  up r (b ∷ u) w h = up r u w (forest.closed r b (u ++ w) h)

  -- a name is below one leaf
  pub one_leaf : (r : ℕ) (u v w z : List Bool) → u ++ w ≡ v ++ z → IsLeaf mesh members (r, w) → IsLeaf mesh members (r, z) → (u ≡ v) × (w ≡ z)
  one_leaf r [] [] w z e a b = (refl, e)
  one_leaf r [] (c ∷ v) w z e a b = absurd (both_sides (contains members (r, z)) (up r v z (a.born c (v ++ z) e)) b.unsplit)
  one_leaf r (c ∷ u) [] w z e a b = absurd (both_sides (contains members (r, w)) (up r u w (b.born c (u ++ w) (sym e))) a.unsplit)
  one_leaf r (c ∷ u) (d ∷ v) w z e a b = let rest = one_leaf r u v w z (tails e) a b in ((λ i. heads e i ∷ rest.0 i), rest.1)

  module _ (list : List Name) (is_list : IsListOf (leaves mesh members) list) where
    pub leaf : (i : ℕ) → i < length list → IsLeaf mesh members (leaf_at list i)
    leaf i h = (leaves_are mesh members forest (leaf_at list i)).0 (subst (λ (s : Names). Has s (leaf_at list i)) is_list.all (in-has (leaf_at list i) list (item-in list i (0, []) h)))

    pub each : (i : ℕ) (d : Name) → i < length list → IsLeaf mesh members (slice_index_or list i d)
    each i d h = (leaves_are mesh members forest (slice_index_or list i d)).0 (subst (λ (s : Names). Has s (slice_index_or list i d)) is_list.all (in-has (slice_index_or list i d) list (item-in list i d h)))

    pub number : (n : Name) → IsLeaf mesh members n → (i : ℕ) × (i < length list) × (leaf_at list i ≡ n)
    number n l = place-in n list (0, []) (has-in n list (subst (λ (s : Names). Has s n) (sym is_list.all) ((leaves_are mesh members forest n).1 l)))

    -- no name at or below a leaf is a member
    pub below : (n : Name) → n.0 < length list → Has members (renamed list n) → ⊥
    below n h has = let l = leaf n.0 h in both_sides (contains members (leaf_at list n.0)) (up (leaf_at list n.0).0 n.1 (leaf_at list n.0).1 has) l.unsplit

    pub one : (m n : Name) → m.0 < length list → n.0 < length list → renamed list m ≡ renamed list n → m ≡ n
    one m n hm hn e =
        let a = leaf_at list m.0 in
        let b = leaf_at list n.0 in
        let roots : a.0 ≡ b.0 = ap (λ (q : Name). q.0) e in
        let words : m.1 ++ a.1 ≡ n.1 ++ b.1 = ap (λ (q : Name). q.1) e in
        let lb : IsLeaf mesh members (a.0, b.1) = subst (λ (r : ℕ). IsLeaf mesh members (r, b.1)) (sym roots) (leaf n.0 hn) in
        let both = one_leaf a.0 m.1 n.1 a.1 b.1 words (leaf m.0 hm) lb in
        let place : m.0 ≡ n.0 = one_place list is_list.in_order m.0 n.0 (0, []) hm hn (λ i. (roots i, both.1 i)) in
        λ i. (place i, both.0 i)

    abbrev Below : ℕ → List Bool → Type 0
    Below r w = Has members (r, w) ⊎ ((m : Name) × (m.0 < length list) × (renamed list m ≡ (r, w)))

    found : (n : Name) → IsLeaf mesh members n → (m : Name) × (m.0 < length list) × (renamed list m ≡ n)
    found n l = let k = number n l in ((k.0, []), k.1, k.2)

    at_leaf : (r : ℕ) (w : List Bool) → r < size mesh → ((b : Bool) (u : List Bool) → w ≡ b ∷ u → Has members (r, u)) → Below r w
    at_leaf r w h born = ⊎_elim (λ has. inl has) (λ out. inr (found (r, w) (record { rooted = h; unsplit = out; born = born }))) (is_or_not (contains members (r, w)))

    step : (r : ℕ) (b : Bool) (w : List Bool) → r < size mesh → Below r w → Below r (b ∷ w)
    step r b w h s = ⊎_elim
        (λ has. at_leaf r (b ∷ w) h (λ c u e. subst (λ (v : List Bool). Has members (r, v)) (tails e) has))
        (λ (m : (m : Name) × (m.0 < length list) × (renamed list m ≡ (r, w))). inr ((m.0.0, b ∷ m.0.1), m.1, (λ i. ((m.2 i).0, b ∷ (m.2 i).1))))
        s

    -- each name of the mesh is a member, or at or below a leaf
    pub all : (r : ℕ) (w : List Bool) → r < size mesh → Has members (r, w) ⊎ ((m : Name) × (m.0 < length list) × (renamed list m ≡ (r, w)))
    all r [] h = at_leaf r [] h (λ b u e. absurd (cc))
    all r (b ∷ w) h = step r b w h (all r w h)
