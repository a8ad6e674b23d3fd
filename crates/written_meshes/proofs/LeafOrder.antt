-- Names below leaves stand in the order of the leaves' numbers and of the rests of their words.
use Rattle.std.proofs.Common.{◌≡◌, ℕ, ◌<◌, ◌≤◌, Bool, true, false, refl, sym, ap, subst, ◌∙◌, List, [], ◌∷◌, ◌++◌, length, reverse, arith, ⊎_elim, nat_cmp}
use Rattle.std.proofs.lemmas.Bool.{cases_lt, cases_eq}
use Rattle.std.proofs.lemmas.List.{reverse-append, reverse-reverse}
use Rattle.std.specs.Cmp.{nat_cmp_is}
use Rattle.std.specs.Cmp.Lexicographic.{slice_cmp}
use Rattle.std.specs.FinSet.{nat_cmp-IsAntisymmetric}
use Rattle.std.specs.Ordering.{bool_cmp, ordering_then, ordering_reverse}
use Rattle.std.specs.declared.cmp.Ordering.{Ordering}
use Rattle.std.specs.declared.cmp.Ordering.TheVariants.{Less, Equal, Greater}
use Rattle.mesh_names.specs.Names.{Name, name_cmp}
use Rattle.mesh_names.specs.Order.{name_cmp_total}
use Rattle.mesh_names.specs.Triangles.{Shape}
use Rattle.mesh_names.specs.Forests.{Names, IsForest, IsLeaf, IsListOf}
use Rattle.mesh_names.specs.Leaves.{leaves}
use Rattle.written_meshes.specs.Renaming.{leaf_at, renamed}
use Rattle.written_meshes.proofs.LeafNames.{leaf, one_leaf, sorted_pair, never_before_itself}

-- ---- words
words_after : (p a b : List Bool) → slice_cmp bool_cmp (p ++ a) (p ++ b) ≡ slice_cmp bool_cmp a b
words_after [] a b = refl
words_after (false ∷ p) a b = words_after p a b
words_after (true ∷ p) a b = words_after p a b

-- a word that comes before another, and does not begin it, comes before it whatever follows
before_after : (p q a b : List Bool) → slice_cmp bool_cmp p q ≡ Less → ((c : List Bool) → q ≡ p ++ c → ⊥) → slice_cmp bool_cmp (p ++ a) (q ++ b) ≡ Less
before_after [] q a b e n = absurd (n q refl)
before_after (x ∷ p) [] a b e n = absurd (cc)
before_after (false ∷ p) (false ∷ q) a b e n = before_after p q a b e (λ c f. n c (ap (λ (l : List Bool). false ∷ l) f))
before_after (false ∷ p) (true ∷ q) a b e n = refl
before_after (true ∷ p) (false ∷ q) a b e n = absurd (cc)
before_after (true ∷ p) (true ∷ q) a b e n = before_after p q a b e (λ c f. n c (ap (λ (l : List Bool). true ∷ l) f))

module _ (mesh : Shape) (members : Names) (forest : IsForest mesh members) where
  -- names below two leaves stand as the leaves do
  before_leaf : (l k : Name) (u v : List Bool) → IsLeaf mesh members l → IsLeaf mesh members k → name_cmp l k ≡ Less → name_cmp (l.0, u ++ l.1) (k.0, v ++ k.1) ≡ Less
  before_leaf l k u v is_l is_k h = by (nat_cmp l.0 k.0) refl h
    where
      by : (o : Ordering) → nat_cmp l.0 k.0 ≡ o → ordering_then o (slice_cmp bool_cmp (reverse l.1) (reverse k.1)) ≡ Less → ordering_then (nat_cmp l.0 k.0) (slice_cmp bool_cmp (reverse (u ++ l.1)) (reverse (v ++ k.1))) ≡ Less
      by Less e g = ap (λ (o : Ordering). ordering_then o (slice_cmp bool_cmp (reverse (u ++ l.1)) (reverse (v ++ k.1)))) e
      by Greater e g = absurd (cc)
      by Equal e g =
          let roots : l.0 ≡ k.0 = nat_cmp-IsAntisymmetric l.0 k.0 e in
          (λ i. ordering_then (e i) (slice_cmp bool_cmp (reverse-append u l.1 i) (reverse-append v k.1 i)))
          ∙ before_after (reverse l.1) (reverse k.1) (reverse u) (reverse v) g
          (λ c f.
          let back : k.1 ≡ reverse c ++ l.1 = sym (reverse-reverse k.1) ∙ ap reverse f ∙ reverse-append (reverse l.1) c ∙ (λ i. reverse c ++ reverse-reverse l.1 i) in
          let same : k.1 ≡ l.1 = (one_leaf mesh members forest l.0 [] (reverse c) k.1 l.1 back (subst (λ (r : ℕ). IsLeaf mesh members (r, k.1)) (sym roots) is_k) is_l).1 in
          never_before_itself k (subst (λ (n : Name). name_cmp n k ≡ Less) (λ i. (roots i, sym same i)) h))

  module _ (list : List Name) (is_list : IsListOf (leaves mesh members) list) where
    below_before : (m n : Name) → m.0 < length list → n.0 < length list → m.0 < n.0 → name_cmp (renamed list m) (renamed list n) ≡ Less
    below_before m n hm hn h = before_leaf (leaf_at list m.0) (leaf_at list n.0) m.1 n.1 (leaf mesh members forest list is_list m.0 hm) (leaf mesh members forest list is_list n.0 hn) (sorted_pair list is_list.in_order m.0 n.0 (0, []) h hn)

    abbrev Ranked : Name → Name → Type 0
    Ranked m n = name_cmp (renamed list m) (renamed list n) ≡ name_cmp m n

    lower : (m n : Name) → m.0 < length list → n.0 < length list → m.0 < n.0 → Ranked m n
    lower m n hm hn h = below_before m n hm hn h ∙ (λ i. ordering_then (nat_cmp_is m.0 n.0 Less h i) (slice_cmp bool_cmp (reverse m.1) (reverse n.1)))

    higher : (m n : Name) → m.0 < length list → n.0 < length list → n.0 < m.0 → Ranked m n
    higher m n hm hn h =
        name_cmp_total.antisymm (renamed list m) (renamed list n) ∙ ap ordering_reverse (below_before n m hn hm h)
        ∙ (λ i. ordering_then (nat_cmp_is m.0 n.0 Greater h i) (slice_cmp bool_cmp (reverse m.1) (reverse n.1)))

    beside : (m n : Name) → m.0 ≡ n.0 → Ranked m n
    beside m n e =
        let l = leaf_at list m.0 in
        let k = leaf_at list n.0 in
        let same : l ≡ k = ap (leaf_at list) e in
        let roots : l.0 ≡ k.0 = ap (λ (q : Name). q.0) same in
        (λ i. ordering_then (sym (nat_cmp_is l.0 k.0 Equal roots) i) (slice_cmp bool_cmp (reverse-append m.1 l.1 i) (reverse-append n.1 k.1 i)))
        ∙ (λ i. slice_cmp bool_cmp (reverse (same i).1 ++ reverse m.1) (reverse k.1 ++ reverse n.1))
        ∙ words_after (reverse k.1) (reverse m.1) (reverse n.1)
        ∙ (λ i. ordering_then (nat_cmp_is m.0 n.0 Equal e i) (slice_cmp bool_cmp (reverse m.1) (reverse n.1)))

    -- the names stand as what they stand for
    pub order : (m n : Name) → m.0 < length list → n.0 < length list → Ranked m n
    order m n hm hn = ⊎_elim
        (λ (h : m.0 < n.0). lower m n hm hn h)
        (λ (h : n.0 ≤ m.0). ⊎_elim (λ (e : m.0 ≡ n.0). beside m n e) (λ (d : m.0 ≡ n.0 → ⊥). higher m n hm hn (omega (arith, h, d))) (cases_eq m.0 n.0))
        (cases_lt m.0 n.0)
