-- Names with one refinement edge have one level.
use Rattle.std.proofs.Common.{◌≡◌, ◌⊎◌, ℕ, zero, suc, ◌+◌, ◌<◌, Bool, true, false, cond, true≢false, refl, sym, ap, ◌∙◌, subst, List, [], ◌∷◌, length, arith, inl, inr, ⊎_elim}
use Rattle.mesh_names.specs.Triangles.{Vertex, Corner, Mid, Triangle, Shape, size, level, triangle, before, middle, midpoint}
use Rattle.mesh_names.specs.Partners.{Edge, Edge0, Edge1, Edge2, Across, Tells, LevelsApart, edge_word, edge_middle}
use Rattle.mesh_names.proofs.Middles.{middle-swap}

abbrev is_mid : Vertex → Bool
is_mid (Corner i) = false
is_mid (Mid a b) = true

middle_is_mid : (a b : Vertex) → is_mid (middle a b) ≡ true
middle_is_mid a b = by (before b a)
  where
    by : (p : Bool) → is_mid (cond p (Mid b a) (Mid a b)) ≡ true
    by true = refl
    by false = refl

-- equal middles have equal pairs
pub middle-same : (a b c d : Vertex) → middle a b ≡ middle c d → ((a ≡ c) × (b ≡ d)) ⊎ ((a ≡ d) × (b ≡ c))
middle-same a b c d e = by (before b a) (before d c) e
  where
    by : (p q : Bool) → cond p (Mid b a) (Mid a b) ≡ cond q (Mid d c) (Mid c d) → ((a ≡ c) × (b ≡ d)) ⊎ ((a ≡ d) × (b ≡ c))
    by false false e = let x : a ≡ c = cc in let y : b ≡ d = cc in inl (x, y)
    by true true e = let x : a ≡ c = cc in let y : b ≡ d = cc in inl (x, y)
    by false true e = let x : a ≡ d = cc in let y : b ≡ c = cc in inr (x, y)
    by true false e = let x : a ≡ d = cc in let y : b ≡ c = cc in inr (x, y)

module _ (mesh : Shape) where
  mid_of : ℕ → List Bool → Vertex
  mid_of r w = midpoint (triangle mesh (r, w))

  -- a corner is a macro vertex, or the middle of a strict ancestor
  abbrev pub From : ℕ → List Bool → Vertex → Type 0
  From r w v = ((i : ℕ) × (v ≡ Corner i)) ⊎ ((u : List Bool) × (length u < length w) × (v ≡ midpoint (triangle mesh (r, u))))

  higher : (r : ℕ) (b : Bool) (w : List Bool) (v : Vertex) → From r w v → From r (b ∷ w) v
  higher r b w v f = ⊎_elim (λ t. inl t) (λ (t : (u : List Bool) × (length u < length w) × (v ≡ midpoint (triangle mesh (r, u)))). inr (t.0, omega (arith, t.1), t.2)) f

  abbrev AllFrom : ℕ → List Bool → Triangle → Type 0
  AllFrom r w t = From r w t.0 × From r w t.1 × From r w t.2

  pub corners-from : (r : ℕ) (w : List Bool) → AllFrom r w (triangle mesh (r, w))
  corners-from r [] = (inl (_, refl), inl (_, refl), inl (_, refl))
  corners-from r (false ∷ w) = let f = corners-from r w in (higher r false w _ f.2, higher r false w _ f.0, inr (w, omega arith, refl))
  corners-from r (true ∷ w) = let f = corners-from r w in (higher r true w _ f.1, higher r true w _ f.2, inr (w, omega arith, refl))

  -- two levels up lies one end of the edge
  abbrev Ends : ℕ → List Bool → Vertex → Type 0
  Ends r w m = (x : Vertex) × From r w x × (m ≡ middle x (midpoint (triangle mesh (r, w))))

  ends : (r : ℕ) (c a : Bool) (w : List Bool) → Ends r w (midpoint (triangle mesh (r, c ∷ a ∷ w)))
  ends r false false w = let t = triangle mesh (r, w) in (t.2, (corners-from r w).2, middle-swap (midpoint t) t.2)
  ends r true false w = let t = triangle mesh (r, w) in (t.0, (corners-from r w).0, refl)
  ends r false true w = let t = triangle mesh (r, w) in (t.1, (corners-from r w).1, middle-swap (midpoint t) t.1)
  ends r true true w = let t = triangle mesh (r, w) in (t.2, (corners-from r w).2, refl)

  abbrev Low : Vertex → Type 0
  Low m = (i : ℕ) × (j : ℕ) × (m ≡ middle (Corner i) (Corner j))

  low : (r : ℕ) (e : Edge) → Low (edge_middle mesh r e)
  low r Edge0 = (_, _, refl)
  low r Edge1 = (_, _, refl)
  low r Edge2 = (_, _, refl)

  pub not_mid : (i : ℕ) (a b : Vertex) → Corner i ≡ middle a b → ⊥
  not_mid i a b e = true≢false (sym (middle_is_mid a b) ∙ sym (ap is_mid e))

  -- a low name and a high one share no edge
  low_high : (m n : Vertex) (r : ℕ) (w : List Bool) → Low m → Ends r w n → m ≡ n → ⊥
  low_high m n r w l h e =
      let t = triangle mesh (r, w) in
      ⊎_elim (λ p. not_mid l.1 t.0 t.1 p.1) (λ p. not_mid l.0 t.0 t.1 p.0)
      (middle-same (Corner l.0) (Corner l.1) h.0 (midpoint t) (sym l.2 ∙ e ∙ h.2))

  -- each pair's older end is the other's middle: then each level would be below the other
  pub crossed : (k : ℕ) (r s : ℕ) (v w : List Bool) → length v + length w < k → ((a b : List Bool) → length a + length b < k → midpoint (triangle mesh (r, a)) ≡ midpoint (triangle mesh (s, b)) → level mesh (r, a) ≡ level mesh (s, b)) →
      (x y : Vertex) → From r v x → From s w y → x ≡ midpoint (triangle mesh (s, w)) → midpoint (triangle mesh (r, v)) ≡ y → ⊥
  crossed k r s v w h ih x y f g p q =
      let below_v : level mesh (s, w) < level mesh (r, v) = ⊎_elim
      (λ (t : (i : ℕ) × (x ≡ Corner i)). absurd (not_mid t.0 (triangle mesh (s, w)).0 (triangle mesh (s, w)).1 (sym t.1 ∙ p)))
      (λ (t : (u : List Bool) × (length u < length v) × (x ≡ midpoint (triangle mesh (r, u)))). let same : level mesh (r, t.0) ≡ level mesh (s, w) = ih t.0 w (omega (arith, t.1)) (sym t.2 ∙ p) in omega (arith, t.1))
      f in
      let below_w : level mesh (r, v) < level mesh (s, w) = ⊎_elim
      (λ (t : (i : ℕ) × (y ≡ Corner i)). absurd (not_mid t.0 (triangle mesh (r, v)).0 (triangle mesh (r, v)).1 (sym t.1 ∙ sym q)))
      (λ (t : (u : List Bool) × (length u < length w) × (y ≡ midpoint (triangle mesh (s, u)))). let same : level mesh (r, v) ≡ level mesh (s, t.0) = ih v t.0 (omega (arith, t.1)) (q ∙ t.2) in omega (arith, t.1))
      g in
      omega arith

  -- a word of at most one letter
  abbrev pub Short : List Bool → Type 0
  Short w = (e : Edge) × (edge_word e ≡ w)

  pub short_0 : Short []
  short_0 = (Edge2, refl)

  pub short_1 : (c : Bool) → Short (c ∷ [])
  short_1 true = (Edge0, refl)
  short_1 false = (Edge1, refl)

  pub short_long : (r s : ℕ) (v : List Bool) (d b : Bool) (w : List Bool) → Short v → midpoint (triangle mesh (r, v)) ≡ midpoint (triangle mesh (s, d ∷ b ∷ w)) → ⊥
  short_long r s v d b w h e = low_high _ _ s w (low r h.0) (ends s d b w) ((λ i. midpoint (triangle mesh (r, h.1 i))) ∙ e)

  module _ (x : Across) (tells : Tells mesh x) where
    short_levels : (r s : ℕ) (v w : List Bool) → Short v → Short w → r < size mesh → s < size mesh → midpoint (triangle mesh (r, v)) ≡ midpoint (triangle mesh (s, w)) → level mesh (r, v) ≡ level mesh (s, w)
    short_levels r s v w h k hr hs e =
        subst (λ (y : List Bool). midpoint (triangle mesh (r, y)) ≡ midpoint (triangle mesh (s, w)) → level mesh (r, y) ≡ level mesh (s, w)) h.1
        (subst (λ (z : List Bool). edge_middle mesh r h.0 ≡ midpoint (triangle mesh (s, z)) → level mesh (r, edge_word h.0) ≡ level mesh (s, z)) k.1 (tells.graded r s h.0 k.0 hr hs))
        e

    levels : (k : ℕ) (r s : ℕ) (v w : List Bool) → length v + length w < k → r < size mesh → s < size mesh → midpoint (triangle mesh (r, v)) ≡ midpoint (triangle mesh (s, w)) → level mesh (r, v) ≡ level mesh (s, w)
    levels zero r s v w h hr hs e = absurd (omega arith)
    levels (suc k) r s [] [] h hr hs e = short_levels r s [] [] short_0 short_0 hr hs e
    levels (suc k) r s [] (d ∷ []) h hr hs e = short_levels r s [] (d ∷ []) short_0 (short_1 d) hr hs e
    levels (suc k) r s [] (d ∷ b ∷ w) h hr hs e = absurd (short_long r s [] d b w short_0 e)
    levels (suc k) r s (c ∷ []) [] h hr hs e = short_levels r s (c ∷ []) [] (short_1 c) short_0 hr hs e
    levels (suc k) r s (c ∷ []) (d ∷ []) h hr hs e = short_levels r s (c ∷ []) (d ∷ []) (short_1 c) (short_1 d) hr hs e
    levels (suc k) r s (c ∷ []) (d ∷ b ∷ w) h hr hs e = absurd (short_long r s (c ∷ []) d b w (short_1 c) e)
    levels (suc k) r s (c ∷ a ∷ v) [] h hr hs e = absurd (short_long s r [] c a v short_0 (sym e))
    levels (suc k) r s (c ∷ a ∷ v) (d ∷ []) h hr hs e = absurd (short_long s r (d ∷ []) c a v (short_1 d) (sym e))
    levels (suc k) r s (c ∷ a ∷ v) (d ∷ b ∷ w) h hr hs e =
        let p = ends r c a v in
        let q = ends s d b w in
        let both : level mesh (r, v) ≡ level mesh (s, w) = ⊎_elim
        (λ (t : (p.0 ≡ q.0) × (midpoint (triangle mesh (r, v)) ≡ midpoint (triangle mesh (s, w)))). levels k r s v w (omega arith) hr hs t.1)
        (λ (t : (p.0 ≡ midpoint (triangle mesh (s, w))) × (midpoint (triangle mesh (r, v)) ≡ q.0)). absurd (crossed k r s v w (omega arith) (λ a b l g. levels k r s a b l hr hs g) p.0 q.0 p.1 q.1 t.0 t.1))
        (middle-same p.0 (midpoint (triangle mesh (r, v))) q.0 (midpoint (triangle mesh (s, w))) (sym p.2 ∙ e ∙ q.2)) in
        omega arith

pub levels_apart : LevelsApart
levels_apart mesh x tells m n hm hn e = levels mesh x tells (suc (length m.1 + length n.1)) m.0 n.0 m.1 n.1 (omega arith) hm hn e
