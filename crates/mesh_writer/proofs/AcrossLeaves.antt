-- The first other place with the edge of a leaf is in the leaf across it.
use Rattle.std.proofs.Common.{◌≡◌, ℕ, zero, suc, ◌+◌, ◌*◌, ◌/◌, ◌%◌, ◌<◌, ◌≤◌, Bool, true, false, not, cond, ◌&&◌, ◌||◌, List, [], ◌∷◌, map, length, refl, sym, ap, ◌∙◌, subst, inl, inr, ⊎_elim, ◌⊎◌, arith, true≢false}
use Rattle.std.specs.Prelude.{Option, Some, None, All, option_map, slice_index_or}
use Rattle.std.specs.List.{position_from}
use Rattle.std.specs.List.Sorted.{IsStrictlySortedBy}
use Rattle.std.specs.declared.cmp.Ordering.TheVariants.{Less}
use Rattle.std.specs.Ordering.{is_eq}
use Rattle.std.proofs.lemmas.Bool.{cases_lt, cases_eq, false_from_ne_true}
use Rattle.std.proofs.lemmas.Map.Keys.{sorted_tail}
use Rattle.std.proofs.lemmas.Map.Views.{All-after_first}
use Rattle.mesh_names.specs.Names.{Name, name_cmp, name_eq}
use Rattle.mesh_names.specs.Triangles.{Shape, Triangle, Vertex, same, triangle}
use Rattle.mesh_names.specs.Partners.{Edge, Edge0, Edge1, Edge2}
use Rattle.mesh_names.specs.Forests.{IsInMesh}
use Rattle.mesh_names.specs.Validity.{IsValid, IsSamePair, ends_of}
use Rattle.mesh_names.proofs.Middles.{same_self, same-is}
use Rattle.mesh_names.proofs.Sets.{or_either, or-left, or-right, tied-same, same-tied}
use Rattle.compat_check.specs.Meshes.{edge_of, edge_number}
use Rattle.std.proofs.lemmas.List.{get_or-map, length-map}
use Rattle.compat_check.specs.Places.{Meets, ends_at}
use Rattle.mesh_writer.specs.Neighbours.{has_corner, is_across}
use Rattle.mesh_writer.specs.Numbering.{is_among, number_of}
use Rattle.mesh_writer.specs.Numbers.{IsWritten}
use Rattle.mesh_writer.specs.Others.{AreOthers, IsFirstOther}
use Rattle.mesh_writer.specs.Triples.{numbers}
use Rattle.mesh_writer.proofs.Apart.{AreApart, name_apart}

-- two written vertices with one number are one
one_number : (v u : Vertex) (ws : List Vertex) → is_among v ws ≡ true → is_among u ws ≡ true → number_of v ws ≡ number_of u ws → v ≡ u
one_number v u [] hv hu e = absurd (true≢false (sym hv))
one_number v u (w ∷ ws) hv hu e = either (same v w) (same u w) refl refl (is_among v ws) (is_among u ws) (one_number v u ws) hv hu e
  where
    either : (b c : Bool) → same v w ≡ b → same u w ≡ c → (p q : Bool) → (p ≡ true → q ≡ true → number_of v ws ≡ number_of u ws → v ≡ u) → (b || p) ≡ true → (c || q) ≡ true → cond b 0 (number_of v ws + 1) ≡ cond c 0 (number_of u ws + 1) → v ≡ u
    either true true hb hc p q rest hv hu e = same-is v w hb ∙ sym (same-is u w hc)
    either true false hb hc p q rest hv hu e = absurd (omega (arith, e))
    either false true hb hc p q rest hv hu e = absurd (omega (arith, e))
    either false false hb hc p q rest hv hu e = rest hv hu (omega (arith, e))

-- the ends of an edge
abbrev ends : Triangle → Edge → Vertex × Vertex
ends t Edge0 = (t.1, t.2)
ends t Edge1 = (t.2, t.0)
ends t Edge2 = (t.0, t.1)

has_first : (t : Triangle) → has_corner t t.0 ≡ true
has_first t = or-left (same t.0 t.0 || same t.0 t.1) (same t.0 t.2) (or-left (same t.0 t.0) (same t.0 t.1) (same_self t.0))

has_second : (t : Triangle) → has_corner t t.1 ≡ true
has_second t = or-left (same t.1 t.0 || same t.1 t.1) (same t.1 t.2) (or-right (same t.1 t.0) (same t.1 t.1) (same_self t.1))

has_third : (t : Triangle) → has_corner t t.2 ≡ true
has_third t = or-right (same t.2 t.0 || same t.2 t.1) (same t.2 t.2) (same_self t.2)

has_ends : (t : Triangle) (e : Edge) → (has_corner t (ends t e).0 ≡ true) × (has_corner t (ends t e).1 ≡ true)
has_ends t Edge0 = (has_second t, has_third t)
has_ends t Edge1 = (has_third t, has_first t)
has_ends t Edge2 = (has_first t, has_second t)

corner_is : (t : Triangle) (a : Vertex) → has_corner t a ≡ true → (a ≡ t.0) ⊎ (a ≡ t.1) ⊎ (a ≡ t.2)
corner_is t a h = ⊎_elim
    (λ x. ⊎_elim (λ y. inl (same-is a t.0 y)) (λ y. inr (inl (same-is a t.1 y))) (or_either (same a t.0) (same a t.1) x))
    (λ x. inr (inr (same-is a t.2 x)))
    (or_either (same a t.0 || same a t.1) (same a t.2) h)

ends_apart : (t : Triangle) (e : Edge) → AreApart t → (ends t e).0 ≡ (ends t e).1 → ⊥
ends_apart t Edge0 h = h.second_third
ends_apart t Edge1 h = λ e. h.first_third (sym e)
ends_apart t Edge2 h = h.first_second

module _ (mesh : Shape) (valid : IsValid mesh) (written : List Vertex) where
  among_ends : (n : Name) (e : Edge) → IsWritten mesh written n → (is_among (ends (triangle mesh n) e).0 written ≡ true) × (is_among (ends (triangle mesh n) e).1 written ≡ true)
  among_ends n Edge0 h = (h.second, h.third)
  among_ends n Edge1 h = (h.third, h.first)
  among_ends n Edge2 h = (h.first, h.second)

  ends_number : (n : Name) (e : Edge) → ends_of (numbers mesh written n) e ≡ (number_of (ends (triangle mesh n) e).0 written, number_of (ends (triangle mesh n) e).1 written)
  ends_number n Edge0 = refl
  ends_number n Edge1 = refl
  ends_number n Edge2 = refl

  -- a leaf with the edge has both of its ends
  has_both : (m n : Name) (f e : Edge) → IsWritten mesh written m → IsWritten mesh written n → IsSamePair (ends_of (numbers mesh written m) f) (ends_of (numbers mesh written n) e) →
      (has_corner (triangle mesh m) (ends (triangle mesh n) e).0 ≡ true) × (has_corner (triangle mesh m) (ends (triangle mesh n) e).1 ≡ true)
  has_both m n f e hm hn pair =
      let t = triangle mesh m in
      let u = triangle mesh n in
      let am = among_ends m f hm in
      let an = among_ends n e hn in
      let has = has_ends t f in
      let same_numbers : IsSamePair (number_of (ends t f).0 written, number_of (ends t f).1 written) (number_of (ends u e).0 written, number_of (ends u e).1 written) = subst (λ (p : (ℕ × ℕ) × (ℕ × ℕ)). IsSamePair p.0 p.1) (λ i. (ends_number m f i, ends_number n e i)) pair in
      ⊎_elim
      (λ x. (subst (λ (v : Vertex). has_corner t v ≡ true) (one_number (ends t f).0 (ends u e).0 written am.0 an.0 x.0) has.0, subst (λ (v : Vertex). has_corner t v ≡ true) (one_number (ends t f).1 (ends u e).1 written am.1 an.1 x.1) has.1))
      (λ x. (subst (λ (v : Vertex). has_corner t v ≡ true) (one_number (ends t f).1 (ends u e).0 written am.1 an.0 x.1) has.1, subst (λ (v : Vertex). has_corner t v ≡ true) (one_number (ends t f).0 (ends u e).1 written am.0 an.1 x.0) has.0))
      same_numbers

  -- the numbers of an edge's ends, forward and back
  forward : (m : Name) (f : Edge) (a b : Vertex) → a ≡ (ends (triangle mesh m) f).0 → b ≡ (ends (triangle mesh m) f).1 → (g : Edge) × IsSamePair (ends_of (numbers mesh written m) g) (number_of a written, number_of b written)
  forward m f a b ea eb = (f, subst (λ (p : ℕ × ℕ). IsSamePair p (number_of a written, number_of b written)) (sym (ends_number m f)) (inl (ap (λ (v : Vertex). number_of v written) (sym ea), ap (λ (v : Vertex). number_of v written) (sym eb))))

  backward : (m : Name) (f : Edge) (a b : Vertex) → a ≡ (ends (triangle mesh m) f).1 → b ≡ (ends (triangle mesh m) f).0 → (g : Edge) × IsSamePair (ends_of (numbers mesh written m) g) (number_of a written, number_of b written)
  backward m f a b ea eb = (f, subst (λ (p : ℕ × ℕ). IsSamePair p (number_of a written, number_of b written)) (sym (ends_number m f)) (inr (ap (λ (v : Vertex). number_of v written) (sym eb), ap (λ (v : Vertex). number_of v written) (sym ea))))

  -- a leaf with two vertices has the edge between them
  has_edge : (m : Name) (a b : Vertex) → (a ≡ b → ⊥) → has_corner (triangle mesh m) a ≡ true → has_corner (triangle mesh m) b ≡ true → (g : Edge) × IsSamePair (ends_of (numbers mesh written m) g) (number_of a written, number_of b written)
  has_edge m a b ne ha hb = ⊎_elim
      (λ x. ⊎_elim (λ y. absurd (ne (x ∙ sym y))) (λ y. ⊎_elim (λ z. forward m Edge2 a b x z) (λ z. backward m Edge1 a b x z) y) kb)
      (λ x. ⊎_elim
      (λ v. ⊎_elim (λ y. backward m Edge2 a b v y) (λ y. ⊎_elim (λ z. absurd (ne (v ∙ sym z))) (λ z. forward m Edge0 a b v z) y) kb)
      (λ v. ⊎_elim (λ y. forward m Edge1 a b v y) (λ y. ⊎_elim (λ z. backward m Edge0 a b v z) (λ z. absurd (ne (v ∙ sym z))) y) kb)
      x)
      (corner_is (triangle mesh m) a ha)
    where
      kb : (b ≡ (triangle mesh m).0) ⊎ (b ≡ (triangle mesh m).1) ⊎ (b ≡ (triangle mesh m).2)
      kb = corner_is (triangle mesh m) b hb

-- the first place where the test passes, by what is true of it
first_is : {X : Type 0} → (p : X → Bool) (start : ℕ) (xs : List X) (i : ℕ) (d : X) → i < length xs → p (slice_index_or xs i d) ≡ true → ((k : ℕ) → k < i → p (slice_index_or xs k d) ≡ false) → position_from p start xs ≡ Some (start + i)
first_is p start [] i d inside h none = absurd (omega (arith, inside))
first_is p start (x ∷ xs) zero d inside h none = ap (λ (b : Bool). cond b (Some start) (position_from p (start + 1) xs)) h ∙ ap Some (omega arith)
first_is p start (x ∷ xs) (suc i) d inside h none = ap (λ (b : Bool). cond b (Some start) (position_from p (start + 1) xs)) (none zero (omega arith)) ∙ first_is p (start + 1) xs i d (omega (arith, inside)) h (λ k l. none (suc k) (omega (arith, l))) ∙ ap Some (omega arith)

nowhere : {X : Type 0} → (p : X → Bool) (start : ℕ) (xs : List X) (d : X) → ((k : ℕ) → k < length xs → p (slice_index_or xs k d) ≡ false) → position_from p start xs ≡ None
nowhere p start [] d none = refl
nowhere p start (x ∷ xs) d none = ap (λ (b : Bool). cond b (Some start) (position_from p (start + 1) xs)) (none zero (omega arith)) ∙ nowhere p (start + 1) xs d (λ k l. none (suc k) (omega (arith, l)))

edge_low : (e : Edge) → edge_number e < 3
edge_low Edge0 = omega arith
edge_low Edge1 = omega arith
edge_low Edge2 = omega arith

edge_back : (e : Edge) → edge_of (edge_number e) ≡ e
edge_back Edge0 = refl
edge_back Edge1 = refl
edge_back Edge2 = refl

number_back : (k : ℕ) → k < 3 → edge_number (edge_of k) ≡ k
number_back zero h = refl
number_back (suc zero) h = refl
number_back (suc (suc zero)) h = refl
number_back (suc (suc (suc k))) h = absurd (omega (arith, h))

element_at : (r : ℕ) (e : Edge) → (r * 3 + edge_number e) / 3 ≡ r
element_at r e = omega (arith, edge_low e)

number_at : (r : ℕ) (e : Edge) → (r * 3 + edge_number e) % 3 ≡ edge_number e
number_at r e = omega (arith, edge_low e)

sorted_pair : (ks : List Name) → IsStrictlySortedBy name_cmp ks → (i j : ℕ) (d : Name) → i < j → j < length ks → name_cmp (slice_index_or ks i d) (slice_index_or ks j d) ≡ Less
sorted_pair [] h i j d l inside = absurd (omega (arith, inside))
sorted_pair (k ∷ ks) h i zero d l inside = absurd (omega (arith, l))
sorted_pair (k ∷ ks) h zero (suc j) d l inside = All-after_first name_cmp k ks h j d (omega (arith, inside))
sorted_pair (k ∷ ks) h (suc i) (suc j) d l inside = sorted_pair ks (sorted_tail name_cmp k ks h) i j d (omega (arith, l)) (omega (arith, inside))

never_before_itself : (n : Name) → name_cmp n n ≡ Less → ⊥
never_before_itself n h = true≢false (sym (same-tied n n refl) ∙ ap is_eq h)

-- two places of a list in order that have one name are one
one_place : (ks : List Name) → IsStrictlySortedBy name_cmp ks → (i j : ℕ) (d : Name) → i < length ks → j < length ks → slice_index_or ks i d ≡ slice_index_or ks j d → i ≡ j
one_place ks h i j d hi hj e = ⊎_elim
    (λ (x : i < j). absurd (never_before_itself (slice_index_or ks j d) (subst (λ (n : Name). name_cmp n (slice_index_or ks j d) ≡ Less) e (sorted_pair ks h i j d x hj))))
    (λ (x : j ≤ i). ⊎_elim (λ y. y) (λ (y : i ≡ j → ⊥). absurd (never_before_itself (slice_index_or ks j d) (subst (λ (n : Name). name_cmp (slice_index_or ks j d) n ≡ Less) e (sorted_pair ks h j i d (omega (arith, x, y)) hi)))) (cases_eq i j))
    (cases_lt i j)

both_and : (a b c : Bool) → a ≡ true → b ≡ true → c ≡ true → (a && b && c) ≡ true
both_and true true true ha hb hc = refl
both_and true true false ha hb hc = absurd (true≢false (sym hc))
both_and true false c ha hb hc = absurd (true≢false (sym hb))
both_and false b c ha hb hc = absurd (true≢false (sym ha))

all_three : (a b c : Bool) → (a && b && c) ≡ true → (a ≡ true) × (b ≡ true) × (c ≡ true)
all_three true true true h = (refl, refl, refl)
all_three true true false h = absurd (true≢false (sym h))
all_three true false c h = absurd (true≢false (sym h))
all_three false b c h = absurd (true≢false (sym h))

other_name : (b : Bool) → (b ≡ true → ⊥) → not b ≡ true
other_name true h = absurd (h refl)
other_name false h = refl

not_other : (b : Bool) → not b ≡ true → b ≡ true → ⊥
not_other true h e = true≢false (sym h)
not_other false h e = true≢false (sym e)

module _ (mesh : Shape) (valid : IsValid mesh) (written : List Vertex) (leaves : List Name) (sorted : IsStrictlySortedBy name_cmp leaves) (rooted : All (IsInMesh mesh) leaves) (all : All (IsWritten mesh written) leaves) (d : Name) where
  -- edge f of the leaf at place j, and edge e of the leaf at place i, are one
  abbrev OneEdge : ℕ → Edge → ℕ → Edge → Type 0
  OneEdge j f i e = IsSamePair (ends_of (numbers mesh written (slice_index_or leaves j d)) f) (ends_of (numbers mesh written (slice_index_or leaves i d)) e)

  ends_there : (j : ℕ) (f : Edge) → j < length leaves → ends_at (map (numbers mesh written) leaves) (j * 3 + edge_number f) ≡ ends_of (numbers mesh written (slice_index_or leaves j d)) f
  ends_there j f inside =
      (λ i. ends_of (slice_index_or (map (numbers mesh written) leaves) (element_at j f i) []) (edge_of (number_at j f i)))
      ∙ (λ i. ends_of (get_or-map (numbers mesh written) leaves j d [] inside i) (edge_back f i))

  meets : (j i : ℕ) (f e : Edge) → j < length leaves → i < length leaves → OneEdge j f i e → Meets (map (numbers mesh written) leaves) (j * 3 + edge_number f) (i * 3 + edge_number e)
  meets j i f e hj hi h = subst (λ (p : (ℕ × ℕ) × (ℕ × ℕ)). IsSamePair p.0 p.1) (sym (λ k. (ends_there j f hj k, ends_there i e hi k))) h

  met : (j i : ℕ) (f e : Edge) → j < length leaves → i < length leaves → Meets (map (numbers mesh written) leaves) (j * 3 + edge_number f) (i * 3 + edge_number e) → OneEdge j f i e
  met j i f e hj hi h = subst (λ (p : (ℕ × ℕ) × (ℕ × ℕ)). IsSamePair p.0 p.1) (λ k. (ends_there j f hj k, ends_there i e hi k)) h

  abbrev test : ℕ → Edge → Name → Bool
  test i e = is_across mesh (slice_index_or leaves i d) (ends (triangle mesh (slice_index_or leaves i d)) e).0 (ends (triangle mesh (slice_index_or leaves i d)) e).1

  -- a leaf that is across the edge has it
  across_has : (k i : ℕ) (e : Edge) → k < length leaves → i < length leaves → test i e (slice_index_or leaves k d) ≡ true → (k ≡ i → ⊥) × ((g : Edge) × OneEdge k g i e)
  across_has k i e hk hi h =
      let n = slice_index_or leaves i d in
      let m = slice_index_or leaves k d in
      let three = all_three (not (name_eq m n)) (has_corner (triangle mesh m) (ends (triangle mesh n) e).0) (has_corner (triangle mesh m) (ends (triangle mesh n) e).1) h in
      let found = has_edge mesh valid written m (ends (triangle mesh n) e).0 (ends (triangle mesh n) e).1 (ends_apart (triangle mesh n) e (name_apart mesh valid n (rooted i d hi).rooted)) three.1 three.2 in (
        (λ same. not_other (name_eq m n) three.0 (same-tied m n (ap (λ (j : ℕ). slice_index_or leaves j d) same))),
        (found.0, subst (IsSamePair (ends_of (numbers mesh written m) found.0)) (sym (ends_number mesh valid written n e)) found.1),
      )

  has_across : (k i : ℕ) (g e : Edge) → k < length leaves → i < length leaves → (k ≡ i → ⊥) → OneEdge k g i e → test i e (slice_index_or leaves k d) ≡ true
  has_across k i g e hk hi ne one =
      let n = slice_index_or leaves i d in
      let m = slice_index_or leaves k d in
      let both = has_both mesh valid written m n g e (all k d hk) (all i d hi) one in
      both_and (not (name_eq m n)) (has_corner (triangle mesh m) (ends (triangle mesh n) e).0) (has_corner (triangle mesh m) (ends (triangle mesh n) e).1)
      (other_name (name_eq m n) (λ h. ne (one_place leaves sorted k i d hk hi (tied-same m n h)))) both.0 both.1

  counted : length (map (numbers mesh written) leaves) ≡ length leaves
  counted = length-map leaves (numbers mesh written)

  -- two edges of one leaf are different
  one_edge : (i : ℕ) (f e : Edge) → i < length leaves → OneEdge i f i e → f ≡ e
  one_edge i f e hi h = edge_from (triangle mesh (slice_index_or leaves i d)) f e (name_apart mesh valid (slice_index_or leaves i d) (rooted i d hi).rooted) (λ v u a b same. one_number v u written a b same) (among_ends mesh valid written (slice_index_or leaves i d) f (all i d hi)) (among_ends mesh valid written (slice_index_or leaves i d) e (all i d hi)) (subst (λ (p : (ℕ × ℕ) × (ℕ × ℕ)). IsSamePair p.0 p.1) (λ k. (ends_number mesh valid written (slice_index_or leaves i d) f k, ends_number mesh valid written (slice_index_or leaves i d) e k)) h)
    where
      edge_from : (t : Triangle) (f e : Edge) → AreApart t → ((v u : Vertex) → is_among v written ≡ true → is_among u written ≡ true → number_of v written ≡ number_of u written → v ≡ u) → (is_among (ends t f).0 written ≡ true) × (is_among (ends t f).1 written ≡ true) → (is_among (ends t e).0 written ≡ true) × (is_among (ends t e).1 written ≡ true) →
          IsSamePair (number_of (ends t f).0 written, number_of (ends t f).1 written) (number_of (ends t e).0 written, number_of (ends t e).1 written) → f ≡ e
      edge_from t Edge0 Edge0 h one af ae p = refl
      edge_from t Edge1 Edge1 h one af ae p = refl
      edge_from t Edge2 Edge2 h one af ae p = refl
      edge_from t Edge0 Edge1 h one af ae p = absurd (⊎_elim (λ x. h.second_third (one t.1 t.2 af.0 ae.0 x.0)) (λ x. h.first_second (sym (one t.1 t.0 af.0 ae.1 x.0))) p)
      edge_from t Edge0 Edge2 h one af ae p = absurd (⊎_elim (λ x. h.first_second (sym (one t.1 t.0 af.0 ae.0 x.0))) (λ x. h.first_third (sym (one t.2 t.0 af.1 ae.0 x.1))) p)
      edge_from t Edge1 Edge0 h one af ae p = absurd (⊎_elim (λ x. h.second_third (sym (one t.2 t.1 af.0 ae.0 x.0))) (λ x. h.first_second (one t.0 t.1 af.1 ae.0 x.1)) p)
      edge_from t Edge1 Edge2 h one af ae p = absurd (⊎_elim (λ x. h.first_third (sym (one t.2 t.0 af.0 ae.0 x.0))) (λ x. h.second_third (sym (one t.2 t.1 af.0 ae.1 x.0))) p)
      edge_from t Edge2 Edge0 h one af ae p = absurd (⊎_elim (λ x. h.first_second (one t.0 t.1 af.0 ae.0 x.0)) (λ x. h.first_third (one t.0 t.2 af.0 ae.1 x.0)) p)
      edge_from t Edge2 Edge1 h one af ae p = absurd (⊎_elim (λ x. h.first_third (one t.0 t.2 af.0 ae.0 x.0)) (λ x. h.second_third (one t.1 t.2 af.1 ae.0 x.1)) p)

  -- what is told at a place of the edge: the leaf of the first other place
  leaf_told : (i : ℕ) (e : Edge) → i < length leaves → (o : Option ℕ) → IsFirstOther (map (numbers mesh written) leaves) (i * 3 + edge_number e) o → option_map (λ (q : ℕ). q / 3) o ≡ position_from (test i e) 0 leaves
  leaf_told i e hi None none = sym (nowhere (test i e) 0 leaves d (λ k hk. false_from_ne_true (test i e (slice_index_or leaves k d)) (λ h.
      let a = across_has k i e hk hi h in
      none (k * 3 + edge_number a.1.0) (omega (arith, hk, edge_low a.1.0, counted)) (λ same. a.0 (omega (arith, same, edge_low a.1.0, edge_low e))) (meets k i a.1.0 e hk hi a.1.1))))
  leaf_told i e hi (Some q) first =
      let j = q / 3 in
      let f = edge_of (q % 3) in
      let at : j * 3 + edge_number f ≡ q = ap (λ (n : ℕ). q / 3 * 3 + n) (number_back (q % 3) (omega arith)) ∙ omega arith in
      let hj : j < length leaves = omega (arith, first.0, counted) in
      let one : OneEdge j f i e = met j i f e hj hi (subst (λ (p : ℕ). Meets (map (numbers mesh written) leaves) p (i * 3 + edge_number e)) (sym at) first.2) in
      let apart : j ≡ i → ⊥ = λ same. first.1 (sym at ∙ (λ k. same k * 3 + edge_number (one_edge i f e hi (subst (λ (r : ℕ). OneEdge r f i e) same one) k))) in
      sym (first_is (test i e) 0 leaves j d hj (has_across j i f e hj hi apart one) (λ k lower. false_from_ne_true (test i e (slice_index_or leaves k d)) (λ h.
      let a = across_has k i e (omega (arith, lower, hj)) hi h in
      first.3 (k * 3 + edge_number a.1.0) (omega (arith, lower, edge_low a.1.0)) (λ same. a.0 (omega (arith, same, edge_low a.1.0, edge_low e))) (meets k i a.1.0 e (omega (arith, lower, hj)) hi a.1.1)))
      ∙ ap Some (omega arith))

  pub across_told : (others : List (Option ℕ)) → AreOthers (map (numbers mesh written) leaves) others → (i : ℕ) (e : Edge) → i < length leaves → option_map (λ (q : ℕ). q / 3) (slice_index_or others (i * 3 + edge_number e) None) ≡ position_from (test i e) 0 leaves
  across_told others are i e hi = leaf_told i e hi (slice_index_or others (i * 3 + edge_number e) None) (are.first (i * 3 + edge_number e) (omega (arith, hi, edge_low e, counted)))
