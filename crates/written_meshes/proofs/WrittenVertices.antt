-- Written vertices: each stands at its number, and each corner of a leaf is among them.
use Rattle.std.proofs.Common.{◌≡◌, ℕ, zero, suc, ◌+◌, ◌<◌, Bool, true, false, cond, ◌||◌, refl, sym, ap, ◌∙◌, List, [], ◌∷◌, ◌++◌, length, arith, true≢false, ⊎_elim}
use Rattle.std.specs.Prelude.{All, slice_index_or}
use Rattle.std.proofs.lemmas.Bool.{cases_eq}
use Rattle.std.proofs.lemmas.List.{get_or_append_left, get_or_push, length-append}
use Rattle.std.proofs.lemmas.List.Elements.{All-nil, All-cons, All-append}
use Rattle.mesh_names.specs.Names.{Name}
use Rattle.mesh_names.specs.Triangles.{Shape, Vertex, Corner, same, triangle}
use Rattle.mesh_names.proofs.Middles.{same_self, same-is}
use Rattle.mesh_names.proofs.Neighbours.{corner-inj}
use Rattle.mesh_names.proofs.Sets.{or_either, or-left, or-right}
use Rattle.mesh_writer.specs.Numbering.{is_among, corners_of, with_new, vertices, macro_vertices, number_of}
use Rattle.mesh_writer.specs.Numbers.{IsWritten}

-- ---- what is among some vertices, and its number
abbrev pub vertex_at : List Vertex → ℕ → Vertex
vertex_at us j = slice_index_or us j (Corner 0)

pub at_number : (v : Vertex) (us : List Vertex) → is_among v us ≡ true → (number_of v us < length us) × (vertex_at us (number_of v us) ≡ v)
at_number v [] h = absurd (true≢false (sym h))
at_number v (u ∷ us) h = by (λ k. at_number v us k) (same v u) refl
  where
    by : (is_among v us ≡ true → (number_of v us < length us) × (vertex_at us (number_of v us) ≡ v)) → (b : Bool) → same v u ≡ b → (number_of v (u ∷ us) < length (u ∷ us)) × (vertex_at (u ∷ us) (number_of v (u ∷ us)) ≡ v)
    by ih true e =
        let first : number_of v (u ∷ us) ≡ 0 = ap (λ (c : Bool). cond c 0 (number_of v us + 1)) e in
        (omega (arith, first), ap (vertex_at (u ∷ us)) first ∙ sym (same-is v u e))
    by ih false e =
        let later : number_of v (u ∷ us) ≡ suc (number_of v us) = ap (λ (c : Bool). cond c 0 (number_of v us + 1)) e ∙ omega arith in
        let rest = ih (ap (λ (c : Bool). c || is_among v us) (sym e) ∙ h) in
        (omega (arith, later, rest.0), ap (vertex_at (u ∷ us)) later ∙ rest.1)

pub among-item : (us : List Vertex) (j : ℕ) → j < length us → is_among (vertex_at us j) us ≡ true
among-item [] j h = absurd (omega (arith, h))
among-item (u ∷ us) zero h = or-left (same u u) (is_among u us) (same_self u)
among-item (u ∷ us) (suc j) h = or-right (same (vertex_at us j) u) (is_among (vertex_at us j) us) (among-item us j (omega (arith, h)))

number-front : (v : Vertex) (us vs : List Vertex) → is_among v us ≡ true → number_of v (us ++ vs) ≡ number_of v us
number-front v [] vs h = absurd (true≢false (sym h))
number-front v (u ∷ us) vs h = by (same v u) h (λ k. number-front v us vs k)
  where
    by : (b : Bool) → (b || is_among v us) ≡ true → (is_among v us ≡ true → number_of v (us ++ vs) ≡ number_of v us) → cond b 0 (number_of v (us ++ vs) + 1) ≡ cond b 0 (number_of v us + 1)
    by true k ih = refl
    by false k ih = ap (λ (n : ℕ). n + 1) (ih k)

number-past : (v : Vertex) (us : List Vertex) → is_among v us ≡ false → number_of v (us ++ v ∷ []) ≡ length us
number-past v [] h = ap (λ (b : Bool). cond b 0 1) (same_self v)
number-past v (u ∷ us) h = by (same v u) h (λ k. number-past v us k)
  where
    by : (b : Bool) → (b || is_among v us) ≡ false → (is_among v us ≡ false → number_of v (us ++ v ∷ []) ≡ length us) → cond b 0 (number_of v (us ++ v ∷ []) + 1) ≡ suc (length us)
    by true k ih = absurd (true≢false k)
    by false k ih = ap (λ (n : ℕ). n + 1) (ih k) ∙ omega arith

-- ---- each stands at its number alone
abbrev pub AreOwn : List Vertex → Type 0
AreOwn us = (j : ℕ) → j < length us → number_of (vertex_at us j) us ≡ j

own_push : (us : List Vertex) (v : Vertex) → AreOwn us → is_among v us ≡ false → AreOwn (us ++ v ∷ [])
own_push us v own new j h = ⊎_elim
    (λ (e : j ≡ length us). ap (λ (u : Vertex). number_of u (us ++ v ∷ [])) (get_or_push us v (Corner 0) j (sym e)) ∙ number-past v us new ∙ sym e)
    (λ (n : j ≡ length us → ⊥).
    let long : length (us ++ v ∷ []) ≡ length us + 1 = length-append us (v ∷ []) in
    let low : j < length us = omega (arith, h, n, long) in
    ap (λ (u : Vertex). number_of u (us ++ v ∷ [])) (get_or_append_left us (v ∷ []) (Corner 0) j low)
    ∙ number-front (vertex_at us j) us (v ∷ []) (among-item us j low) ∙ own j low)
    (cases_eq j (length us))

own_new : (seen us : List Vertex) → AreOwn seen → AreOwn (with_new seen us)
own_new seen [] own = own
own_new seen (u ∷ us) own = own_new (cond (is_among u seen) seen (seen ++ u ∷ [])) us (by (is_among u seen) refl)
  where
    by : (b : Bool) → is_among u seen ≡ b → AreOwn (cond b seen (seen ++ u ∷ []))
    by true e = own
    by false e = own_push seen u own e

macro_count : (count : ℕ) → length (macro_vertices count) ≡ count
macro_count zero = refl
macro_count (suc k) = length-append (macro_vertices k) (Corner k ∷ []) ∙ ap (λ (n : ℕ). n + 1) (macro_count k) ∙ omega arith

among-append : (v : Vertex) (us : List Vertex) (u : Vertex) → is_among v (us ++ u ∷ []) ≡ true → is_among v us ≡ false → same v u ≡ true
among-append v [] u e n = ⊎_elim (λ a. a) (λ (b : false ≡ true). absurd (true≢false (sym b))) (or_either (same v u) false e)
among-append v (w ∷ us) u e n = either (λ p q. among-append v us u p q) (same v w) e n
  where
    either : (is_among v (us ++ u ∷ []) ≡ true → is_among v us ≡ false → same v u ≡ true) → (b : Bool) → (b || is_among v (us ++ u ∷ [])) ≡ true → (b || is_among v us) ≡ false → same v u ≡ true
    either ih true p q = absurd (true≢false q)
    either ih false p q = ih p q

macro_low : (count : ℕ) (v : Vertex) → is_among v (macro_vertices count) ≡ true → (i : ℕ) × (i < count) × (v ≡ Corner i)
macro_low zero v h = absurd (true≢false (sym h))
macro_low (suc k) v h = by (λ e. macro_low k v e) (is_among v (macro_vertices k)) refl
  where
    by : (is_among v (macro_vertices k) ≡ true → (i : ℕ) × (i < k) × (v ≡ Corner i)) → (b : Bool) → is_among v (macro_vertices k) ≡ b → (i : ℕ) × (i < suc k) × (v ≡ Corner i)
    by ih true e = let r = ih e in (r.0, omega (arith, r.1), r.2)
    by ih false e = (k, omega arith, same-is v (Corner k) (among-append v (macro_vertices k) (Corner k) h e))

own_macros : (count : ℕ) → AreOwn (macro_vertices count)
own_macros zero = λ j h. absurd (omega (arith, h))
own_macros (suc k) = own_push (macro_vertices k) (Corner k) (own_macros k) (by (is_among (Corner k) (macro_vertices k)) refl)
  where
    by : (b : Bool) → is_among (Corner k) (macro_vertices k) ≡ b → is_among (Corner k) (macro_vertices k) ≡ false
    by true e = let r = macro_low k (Corner k) e in let same : k ≡ r.0 = corner-inj k r.0 r.2 in absurd (omega (arith, r.1, same))
    by false e = e

pub all_own : (mesh : Shape) (count : ℕ) (leaves : List Name) → AreOwn (vertices mesh count leaves)
all_own mesh count leaves = own_new (macro_vertices count) (corners_of mesh leaves) (own_macros count)

-- two places with one vertex are one
pub own_place : (us : List Vertex) → AreOwn us → (j k : ℕ) → j < length us → k < length us → vertex_at us j ≡ vertex_at us k → j ≡ k
own_place us own j k hj hk e = sym (own j hj) ∙ ap (λ (v : Vertex). number_of v us) e ∙ own k hk

-- ---- what is true of all of them
module _ (P : Vertex → Type 0) where
  new_all : (seen us : List Vertex) → All P seen → All P us → All P (with_new seen us)
  new_all seen [] h k = h
  new_all seen (u ∷ us) h k = new_all (cond (is_among u seen) seen (seen ++ u ∷ [])) us (by (is_among u seen)) (λ i d l. k (suc i) d (omega (arith, l)))
    where
      by : (b : Bool) → All P (cond b seen (seen ++ u ∷ []))
      by true = h
      by false = All-append P seen (u ∷ []) h (All-cons P u [] (k zero u (omega arith)) (All-nil P))

  macros_all : (count : ℕ) → ((i : ℕ) → P (Corner i)) → All P (macro_vertices count)
  macros_all zero f = All-nil P
  macros_all (suc k) f = All-append P (macro_vertices k) (Corner k ∷ []) (macros_all k f) (All-cons P (Corner k) [] (f k) (All-nil P))

  corners_all : (mesh : Shape) (leaves : List Name) → All (λ (n : Name). P (triangle mesh n).0 × P (triangle mesh n).1 × P (triangle mesh n).2) leaves → All P (corners_of mesh leaves)
  corners_all mesh [] h = All-nil P
  corners_all mesh (n ∷ ns) h =
      let t = triangle mesh n in
      let p = h zero n (omega arith) in
      All-cons P t.0 (t.1 ∷ t.2 ∷ corners_of mesh ns) p.0 (All-cons P t.1 (t.2 ∷ corners_of mesh ns) p.1 (All-cons P t.2 (corners_of mesh ns) p.2 (corners_all mesh ns (λ i d l. h (suc i) d (omega (arith, l))))))

  pub vertices_all : (mesh : Shape) (count : ℕ) (leaves : List Name) → ((i : ℕ) → P (Corner i)) → All (λ (n : Name). P (triangle mesh n).0 × P (triangle mesh n).1 × P (triangle mesh n).2) leaves → All P (vertices mesh count leaves)
  vertices_all mesh count leaves f h = new_all (macro_vertices count) (corners_of mesh leaves) (macros_all count f) (corners_all mesh leaves h)

-- ---- the corners of the leaves are among them
among-kept : (v : Vertex) (seen us : List Vertex) → is_among v seen ≡ true → is_among v (seen ++ us) ≡ true
among-kept v [] us h = absurd (true≢false (sym h))
among-kept v (u ∷ seen) us h = ⊎_elim (λ a. or-left (same v u) (is_among v (seen ++ us)) a) (λ b. or-right (same v u) (is_among v (seen ++ us)) (among-kept v seen us b)) (or_either (same v u) (is_among v seen) h)

among-last : (v : Vertex) (seen : List Vertex) → is_among v (seen ++ v ∷ []) ≡ true
among-last v [] = or-left (same v v) false (same_self v)
among-last v (u ∷ seen) = or-right (same v u) (is_among v (seen ++ v ∷ [])) (among-last v seen)

abbrev grown : List Vertex → Vertex → List Vertex
grown seen v = cond (is_among v seen) seen (seen ++ v ∷ [])

grown-kept : (v u : Vertex) (seen : List Vertex) → is_among v seen ≡ true → is_among v (grown seen u) ≡ true
grown-kept v u seen h = by (is_among u seen)
  where
    by : (b : Bool) → is_among v (cond b seen (seen ++ u ∷ [])) ≡ true
    by true = h
    by false = among-kept v seen (u ∷ []) h

grown-new : (v : Vertex) (seen : List Vertex) → is_among v (grown seen v) ≡ true
grown-new v seen = by (is_among v seen) refl
  where
    by : (b : Bool) → is_among v seen ≡ b → is_among v (cond b seen (seen ++ v ∷ [])) ≡ true
    by true e = e
    by false e = among-last v seen

all-kept : (v : Vertex) (seen us : List Vertex) → is_among v seen ≡ true → is_among v (with_new seen us) ≡ true
all-kept v seen [] h = h
all-kept v seen (u ∷ us) h = all-kept v (grown seen u) us (grown-kept v u seen h)

written_from : (mesh : Shape) (seen : List Vertex) (leaves : List Name) → All (IsWritten mesh (with_new seen (corners_of mesh leaves))) leaves
written_from mesh seen [] = All-nil _
written_from mesh seen (n ∷ ns) =
    let t = triangle mesh n in
    let one = grown seen t.0 in
    let two = grown one t.1 in
    let three = grown two t.2 in
    All-cons (IsWritten mesh (with_new three (corners_of mesh ns))) n ns
    (record {
      first = all-kept t.0 three (corners_of mesh ns) (grown-kept t.0 t.2 two (grown-kept t.0 t.1 one (grown-new t.0 seen)));
      second = all-kept t.1 three (corners_of mesh ns) (grown-kept t.1 t.2 two (grown-new t.1 one));
      third = all-kept t.2 three (corners_of mesh ns) (grown-new t.2 two);
    })
    (written_from mesh three ns)

pub all_written : (mesh : Shape) (count : ℕ) (leaves : List Name) → All (IsWritten mesh (vertices mesh count leaves)) leaves
all_written mesh count leaves = written_from mesh (macro_vertices count) leaves
