-- The vertices of a leaf more.
use Rattle.std.proofs.Common.{◌≡◌, ℕ, suc, ◌+◌, ◌<◌, Bool, true, false, cond, ◌||◌, refl, sym, ap, subst, ◌∙◌, List, [], ◌∷◌, ◌++◌, length, take, get_or, take-suc, arith, true≢false}
use Rattle.std.specs.Prelude.{All}
use Rattle.std.proofs.lemmas.List.Elements.{All-nil, All-cons}
use Rattle.mesh_names.specs.Names.{Name}
use Rattle.mesh_names.specs.Triangles.{Shape, Vertex, same, triangle}
use Rattle.mesh_names.proofs.Middles.{same_self}
use Rattle.mesh_writer.specs.Numbering.{is_among, corners_of, with_new, vertices, macro_vertices}
use Rattle.mesh_writer.specs.Numbers.{IsWritten}

corners-append : (mesh : Shape) (ms ns : List Name) → corners_of mesh (ms ++ ns) ≡ corners_of mesh ms ++ corners_of mesh ns
corners-append mesh [] ns = refl
corners-append mesh (m ∷ ms) ns = ap (λ (l : List Vertex). (triangle mesh m).0 ∷ (triangle mesh m).1 ∷ (triangle mesh m).2 ∷ l) (corners-append mesh ms ns)

new-append : (seen us vs : List Vertex) → with_new seen (us ++ vs) ≡ with_new (with_new seen us) vs
new-append seen [] vs = refl
new-append seen (u ∷ us) vs = new-append (cond (is_among u seen) seen (seen ++ u ∷ [])) us vs

pub next_leaf : (mesh : Shape) (count : ℕ) (leaves : List Name) (i : ℕ) (n d : Name) → i < length leaves → n ≡ get_or leaves i d → with_new (vertices mesh count (take i leaves)) (corners_of mesh (n ∷ [])) ≡ vertices mesh count (take (i + 1) leaves)
next_leaf mesh count leaves i n d low is =
    let front = take i leaves in
    let one : i + 1 ≡ suc i = omega arith in
    let more : take (i + 1) leaves ≡ front ++ n ∷ [] = ap (λ (k : ℕ). take k leaves) one ∙ take-suc leaves i d low ∙ (λ j. front ++ sym is j ∷ []) in
    sym (new-append (macro_vertices count) (corners_of mesh front) (corners_of mesh (n ∷ []))) ∙ ap (with_new (macro_vertices count)) (sym (corners-append mesh front (n ∷ [])))
    ∙ ap (vertices mesh count) (sym more)

among-kept : (v : Vertex) (seen : List Vertex) (us : List Vertex) → is_among v seen ≡ true → is_among v (seen ++ us) ≡ true
among-kept v [] us h = absurd (true≢false (sym h))
among-kept v (u ∷ seen) us h = either (same v u) (is_among v seen) (is_among v (seen ++ us)) (among-kept v seen us) h
  where
    either : (b c d : Bool) → (c ≡ true → d ≡ true) → (b || c) ≡ true → (b || d) ≡ true
    either true c d f e = refl
    either false c d f e = f e

abbrev grown : List Vertex → Vertex → List Vertex
grown seen v = cond (is_among v seen) seen (seen ++ v ∷ [])

grown-kept : (v u : Vertex) (seen : List Vertex) → is_among v seen ≡ true → is_among v (grown seen u) ≡ true
grown-kept v u seen h = either (is_among u seen)
  where
    either : (b : Bool) → is_among v (cond b seen (seen ++ u ∷ [])) ≡ true
    either true = h
    either false = among-kept v seen (u ∷ []) h

among-last : (v : Vertex) (seen : List Vertex) → is_among v (seen ++ v ∷ []) ≡ true
among-last v [] = ap (λ (b : Bool). b || false) (same_self v)
among-last v (u ∷ seen) = either (same v u) (is_among v (seen ++ v ∷ [])) (among-last v seen)
  where
    either : (b c : Bool) → c ≡ true → (b || c) ≡ true
    either true c e = refl
    either false c e = e

grown-new : (v : Vertex) (seen : List Vertex) → is_among v (grown seen v) ≡ true
grown-new v seen = either (is_among v seen) refl
  where
    either : (b : Bool) → is_among v seen ≡ b → is_among v (cond b seen (seen ++ v ∷ [])) ≡ true
    either true e = e
    either false e = among-last v seen

all-kept : (v : Vertex) (seen us : List Vertex) → is_among v seen ≡ true → is_among v (with_new seen us) ≡ true
all-kept v seen [] h = h
all-kept v seen (u ∷ us) h = all-kept v (grown seen u) us (grown-kept v u seen h)

written_from : (mesh : Shape) (seen : List Vertex) (leaves : List Name) → All (IsWritten mesh (with_new seen (corners_of mesh leaves))) leaves
written_from mesh seen [] = All-nil _
written_from mesh seen (n ∷ ns) =
    let t = triangle mesh n in
    let one = grown seen t.0 in
    let two = grown one t.1 in
    let three = grown two t.2 in
    All-cons (IsWritten mesh (with_new three (corners_of mesh ns))) n ns
    (record {
      first = all-kept t.0 three (corners_of mesh ns) (grown-kept t.0 t.2 two (grown-kept t.0 t.1 one (grown-new t.0 seen)));
      second = all-kept t.1 three (corners_of mesh ns) (grown-kept t.1 t.2 two (grown-new t.1 one));
      third = all-kept t.2 three (corners_of mesh ns) (grown-new t.2 two);
    })
    (written_from mesh three ns)

-- the corners of every leaf are among the vertices
pub all_written : (mesh : Shape) (count : ℕ) (leaves : List Name) (written : List Vertex) → written ≡ vertices mesh count leaves → All (IsWritten mesh written) leaves
all_written mesh count leaves written e = subst (λ (w : List Vertex). All (IsWritten mesh w) leaves) (sym e) (written_from mesh (macro_vertices count) leaves)
