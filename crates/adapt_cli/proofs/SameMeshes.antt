-- A macro text has one mesh, but for labels that no edge has; rounds on it do not depend on these.
use Rattle.std.proofs.Common.{◌≡◌, ℕ, ◌<◌, ◌≤◌, ℤ, true, false, refl, sym, ap, ◌∙◌, subst, List, [], ◌∷◌, zero, suc, length, map, inl, inr, ⊎_elim, arith}
use Rattle.std.specs.Prelude.{slice_index_or, pos, Err, Result}
use Rattle.std.proofs.Props.{props}
use mathlib.Core.HLevel.{is_prop→PathP}
use Rattle.std.proofs.lemmas.Bool.{cases_lt}
use Rattle.std.proofs.lemmas.List.{length-map}
use Rattle.mesh_names.specs.Triangles.{size}
use Rattle.mesh_names.proofs.Neighbours.{valid_tells}
use Rattle.mesh_names.proofs.Only.{partner_is_only}
use Rattle.mesh_names.proofs.Pairs.{partners_pair}
use Rattle.mesh_names.proofs.Sets.{is_or_not}
use Rattle.macro_file.specs.Limits.{AtMost}
use Rattle.macro_file.specs.Meaning.{Vertex}
use Rattle.macro_file.specs.Text.{macro_of, vertex_of}
use Rattle.macro_file.specs.declared.MacroVertex.{MacroVertex}
use Rattle.macro_file.specs.declared.text.MacroElem.{MacroElem}
use Rattle.macro_file.specs.declared.text.MacroText.{MacroText}
use Rattle.compat_check.specs.Checks.{IsMeshOf}
use Rattle.compat_check.specs.Meshes.{Mesh, label_of, shape_of}
use Rattle.dof_transfer.proofs.NamedVertices.{Laws}
use Rattle.mark_file.specs.Meaning.{Round}
use Rattle.mesh_rounds.specs.State.{IsMeshRound, State}
use Rattle.mesh_rounds.proofs.Relabelled.{relabelled, round-as}
use Rattle.restart_file.specs.OneFile.{IsSameMesh}
use Rattle.restart_file.proofs.OneFile.{mesh_same}
use Rattle.adapt_cli.specs.FaultTexts.{Fault}
use Rattle.adapt_cli.specs.Rounds.{LeadTo, Refuses, preceded, whole}

-- the same vertices, elements, grades and values, and the same labels at edges
pub record AreAlike (m n : Mesh) : Type 0 where
  pub is : relabelled m n.labels ≡ n
  pub labels : (r k : ℕ) → k < 3 → label_of m r k ≡ label_of n r k

-- two vertices with the same numbers are one
same-vertex : (a b : MacroVertex) → a.x ≡ b.x → a.y ≡ b.y → a.value ≡ b.value → a ≡ b
same-vertex a b p q r = λ i. record {
  x = p i;
  y = q i;
  value = r i;
  in_range = is_prop→PathP (λ j. AtMost 4096000000000000000 (p j) × AtMost 4096000000000000000 (q j) × AtMost 2147483648 (r j)) (λ j. hlevel props) a.in_range b.in_range i;
}

same-vertices : (vs ws : List MacroVertex) → map vertex_of vs ≡ map vertex_of ws → vs ≡ ws
same-vertices [] [] e = refl
same-vertices [] (w ∷ ws) e = absurd (omega (arith, ap (λ (l : List Vertex). length l) e))
same-vertices (v ∷ vs) [] e = absurd (omega (arith, ap (λ (l : List Vertex). length l) e))
same-vertices (v ∷ vs) (w ∷ ws) e =
    let one : v ≡ w = same-vertex v w (ap (λ (l : List Vertex). (slice_index_or l 0 (vertex_of v)).x) e) (ap (λ (l : List Vertex). (slice_index_or l 0 (vertex_of v)).y) e) (ap (λ (l : List Vertex). (slice_index_or l 0 (vertex_of v)).value) e) in
    λ i. one i ∷ same-vertices vs ws (ap rest e) i
  where
    rest : List Vertex → List Vertex
    rest [] = []
    rest (x ∷ xs) = xs

-- no labels stand beyond the last element
beyond : {A : Type 0} (xs : List A) (i : ℕ) (d : A) → length xs ≤ i → slice_index_or xs i d ≡ d
beyond [] i d h = refl
beyond (x ∷ xs) zero d h = absurd (omega (arith, h))
beyond (x ∷ xs) (suc i) d h = beyond xs i d (omega (arith, h))

labels-each : (text : MacroText) (mesh : Mesh) → IsMeshOf text mesh → length mesh.labels ≡ size (shape_of mesh)
labels-each text mesh is = ⊎_elim
    (λ (e : text.labels_given ≡ true). ap (λ (l : List (List ℤ)). length l) (is.given e) ∙ length-map text.elements.items (λ (x : MacroElem). x.labels) ∙ sym (length-map text.elements.items (λ (x : MacroElem). x.corners)) ∙ sym (ap (λ l. length l) is.triples))
    (λ (e : text.labels_given ≡ false). (is.made e).0)
    (is_or_not text.labels_given)

no-label : (mesh : Mesh) (r k : ℕ) → length mesh.labels ≤ r → label_of mesh r k ≡ pos 0
no-label mesh r k h = ap (λ (l : List ℤ). slice_index_or l k (pos 0)) (beyond mesh.labels r [] h)

pub alike : (t u : MacroText) → macro_of t ≡ macro_of u → (m n : Mesh) → IsMeshOf t m → IsMeshOf u n → AreAlike m n
alike t u e m n of_t of_u =
    let same : IsSameMesh m n = mesh_same t u e m n of_t of_u in
    let vertices : m.vertices ≡ n.vertices = same-vertices m.vertices n.vertices same.vertices in
    record {
      is = λ i. record { vertices = vertices i; shape = same.shape i; labels = n.labels; values = same.values i };
      labels = λ r k low. ⊎_elim
          (λ (h : r < size (shape_of m)). same.labels r k h low)
          (λ (h : size (shape_of m) ≤ r).
          let first : length m.labels ≤ r = let each = labels-each t m of_t in omega (arith, h, each) in
          let second : length n.labels ≤ r = let each = labels-each u n of_u in let sizes = ap size same.shape in omega (arith, h, each, sizes) in
          no-label m r k first ∙ sym (no-label n r k second))
          (cases_lt r (size (shape_of m)));
    }

-- what the laws of owners ask for
pub owners-of : (text : MacroText) (mesh : Mesh) → IsMeshOf text mesh → Laws mesh
owners-of text mesh is = record { only = partner_is_only; pairs = partners_pair; tells = valid_tells (shape_of mesh) is.valid is.compatible.graded }

-- rounds lead to the same on both
lead-as : (mesh : Mesh) (from to : List (List ℤ)) (pool : ℕ) (rounds : List Round) (old : State) (end : Result (List State) Fault) → LeadTo (relabelled mesh from) pool rounds old end → LeadTo (relabelled mesh to) pool rounds old end
lead-as mesh from to pool [] old end h = h
lead-as mesh from to pool (round ∷ rounds) old end h = ⊎_elim
    (λ (a : (new : State) × IsMeshRound (relabelled mesh from) (whole pool) round.rows old new × (rest : Result (List State) Fault) × LeadTo (relabelled mesh from) pool rounds new rest × (end ≡ preceded new rest)).
    inl (a.0, round-as mesh from to (whole pool) round.rows old a.0 a.1, a.2, lead-as mesh from to pool rounds a.0 a.2 a.3, a.4))
    (λ (b : (fault : Fault) × Refuses (relabelled mesh from) pool old.members round fault × (end ≡ Err fault)).
    inr (b.0, record { refusal = b.1.refusal; cause = b.1.cause; told = b.1.told }, b.2))
    h

pub leads-alike : (m n : Mesh) → AreAlike m n → (pool : ℕ) (rounds : List Round) (old : State) (end : Result (List State) Fault) → LeadTo n pool rounds old end → LeadTo m pool rounds old end
leads-alike m n same pool rounds old end h = lead-as m n.labels m.labels pool rounds old end (subst (λ (x : Mesh). LeadTo x pool rounds old end) (sym same.is) h)
