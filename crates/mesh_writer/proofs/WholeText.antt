-- The whole text, piece by piece.
use Rattle.std.proofs.Common.{◌≡◌, ℕ, zero, suc, ◌+◌, ◌*◌, ◌<◌, ℤ, pos, true, List, [], ◌∷◌, ◌++◌, map, length, refl, sym, ap, ◌∙◌, subst, arith}
use Rattle.std.specs.Prelude.{All, Option, None, drop, codes, slice_index_or, zip}
use Rattle.std.specs.Fmt.{signed_decimal}
use Rattle.std.specs.List.Sorted.{IsStrictlySortedBy}
use Rattle.std.proofs.lemmas.List.{ext_get_or, get_or-map, length-map}
use Rattle.mesh_names.specs.Names.{Name, name_cmp}
use Rattle.mesh_names.specs.Triangles.{Shape, Vertex}
use Rattle.mesh_names.specs.Partners.{Edge0, Edge1, Edge2}
use Rattle.mesh_names.specs.Forests.{IsInMesh}
use Rattle.mesh_names.specs.Validity.{IsValid}
use Rattle.compat_check.specs.Meshes.{Mesh, shape_of}
use Rattle.compat_check.specs.Points.{Point, labels, point}
use Rattle.macro_file.specs.Meaning.{Element, Macro as MacroText, Vertex as MacroVertex}
use Rattle.macro_file.specs.Written.{head_lines, lines_text, list_lines, macro_bytes, numbers_line, point_line}
use Rattle.macro_file.proofs.WriterLemmas.{all_text}
use Rattle.mesh_writer.specs.MeshText.{coordinates_line, macro_element, macro_vertex, written_mesh}
use Rattle.mesh_writer.specs.Neighbours.{neighbours, number_or_none}
use Rattle.mesh_writer.specs.Numbering.{vertices}
use Rattle.mesh_writer.specs.Numbers.{IsWritten}
use Rattle.mesh_writer.specs.Others.{AreOthers, leaf_at, rows_by}
use Rattle.mesh_writer.specs.Triples.{numbers}
use Rattle.mesh_writer.proofs.AcrossLeaves.{across_told}

-- the leaves across the three edges of leaf i
abbrev row_by : List (Option ℕ) → ℕ → List ℤ
row_by others i =
    let told = λ (k : ℕ). leaf_at (slice_index_or others (i * 3 + k) None) in
    told 0 ∷ told 1 ∷ told 2 ∷ []

-- places come three by three
rows_at : (count : ℕ) (others : List (Option ℕ)) → length others ≡ count * 3 → (i : ℕ) → i < count → slice_index_or (rows_by others count) i [] ≡ row_by others i
rows_at zero others many i low = absurd (omega (arith, low))
rows_at (suc count) [] many i low = absurd (omega (arith, many))
rows_at (suc count) (a ∷ []) many i low = absurd (omega (arith, many))
rows_at (suc count) (a ∷ b ∷ []) many i low = absurd (omega (arith, many))
rows_at (suc count) (a ∷ b ∷ c ∷ others) many zero low = refl
rows_at (suc count) (a ∷ b ∷ c ∷ others) many (suc i) low =
    let all = a ∷ b ∷ c ∷ others in
    let later : (k : ℕ) → suc i * 3 + k ≡ suc (suc (suc (i * 3 + k))) = λ k. omega arith in
    let further : (k : ℕ) → leaf_at (slice_index_or all (suc i * 3 + k) None) ≡ leaf_at (slice_index_or others (i * 3 + k) None) = λ k. ap (λ (j : ℕ). leaf_at (slice_index_or all j None)) (later k) in
    rows_at count others (omega (arith, many)) i (omega (arith, low)) ∙ sym (λ j. further 0 j ∷ further 1 j ∷ further 2 j ∷ [])

rows_many : (count : ℕ) (others : List (Option ℕ)) → length (rows_by others count) ≡ count
rows_many zero others = refl
rows_many (suc count) others = ap suc (rows_many count (drop 3 others))

row_is : (mesh : Shape) → IsValid mesh → (written : List Vertex) (leaves : List Name) → IsStrictlySortedBy name_cmp leaves → All (IsInMesh mesh) leaves → All (IsWritten mesh written) leaves → (others : List (Option ℕ)) → AreOthers (map (numbers mesh written) leaves) others → (i : ℕ) (d : Name) → i < length leaves → row_by others i ≡ neighbours mesh leaves (slice_index_or leaves i d)
row_is mesh valid written leaves sorted rooted all others known i d inside =
    let told = across_told mesh valid written leaves sorted rooted all d others known i in
    λ j. number_or_none (told Edge0 inside j) ∷ number_or_none (told Edge1 inside j) ∷ number_or_none (told Edge2 inside j) ∷ []

-- the rows of the first other places are the neighbours
pub rows_are : (mesh : Shape) → IsValid mesh → (written : List Vertex) (leaves : List Name) → IsStrictlySortedBy name_cmp leaves → All (IsInMesh mesh) leaves → All (IsWritten mesh written) leaves → (triples : List (List ℕ)) → triples ≡ map (numbers mesh written) leaves → (others : List (Option ℕ)) → AreOthers triples others → rows_by others (length leaves) ≡ map (neighbours mesh leaves) leaves
rows_are mesh valid written leaves sorted rooted all triples is others given =
    let known : AreOthers (map (numbers mesh written) leaves) others = subst (λ (ts : List (List ℕ)). AreOthers ts others) is given in
    let many : length triples ≡ length leaves = ap length is ∙ length-map leaves (numbers mesh written) in
    let each : length others ≡ length leaves * 3 = given.each ∙ ap (λ (n : ℕ). n * 3) many in
    let rows = rows_by others (length leaves) in
    let count : length rows ≡ length leaves = rows_many (length leaves) others in
    let d : Name = (0, []) in
    ext_get_or [] rows (map (neighbours mesh leaves) leaves) (count ∙ sym (length-map leaves (neighbours mesh leaves))) (λ i inside.
    let low : i < length leaves = omega (arith, inside, count) in
    rows_at (length leaves) others each i low ∙ row_is mesh valid written leaves sorted rooted all others known i d low ∙ sym (get_or-map (neighbours mesh leaves) leaves i d [] low))

-- lines of items with their values, where the line tells the item or the value alone
module _ {A X : Type 0} (made : A × ℤ → X) where
  pub made_many : (xs : List A) (vs : List ℤ) → length xs ≡ length vs → length (map made (zip xs vs)) ≡ length xs
  made_many [] vs e = refl
  made_many (x ∷ xs) [] e = absurd (omega arith)
  made_many (x ∷ xs) (v ∷ vs) e = ap suc (made_many xs vs (omega arith))

  pub item_lines : {Y : Type 0} (told : X → List ℕ) (line : Y → List ℕ) (item : A → Y) → ((x : A) (v : ℤ) → line (item x) ≡ told (made (x, v))) → (xs : List A) (vs : List ℤ) → length xs ≡ length vs → map line (map item xs) ≡ map told (map made (zip xs vs))
  item_lines told line item is [] vs e = refl
  item_lines told line item is (x ∷ xs) [] e = absurd (omega arith)
  item_lines told line item is (x ∷ xs) (v ∷ vs) e = λ i. is x v i ∷ item_lines told line item is xs vs (omega arith) i

  pub value_lines : (told : X → List ℕ) (line : ℤ → List ℕ) → ((x : A) (v : ℤ) → line v ≡ told (made (x, v))) → (xs : List A) (vs : List ℤ) → length xs ≡ length vs → map line vs ≡ map told (map made (zip xs vs))
  value_lines told line is [] [] e = refl
  value_lines told line is [] (v ∷ vs) e = absurd (omega arith)
  value_lines told line is (x ∷ xs) [] e = absurd (omega arith)
  value_lines told line is (x ∷ xs) (v ∷ vs) e = λ i. is x v i ∷ value_lines told line is xs vs (omega arith) i

twice : {A B C : Type 0} (f : A → B) (g : B → C) (xs : List A) → map g (map f xs) ≡ map (λ x. g (f x)) xs
twice f g [] = refl
twice {A} {B} {C} f g (x ∷ xs) = ap (λ (ys : List C). g (f x) ∷ ys) (twice f g xs)

-- a list of numbers that items tell
pub by_numbers : {A : Type 0} (told : A → List ℤ) (key now then : List ℕ) (items : List A) → then ≡ now ++ lines_text (list_lines key (λ x. numbers_line (told x)) items) → then ≡ now ++ lines_text (list_lines key numbers_line (map told items))
by_numbers told key now then items h = h ∙ ap (λ (ls : List (List ℕ)). now ++ lines_text (key ∷ (ls ++ [] ∷ []))) (sym (twice told numbers_line items))

-- the macro text with these written vertices
abbrev formed : Mesh → List Vertex → List Name → List ℤ → List ℤ → MacroText
formed mesh written leaves vs es = record {
  vertices = map (macro_vertex mesh) (zip written vs);
  elements = map (macro_element mesh written leaves) (zip leaves es);
  labels_given = true;
  neighbours_given = true;
}

-- a list with its key, and an empty line, by other lines
same_list : (key : List ℕ) (now then : List ℕ) (some other : List (List ℕ)) → some ≡ other → then ≡ now ++ lines_text (key ∷ (some ++ [] ∷ [])) → then ≡ now ++ lines_text (key ∷ (other ++ [] ∷ []))
same_list key now then some other e h = h ∙ ap (λ (ls : List (List ℕ)). now ++ lines_text (key ∷ (ls ++ [] ∷ []))) e

pub whole_text : (mesh : Mesh) (leaves : List Name) (written : List Vertex) (vs es : List ℤ) (k : ℕ) (points : List Point) (corners sides across : List (List ℤ)) (t0 t1 t2 t3 t4 t5 t6 t7 : List ℕ) →
    written ≡ vertices (shape_of mesh) (length mesh.vertices) leaves → length written ≡ length vs → length leaves ≡ length es → k ≡ length written →
    points ≡ map (point mesh.vertices) written →
    corners ≡ map (map pos) (map (numbers (shape_of mesh) written) leaves) →
    sides ≡ map (labels mesh) leaves →
    across ≡ map (neighbours (shape_of mesh) leaves) leaves →
    t0 ≡ [] → t1 ≡ t0 ++ lines_text (head_lines k (length leaves)) →
    t2 ≡ t1 ++ lines_text (list_lines (codes "vertex coordinates:") coordinates_line points) →
    t3 ≡ t2 ++ lines_text (list_lines (codes "element vertices:") numbers_line corners) →
    t4 ≡ t3 ++ lines_text (list_lines (codes "element boundaries:") numbers_line sides) →
    t5 ≡ t4 ++ lines_text (list_lines (codes "element neighbours:") numbers_line across) →
    t6 ≡ t5 ++ lines_text (list_lines (codes "vertex values:") signed_decimal vs) →
    t7 ≡ t6 ++ lines_text (codes "element values:" ∷ map signed_decimal es) → t7 ≡ macro_bytes (written_mesh mesh leaves vs es)
whole_text mesh leaves written vs es k points corners sides across t0 t1 t2 t3 t4 t5 t6 t7 is each_vertex each_leaf many ep ec ea el e0 e1 e2 e3 e4 e5 e6 e7 =
    let shape = shape_of mesh in
    let v = macro_vertex mesh in
    let n = macro_element mesh written leaves in
    let m = formed mesh written leaves vs es in
    let count = many ∙ sym (made_many v written vs each_vertex) in
    let leaf_count = sym (made_many n leaves es each_leaf) in
    all_text m t0 t1 t2 t3 t4 t5 t6 t7 e0
    (e1 ∙ (λ i. t0 ++ lines_text (head_lines (count i) (leaf_count i))))
    (same_list (codes "vertex coordinates:") t1 t2 _ _ (ap (map coordinates_line) ep ∙ item_lines v point_line coordinates_line (point mesh.vertices) (λ x z. refl) written vs each_vertex) e2)
    (same_list (codes "element vertices:") t2 t3 _ _ (ap (map numbers_line) (ec ∙ twice (numbers shape written) (map pos) leaves) ∙ item_lines n (λ (e : Element). numbers_line (map pos e.corners)) numbers_line (λ (x : Name). map pos (numbers shape written x)) (λ x z. refl) leaves es each_leaf) e3)
    (same_list (codes "element boundaries:") t3 t4 _ _ (ap (map numbers_line) ea ∙ item_lines n (λ (e : Element). numbers_line e.labels) numbers_line (labels mesh) (λ x z. refl) leaves es each_leaf) e4)
    (same_list (codes "element neighbours:") t4 t5 _ _ (ap (map numbers_line) el ∙ item_lines n (λ (e : Element). numbers_line e.neighbours) numbers_line (neighbours shape leaves) (λ x z. refl) leaves es each_leaf) e5)
    (same_list (codes "vertex values:") t5 t6 _ _ (value_lines v (λ (x : MacroVertex). signed_decimal x.value) signed_decimal (λ x z. refl) written vs each_vertex) e6)
    (e7 ∙ ap (λ (ls : List (List ℕ)). t6 ++ lines_text (codes "element values:" ∷ ls)) (value_lines n (λ (e : Element). signed_decimal e.value) signed_decimal (λ x z. refl) leaves es each_leaf))
    ∙ ap (λ (w : List Vertex). macro_bytes (formed mesh w leaves vs es)) is
