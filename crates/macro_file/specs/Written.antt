-- The text of a macro file.
use Rattle.std.specs.Prelude.{ℕ, ℤ, pos, List, [], ◌∷◌, ◌++◌, map, length, codes, if◌then◌else◌}
use Rattle.std.specs.List.{flat_map, join_with_byte}
use Rattle.std.specs.Fmt.{decimal, signed_decimal}
use Rattle.mesh_io.specs.Decimals.{written_units}
use Rattle.macro_file.specs.Meaning.{Vertex, Macro}

-- these lines, each with its newline
abbrev pub lines_text : List (List ℕ) → List ℕ
lines_text ls = flat_map (λ l. l ++ 10 ∷ []) ls

-- whole numbers, parted by one space
abbrev pub numbers_line : List ℤ → List ℕ
numbers_line zs = join_with_byte 32 (map signed_decimal zs)

-- the decimals of a vertex
abbrev pub point_line : Vertex → List ℕ
point_line v = written_units v.x ++ 32 ∷ written_units v.y

-- a key, a line of each, and an empty line
abbrev pub list_lines : {A : Type 0} → List ℕ → (A → List ℕ) → List A → List (List ℕ)
list_lines key line xs = key ∷ (map line xs ++ [] ∷ [])

-- the dimensions and the counts
abbrev pub head_lines : ℕ → ℕ → List (List ℕ)
head_lines vertices elements =
    codes "DIM: 2" ∷ codes "DIM_OF_WORLD: 2" ∷ [] ∷
    (codes "number of vertices: " ++ decimal vertices) ∷ (codes "number of elements: " ++ decimal elements) ∷ [] ∷ []

-- the list of the labels, where it was given
abbrev pub label_lines : Macro → List (List ℕ)
label_lines m = if m.labels_given then list_lines (codes "element boundaries:") (λ e. numbers_line e.labels) m.elements else []

-- the list of the neighbours, where it was given
abbrev pub neighbour_lines : Macro → List (List ℕ)
neighbour_lines m = if m.neighbours_given then list_lines (codes "element neighbours:") (λ e. numbers_line e.neighbours) m.elements else []

-- the lines of a macro text
abbrev pub macro_lines : Macro → List (List ℕ)
macro_lines m =
    head_lines (length m.vertices) (length m.elements)
    ++ list_lines (codes "vertex coordinates:") point_line m.vertices
    ++ list_lines (codes "element vertices:") (λ e. numbers_line (map pos e.corners)) m.elements
    ++ label_lines m
    ++ neighbour_lines m
    ++ list_lines (codes "vertex values:") (λ v. signed_decimal v.value) m.vertices
    ++ codes "element values:" ∷ map (λ e. signed_decimal e.value) m.elements

-- the bytes of a macro text
abbrev pub macro_bytes : Macro → List ℕ
macro_bytes m = lines_text (macro_lines m)
