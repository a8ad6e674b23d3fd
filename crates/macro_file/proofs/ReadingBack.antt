-- A macro text that is written is read as the same.
use Rattle.std.proofs.Common.{◌≡◌, ℕ, ℤ, pos, List, [], ◌∷◌, ◌++◌, map, Bool, true, false, cond, length, Ok, Err, ◌+◌, ◌*◌, ◌≤◌, ◌∙◌, refl, sym, ap, arith, All, append_assoc}
use Rattle.std.specs.Prelude.{codes, nat_abs}
use Rattle.std.specs.Fmt.{decimal, signed_decimal}
use Rattle.std.specs.List.{list_any, flat_map}
use Rattle.std.proofs.lemmas.Bool.{eq-eqb, or_parts}
use Rattle.std.proofs.lemmas.Int.{ints}
use Rattle.std.proofs.lemmas.List.{append-nil}
use Rattle.std.proofs.lemmas.List.Elements.{All-head, All-tail}
use Rattle.std.proofs.lemmas.List.Folds.{list_any-append}
use Rattle.mesh_io.specs.Decimals.{written_units}
use Rattle.macro_file.specs.declared.keyword.Keyword.{Keyword}
use Rattle.macro_file.specs.declared.keyword.Keyword.TheVariants.{Dim, DimOfWorld, VertexCount, ElementCount, Coordinates, Triples, Labels, Neighbours, VertexValues, ElementValues}
use Rattle.macro_file.specs.declared.counts.Counts.{Counts}
use Rattle.macro_file.specs.declared.refusal.MacroRefusal.TheVariants.{CountDiffers}
use Rattle.macro_file.specs.Limits.{InRange, ZeroUnless}
use Rattle.macro_file.specs.Steps.{then, each}
use Rattle.macro_file.specs.Keywords.{keyword_of}
use Rattle.macro_file.specs.Sections.{Section, tokens, blocks, add_blocks, from_first_key, sections}
use Rattle.macro_file.specs.Walks.{tokens_of_lines}
use Rattle.macro_file.specs.Numbers.{value}
use Rattle.macro_file.specs.Meaning.{Vertex, Element, Macro, numbers, number_at, counts, wanted, lists, Listed, made, sections_mean, meaning}
use Rattle.macro_file.specs.Written.{list_lines, macro_lines, macro_bytes, head_lines, label_lines, neighbour_lines, point_line, numbers_line}
use Rattle.macro_file.specs.ReadBack.{IsVertex, IsElement, WrittenIsRead}
use Rattle.macro_file.proofs.RangeLemmas.{each-range}
use Rattle.macro_file.proofs.WordLemmas.{words-blank}
use Rattle.macro_file.proofs.PlainLines.{ends_text, Part, part_lines, IsPart, AreParts, line_after, part_blocks, lines-text, parts-plain, blocks-parts, name-text}
use Rattle.macro_file.proofs.WrittenWords.{Reads, ReadsEach, ReadsRows, rows, rows-name, each-rows, words-one, word-name}
use Rattle.macro_file.proofs.WrittenNumbers.{reads_count, reads_corner, reads_label, reads_neighbour, reads_vertex_value, reads_element_value, reads_coordinate}
use Rattle.macro_file.proofs.Remade.{point_row, vertex_value_row, corner_row, label_row, neighbour_row, element_value_row, length-points, length-vertex_values, length-corners, length-labels, length-neighbours, length-element_values, vertices_again, elements_again}

-- The parts of a written text, each with its key.
abbrev Keyed : Type 0
Keyed = Keyword × Part

abbrev count_part : Keyword → List ℕ → ℕ → List (List ℕ) → Keyed
count_part k key n more = (k, record { key = key; tail = 32 ∷ decimal n; rows = more })

abbrev list_part : Keyword → List ℕ → List (List ℕ) → Keyed
list_part k key more = (k, record { key = key; tail = []; rows = more })

abbrev given : {A : Type 0} → Bool → A → List A
given b x = cond b (x ∷ []) []

abbrev labels_part : List Element → Keyed
labels_part es = list_part Labels (codes "element boundaries") (rows Labels signed_decimal label_row es)

abbrev neighbours_part : List Element → Keyed
neighbours_part es = list_part Neighbours (codes "element neighbours") (rows Neighbours signed_decimal neighbour_row es)

abbrev last_parts : List Vertex → List Element → List Keyed
last_parts vs es = list_part VertexValues (codes "vertex values") (rows VertexValues signed_decimal vertex_value_row vs) ∷ list_part ElementValues (codes "element values") (rows ElementValues signed_decimal element_value_row es) ∷ []

abbrev keyed : List Vertex → List Element → Bool → Bool → List Keyed
keyed vs es l n =
    (Dim, record { key = codes "DIM"; tail = codes " 2"; rows = [] })
    ∷ (DimOfWorld, record { key = codes "DIM_OF_WORLD"; tail = codes " 2"; rows = [] ∷ [] })
    ∷ count_part VertexCount (codes "number of vertices") (length vs) []
    ∷ count_part ElementCount (codes "number of elements") (length es) ([] ∷ [])
    ∷ list_part Coordinates (codes "vertex coordinates") (rows Coordinates written_units point_row vs)
    ∷ list_part Triples (codes "element vertices") (rows Triples signed_decimal corner_row es)
    ∷ (given l (labels_part es)
    ++ (given n (neighbours_part es) ++ last_parts vs es))

abbrev parts : List Vertex → List Element → Bool → Bool → List Part
parts vs es l n = map (λ (p : Keyed). p.1) (keyed vs es l n)

abbrev sections_from : ℕ → List Keyed → List Section
sections_from n [] = []
sections_from n (p ∷ ps) = record { line = n; keyword = p.0; tokens = tokens n p.1.tail ++ tokens_of_lines (n + 1) p.1.rows } ∷ sections_from (line_after (n + 1) p.1.rows) ps

abbrev macro_with : List Vertex → List Element → Bool → Bool → Macro
macro_with vs es l n = record { vertices = vs; elements = es; labels_given = l; neighbours_given = n }

-- the keys are known, and none stands twice
known : (vs : List Vertex) (es : List Element) (l n : Bool) → add_blocks [] (part_blocks 1 (parts vs es l n)) ≡ Ok (sections_from 1 (keyed vs es l n))
unfolding keyword_of
known vs es true true = refl
known vs es true false = refl
known vs es false true = refl
known vs es false false = refl

-- the lines of the text are those of the parts
regroup : (a b c d e f g h : List (List ℕ)) → ((((((a ++ b) ++ c) ++ d) ++ e) ++ f) ++ g) ++ h ≡ a ++ (b ++ (c ++ (d ++ (e ++ (f ++ (g ++ h))))))
regroup a b c d e f g h = simp append_assoc

abbrev corner_lines : List Element → List (List ℕ)
corner_lines es = list_lines (codes "element vertices:") (λ (e : Element). numbers_line (map pos e.corners)) es

abbrev value_lines : List Vertex → List (List ℕ)
value_lines vs = list_lines (codes "vertex values:") (λ (v : Vertex). signed_decimal v.value) vs

abbrev last_lines : List Element → List (List ℕ)
last_lines es = codes "element values:" ∷ map (λ (e : Element). signed_decimal e.value) es

abbrev all_lines : List Vertex → List Element → Bool → Bool → List (List ℕ) → List (List ℕ)
all_lines vs es l n last = let m = macro_with vs es l n in head_lines (length vs) (length es) ++ (list_lines (codes "vertex coordinates:") point_line vs ++ (corner_lines es ++ (label_lines m ++ (neighbour_lines m ++ (value_lines vs ++ last)))))

same-lines : (vs : List Vertex) (es : List Element) (l n : Bool) → all_lines vs es l n ((last_lines es ++ [] ∷ []) ++ []) ≡ flat_map part_lines (parts vs es l n)
same-lines vs es true true = refl
same-lines vs es true false = refl
same-lines vs es false true = refl
same-lines vs es false false = refl

text-parts : (vs : List Vertex) (es : List Element) (l n : Bool) → macro_lines (macro_with vs es l n) ++ [] ∷ [] ≡ flat_map part_lines (parts vs es l n)
text-parts vs es l n = let m = macro_with vs es l n in
    regroup (head_lines (length vs) (length es)) (list_lines (codes "vertex coordinates:") point_line vs) (corner_lines es) (label_lines m) (neighbour_lines m) (value_lines vs) (last_lines es) ([] ∷ [])
    ∙ ap (all_lines vs es l n) (sym (append-nil (last_lines es ++ [] ∷ [])))
    ∙ same-lines vs es l n

-- numbers whose texts are read
all_reads : (k : Keyword) (text : ℤ → List ℕ) → ((z : ℤ) → InRange k z → Reads k text z) → (zs : List ℤ) → All (InRange k) zs → ReadsEach k text zs
all_reads k text each_read [] h = tt
all_reads k text each_read (z ∷ zs) h = (each_read z (All-head (InRange k) z zs h), all_reads k text each_read zs (All-tail (InRange k) z zs h))

corner_reads : (cs : List ℕ) → All (λ c. InRange Triples (pos c)) cs → ReadsEach Triples signed_decimal (map pos cs)
corner_reads [] h = tt
corner_reads (c ∷ cs) h = (reads_corner (pos c) (All-head (λ c. InRange Triples (pos c)) c cs h), corner_reads cs (All-tail (λ c. InRange Triples (pos c)) c cs h))

points_read : (vs : List Vertex) → All IsVertex vs → ReadsRows Coordinates written_units point_row vs
points_read [] h = tt
points_read (v ∷ vs) h = let first = All-head IsVertex v vs h in ((reads_coordinate v.x first.x, (reads_coordinate v.y first.y, tt)), points_read vs (All-tail IsVertex v vs h))

vertex_values_read : (vs : List Vertex) → All IsVertex vs → ReadsRows VertexValues signed_decimal vertex_value_row vs
vertex_values_read [] h = tt
vertex_values_read (v ∷ vs) h = ((reads_vertex_value v.value (All-head IsVertex v vs h).value, tt), vertex_values_read vs (All-tail IsVertex v vs h))

corners_read : (es : List Element) → All IsElement es → ReadsRows Triples signed_decimal corner_row es
corners_read [] h = tt
corners_read (e ∷ es) h = (corner_reads e.corners (All-head IsElement e es h).corners, corners_read es (All-tail IsElement e es h))

labels_read : (es : List Element) → All IsElement es → ReadsRows Labels signed_decimal label_row es
labels_read [] h = tt
labels_read (e ∷ es) h = (all_reads Labels signed_decimal reads_label e.labels (All-head IsElement e es h).labels, labels_read es (All-tail IsElement e es h))

neighbours_read : (es : List Element) → All IsElement es → ReadsRows Neighbours signed_decimal neighbour_row es
neighbours_read [] h = tt
neighbours_read (e ∷ es) h = (all_reads Neighbours signed_decimal reads_neighbour e.neighbours (All-head IsElement e es h).neighbours, neighbours_read es (All-tail IsElement e es h))

element_values_read : (es : List Element) → All IsElement es → ReadsRows ElementValues signed_decimal element_value_row es
element_values_read [] h = tt
element_values_read (e ∷ es) h = ((reads_element_value e.value (All-head IsElement e es h).value, tt), element_values_read es (All-tail IsElement e es h))

-- the numbers of a section whose words are read
all_numbers : (count : ℕ) (s : Section) (zs : List ℤ) → each (value s.keyword) s.tokens ≡ Ok zs → length zs ≡ count → numbers count s ≡ Ok zs
all_numbers count s zs e long =
    let all = each-range (λ (z : ℤ). Unit {0}) (value s.keyword) s.tokens zs (λ t z _. tt) e in
    ap (λ t. cond t (each (value s.keyword) s.tokens) (Err (CountDiffers s.line count (length s.tokens)))) (eq-eqb (length s.tokens) count (sym all.1 ∙ long)) ∙ e

list_numbers : {A : Type 0} (k : Keyword) (text : ℤ → List ℕ) (row : A → List ℤ) (xs : List A) (count line : ℕ) → ReadsRows k text row xs → length (flat_map row xs) ≡ count →
    numbers count (record { line = line; keyword = k; tokens = tokens line [] ++ tokens_of_lines (line + 1) (rows k text row xs) }) ≡ Ok (flat_map row xs)
list_numbers k text row xs count line reads long =
    all_numbers count (record { line = line; keyword = k; tokens = tokens_of_lines (line + 1) (rows k text row xs) }) (flat_map row xs) (each-rows k text row (line + 1) xs reads) long

-- the one number of a count
count_number : (k : Keyword) (n line : ℕ) → Reads k signed_decimal (pos n) → numbers 1 (record { line = line; keyword = k; tokens = tokens line (32 ∷ decimal n) ++ [] }) ≡ Ok (pos n ∷ [])
count_number k n line h =
    let word : tokens line (32 ∷ decimal n) ++ [] ≡ (line, decimal n) ∷ [] = append-nil (tokens line (32 ∷ decimal n)) ∙ ap (map (λ (w : List ℕ). (line, w))) (words-blank 32 (decimal n) refl ∙ words-one (decimal n) h.word) in
    ap (λ ts. numbers 1 (record { line = line; keyword = k; tokens = ts })) word
    ∙ ap (λ r. then r (λ (y : ℤ). Ok (y ∷ []))) (h.value line)

-- The lists of a file, one by one.
abbrev Listing : Counts → List Section → List Listed → Type 0
Listing n [] [] = Unit {0}
Listing n [] (l ∷ ls) = ⊥
Listing n (s ∷ ss) [] = ⊥
Listing n (s ∷ ss) (l ∷ ls) = (s.keyword ≡ l.0) × (numbers (wanted n s.keyword) s ≡ Ok l.1) × Listing n ss ls

lists-all : (n : Counts) (ss : List Section) (ls : List Listed) → Listing n ss ls → lists n ss ≡ Ok ls
lists-all n [] [] h = refl
lists-all n [] (l ∷ ls) h = absurd h
lists-all n (s ∷ ss) [] h = absurd h
lists-all n (s ∷ ss) (l ∷ ls) h =
    ap (λ r. then (then r (λ zs. Ok (s.keyword, zs))) (λ y. then (lists n ss) (λ ys. Ok (y ∷ ys)))) h.1
    ∙ ap (λ r. then r (λ ys. Ok ((s.keyword, l.1) ∷ ys))) (lists-all n ss ls h.2)
    ∙ (λ i. Ok ((h.0 i, l.1) ∷ ls))

abbrev last_listed : List Vertex → List Element → List Listed
last_listed vs es = (VertexValues, flat_map vertex_value_row vs) ∷ (ElementValues, flat_map element_value_row es) ∷ []

abbrev labels_listed : List Element → Listed
labels_listed es = (Labels, flat_map label_row es)

abbrev neighbours_listed : List Element → Listed
neighbours_listed es = (Neighbours, flat_map neighbour_row es)

abbrev listing : List Vertex → List Element → Bool → Bool → List Listed
listing vs es l n =
    (Dim, pos 2 ∷ []) ∷ (DimOfWorld, pos 2 ∷ []) ∷ (VertexCount, pos (length vs) ∷ []) ∷ (ElementCount, pos (length es) ∷ [])
    ∷ (Coordinates, flat_map point_row vs) ∷ (Triples, flat_map corner_row es)
    ∷ (given l (labels_listed es) ++ (given n (neighbours_listed es) ++ last_listed vs es))

module _ (vs : List Vertex) (es : List Element) where
  abbrev counted : Counts
  counted = record { vertices = length vs; elements = length es }

  module _ (some_vertices : (1 ≤ length vs) × (length vs ≤ 65535)) (some_elements : (1 ≤ length es) × (length es ≤ 65535)) (are_vertices : All IsVertex vs) (are_elements : All IsElement es) where
    reads_vertices : Reads VertexCount signed_decimal (pos (length vs))
    reads_vertices = reads_count VertexCount (length vs) (omega (arith, ints), omega (arith, ints)) (λ _. refl)

    reads_elements : Reads ElementCount signed_decimal (pos (length es))
    reads_elements = reads_count ElementCount (length es) (omega (arith, ints), omega (arith, ints)) (λ _. refl)

    -- the parts have no mark of their own
    count_fits : (k : Keyword) (n : ℕ) → Reads k signed_decimal (pos n) → list_any ends_text (32 ∷ decimal n) ≡ false
    count_fits k n h = name-text (decimal n) (word-name (decimal n) h.word.whole)

    labels_fit : IsPart (labels_part es).1
    labels_fit = record { key = refl; tail = refl; rows = rows-name Labels signed_decimal label_row es (labels_read es are_elements) }

    neighbours_fit : IsPart (neighbours_part es).1
    neighbours_fit = record { key = refl; tail = refl; rows = rows-name Neighbours signed_decimal neighbour_row es (neighbours_read es are_elements) }

    parts_fit : (l n : Bool) → AreParts (parts vs es l n)
    parts_fit l n =
        let vertex_values_fit : IsPart (list_part VertexValues (codes "vertex values") (rows VertexValues signed_decimal vertex_value_row vs)).1 = record { key = refl; tail = refl; rows = rows-name VertexValues signed_decimal vertex_value_row vs (vertex_values_read vs are_vertices) } in
        let element_values_fit : IsPart (list_part ElementValues (codes "element values") (rows ElementValues signed_decimal element_value_row es)).1 = record { key = refl; tail = refl; rows = rows-name ElementValues signed_decimal element_value_row es (element_values_read es are_elements) } in (
          record { key = refl; tail = refl; rows = refl },
          (
            record { key = refl; tail = refl; rows = refl },
            (
              record { key = refl; tail = count_fits VertexCount (length vs) reads_vertices; rows = refl },
              (
                record { key = refl; tail = count_fits ElementCount (length es) reads_elements; rows = refl },
                (
                  record { key = refl; tail = refl; rows = rows-name Coordinates written_units point_row vs (points_read vs are_vertices) },
                  (
                    record { key = refl; tail = refl; rows = rows-name Triples signed_decimal corner_row es (corners_read es are_elements) },
                    by l n (vertex_values_fit, (element_values_fit, tt)),
                  ),
                ),
              ),
            ),
          ),
        )
      where
        by : (l n : Bool) → AreParts (map (λ (p : Keyed). p.1) (last_parts vs es)) → AreParts (map (λ (p : Keyed). p.1) (given l (labels_part es) ++ (given n (neighbours_part es) ++ last_parts vs es)))
        by true true h = (labels_fit, (neighbours_fit, h))
        by true false h = (labels_fit, h)
        by false true h = (neighbours_fit, h)
        by false false h = h

    -- the four steps
    sections_are : (l n : Bool) → sections (macro_bytes (macro_with vs es l n)) ≡ Ok (sections_from 1 (keyed vs es l n))
    sections_are l n =
        let ls = macro_lines (macro_with vs es l n) in
        let fit = parts_fit l n in
        let all : list_any (list_any ends_text) (ls ++ [] ∷ []) ≡ false = ap (list_any (list_any ends_text)) (text-parts vs es l n) ∙ parts-plain (parts vs es l n) fit in
        let plain = (or_parts (list_any (list_any ends_text) ls) _ (sym (list_any-append (list_any ends_text) ls ([] ∷ [])) ∙ all)).0 in
        ap (λ ms. from_first_key (blocks 1 ms)) (lines-text ls plain ∙ text-parts vs es l n)
        ∙ ap from_first_key (blocks-parts 1 (parts vs es l n) fit)
        ∙ known vs es l n

    counts_are : (l n : Bool) → counts (sections_from 1 (keyed vs es l n)) ≡ Ok counted
    counts_are l n = λ i. then (then (count_number VertexCount (length vs) 4 reads_vertices i) (λ zs. Ok (number_at zs 0))) (λ v. then (then (count_number ElementCount (length es) 5 reads_elements i) (λ zs. Ok (number_at zs 0))) (λ e. Ok (record { vertices = nat_abs v; elements = nat_abs e })))

    lists_are : (l n : Bool) → Listing counted (sections_from 1 (keyed vs es l n)) (listing vs es l n)
    lists_are l n = (
      refl,
      refl,
      (
        refl,
        refl,
        (
          refl,
          count_number VertexCount (length vs) 4 reads_vertices,
          (
            refl,
            count_number ElementCount (length es) 5 reads_elements,
            (
              refl,
              list_numbers Coordinates written_units point_row vs (2 * length vs) 7 (points_read vs are_vertices) (length-points vs),
              (
                refl,
                list_numbers Triples signed_decimal corner_row es (3 * length es) _ (corners_read es are_elements) (length-corners es are_elements),
                by l n _,
              ),
            ),
          ),
        ),
      ),
    )
      where
        labels_here : (line : ℕ) → numbers (3 * length es) (record { line = line; keyword = Labels; tokens = tokens line [] ++ tokens_of_lines (line + 1) (rows Labels signed_decimal label_row es) }) ≡ Ok (flat_map label_row es)
        labels_here line = list_numbers Labels signed_decimal label_row es (3 * length es) line (labels_read es are_elements) (length-labels es are_elements)

        neighbours_here : (line : ℕ) → numbers (3 * length es) (record { line = line; keyword = Neighbours; tokens = tokens line [] ++ tokens_of_lines (line + 1) (rows Neighbours signed_decimal neighbour_row es) }) ≡ Ok (flat_map neighbour_row es)
        neighbours_here line = list_numbers Neighbours signed_decimal neighbour_row es (3 * length es) line (neighbours_read es are_elements) (length-neighbours es are_elements)

        last : (line : ℕ) → Listing counted (sections_from line (last_parts vs es)) (last_listed vs es)
        last line = (
          refl,
          list_numbers VertexValues signed_decimal vertex_value_row vs (length vs) line (vertex_values_read vs are_vertices) (length-vertex_values vs),
          (
            refl,
            list_numbers ElementValues signed_decimal element_value_row es (length es) _ (element_values_read es are_elements) (length-element_values es),
            tt,
          ),
        )

        by : (l n : Bool) (line : ℕ) → Listing counted (sections_from line (given l (labels_part es) ++ (given n (neighbours_part es) ++ last_parts vs es))) (given l (labels_listed es) ++ (given n (neighbours_listed es) ++ last_listed vs es))
        by true true line = (refl, labels_here line, (refl, neighbours_here _, last _))
        by true false line = (refl, labels_here line, last _)
        by false true line = (refl, neighbours_here line, last _)
        by false false line = last line

    written : (l n : Bool) → ZeroUnless l es label_row → ZeroUnless n es neighbour_row → meaning (macro_bytes (macro_with vs es l n)) ≡ Ok (macro_with vs es l n)
    written l n no_labels no_neighbours =
        ap (λ r. then r sections_mean) (sections_are l n)
        ∙ ap (λ r. then r (λ c. then (lists c (sections_from 1 (keyed vs es l n))) (λ ls. Ok (made c ls)))) (counts_are l n)
        ∙ ap (λ r. then r (λ ls. Ok (made counted ls))) (lists-all counted (sections_from 1 (keyed vs es l n)) (listing vs es l n) (lists_are l n))
        ∙ ap Ok (by l n no_labels no_neighbours)
      where
        by : (l n : Bool) → ZeroUnless l es label_row → ZeroUnless n es neighbour_row → made counted (listing vs es l n) ≡ macro_with vs es l n
        by true true f g = λ i. macro_with (vertices_again vs i) (elements_again true true es are_elements f g i) true true
        by true false f g = λ i. macro_with (vertices_again vs i) (elements_again true false es are_elements f g i) true false
        by false true f g = λ i. macro_with (vertices_again vs i) (elements_again false true es are_elements f g i) false true
        by false false f g = λ i. macro_with (vertices_again vs i) (elements_again false false es are_elements f g i) false false

pub written_back : WrittenIsRead
written_back m h = written m.vertices m.elements h.some_vertices h.some_elements h.vertices h.elements m.labels_given m.neighbours_given h.labels h.neighbours
