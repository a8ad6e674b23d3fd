-- A macro text is made again of its numbers.
use Rattle.std.proofs.Common.{◌≡◌, ℕ, zero, suc, ℤ, pos, nat_abs, List, [], ◌∷◌, ◌++◌, map, Bool, true, false, cond, length, get_or, ◌+◌, ◌*◌, ◌<◌, ◌∙◌, refl, sym, ap, arith, All, length-append}
use Rattle.std.specs.List.{range_with_len, flat_map}
use Rattle.std.proofs.lemmas.List.{ext_get_or, length-map, get_or-append-add, get_or_append_left}
use Rattle.std.proofs.lemmas.List.Elements.{All-head, All-tail}
use Rattle.std.proofs.lemmas.List.FromFn.{get_or-map-range_with_len, length-map-range_with_len}
use Rattle.macro_file.specs.Meaning.{Vertex, Element, number_at, vertex, three, element}
use Rattle.macro_file.specs.Limits.{ZeroUnless}
use Rattle.macro_file.specs.ReadBack.{IsElement}
use Rattle.macro_file.proofs.WriterLemmas.{three_items}

-- a list that is made of its own items
made_again : {A : Type 0} (f : ℕ → A) (xs : List A) (d : A) → ((i : ℕ) → i < length xs → f i ≡ get_or xs i d) → map f (range_with_len 0 (length xs)) ≡ xs
made_again f xs d h =
    let long = length-map-range_with_len f 0 (length xs) in
    ext_get_or d (map f (range_with_len 0 (length xs))) xs long
    (λ i less. let l : i < length xs = omega arith in get_or-map-range_with_len f 0 (length xs) i i d l (omega arith) ∙ h i l)

made_list : {A : Type 0} (f : ℕ → A) (xs : List A) → ((i : ℕ) (d : A) → i < length xs → f i ≡ get_or xs i d) → map f (range_with_len 0 (length xs)) ≡ xs
made_list f [] h = refl
made_list f (x ∷ xs) h = made_again f (x ∷ xs) x (λ i. h i x)

-- rows of one length, one after another
module _ {A : Type 0} (row : A → List ℤ) (w : ℕ) where
  abbrev pub AreRows : List A → Type 0
  AreRows [] = Unit {0}
  AreRows (x ∷ xs) = (length (row x) ≡ w) × AreRows xs

  pub length-rows : (xs : List A) → AreRows xs → length (flat_map row xs) ≡ w * length xs
  length-rows [] h = omega arith
  length-rows (x ∷ xs) h = omega (arith, length-append (row x) (flat_map row xs), h.0, length-rows xs h.1)

  -- the number at j of row i
  row_at : (xs : List A) (i j k : ℕ) (d : A) → AreRows xs → i < length xs → j < w → k ≡ w * i + j → number_at (flat_map row xs) k ≡ number_at (row (get_or xs i d)) j
  row_at [] i j k d h less low e = absurd (omega arith)
  row_at (x ∷ xs) zero j k d h less low e = ap (number_at (row x ++ flat_map row xs)) (let same : k ≡ j = omega (arith, e) in same) ∙ get_or_append_left (row x) (flat_map row xs) (pos 0) j (omega (arith, h.0))
  row_at (x ∷ xs) (suc i) j k d h less low e =
      ap (number_at (row x ++ flat_map row xs)) (let next : k ≡ length (row x) + (w * i + j) = omega (arith, e, h.0) in next)
      ∙ get_or-append-add (row x) (flat_map row xs) (w * i + j) (pos 0)
      ∙ row_at xs i j (w * i + j) d h.1 (omega (arith, less)) low refl

-- vertices
abbrev pub point_row : Vertex → List ℤ
point_row v = v.x ∷ v.y ∷ []

abbrev pub vertex_value_row : Vertex → List ℤ
vertex_value_row v = v.value ∷ []

point_rows : (vs : List Vertex) → AreRows point_row 2 vs
point_rows [] = tt
point_rows (v ∷ vs) = (refl, point_rows vs)

vertex_value_rows : (vs : List Vertex) → AreRows vertex_value_row 1 vs
vertex_value_rows [] = tt
vertex_value_rows (v ∷ vs) = (refl, vertex_value_rows vs)

pub vertices_again : (vs : List Vertex) → map (vertex (flat_map point_row vs) (flat_map vertex_value_row vs)) (range_with_len 0 (length vs)) ≡ vs
vertices_again vs = made_list _ vs (λ i d less.
    let x = row_at point_row 2 vs i 0 (2 * i) d (point_rows vs) less (omega arith) (omega arith) in
    let y = row_at point_row 2 vs i 1 (2 * i + 1) d (point_rows vs) less (omega arith) refl in
    let value = row_at vertex_value_row 1 vs i 0 i d (vertex_value_rows vs) less (omega arith) (omega arith) in
    λ j. record { x = x j; y = y j; value = value j })

-- elements
abbrev pub corner_row : Element → List ℤ
corner_row e = map pos e.corners

abbrev pub label_row : Element → List ℤ
label_row e = e.labels

abbrev pub neighbour_row : Element → List ℤ
neighbour_row e = e.neighbours

abbrev pub element_value_row : Element → List ℤ
element_value_row e = e.value ∷ []

element_value_rows : (es : List Element) → AreRows element_value_row 1 es
element_value_rows [] = tt
element_value_rows (e ∷ es) = (refl, element_value_rows es)

-- three numbers of each row
three_again : (row : Element → List ℤ) (es : List Element) (i : ℕ) (d : Element) → AreRows row 3 es → i < length es → length (row (get_or es i d)) ≡ 3 → three (flat_map row es) i ≡ row (get_or es i d)
three_again row es i d h less long =
    let zs = row (get_or es i d) in
    let a = row_at row 3 es i 0 (3 * i) d h less (omega arith) (omega arith) in
    let b = row_at row 3 es i 1 (3 * i + 1) d h less (omega arith) refl in
    let c = row_at row 3 es i 2 (3 * i + 2) d h less (omega arith) refl in
    (λ j. a j ∷ b j ∷ c j ∷ []) ∙ sym (three_items zs (pos 0) long)

sizes : (cs : List ℕ) → map nat_abs (map pos cs) ≡ cs
sizes [] = refl
sizes (c ∷ cs) = ap (λ ds. c ∷ ds) (sizes cs)

-- the numbers of a list that may be left out
abbrev pub listed_rows : Bool → (Element → List ℤ) → List Element → List ℤ
listed_rows given row es = cond given (flat_map row es) []

-- they give the rows again, where rows that are left out are 0
given_again : (given : Bool) (row : Element → List ℤ) (es : List Element) (i : ℕ) (d : Element) → AreRows row 3 es → ZeroUnless given es row → i < length es → length (row (get_or es i d)) ≡ 3 → three (listed_rows given row es) i ≡ row (get_or es i d)
given_again true row es i d h zero_row less long = three_again row es i d h less long
given_again false row es i d h zero_row less long = sym (zero_row refl i d less)

corner_rows : (es : List Element) → All IsElement es → AreRows corner_row 3 es
corner_rows [] h = tt
corner_rows (e ∷ es) h = (length-map e.corners pos ∙ (All-head IsElement e es h).three_corners, corner_rows es (All-tail IsElement e es h))

label_rows : (es : List Element) → All IsElement es → AreRows label_row 3 es
label_rows [] h = tt
label_rows (e ∷ es) h = ((All-head IsElement e es h).three_labels, label_rows es (All-tail IsElement e es h))

neighbour_rows : (es : List Element) → All IsElement es → AreRows neighbour_row 3 es
neighbour_rows [] h = tt
neighbour_rows (e ∷ es) h = ((All-head IsElement e es h).three_neighbours, neighbour_rows es (All-tail IsElement e es h))

pub length-corners : (es : List Element) → All IsElement es → length (flat_map corner_row es) ≡ 3 * length es
length-corners es h = length-rows corner_row 3 es (corner_rows es h)

pub length-labels : (es : List Element) → All IsElement es → length (flat_map label_row es) ≡ 3 * length es
length-labels es h = length-rows label_row 3 es (label_rows es h)

pub length-neighbours : (es : List Element) → All IsElement es → length (flat_map neighbour_row es) ≡ 3 * length es
length-neighbours es h = length-rows neighbour_row 3 es (neighbour_rows es h)

pub length-points : (vs : List Vertex) → length (flat_map point_row vs) ≡ 2 * length vs
length-points vs = length-rows point_row 2 vs (point_rows vs)

pub length-vertex_values : (vs : List Vertex) → length (flat_map vertex_value_row vs) ≡ length vs
length-vertex_values vs = let e = length-rows vertex_value_row 1 vs (vertex_value_rows vs) in omega arith

pub length-element_values : (es : List Element) → length (flat_map element_value_row es) ≡ length es
length-element_values es = let e = length-rows element_value_row 1 es (element_value_rows es) in omega arith

pub elements_again : (labels_given neighbours_given : Bool) (es : List Element) → All IsElement es → ZeroUnless labels_given es label_row → ZeroUnless neighbours_given es neighbour_row →
    map (element (flat_map corner_row es) (listed_rows labels_given label_row es) (listed_rows neighbours_given neighbour_row es) (flat_map element_value_row es)) (range_with_len 0 (length es)) ≡ es
elements_again labels_given neighbours_given es h no_labels no_neighbours = made_list _ es (λ i d less.
    let e = h i d less in
    let corners = ap (map nat_abs) (three_again corner_row es i d (corner_rows es h) less (length-map (get_or es i d).corners pos ∙ e.three_corners)) ∙ sizes (get_or es i d).corners in
    let labels = given_again labels_given label_row es i d (label_rows es h) no_labels less e.three_labels in
    let neighbours = given_again neighbours_given neighbour_row es i d (neighbour_rows es h) no_neighbours less e.three_neighbours in
    let value = row_at element_value_row 1 es i 0 i d (element_value_rows es) less (omega arith) (omega arith) in
    λ j. record { corners = corners j; labels = labels j; neighbours = neighbours j; value = value j })
