-- What stands at each place of a grid.
use Rattle.std.proofs.Common.{◌≡◌, ℕ, ℤ, All, false, get_or, ◌+◌, ◌*◌, ◌/◌, ◌%◌, ◌<◌, ◌≤◌, List, map, length, Some, cond, eqb, eq-eqb, refl, sym, ap, ◌∙◌, arith}
use Rattle.std.specs.Prelude.{slice_get}
use Rattle.std.specs.List.{range_with_len}
use Rattle.std.proofs.Math.ListN.{get_or-map}
use Rattle.std.proofs.Math.Nat.{mul-le-mul_right}
use Rattle.std.proofs.lemmas.Bool.{cond-true}
use Rattle.std.proofs.lemmas.Nat.{mul-add-lt, mod-mul-add, div-mul-add}
use Rattle.std.proofs.lemmas.Option.{slice_get-get_or}
use Rattle.std.proofs.lemmas.List.FromFn.{get_or-map-range_with_len, length-map-range_with_len}
use Rattle.macro_file.specs.declared.text.MacroElem.{MacroElem}
use Rattle.macro_file.specs.Meaning.{Element}
use Rattle.macro_file.specs.Text.{element_of as element_in}
use Rattle.macro_file.proofs.AssemblyLemmas.{made_length}
use Rattle.soak.specs.Grid.{zeros, vertex_number, square_number, vertex_on, element_of, lower, upper, first_of, vertex_at, element_at, GridsAreGrids}

item : {X : Type 0} (f : ℕ → X) (n i : ℕ) → i < n → slice_get (map f (range_with_len 0 n)) i ≡ Some (f i)
item f n i h =
    let long : length (map f (range_with_len 0 n)) ≡ n = length-map-range_with_len f 0 n in
    slice_get-get_or (map f (range_with_len 0 n)) i (f i) (omega (arith, h, long)) ∙ ap Some (get_or-map-range_with_len f 0 n i i (f i) h (omega arith))

vertex_here : (g i j : ℕ) → i ≤ g → vertex_at g (vertex_number g i j) ≡ vertex_on g i j
vertex_here g i j h =
    let low : i < g + 1 = omega arith in
    λ t. vertex_on g (mod-mul-add j (g + 1) i low t) (div-mul-add j (g + 1) i low t)

first_here : (g i j : ℕ) → i < g → first_of g (square_number g i j) ≡ vertex_number g i j
first_here g i j h = λ t. vertex_number g (mod-mul-add j g i h t) (div-mul-add j g i h t)

even_here : (g i j : ℕ) → i < g → element_at g (2 * square_number g i j) ≡ element_of (lower g (vertex_number g i j)) (2 * square_number g i j)
even_here g i j h =
    let k = square_number g i j in
    let none : (2 * k) % 2 ≡ 0 = omega arith in
    let half : (2 * k) / 2 ≡ k = omega arith in
    ap (λ c. element_of c (2 * k)) (cond-true (eqb ((2 * k) % 2) 0) _ _ (eq-eqb ((2 * k) % 2) 0 none) ∙ ap (λ m. lower g (first_of g m)) half ∙ ap (lower g) (first_here g i j h))

odd_here : (g i j : ℕ) → i < g → element_at g (2 * square_number g i j + 1) ≡ element_of (upper g (vertex_number g i j)) (2 * square_number g i j + 1)
odd_here g i j h =
    let k = square_number g i j in
    let one : (2 * k + 1) % 2 ≡ 1 = omega arith in
    let half : (2 * k + 1) / 2 ≡ k = omega arith in
    ap (λ c. element_of c (2 * k + 1)) (ap (λ r. cond (eqb r 0) (lower g (first_of g ((2 * k + 1) / 2))) (upper g (first_of g ((2 * k + 1) / 2)))) one ∙ ap (λ m. upper g (first_of g m)) half ∙ ap (upper g) (first_here g i j h))

pub grids_are_grids : GridsAreGrids
grids_are_grids g = record {
  vertex_count = length-map-range_with_len (vertex_at g) 0 ((g + 1) * (g + 1));
  element_count = length-map-range_with_len (element_at g) 0 (2 * (g * g));
  vertices = λ i j low below. item (vertex_at g) ((g + 1) * (g + 1)) (vertex_number g i j) (mul-add-lt j (g + 1) i (g + 1) (omega arith) (omega arith)) ∙ ap Some (vertex_here g i j low);
  evens = λ i j low below.
      let within : j * g + i < g * g = mul-add-lt j g i g below low in
      item (element_at g) (2 * (g * g)) (2 * square_number g i j) (omega (arith, within)) ∙ ap Some (even_here g i j low);
  odds = λ i j low below.
      let within : j * g + i < g * g = mul-add-lt j g i g below low in
      item (element_at g) (2 * (g * g)) (2 * square_number g i j + 1) (omega (arith, within)) ∙ ap Some (odd_here g i j low);
  no_labels = refl;
  no_neighbours = refl;
}

-- a square has at least one place, and no more than the greatest has
pub square_size : (a n : ℕ) → 1 ≤ a → a ≤ n → (1 ≤ a * a) × (a * a ≤ n * n)
square_size a n some few =
    let least : 1 * a ≤ a * a = mul-le-mul_right a some in
    let most : a * a ≤ n * a = mul-le-mul_right a few in
    let all : a * n ≤ n * n = mul-le-mul_right n few in
    (omega (arith, least, some), omega (arith, most, all))

-- a list of the elements' numbers that is 0 in each element of a grid
pub zero_rows : (row : Element → List ℤ) (items : List MacroElem) (g n : ℕ) → map element_in items ≡ map (element_at g) (range_with_len 0 n) → ((i : ℕ) → row (element_at g i) ≡ zeros) → false ≡ false → All (λ e. row (element_in e) ≡ zeros) items
zero_rows row items g n made rows given i d less =
    let within : i < n = omega (arith, less, made_length element_in (element_at g) items n made) in
    ap row (sym (get_or-map element_in items i d) ∙ ap (λ es. get_or es i (element_in d)) made ∙ get_or-map-range_with_len (element_at g) 0 n i i (element_in d) within (omega arith)) ∙ rows i
