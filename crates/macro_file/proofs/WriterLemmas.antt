-- Text that is appended piece by piece.
use Rattle.std.proofs.Common.{◌≡◌, ℕ, zero, suc, ℤ, List, [], ◌∷◌, ◌++◌, length, get_or, take, ◌+◌, ◌<◌, ◌≤◌, ◌^◌, ◌∙◌, refl, sym, ap, arith, append_assoc}
use Rattle.std.specs.Prelude.{map, codes, pos}
use Rattle.std.specs.Fmt.{decimal, signed_decimal}
use Rattle.macro_file.specs.Meaning.{Vertex, Element, Macro}
use Rattle.std.proofs.lemmas.List.{take_more, take_all, map-append, append-nil, length-map}
use Rattle.std.proofs.lemmas.Int.{to_z-of_z}
use mir.Val.{to_z, of_z, SFits, hbits}
use mir.Syntax.{Width, w64}
use lib.Signed.{mag}
use Rattle.macro_file.specs.Written.{lines_text, list_lines, head_lines, numbers_line, point_line, label_lines, neighbour_lines, macro_bytes}

-- the pieces of a line of two or three words
pub two_words : (t a b : List ℕ) → (((t ++ a) ++ 32 ∷ []) ++ b) ++ 10 ∷ [] ≡ t ++ ((a ++ 32 ∷ b) ++ 10 ∷ [])
two_words t a b = simp append_assoc

pub three_words : (t a b c : List ℕ) → (((((t ++ a) ++ 32 ∷ []) ++ b) ++ 32 ∷ []) ++ c) ++ 10 ∷ [] ≡ t ++ ((a ++ 32 ∷ (b ++ 32 ∷ c)) ++ 10 ∷ [])
three_words t a b c = simp append_assoc

pub lines-append : (ls ms : List (List ℕ)) → lines_text (ls ++ ms) ≡ lines_text ls ++ lines_text ms
lines-append [] ms = refl
lines-append (l ∷ ls) ms = ap (λ xs. (l ++ 10 ∷ []) ++ xs) (lines-append ls ms) ∙ sym (append_assoc (l ++ 10 ∷ []) (lines_text ls) (lines_text ms))

lines-one : (l : List ℕ) → lines_text (l ∷ []) ≡ l ++ 10 ∷ []
lines-one l = append-nil (l ++ 10 ∷ [])

get_or-map : {A B : Type 0} (f : A → B) (xs : List A) (i : ℕ) (d : A) → get_or (map f xs) i (f d) ≡ f (get_or xs i d)
get_or-map f [] i d = refl
get_or-map f (x ∷ xs) zero d = refl
get_or-map f (x ∷ xs) (suc i) d = get_or-map f xs i d

module _ {A B : Type 0} (line : B → List ℕ) (view : A → B) (xs : List A) where
  -- one line more
  pub line_more : (i : ℕ) (x : A) (t0 t1 t2 : List ℕ) → i < length xs → x ≡ get_or xs i x → t1 ≡ t0 ++ lines_text (map line (take i (map view xs))) → t2 ≡ t1 ++ (line (view x) ++ 10 ∷ []) → t2 ≡ t0 ++ lines_text (map line (take (i + 1) (map view xs)))
  line_more i x t0 t1 t2 h is e n =
      let item : get_or (map view xs) i (view x) ≡ view x = get_or-map view xs i x ∙ ap view (sym is) in
      let more : take (i + 1) (map view xs) ≡ take i (map view xs) ++ view x ∷ [] = take_more (map view xs) i (view x) (omega (arith, length-map xs view)) ∙ ap (λ y. take i (map view xs) ++ y ∷ []) item in
      n ∙ ap (λ t. t ++ (line (view x) ++ 10 ∷ [])) e ∙ append_assoc t0 (lines_text (map line (take i (map view xs)))) (line (view x) ++ 10 ∷ [])
      ∙ ap (λ ts. t0 ++ ts) (sym (ap (λ ys. lines_text (map line ys)) more ∙ ap lines_text (map-append line (take i (map view xs)) (view x ∷ [])) ∙ lines-append (map line (take i (map view xs))) (line (view x) ∷ [])
      ∙ ap (λ ts. lines_text (map line (take i (map view xs))) ++ ts) (lines-one (line (view x)))))

  -- a key and a line of each
  pub put_all : (key : List ℕ) (i : ℕ) (t0 t1 t2 : List ℕ) → length xs ≤ i → t1 ≡ t0 ++ (key ++ 10 ∷ []) → t2 ≡ t1 ++ lines_text (map line (take i (map view xs))) → t2 ≡ t0 ++ lines_text (key ∷ map line (map view xs))
  put_all key i t0 t1 t2 h e1 e2 = e2 ∙ (λ j. e1 j ++ lines_text (map line (take_all i (map view xs) (omega (arith, length-map xs view)) j))) ∙ append_assoc t0 (key ++ 10 ∷ []) (lines_text (map line (map view xs)))

  -- the same, and an empty line
  pub put_section : (key : List ℕ) (i : ℕ) (t0 t1 t2 t3 : List ℕ) → length xs ≤ i → t1 ≡ t0 ++ (key ++ 10 ∷ []) → t2 ≡ t1 ++ lines_text (map line (take i (map view xs))) → t3 ≡ t2 ++ 10 ∷ [] → t3 ≡ t0 ++ lines_text (list_lines key line (map view xs))
  put_section key i t0 t1 t2 t3 h e1 e2 e3 =
      e3 ∙ ap (λ t. t ++ 10 ∷ []) (put_all key i t0 t1 t2 h e1 e2) ∙ append_assoc t0 (lines_text (key ∷ map line (map view xs))) (10 ∷ [])
      ∙ ap (λ ts. t0 ++ ts) (sym (lines-append (key ∷ map line (map view xs)) ([] ∷ [])))

-- two words, one after the other
pub put_two : (t0 t1 t2 t3 t4 a b : List ℕ) → t1 ≡ t0 ++ a → t2 ≡ t1 ++ 32 ∷ [] → t3 ≡ t2 ++ b → t4 ≡ t3 ++ 10 ∷ [] → t4 ≡ t0 ++ ((a ++ 32 ∷ b) ++ 10 ∷ [])
put_two t0 t1 t2 t3 t4 a b e1 e2 e3 e4 = e4 ∙ ap (λ t. t ++ 10 ∷ []) (e3 ∙ ap (λ t. t ++ b) (e2 ∙ ap (λ t. t ++ 32 ∷ []) e1)) ∙ two_words t0 a b

-- three words
pub put_three : (t0 t1 t2 t3 t4 t5 t6 a b c : List ℕ) → t1 ≡ t0 ++ a → t2 ≡ t1 ++ 32 ∷ [] → t3 ≡ t2 ++ b → t4 ≡ t3 ++ 32 ∷ [] → t5 ≡ t4 ++ c → t6 ≡ t5 ++ 10 ∷ [] → t6 ≡ t0 ++ ((a ++ 32 ∷ (b ++ 32 ∷ c)) ++ 10 ∷ [])
put_three t0 t1 t2 t3 t4 t5 t6 a b c e1 e2 e3 e4 e5 e6 =
    e6 ∙ ap (λ t. t ++ 10 ∷ []) (e5 ∙ ap (λ t. t ++ c) (e4 ∙ ap (λ t. t ++ 32 ∷ []) (e3 ∙ ap (λ t. t ++ b) (e2 ∙ ap (λ t. t ++ 32 ∷ []) e1)))) ∙ three_words t0 a b c

pub three_items : {A : Type 0} (xs : List A) (d : A) → length xs ≡ 3 → xs ≡ get_or xs 0 d ∷ get_or xs 1 d ∷ get_or xs 2 d ∷ []
three_items [] d h = absurd (omega arith)
three_items (x ∷ []) d h = absurd (omega arith)
three_items (x ∷ y ∷ []) d h = absurd (omega arith)
three_items (x ∷ y ∷ z ∷ []) d h = refl
three_items (x ∷ y ∷ z ∷ w ∷ ws) d h = absurd (omega arith)

-- a number that is read from a narrower type and handed on
pub widened : (w : Width) (z r : ℤ) → SFits w z → mag r < 2 ^ hbits w64 → r ≡ to_z w (of_z w z) → to_z w64 (of_z w64 r) ≡ z
widened w z r narrow fits e = to_z-of_z w64 r (record { sfits = fits }) ∙ e ∙ to_z-of_z w z narrow

-- lines after lines
pub text_more : (ls more : List (List ℕ)) (t now : List ℕ) → t ≡ lines_text ls → now ≡ t ++ lines_text more → now ≡ lines_text (ls ++ more)
text_more ls more t now e h = h ∙ ap (λ u. u ++ lines_text more) e ∙ sym (lines-append ls more)

-- the pieces of the head
five_pieces : (t p a q b r : List ℕ) → ((((t ++ p) ++ a) ++ q) ++ b) ++ r ≡ t ++ (p ++ (a ++ (q ++ (b ++ r))))
five_pieces t p a q b r = simp append_assoc

head_pieces : (t a b : List ℕ) →
    ((((t ++ (codes "DIM: 2" ++ 10 ∷ codes "DIM_OF_WORLD: 2" ++ 10 ∷ 10 ∷ codes "number of vertices: ")) ++ a) ++ 10 ∷ codes "number of elements: ") ++ b) ++ 10 ∷ 10 ∷ []
    ≡ t ++ lines_text (codes "DIM: 2" ∷ codes "DIM_OF_WORLD: 2" ∷ [] ∷ (codes "number of vertices: " ++ a) ∷ (codes "number of elements: " ++ b) ∷ [] ∷ [])
head_pieces t a b =
    let first = codes "DIM: 2" ++ 10 ∷ codes "DIM_OF_WORLD: 2" ++ 10 ∷ 10 ∷ codes "number of vertices: " in
    let second = codes "number of elements: " in
    five_pieces t first a (10 ∷ second) b (10 ∷ 10 ∷ [])
    ∙ ap (λ u. t ++ (first ++ u)) (ap (λ w. a ++ 10 ∷ (second ++ w)) (sym (append_assoc b (10 ∷ []) (10 ∷ []))) ∙ sym (append_assoc a (10 ∷ []) (second ++ ((b ++ 10 ∷ []) ++ 10 ∷ []))))

pub put_head : (t0 t1 t2 t3 t4 t5 : List ℕ) (v e : ℕ) → t1 ≡ t0 ++ (codes "DIM: 2" ++ 10 ∷ codes "DIM_OF_WORLD: 2" ++ 10 ∷ 10 ∷ codes "number of vertices: ") → t2 ≡ t1 ++ decimal v → t3 ≡ t2 ++ 10 ∷ codes "number of elements: " → t4 ≡ t3 ++ decimal e → t5 ≡ t4 ++ 10 ∷ 10 ∷ [] →
    t5 ≡ t0 ++ lines_text (head_lines v e)
put_head t0 t1 t2 t3 t4 t5 v e e1 e2 e3 e4 e5 =
    e5 ∙ ap (λ t. t ++ 10 ∷ 10 ∷ []) (e4 ∙ ap (λ t. t ++ decimal e) (e3 ∙ ap (λ t. t ++ 10 ∷ codes "number of elements: ") (e2 ∙ ap (λ t. t ++ decimal v) e1))) ∙ head_pieces t0 (decimal v) (decimal e)

-- the whole text, piece by piece
pub all_text : (m : Macro) (t0 t1 t2 t3 t4 t5 t6 t7 : List ℕ) → t0 ≡ [] →
    t1 ≡ t0 ++ lines_text (head_lines (length m.vertices) (length m.elements)) →
    t2 ≡ t1 ++ lines_text (list_lines (codes "vertex coordinates:") point_line m.vertices) →
    t3 ≡ t2 ++ lines_text (list_lines (codes "element vertices:") (λ (e : Element). numbers_line (map pos e.corners)) m.elements) →
    t4 ≡ t3 ++ lines_text (label_lines m) →
    t5 ≡ t4 ++ lines_text (neighbour_lines m) →
    t6 ≡ t5 ++ lines_text (list_lines (codes "vertex values:") (λ (v : Vertex). signed_decimal v.value) m.vertices) →
    t7 ≡ t6 ++ lines_text (codes "element values:" ∷ map (λ (e : Element). signed_decimal e.value) m.elements) → t7 ≡ macro_bytes m
all_text m t0 t1 t2 t3 t4 t5 t6 t7 e0 e1 e2 e3 e4 e5 e6 e7 =
    let l1 = head_lines (length m.vertices) (length m.elements) in
    let l2 = list_lines (codes "vertex coordinates:") point_line m.vertices in
    let l3 = list_lines (codes "element vertices:") (λ (e : Element). numbers_line (map pos e.corners)) m.elements in
    let l4 = label_lines m in
    let l5 = neighbour_lines m in
    let l6 = list_lines (codes "vertex values:") (λ (v : Vertex). signed_decimal v.value) m.vertices in
    let l7 = codes "element values:" ∷ map (λ (e : Element). signed_decimal e.value) m.elements in
    let a1 = text_more [] l1 t0 t1 e0 e1 in
    let a2 = text_more l1 l2 t1 t2 a1 e2 in
    let a3 = text_more (l1 ++ l2) l3 t2 t3 a2 e3 in
    let a4 = text_more (l1 ++ l2 ++ l3) l4 t3 t4 a3 e4 in
    let a5 = text_more (l1 ++ l2 ++ l3 ++ l4) l5 t4 t5 a4 e5 in
    let a6 = text_more (l1 ++ l2 ++ l3 ++ l4 ++ l5) l6 t5 t6 a5 e6 in
    text_more (l1 ++ l2 ++ l3 ++ l4 ++ l5 ++ l6) l7 t6 t7 a6 e7
