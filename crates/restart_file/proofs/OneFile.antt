-- A restart file keeps one macro file, one mesh and one forest.
use Rattle.std.proofs.Common.{◌≡◌, ℕ, suc, ◌<◌, ◌≤◌, true, false, refl, sym, ap, ◌∙◌, subst, List, [], ◌∷◌, ◌++◌, length, map, take, drop, arith, append_assoc, ⊎_elim}
use Rattle.macro_file.specs.declared.refusal.MacroRefusal.{MacroRefusal}
use Rattle.std.specs.Prelude.{Result, Ok, slice_index_or, pos, ℤ, decimal}
use Rattle.std.specs.Str.Parse.{digits_value}
use Rattle.std.proofs.lemmas.Fmt.{digits_value-decimal}
use Rattle.std.proofs.Math.Seq.{take-append_seam, drop-append_seam}
use Rattle.mesh_names.specs.Triangles.{Shape, Triple, size}
use Rattle.mesh_names.proofs.SpelledNames.{own}
use Rattle.std.specs.List.{position_or_len}
use Rattle.mesh_names.specs.Validity.{IsCompatible, across_of}
use Rattle.mesh_names.proofs.Grades.{grades_are_one}
use Rattle.mesh_names.proofs.Sets.{is_or_not}
use Rattle.macro_file.specs.Meaning.{Macro, Element, meaning}
use Rattle.macro_file.specs.Text.{macro_of, vertex_of, element_of}
use Rattle.macro_file.specs.declared.text.MacroElem.{MacroElem}
use Rattle.macro_file.specs.declared.text.MacroText.{MacroText}
use Rattle.compat_check.specs.Meshes.{Mesh, edge_of, shape_of, label_of}
use Rattle.compat_check.specs.Checks.{IsMeshOf, made_label}
use Rattle.restart_file.specs.Files.{IsPart, part_limit}
use Rattle.restart_file.specs.Kept.{IsKept}
use Rattle.restart_file.specs.Trees.{Tree, Leaf, Bisected, word, lines, members_from}
use Rattle.restart_file.specs.Heads.{is_newline}
use Rattle.restart_file.specs.Refusals.{HasHead, HasPart}
use Rattle.restart_file.proofs.Heading.{line_is, newline_at}
use Rattle.restart_file.proofs.Parsing.{heads, tails}
use Rattle.restart_file.specs.OneFile.{IsSameMesh, PartsAreOne, RestartsAreOne, KeptOverPart}

-- ---- one mesh
ok_is : (r : Result Macro MacroRefusal) (a b : Macro) → r ≡ Ok a → r ≡ Ok b → a ≡ b
ok_is r a b e f = cc

map_map : {A B C : Type 0} (f : A → B) (g : B → C) (h : A → C) → ((a : A) → g (f a) ≡ h a) → (xs : List A) → map g (map f xs) ≡ map h xs
map_map f g h e [] = refl
map_map f g h e (x ∷ xs) = λ i. e x i ∷ map_map f g h e xs i

-- what is read of an element is read of its numbers
of_elements : {A : Type 0} (g : Element → A) (t u : MacroText) → macro_of t ≡ macro_of u → map (λ (e : MacroElem). g (element_of e)) t.elements.items ≡ map (λ (e : MacroElem). g (element_of e)) u.elements.items
of_elements g t u e =
    sym (map_map element_of g (λ (x : MacroElem). g (element_of x)) (λ a. refl) t.elements.items)
    ∙ ap (λ (m : Macro). map g m.elements) e
    ∙ map_map element_of g (λ (x : MacroElem). g (element_of x)) (λ a. refl) u.elements.items

module _ (t u : MacroText) (same : macro_of t ≡ macro_of u) (m n : Mesh) (of_t : IsMeshOf t m) (of_u : IsMeshOf u n) where
  triples_same : (shape_of m).triples ≡ (shape_of n).triples
  triples_same = of_t.triples ∙ of_elements (λ (e : Element). e.corners) t u same ∙ sym of_u.triples

  shape_same : shape_of m ≡ shape_of n
  shape_same =
      let a : IsCompatible (record { triples = (shape_of m).triples; grades = (shape_of m).grades }) = of_t.compatible in
      let b : IsCompatible (record { triples = (shape_of m).triples; grades = (shape_of n).grades }) = subst (λ (ts : List Triple). IsCompatible (record { triples = ts; grades = (shape_of n).grades })) (sym triples_same) of_u.compatible in
      let g : (shape_of m).grades ≡ (shape_of n).grades = grades_are_one (shape_of m).triples (shape_of m).grades (shape_of n).grades a b in
      λ i. record { triples = triples_same i; grades = g i }

  labels_same : (r k : ℕ) → r < size (shape_of m) → k < 3 → label_of m r k ≡ label_of n r k
  labels_same r k hr hk = ⊎_elim given made (is_or_not t.labels_given)
    where
      flag : t.labels_given ≡ u.labels_given
      flag = ap (λ (x : Macro). x.labels_given) same

      given : t.labels_given ≡ true → label_of m r k ≡ label_of n r k
      given h = ap (λ (l : List (List ℤ)). slice_index_or (slice_index_or l r []) k (pos 0)) (of_t.given h ∙ of_elements (λ (e : Element). e.labels) t u same ∙ sym (of_u.given (sym flag ∙ h)))

      made : t.labels_given ≡ false → label_of m r k ≡ label_of n r k
      made h =
          (of_t.made h).1 r k hr hk
          ∙ ap (λ (s : Shape). made_label (across_of s r (edge_of k))) shape_same
          ∙ sym ((of_u.made (sym flag ∙ h)).1 r k (subst (λ (s : Shape). r < size s) shape_same hr) hk)

  pub mesh_same : IsSameMesh m n
  mesh_same = record {
    vertices = ap (map vertex_of) of_t.vertices ∙ ap (λ (x : Macro). x.vertices) same ∙ sym (ap (map vertex_of) of_u.vertices);
    shape = shape_same;
    labels = labels_same;
    values = of_t.values ∙ of_elements (λ (e : Element). e.value) t u same ∙ sym of_u.values;
  }

pub parts_are_one : PartsAreOne
parts_are_one part m n a b = mesh_same a.text b.text (ok_is (meaning part) (macro_of a.text) (macro_of b.text) a.read b.read) m n a.checked b.checked

-- ---- one head line
numbers_same : (a b : ℕ) → a ≤ part_limit → b ≤ part_limit → decimal a ≡ decimal b → a ≡ b
numbers_same a b ha hb e = sym (digits_value-decimal own a (omega arith)) ∙ ap (digits_value 10) e ∙ digits_value-decimal own b (omega arith)

pub heads_same : (bytes : List ℕ) (a b : ℕ) (x y : List ℕ) → HasHead bytes a x → HasHead bytes b y → (a ≡ b) × (x ≡ y)
heads_same bytes a b x y h k =
    let e : decimal a ++ 10 ∷ x ≡ decimal b ++ 10 ∷ y = sym (line_is bytes (drop 9 bytes) _ refl refl a x h) ∙ line_is bytes (drop 9 bytes) _ refl refl b y k in
    let l : length (decimal a) ≡ length (decimal b) = sym (newline_at a x h.few) ∙ ap (position_or_len is_newline) e ∙ newline_at b y k.few in
    let d : decimal a ≡ decimal b = sym (take-append_seam (decimal a) (10 ∷ x)) ∙ (λ i. take (l i) (e i)) ∙ take-append_seam (decimal b) (10 ∷ y) in
    let r : 10 ∷ x ≡ 10 ∷ y = sym (drop-append_seam (decimal a) (10 ∷ x)) ∙ (λ i. drop (l i) (e i)) ∙ drop-append_seam (decimal b) (10 ∷ y) in
    (numbers_same a b h.few k.few d, tails 10 10 x y r)

-- ---- one macro part
pub parts_same : (bytes p q x y : List ℕ) → HasPart bytes p x → HasPart bytes q y → (p ≡ q) × (x ≡ y)
parts_same bytes p q x y h k =
    let r = heads_same bytes (length p) (length q) (p ++ x) (q ++ y) (record { few = h.few; bytes_are = h.bytes_are }) (record { few = k.few; bytes_are = k.bytes_are }) in (
      sym (take-append_seam p x) ∙ (λ i. take (r.0 i) (r.1 i)) ∙ take-append_seam q y,
      sym (drop-append_seam p x) ∙ (λ i. drop (r.0 i) (r.1 i)) ∙ drop-append_seam q y,
    )

-- ---- one tree for each line
pub words_same : (t u : Tree) (x y : List ℕ) → word t ++ x ≡ word u ++ y → (t ≡ u) × (x ≡ y)
words_same Leaf Leaf x y e = (refl, tails 48 48 x y e)
words_same Leaf (Bisected c d) x y e = let q : 48 ≡ 49 = heads 48 49 x ((word c ++ word d) ++ y) e in absurd (omega (arith, q))
words_same (Bisected a b) Leaf x y e = let q : 49 ≡ 48 = heads 49 48 ((word a ++ word b) ++ x) y e in absurd (omega (arith, q))
words_same (Bisected a b) (Bisected c d) x y e =
    let f : word a ++ (word b ++ x) ≡ word c ++ (word d ++ y) = sym (append_assoc (word a) (word b) x) ∙ tails 49 49 ((word a ++ word b) ++ x) ((word c ++ word d) ++ y) e ∙ append_assoc (word c) (word d) y in
    let l = words_same a c (word b ++ x) (word d ++ y) f in
    let r = words_same b d x y l.1 in
    (λ i. Bisected (l.0 i) (r.0 i), r.1)

pub lines_same : (ts us : List Tree) (x y : List ℕ) → length ts ≡ length us → lines ts ++ x ≡ lines us ++ y → (ts ≡ us) × (x ≡ y)
lines_same [] [] x y l e = (refl, e)
lines_same [] (u ∷ us) x y l e = absurd (omega (arith, l))
lines_same (t ∷ ts) [] x y l e = absurd (omega (arith, l))
lines_same (t ∷ ts) (u ∷ us) x y l e =
    let f : word t ++ 10 ∷ (lines ts ++ x) ≡ word u ++ 10 ∷ (lines us ++ y) = sym (append_assoc (word t) (10 ∷ lines ts) x) ∙ e ∙ append_assoc (word u) (10 ∷ lines us) y in
    let w = words_same t u (10 ∷ (lines ts ++ x)) (10 ∷ (lines us ++ y)) f in
    let r = lines_same ts us x y (less l) (tails 10 10 (lines ts ++ x) (lines us ++ y) w.1) in
    (λ i. w.0 i ∷ r.0 i, r.1)
  where
    less : {i j : ℕ} → suc i ≡ suc j → i ≡ j
    less h = omega arith

pub restarts_are_one : RestartsAreOne
restarts_are_one bytes part other m n members names a b =
    let p = parts_same bytes part other (lines a.trees) (lines b.trees) (record { few = a.is_part.short; bytes_are = a.bytes_are }) (record { few = b.is_part.short; bytes_are = b.bytes_are }) in
    let same : IsSameMesh m n = parts_are_one other m n (subst (λ (x : List ℕ). IsPart x m) p.0 a.is_part) b.is_part in
    let count : length a.trees ≡ length b.trees = a.each ∙ ap size same.shape ∙ sym b.each in
    let ends : lines a.trees ++ [] ≡ lines b.trees ++ [] = nil (lines a.trees) ∙ p.1 ∙ sym (nil (lines b.trees)) in
    let trees = (lines_same a.trees b.trees [] [] count ends).0 in
    (p.0, same, a.members_are ∙ ap (members_from 0) trees ∙ sym b.members_are)
  where
    nil : (l : List ℕ) → l ++ [] ≡ l
    nil [] = refl
    nil (x ∷ l) = ap (λ (k : List ℕ). x ∷ k) (nil l)

pub kept_over_part : KeptOverPart
kept_over_part part m n members a b kept = subst (λ (s : Shape). IsKept s members) (parts_are_one part m n a b).shape kept
