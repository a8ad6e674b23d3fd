-- A macro text is refused by the check for one cause.
use Rattle.std.proofs.Common.{◌≡◌, ℕ, ◌<◌, ◌≤◌, sym, ap, ◌∙◌, subst, List, length, inl, inr, ⊎_elim, arith}
use Rattle.std.specs.Prelude.{pos, slice_index_or, Some}
use Rattle.std.proofs.lemmas.Bool.{cases_lt}
use Rattle.mesh_names.specs.Triangles.{Triple}
use Rattle.mesh_names.specs.Validity.{IsTwin, ends_of}
use Rattle.macro_file.specs.declared.text.MacroText.{MacroText}
use Rattle.compat_check.specs.Checks.{AreFirstTwins, AreGradesOf, FitsUpTo, HasTwinBefore, IsCheckRefusal, IsFirstEdge, IsTooHigh, triples_of}
use Rattle.compat_check.specs.Faults.{IsFirst, triple_in}
use Rattle.compat_check.specs.Meshes.{edge_of}
use Rattle.compat_check.specs.declared.refusal.CheckRefusal.{CheckRefusal}
use Rattle.compat_check.specs.declared.refusal.CheckRefusal.TheVariants.{VertexRange, RepeatedVertex, Flat, TwinElements, EdgeOfThree, NeighboursDiffer, Incompatible, GradeTooHigh, Memory}
use Rattle.adapt_cli.proofs.OneGrades.{one_grade, same_pair_back}

-- the place of a kind in their order
abbrev pub kind : CheckRefusal → ℕ
kind (VertexRange r) = 0
kind (RepeatedVertex r) = 1
kind (Flat r) = 2
kind (TwinElements a b) = 3
kind (EdgeOfThree r k) = 4
kind (NeighboursDiffer r k) = 5
kind (Incompatible r k) = 6
kind (GradeTooHigh r g) = 7
kind Memory = 8

first-same : (n : ℕ) (P : ℕ → Type 0) (r s : ℕ) → IsFirst n P (Some r) → IsFirst n P (Some s) → r ≡ s
first-same n P r s h k = ⊎_elim
    (λ (low : r < s). absurd (k.2 r low h.1))
    (λ (high : s ≤ r). ⊎_elim (λ (low : s < r). absurd (h.2 s low k.1)) (λ (other : r ≤ s). omega (arith, high, other)) (cases_lt s r))
    (cases_lt r s)

first-edge-same : (n : ℕ) (P : ℕ → ℕ → Type 0) (r s k j : ℕ) → IsFirstEdge n P r k → IsFirstEdge n P s j → (r ≡ s) × (k ≡ j)
first-edge-same n P r s k j x y = ⊎_elim
    (λ (low : r < s). absurd (y.first r k x.edge (inl low) x.holds))
    (λ (high : s ≤ r). ⊎_elim
    (λ (low : s < r). absurd (x.first s j y.edge (inl low) y.holds))
    (λ (other : r ≤ s).
    let e : r ≡ s = omega (arith, high, other) in
    ⊎_elim
    (λ (low : k < j). absurd (y.first r k x.edge (inr (e, low)) x.holds))
    (λ (up : j ≤ k). ⊎_elim
    (λ (low : j < k). absurd (x.first s j y.edge (inr (sym e, low)) y.holds))
    (λ (down : k ≤ j). (e, omega (arith, up, down)))
    (cases_lt j k))
    (cases_lt k j))
    (cases_lt s r))
    (cases_lt r s)

twins-same : (triples : List Triple) (a c b d : ℕ) → AreFirstTwins triples a b → AreFirstTwins triples c d → TwinElements a b ≡ TwinElements c d
twins-same triples a c b d x y =
    let second : b ≡ d = first-same (length triples) (HasTwinBefore triples) b d x.second y.second in
    let first : a ≡ c = first-same b (λ r. IsTwin (triple_in triples r) (triple_in triples b)) a c x.first (subst (λ (z : ℕ). IsFirst z (λ r. IsTwin (triple_in triples r) (triple_in triples z)) (Some c)) (sym second) y.first) in
    λ i. TwinElements (first i) (second i)

high-same : (triples : List Triple) (r s g h : ℕ) → IsTooHigh triples r g → IsTooHigh triples s h → GradeTooHigh r g ≡ GradeTooHigh s h
high-same triples r s g h x y =
    let there : IsFirst (length triples) (λ q. 24 < slice_index_or x.grades q 0) (Some s) = (
      y.first.0,
      (let e = one_grade triples x.grades y.grades x.are y.are s y.first.0 in let above = y.first.1 in omega (arith, e, above)),
      λ j low above. let within = y.first.0 in let e = one_grade triples x.grades y.grades x.are y.are j (omega (arith, low, within)) in y.first.2 j low (omega (arith, e, above)),
    ) in
    let same : r ≡ s = first-same (length triples) (λ q. 24 < slice_index_or x.grades q 0) r s x.first there in
    let grade : g ≡ h = x.told ∙ one_grade triples x.grades y.grades x.are y.are r x.first.0 ∙ ap (λ q. slice_index_or y.grades q 0) same ∙ sym y.told in
    λ i. GradeTooHigh (same i) (grade i)

-- grades fit at each edge
grades-fit : (triples : List Triple) (grades : List ℕ) → AreGradesOf triples grades → (r k : ℕ) → FitsUpTo triples (λ q. pos (slice_index_or grades q 0)) r k
grades-fit triples grades are r k q j s f hq hj hs apart shares upto = record {
  equal = λ e. ap pos (are.graded.equal q s (edge_of j) f hq hs apart shares e);
  more = λ e o. ap pos (are.graded.more q s (edge_of j) f hq hs apart shares e o);
  less = λ e o. ap pos (are.graded.more s q f (edge_of j) hs hq (λ p. apart (sym p)) (same_pair_back (ends_of (triple_in triples q) (edge_of j)) (ends_of (triple_in triples s) f) shares) o e);
}

module _ (text : MacroText) where
  -- a later kind comes only where no earlier one does
  clash : (one two : CheckRefusal) → kind one < kind two → kind two < 8 → IsCheckRefusal text one → IsCheckRefusal text two → ⊥
  clash (VertexRange r) (VertexRange r') low high hr hs = omega (arith, low)
  clash (VertexRange r) (RepeatedVertex r') low high hr hs = hs.0 r hr.0 hr.1
  clash (VertexRange r) (Flat r') low high hr hs = hs.0 r hr.0 hr.1
  clash (VertexRange r) (TwinElements a' b') low high hr hs = hs.0.inside r hr.0 hr.1
  clash (VertexRange r) (EdgeOfThree r' k') low high hr hs = hs.0.inside r hr.0 hr.1
  clash (VertexRange r) (NeighboursDiffer r' k') low high hr hs = hs.0.sound.inside r hr.0 hr.1
  clash (VertexRange r) (Incompatible r' k') low high hr hs = hs.0.valid.sound.inside r hr.0 hr.1
  clash (VertexRange r) (GradeTooHigh r' g') low high hr hs = hs.0.valid.sound.inside r hr.0 hr.1
  clash (VertexRange r) Memory low high hr hs = omega (arith, high)
  clash (RepeatedVertex r) (VertexRange r') low high hr hs = omega (arith, low)
  clash (RepeatedVertex r) (RepeatedVertex r') low high hr hs = omega (arith, low)
  clash (RepeatedVertex r) (Flat r') low high hr hs = hs.1 r hr.1.0 hr.1.1
  clash (RepeatedVertex r) (TwinElements a' b') low high hr hs = hs.0.distinct r hr.1.0 hr.1.1
  clash (RepeatedVertex r) (EdgeOfThree r' k') low high hr hs = hs.0.distinct r hr.1.0 hr.1.1
  clash (RepeatedVertex r) (NeighboursDiffer r' k') low high hr hs = hs.0.sound.distinct r hr.1.0 hr.1.1
  clash (RepeatedVertex r) (Incompatible r' k') low high hr hs = hs.0.valid.sound.distinct r hr.1.0 hr.1.1
  clash (RepeatedVertex r) (GradeTooHigh r' g') low high hr hs = hs.0.valid.sound.distinct r hr.1.0 hr.1.1
  clash (RepeatedVertex r) Memory low high hr hs = omega (arith, high)
  clash (Flat r) (VertexRange r') low high hr hs = omega (arith, low)
  clash (Flat r) (RepeatedVertex r') low high hr hs = omega (arith, low)
  clash (Flat r) (Flat r') low high hr hs = omega (arith, low)
  clash (Flat r) (TwinElements a' b') low high hr hs = hs.0.thick r hr.2.0 hr.2.1
  clash (Flat r) (EdgeOfThree r' k') low high hr hs = hs.0.thick r hr.2.0 hr.2.1
  clash (Flat r) (NeighboursDiffer r' k') low high hr hs = hs.0.sound.thick r hr.2.0 hr.2.1
  clash (Flat r) (Incompatible r' k') low high hr hs = hs.0.valid.sound.thick r hr.2.0 hr.2.1
  clash (Flat r) (GradeTooHigh r' g') low high hr hs = hs.0.valid.sound.thick r hr.2.0 hr.2.1
  clash (Flat r) Memory low high hr hs = omega (arith, high)
  clash (TwinElements a b) (VertexRange r') low high hr hs = omega (arith, low)
  clash (TwinElements a b) (RepeatedVertex r') low high hr hs = omega (arith, low)
  clash (TwinElements a b) (Flat r') low high hr hs = omega (arith, low)
  clash (TwinElements a b) (TwinElements a' b') low high hr hs = omega (arith, low)
  clash (TwinElements a b) (EdgeOfThree r' k') low high hr hs = let second = hr.1.second in hs.1 second.1.0 b second.1.1 second.0 second.1.2
  clash (TwinElements a b) (NeighboursDiffer r' k') low high hr hs = let second = hr.1.second in hs.0.twin_free second.1.0 b second.1.1 second.0 second.1.2
  clash (TwinElements a b) (Incompatible r' k') low high hr hs = let second = hr.1.second in hs.0.valid.twin_free second.1.0 b second.1.1 second.0 second.1.2
  clash (TwinElements a b) (GradeTooHigh r' g') low high hr hs = let second = hr.1.second in hs.0.valid.twin_free second.1.0 b second.1.1 second.0 second.1.2
  clash (TwinElements a b) Memory low high hr hs = omega (arith, high)
  clash (EdgeOfThree r k) (VertexRange r') low high hr hs = omega (arith, low)
  clash (EdgeOfThree r k) (RepeatedVertex r') low high hr hs = omega (arith, low)
  clash (EdgeOfThree r k) (Flat r') low high hr hs = omega (arith, low)
  clash (EdgeOfThree r k) (TwinElements a' b') low high hr hs = omega (arith, low)
  clash (EdgeOfThree r k) (EdgeOfThree r' k') low high hr hs = omega (arith, low)
  clash (EdgeOfThree r k) (NeighboursDiffer r' k') low high hr hs = hs.0.two_at_most r k hr.2.element hr.2.edge hr.2.holds
  clash (EdgeOfThree r k) (Incompatible r' k') low high hr hs = hs.0.valid.two_at_most r k hr.2.element hr.2.edge hr.2.holds
  clash (EdgeOfThree r k) (GradeTooHigh r' g') low high hr hs = hs.0.valid.two_at_most r k hr.2.element hr.2.edge hr.2.holds
  clash (EdgeOfThree r k) Memory low high hr hs = omega (arith, high)
  clash (NeighboursDiffer r k) (VertexRange r') low high hr hs = omega (arith, low)
  clash (NeighboursDiffer r k) (RepeatedVertex r') low high hr hs = omega (arith, low)
  clash (NeighboursDiffer r k) (Flat r') low high hr hs = omega (arith, low)
  clash (NeighboursDiffer r k) (TwinElements a' b') low high hr hs = omega (arith, low)
  clash (NeighboursDiffer r k) (EdgeOfThree r' k') low high hr hs = omega (arith, low)
  clash (NeighboursDiffer r k) (NeighboursDiffer r' k') low high hr hs = omega (arith, low)
  clash (NeighboursDiffer r k) (Incompatible r' k') low high hr hs = hs.0.neighbours hr.1 r k hr.2.element hr.2.edge hr.2.holds
  clash (NeighboursDiffer r k) (GradeTooHigh r' g') low high hr hs = hs.0.neighbours hr.1 r k hr.2.element hr.2.edge hr.2.holds
  clash (NeighboursDiffer r k) Memory low high hr hs = omega (arith, high)
  clash (Incompatible r k) (VertexRange r') low high hr hs = omega (arith, low)
  clash (Incompatible r k) (RepeatedVertex r') low high hr hs = omega (arith, low)
  clash (Incompatible r k) (Flat r') low high hr hs = omega (arith, low)
  clash (Incompatible r k) (TwinElements a' b') low high hr hs = omega (arith, low)
  clash (Incompatible r k) (EdgeOfThree r' k') low high hr hs = omega (arith, low)
  clash (Incompatible r k) (NeighboursDiffer r' k') low high hr hs = omega (arith, low)
  clash (Incompatible r k) (Incompatible r' k') low high hr hs = omega (arith, low)
  clash (Incompatible r k) (GradeTooHigh r' g') low high hr hs = hr.1.holds.none (λ q. pos (slice_index_or hs.1.grades q 0)) (grades-fit (triples_of text) hs.1.grades hs.1.are r k)
  clash (Incompatible r k) Memory low high hr hs = omega (arith, high)
  clash (GradeTooHigh r g) (VertexRange r') low high hr hs = omega (arith, low)
  clash (GradeTooHigh r g) (RepeatedVertex r') low high hr hs = omega (arith, low)
  clash (GradeTooHigh r g) (Flat r') low high hr hs = omega (arith, low)
  clash (GradeTooHigh r g) (TwinElements a' b') low high hr hs = omega (arith, low)
  clash (GradeTooHigh r g) (EdgeOfThree r' k') low high hr hs = omega (arith, low)
  clash (GradeTooHigh r g) (NeighboursDiffer r' k') low high hr hs = omega (arith, low)
  clash (GradeTooHigh r g) (Incompatible r' k') low high hr hs = omega (arith, low)
  clash (GradeTooHigh r g) (GradeTooHigh r' g') low high hr hs = omega (arith, low)
  clash (GradeTooHigh r g) Memory low high hr hs = omega (arith, high)
  clash Memory two low high hr hs = omega (arith, low, high)

  -- of a kind the first
  equal : (one two : CheckRefusal) → kind one ≡ kind two → kind one < 8 → IsCheckRefusal text one → IsCheckRefusal text two → one ≡ two
  equal (VertexRange r) (VertexRange r') e low hr hs = λ i. VertexRange (first-same _ _ r r' hr hs i)
  equal (VertexRange r) (RepeatedVertex r') e low hr hs = absurd (omega (arith, e))
  equal (VertexRange r) (Flat r') e low hr hs = absurd (omega (arith, e))
  equal (VertexRange r) (TwinElements a' b') e low hr hs = absurd (omega (arith, e))
  equal (VertexRange r) (EdgeOfThree r' k') e low hr hs = absurd (omega (arith, e))
  equal (VertexRange r) (NeighboursDiffer r' k') e low hr hs = absurd (omega (arith, e))
  equal (VertexRange r) (Incompatible r' k') e low hr hs = absurd (omega (arith, e))
  equal (VertexRange r) (GradeTooHigh r' g') e low hr hs = absurd (omega (arith, e))
  equal (VertexRange r) Memory e low hr hs = absurd (omega (arith, e))
  equal (RepeatedVertex r) (VertexRange r') e low hr hs = absurd (omega (arith, e))
  equal (RepeatedVertex r) (RepeatedVertex r') e low hr hs = λ i. RepeatedVertex (first-same _ _ r r' hr.1 hs.1 i)
  equal (RepeatedVertex r) (Flat r') e low hr hs = absurd (omega (arith, e))
  equal (RepeatedVertex r) (TwinElements a' b') e low hr hs = absurd (omega (arith, e))
  equal (RepeatedVertex r) (EdgeOfThree r' k') e low hr hs = absurd (omega (arith, e))
  equal (RepeatedVertex r) (NeighboursDiffer r' k') e low hr hs = absurd (omega (arith, e))
  equal (RepeatedVertex r) (Incompatible r' k') e low hr hs = absurd (omega (arith, e))
  equal (RepeatedVertex r) (GradeTooHigh r' g') e low hr hs = absurd (omega (arith, e))
  equal (RepeatedVertex r) Memory e low hr hs = absurd (omega (arith, e))
  equal (Flat r) (VertexRange r') e low hr hs = absurd (omega (arith, e))
  equal (Flat r) (RepeatedVertex r') e low hr hs = absurd (omega (arith, e))
  equal (Flat r) (Flat r') e low hr hs = λ i. Flat (first-same _ _ r r' hr.2 hs.2 i)
  equal (Flat r) (TwinElements a' b') e low hr hs = absurd (omega (arith, e))
  equal (Flat r) (EdgeOfThree r' k') e low hr hs = absurd (omega (arith, e))
  equal (Flat r) (NeighboursDiffer r' k') e low hr hs = absurd (omega (arith, e))
  equal (Flat r) (Incompatible r' k') e low hr hs = absurd (omega (arith, e))
  equal (Flat r) (GradeTooHigh r' g') e low hr hs = absurd (omega (arith, e))
  equal (Flat r) Memory e low hr hs = absurd (omega (arith, e))
  equal (TwinElements a b) (VertexRange r') e low hr hs = absurd (omega (arith, e))
  equal (TwinElements a b) (RepeatedVertex r') e low hr hs = absurd (omega (arith, e))
  equal (TwinElements a b) (Flat r') e low hr hs = absurd (omega (arith, e))
  equal (TwinElements a b) (TwinElements a' b') e low hr hs = twins-same (triples_of text) a a' b b' hr.1 hs.1
  equal (TwinElements a b) (EdgeOfThree r' k') e low hr hs = absurd (omega (arith, e))
  equal (TwinElements a b) (NeighboursDiffer r' k') e low hr hs = absurd (omega (arith, e))
  equal (TwinElements a b) (Incompatible r' k') e low hr hs = absurd (omega (arith, e))
  equal (TwinElements a b) (GradeTooHigh r' g') e low hr hs = absurd (omega (arith, e))
  equal (TwinElements a b) Memory e low hr hs = absurd (omega (arith, e))
  equal (EdgeOfThree r k) (VertexRange r') e low hr hs = absurd (omega (arith, e))
  equal (EdgeOfThree r k) (RepeatedVertex r') e low hr hs = absurd (omega (arith, e))
  equal (EdgeOfThree r k) (Flat r') e low hr hs = absurd (omega (arith, e))
  equal (EdgeOfThree r k) (TwinElements a' b') e low hr hs = absurd (omega (arith, e))
  equal (EdgeOfThree r k) (EdgeOfThree r' k') e low hr hs = let e = first-edge-same _ _ r r' k k' hr.2 hs.2 in λ i. EdgeOfThree (e.0 i) (e.1 i)
  equal (EdgeOfThree r k) (NeighboursDiffer r' k') e low hr hs = absurd (omega (arith, e))
  equal (EdgeOfThree r k) (Incompatible r' k') e low hr hs = absurd (omega (arith, e))
  equal (EdgeOfThree r k) (GradeTooHigh r' g') e low hr hs = absurd (omega (arith, e))
  equal (EdgeOfThree r k) Memory e low hr hs = absurd (omega (arith, e))
  equal (NeighboursDiffer r k) (VertexRange r') e low hr hs = absurd (omega (arith, e))
  equal (NeighboursDiffer r k) (RepeatedVertex r') e low hr hs = absurd (omega (arith, e))
  equal (NeighboursDiffer r k) (Flat r') e low hr hs = absurd (omega (arith, e))
  equal (NeighboursDiffer r k) (TwinElements a' b') e low hr hs = absurd (omega (arith, e))
  equal (NeighboursDiffer r k) (EdgeOfThree r' k') e low hr hs = absurd (omega (arith, e))
  equal (NeighboursDiffer r k) (NeighboursDiffer r' k') e low hr hs = let e = first-edge-same _ _ r r' k k' hr.2 hs.2 in λ i. NeighboursDiffer (e.0 i) (e.1 i)
  equal (NeighboursDiffer r k) (Incompatible r' k') e low hr hs = absurd (omega (arith, e))
  equal (NeighboursDiffer r k) (GradeTooHigh r' g') e low hr hs = absurd (omega (arith, e))
  equal (NeighboursDiffer r k) Memory e low hr hs = absurd (omega (arith, e))
  equal (Incompatible r k) (VertexRange r') e low hr hs = absurd (omega (arith, e))
  equal (Incompatible r k) (RepeatedVertex r') e low hr hs = absurd (omega (arith, e))
  equal (Incompatible r k) (Flat r') e low hr hs = absurd (omega (arith, e))
  equal (Incompatible r k) (TwinElements a' b') e low hr hs = absurd (omega (arith, e))
  equal (Incompatible r k) (EdgeOfThree r' k') e low hr hs = absurd (omega (arith, e))
  equal (Incompatible r k) (NeighboursDiffer r' k') e low hr hs = absurd (omega (arith, e))
  equal (Incompatible r k) (Incompatible r' k') e low hr hs = let e = first-edge-same _ _ r r' k k' hr.1 hs.1 in λ i. Incompatible (e.0 i) (e.1 i)
  equal (Incompatible r k) (GradeTooHigh r' g') e low hr hs = absurd (omega (arith, e))
  equal (Incompatible r k) Memory e low hr hs = absurd (omega (arith, e))
  equal (GradeTooHigh r g) (VertexRange r') e low hr hs = absurd (omega (arith, e))
  equal (GradeTooHigh r g) (RepeatedVertex r') e low hr hs = absurd (omega (arith, e))
  equal (GradeTooHigh r g) (Flat r') e low hr hs = absurd (omega (arith, e))
  equal (GradeTooHigh r g) (TwinElements a' b') e low hr hs = absurd (omega (arith, e))
  equal (GradeTooHigh r g) (EdgeOfThree r' k') e low hr hs = absurd (omega (arith, e))
  equal (GradeTooHigh r g) (NeighboursDiffer r' k') e low hr hs = absurd (omega (arith, e))
  equal (GradeTooHigh r g) (Incompatible r' k') e low hr hs = absurd (omega (arith, e))
  equal (GradeTooHigh r g) (GradeTooHigh r' g') e low hr hs = high-same (triples_of text) r r' g g' hr.1 hs.1
  equal (GradeTooHigh r g) Memory e low hr hs = absurd (omega (arith, e))
  equal Memory two e low hr hs = absurd (omega (arith, low))

  pub one-cause : (one two : CheckRefusal) → kind one < 8 → kind two < 8 → IsCheckRefusal text one → IsCheckRefusal text two → one ≡ two
  one-cause one two low high hr hs = ⊎_elim
      (λ (h : kind one < kind two). absurd (clash one two h high hr hs))
      (λ (h : kind two ≤ kind one). ⊎_elim
      (λ (k : kind two < kind one). absurd (clash two one k low hs hr))
      (λ (k : kind one ≤ kind two). equal one two (omega (arith, h, k)) low hr hs)
      (cases_lt (kind two) (kind one)))
      (cases_lt (kind one) (kind two))
