-- The first other place with an edge, of one place more.
use Rattle.std.proofs.Common.{◌≡◌, ℕ, ◌+◌, ◌*◌, ◌<◌, ◌≤◌, List, [], ◌∷◌, ◌++◌, length, get_or, set, refl, sym, ap, subst, ◌∙◌, ⊎_elim, arith}
use Rattle.std.specs.Prelude.{Option, Some, None, IfSome}
use Rattle.std.proofs.lemmas.Bool.{cases_eq, cases_lt}
use Rattle.std.proofs.lemmas.Grind.{get_or-set_at}
use Rattle.std.proofs.lemmas.List.{length-append, length-set}
use Rattle.mesh_names.specs.Triangles.{Triple}
use Rattle.compat_check.specs.Places.{IsEarlier, Meets, ends_at}
use Rattle.mesh_writer.specs.Others.{AddsPlace, AreOthers, AreOthersBelow, IsFirstOtherBelow, then_adds}
use Rattle.mesh_writer.proofs.EdgeLinks.{front, final, other_set, lower, same_pair, upper}

module _ (triples : List Triple) where
  meets_back : (j i : ℕ) → Meets triples j i → Meets triples i j
  meets_back j i m =
      let p = ends_at triples j in
      let q = ends_at triples i in
      same_pair q.0 q.1 p.0 p.1 (sym (lower p q m)) (sym (upper p q m))

  meets_through : (k j i : ℕ) → Meets triples k j → Meets triples j i → Meets triples k i
  meets_through k j i m l =
      let p = ends_at triples k in
      let q = ends_at triples j in
      let r = ends_at triples i in
      same_pair p.0 p.1 r.0 r.1 (lower p q m ∙ lower q r l) (upper p q m ∙ upper q r l)

  abbrev at : List (Option ℕ) → ℕ → Option ℕ
  at l i = get_or l i None

  abbrev First : ℕ → ℕ → Option ℕ → Type 0
  First = IsFirstOtherBelow triples

  -- a place below that has no edge with the new one
  kept : (n i : ℕ) (o : Option ℕ) → First n i o → (o ≡ None → Meets triples n i → ⊥) → First (n + 1) i o
  kept n i None h none = λ j low ne m. ⊎_elim (λ (x : j < n). h j x ne m) (λ (x : n ≤ j). let same : j ≡ n = omega (arith, x, low) in none refl (subst (λ (k : ℕ). Meets triples k i) same m)) (cases_lt j n)
  kept n i (Some j) h none = (omega (arith, h.0), h.1, h.2, h.3)

  pushed : (n : ℕ) (old new : List (Option ℕ)) (o : Option ℕ) → length old ≡ n → new ≡ old ++ o ∷ [] → ((i : ℕ) → i < n → First (n + 1) i (at old i)) → First (n + 1) n o → AreOthersBelow triples (n + 1) new
  pushed n old new o each is below here = record {
    each = ap length is ∙ length-append old (o ∷ []) ∙ omega (arith, each);
    first = λ i low. subst (λ (l : List (Option ℕ)). First (n + 1) i (at l i)) (sym is) (⊎_elim
        (λ (x : i < n). subst (First (n + 1) i) (sym (front triples old (o ∷ []) i (omega (arith, x, each)))) (below i x))
        (λ (x : n ≤ i). let same : i ≡ n = omega (arith, x, low) in subst (First (n + 1) i) (sym (final triples old o i (same ∙ sym each))) (subst (λ (k : ℕ). First (n + 1) k o) (sym same) here))
        (cases_lt i n));
  }

  module _ (n : ℕ) (old new : List (Option ℕ)) (h : AreOthersBelow triples n old) where
    alone_more : IsEarlier triples n None → new ≡ old ++ None ∷ [] → AreOthersBelow triples (n + 1) new
    alone_more e is = pushed n old new None h.each is
        (λ i low. kept n i (at old i) (h.first i low) (λ none m. e i low (meets_back n i m)))
        (λ j low ne m. e j (omega (arith, low, ne)) m)

    module _ (q : ℕ) (e : IsEarlier triples n (Some q)) where
      -- the earlier place has another
      third_more : (f : ℕ) → at old q ≡ Some f → new ≡ old ++ Some f ∷ [] → AreOthersBelow triples (n + 1) new
      third_more f there is = pushed n old new (Some f) h.each is below here
        where
          known : First n q (Some f)
          known = subst (First n q) there (h.first q e.0)

          below : (i : ℕ) → i < n → First (n + 1) i (at old i)
          below i low = kept n i (at old i) (h.first i low) (λ none m. ⊎_elim
              (λ (s : i ≡ q). let both : None ≡ Some f = sym none ∙ ap (at old) s ∙ there in absurd (cc))
              (λ (ne : i ≡ q → ⊥). subst (First n i) none (h.first i low) q e.0 (λ s. ne (sym s)) (meets_through q n i e.1 m))
              (cases_eq i q))

          under : f < q
          under = ⊎_elim (λ (x : f < q). x) (λ (x : q ≤ f). absurd (e.2 f (omega (arith, x, known.1)) known.0 (meets_through f q n known.2 e.1))) (cases_lt f q)

          here : First (n + 1) n (Some f)
          here = (
            omega (arith, known.0),
            (λ s. omega (arith, s, known.0)),
            meets_through f q n known.2 e.1,
            (λ k low ne m. known.3 k low (λ s. omega (arith, s, low, under)) (meets_through k n q m (meets_back q n e.1))),
          )

      -- the earlier place was alone
      second_more : at old q ≡ None → new ≡ set old q (Some n) ++ Some q ∷ [] → AreOthersBelow triples (n + 1) new
      second_more there is = pushed n (set old q (Some n)) new (Some q) (length-set old q (Some n) ∙ h.each) is below here
        where
          alone : First n q None
          alone = subst (First n q) there (h.first q e.0)

          below : (i : ℕ) → i < n → First (n + 1) i (at (set old q (Some n)) i)
          below i low = ⊎_elim
              (λ (s : i ≡ q). subst (First (n + 1) i) (sym (get_or-set_at old q i (Some n) None s (omega (arith, e.0, h.each)))) (subst (λ (k : ℕ). First (n + 1) k (Some n)) (sym s) (
                omega arith,
                (λ t. omega (arith, t, e.0)),
                meets_back q n e.1,
                (λ k less ne m. alone k less ne m),
              )))
              (λ (ne : i ≡ q → ⊥). subst (First (n + 1) i) (sym (other_set triples old q i (Some n) ne)) (kept n i (at old i) (h.first i low) (λ none m. alone i low ne (meets_through i n q (meets_back n i m) (meets_back q n e.1)))))
              (cases_eq i q)

          here : First (n + 1) n (Some q)
          here = (
            omega (arith, e.0),
            (λ s. omega (arith, s, e.0)),
            e.1,
            (λ k low ne m. alone k (omega (arith, low, e.0)) (λ s. omega (arith, s, low)) (meets_through k n q m (meets_back q n e.1))),
          )

      after : (o : Option ℕ) → at old q ≡ o → then_adds old q o new → AreOthersBelow triples (n + 1) new
      after (Some f) there is = third_more f there is
      after None there is = second_more there (is ∙ ap (λ (k : ℕ). set old q (Some k) ++ Some q ∷ []) h.each)

    pub others_more : (o : Option ℕ) → IsEarlier triples n o → AddsPlace old o new → AreOthersBelow triples (n + 1) new
    others_more None e adds = alone_more e adds
    others_more (Some q) e adds = after q e (at old q) refl adds

  pub earlier_inside : (n : ℕ) (o : Option ℕ) → IsEarlier triples n o → IfSome o (λ q. q < n)
  earlier_inside n None e = tt
  earlier_inside n (Some q) e = e.0

  -- all places
  pub all_others : (n : ℕ) (others : List (Option ℕ)) → n ≡ length triples * 3 → AreOthersBelow triples n others → AreOthers triples others
  all_others n others is h = subst (λ (k : ℕ). AreOthersBelow triples k others) is h
