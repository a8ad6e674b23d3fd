-- A search in a list of names in order.
use Rattle.std.proofs.Common.{◌≡◌, ℕ, ◌+◌, ◌<◌, ◌≤◌, List, ◌∷◌, length, refl, sym, ap, subst, ◌∙◌, arith, ⊎_elim, get_or, true, false, Bool}
use Rattle.std.specs.List.{Contains}
use Rattle.std.specs.List.Sorted.{IsStrictlySortedBy}
use Rattle.std.specs.declared.cmp.Ordering.{Ordering}
use Rattle.std.specs.declared.cmp.Ordering.TheVariants.{Less, Equal, Greater}
use Rattle.std.specs.Prelude.{IsTrue, ◌↔◌}
use Rattle.std.specs.Ordering.{is_eq, is_lt, is_ge}
use Rattle.std.specs.Cmp.{tied_itself}
use Rattle.std.proofs.lemmas.Bool.{cases_lt, true≢false}
use Rattle.std.proofs.lemmas.List.{get_or_default}
use Rattle.std.proofs.lemmas.Map.Keys.{Less-from_sorted}
use Rattle.mesh_names.specs.Names.{Name, name_cmp}
use Rattle.mesh_names.specs.Order.{name_cmp_total, name_cmp-same}
use Rattle.locate_point.specs.Ranks.{AreBefore, AreNotBefore, IsRank}
use Rattle.locate_point.proofs.NearNames.{child_later}

equal_from : (o : Ordering) → is_eq o ≡ true → o ≡ Equal
equal_from Less h = absurd (true≢false (sym h))
equal_from Equal h = refl
equal_from Greater h = absurd (true≢false (sym h))

pub less_from : (o : Ordering) → is_lt o ≡ true → o ≡ Less
less_from Less h = refl
less_from Equal h = absurd (true≢false (sym h))
less_from Greater h = absurd (true≢false (sym h))

pub less_from_not_ge : (o : Ordering) → is_ge o ≡ false → is_lt o ≡ true
less_from_not_ge Less h = refl
less_from_not_ge Equal h = absurd (true≢false h)
less_from_not_ge Greater h = absurd (true≢false h)

pub not_less_from_ge : (o : Ordering) → is_ge o ≡ true → o ≡ Less → ⊥
not_less_from_ge Less h e = true≢false (sym h)
not_less_from_ge Equal h e = absurd (cc)
not_less_from_ge Greater h e = absurd (cc)

pub not_less_from_not_lt : (o : Ordering) → is_lt o ≡ false → o ≡ Less → ⊥
not_less_from_not_lt Less h e = true≢false h
not_less_from_not_lt Equal h e = absurd (cc)
not_less_from_not_lt Greater h e = absurd (cc)

not_tied : Less ≡ Equal → ⊥
not_tied e = absurd (cc)

-- what comes before a name comes before its children
pub before_child : (list : List Name) (n : Name) (side : Bool) (count : ℕ) → AreBefore list n count → AreBefore list (n.0, side ∷ n.1) count
before_child list n side count are = record {
  within = are.within;
  before = λ k d less. name_cmp_total.trans (get_or list k d) n (n.0, side ∷ n.1) (are.before k d less) (child_later n side);
}

-- before the first name there is nothing
pub before_none : (list : List Name) (n : Name) → AreBefore list n 0
before_none list n = record { within = omega arith; before = λ k d less. absurd (omega (arith, less)) }

module _ (list : List Name) (sorted : IsStrictlySortedBy name_cmp list) (n : Name) where
  -- the name at a place of the list, and all before it, come before the name
  pub earlier_half : (middle : ℕ) (x : Name) → middle < length list → x ≡ get_or list middle x → is_lt (name_cmp x n) ≡ true → AreBefore list n (middle + 1)
  earlier_half middle x inside at less = record {
    within = omega (arith, inside);
    before = λ k d below.
        let here : name_cmp (get_or list middle d) n ≡ Less = subst (λ (y : Name). name_cmp y n ≡ Less) (at ∙ get_or_default list middle x d inside) (less_from (name_cmp x n) less) in
        ⊎_elim
        (λ (lt : k < middle). name_cmp_total.trans (get_or list k d) (get_or list middle d) n (Less-from_sorted name_cmp list k middle d sorted lt inside) here)
        (λ (ge : middle ≤ k). let same : middle ≡ k = omega (arith, ge, below) in subst (λ (i : ℕ). name_cmp (get_or list i d) n ≡ Less) same here)
        (cases_lt k middle);
  }

  -- the name at a place of the list does not come before the name, and none after it
  pub later_half : (middle : ℕ) (x : Name) → middle < length list → x ≡ get_or list middle x → (name_cmp x n ≡ Less → ⊥) → AreNotBefore list n middle
  later_half middle x inside at more k d from within less = more (subst (λ (y : Name). name_cmp y n ≡ Less) (sym (at ∙ get_or_default list middle x d inside))
      (⊎_elim
      (λ (lt : middle < k). name_cmp_total.trans (get_or list middle d) (get_or list k d) n (Less-from_sorted name_cmp list middle k d sorted lt within) less)
      (λ (ge : k ≤ middle). let same : k ≡ middle = omega (arith, ge, from) in subst (λ (i : ℕ). name_cmp (get_or list i d) n ≡ Less) same less)
      (cases_lt middle k)))

  -- a name that is in the list stands at its rank
  pub stands_at_rank : (rank : ℕ) → IsRank list n rank → Contains list n → (rank < length list) × ((d : Name) → get_or list rank d ≡ n)
  stands_at_rank rank is there =
      let here : (d : Name) → get_or list there.0 d ≡ n = λ d. get_or_default list there.0 d n there.1 ∙ there.2 in
      let apart : there.0 < rank → ⊥ = λ early. not_tied (sym (is.earlier.before there.0 n early) ∙ ap (λ (m : Name). name_cmp m n) (here n) ∙ tied_itself name_cmp_total n) in
      ⊎_elim
      (λ (late : rank < there.0). absurd (is.later rank n (omega arith) (omega (arith, late, there.1)) (subst (λ (m : Name). name_cmp (get_or list rank n) m ≡ Less) (here n) (Less-from_sorted name_cmp list rank there.0 n sorted late there.1))))
      (λ (le : there.0 ≤ rank). let same : there.0 ≡ rank = omega (arith, le, apart) in (omega (arith, same, there.1), λ d. subst (λ (i : ℕ). get_or list i d ≡ n) same (here d)))
      (cases_lt rank there.0)

  -- a name is in the list where it stands at its rank
  pub found_at_rank : (rank : ℕ) → IsRank list n rank → (x : Name) (b : Bool) → rank < length list → x ≡ get_or list rank x → b ≡ is_eq (name_cmp x n) → IsTrue b ↔ Contains list n
  found_at_rank rank is x b inside at e = (
    λ yes. (rank, inside, get_or_default list rank n x inside ∙ sym at ∙ name_cmp-same x n (equal_from (name_cmp x n) (sym e ∙ yes))),
    λ there. e ∙ ap is_eq (ap (λ (m : Name). name_cmp m n) (at ∙ (stands_at_rank rank is there).1 x) ∙ tied_itself name_cmp_total n),
  )

  -- and nowhere where its rank is the length of the list
  pub past_all : (rank : ℕ) → IsRank list n rank → length list ≤ rank → Contains list n → ⊥
  past_all rank is end there = let inside = (stands_at_rank rank is there).0 in omega (arith, end, inside)
