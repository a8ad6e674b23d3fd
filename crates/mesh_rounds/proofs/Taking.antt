-- How what takes a number adds up.
use Rattle.std.proofs.Common.{◌≡◌, ◌≢◌, ℕ, ◌+◌, ◌<◌, ℤ, true, false, List, [], ◌∷◌, ◌++◌, take, length, get_or, refl, ap, sym, ◌∙◌, subst, Some, None, option_map, ◌⊎◌, inl, inr, ⊎_elim, true≢false}
use Rattle.std.specs.Prelude.{IsSome}
use Rattle.std.proofs.lemmas.List.{take_more}
use Rattle.std.specs.Ordering.{eq_by_cmp}
use Rattle.mesh_names.specs.Names.{Name, name_cmp}
use Rattle.mesh_names.proofs.Sets.{both_sides, is_or_not, same-tied, tied-same}
use Rattle.name_tree.specs.declared.nodes.Entry.{Entry}
use Rattle.dof_transfer.specs.Held.{Held, SetsValue, index_of, value_of}
use Rattle.mesh_rounds.specs.Setting.{Holding}
use Rattle.mesh_rounds.specs.Taking.{AllTake, IsAmong, LeavesTake, Takes}

module _ {A H : Type 0} (holding : Holding A H) (proper : A → Type 0) where
  -- nothing takes anything
  pub none-take : (number : ℤ) (h : H) → AllTake holding proper (λ a. ⊥) number h h
  none-take number h = record {
    values = λ a p live. inr ((λ m. m), refl);
    none = λ a e. e;
    indices = λ a. refl;
    flags = refl;
  }

  -- what had a value has one
  pub live-kept : (meant : A → Type 0) (number : ℤ) (old new : H) → AllTake holding proper meant number old new → (a : A) → proper a → IsSome (holding.value old a) → IsSome (holding.value new a)
  live-kept meant number old new all a p live = ⊎_elim
      (λ (s : meant a × (holding.value new a ≡ Some number)). subst IsSome (sym s.1) refl)
      (λ (s : (meant a → ⊥) × (holding.value new a ≡ holding.value old a)). subst IsSome (sym s.1) live)
      (all.values a p live)

  -- first these take the number, and then those
  pub both-take : (one two : A → Type 0) (number : ℤ) (old mid new : H) → AllTake holding proper one number old mid → AllTake holding proper two number mid new → AllTake holding proper (λ a. one a ⊎ two a) number old new
  both-take one two number old mid new first second = record {
    values = either;
    none = λ a e. second.none a (first.none a e);
    indices = λ a. second.indices a ∙ first.indices a;
    flags = second.flags ∙ first.flags;
  } where
    either : (a : A) → proper a → IsSome (holding.value old a) → Takes (one a ⊎ two a) number (holding.value old a) (holding.value new a)
    either a p live = ⊎_elim
        (λ (s : one a × (holding.value mid a ≡ Some number)). ⊎_elim
        (λ (r : two a × (holding.value new a ≡ Some number)). inl (inl s.0, r.1))
        (λ (r : (two a → ⊥) × (holding.value new a ≡ holding.value mid a)). inl (inl s.0, r.1 ∙ s.1))
        (second.values a p (live-kept one number old mid first a p live)))
        (λ (s : (one a → ⊥) × (holding.value mid a ≡ holding.value old a)). ⊎_elim
        (λ (r : two a × (holding.value new a ≡ Some number)). inl (inr r.0, r.1))
        (λ (r : (two a → ⊥) × (holding.value new a ≡ holding.value mid a)). inr (⊎_elim s.0 r.0, r.1 ∙ s.1))
        (second.values a p (live-kept one number old mid first a p live)))
        (first.values a p live)

  -- the same things by other words
  pub same-take : (one two : A → Type 0) (number : ℤ) (old new : H) → ((a : A) → proper a → one a → two a) → ((a : A) → proper a → two a → one a) → AllTake holding proper one number old new → AllTake holding proper two number old new
  same-take one two number old new to from all = record {
    values = λ a p live. ⊎_elim
        (λ (s : one a × (holding.value new a ≡ Some number)). inl (to a p s.0, s.1))
        (λ (s : (one a → ⊥) × (holding.value new a ≡ holding.value old a)). inr ((λ m. s.0 (from a p m)), s.1))
        (all.values a p live);
    none = all.none;
    indices = all.indices;
    flags = all.flags;
  }

-- a list with one more
pub among-last : {A : Type 0} (xs : List A) (x a : A) → IsAmong a xs ⊎ (a ≡ x) → IsAmong a (xs ++ x ∷ [])
among-last [] x a (inl i) = elim i [ ]
among-last [] x a (inr e) = inl e
among-last (y ∷ ys) x a (inl (inl e)) = inl e
among-last (y ∷ ys) x a (inl (inr i)) = inr (among-last ys x a (inl i))
among-last (y ∷ ys) x a (inr e) = inr (among-last ys x a (inr e))

pub last-among : {A : Type 0} (xs : List A) (x a : A) → IsAmong a (xs ++ x ∷ []) → IsAmong a xs ⊎ (a ≡ x)
last-among [] x a (inl e) = inr e
last-among [] x a (inr i) = elim i [ ]
last-among (y ∷ ys) x a (inl e) = inl (inl e)
last-among (y ∷ ys) x a (inr i) = ⊎_elim (λ (j : IsAmong a ys). inl (inr j)) (λ (e : a ≡ x). inr e) (last-among ys x a i)

-- the value of one leaf is set
pub leaf-takes : (old new : Held) (n : Name) (v : ℤ) → IsSome (value_of old n) → SetsValue old new n v → LeavesTake (λ q. q ≡ n) v old new
leaf-takes old new n v live set = record {
  values = values;
  none = none;
  indices = indices;
  flags = set.flags;
} where
  other : (q : Name) → eq_by_cmp name_cmp q n ≡ false → q ≢ n
  other q ne e = both_sides (eq_by_cmp name_cmp q n) (same-tied q n e) ne

  values : (q : Name) → Unit {0} → IsSome (value_of old q) → Takes (q ≡ n) v (value_of old q) (value_of new q)
  values q p l = ⊎_elim
      (λ (e : eq_by_cmp name_cmp q n ≡ true). inl (tied-same q n e, ap (value_of new) (tied-same q n e) ∙ set.value))
      (λ (ne : eq_by_cmp name_cmp q n ≡ false). inr (other q ne, ap (option_map (λ (e : Entry). e.value)) (set.others q (other q ne))))
      (is_or_not (eq_by_cmp name_cmp q n))

  none : (q : Name) → value_of old q ≡ None → value_of new q ≡ None
  none q e = ⊎_elim
      (λ (t : eq_by_cmp name_cmp q n ≡ true). absurd (true≢false (sym (subst IsSome e (subst (λ (m : Name). IsSome (value_of old m)) (sym (tied-same q n t)) live)))))
      (λ (ne : eq_by_cmp name_cmp q n ≡ false). ap (option_map (λ (e : Entry). e.value)) (set.others q (other q ne)) ∙ e)
      (is_or_not (eq_by_cmp name_cmp q n))

  indices : (q : Name) → index_of new q ≡ index_of old q
  indices q = ⊎_elim
      (λ (t : eq_by_cmp name_cmp q n ≡ true). ap (index_of new) (tied-same q n t) ∙ set.index ∙ ap (index_of old) (sym (tied-same q n t)))
      (λ (ne : eq_by_cmp name_cmp q n ≡ false). ap (option_map (λ (e : Entry). e.index)) (set.others q (other q ne)))
      (is_or_not (eq_by_cmp name_cmp q n))

-- the values of the first leaves of a list are set, and then that of one more
pub leaves-more : (leaves : List Name) (i : ℕ) (n : Name) (v : ℤ) (old mid new : Held) → i < length leaves → n ≡ get_or leaves i n → LeavesTake (λ q. IsAmong q (take i leaves)) v old mid → LeavesTake (λ q. q ≡ n) v mid new → LeavesTake (λ q. IsAmong q (take (i + 1) leaves)) v old new
leaves-more leaves i n v old mid new within is first second =
    let one : take (i + 1) leaves ≡ take i leaves ++ n ∷ [] = take_more leaves i n within ∙ ap (λ (m : Name). take i leaves ++ m ∷ []) (sym is) in
    same-take _ _ (λ q. IsAmong q (take i leaves) ⊎ (q ≡ n)) (λ q. IsAmong q (take (i + 1) leaves)) v old new
    (λ q p m. subst (IsAmong q) (sym one) (among-last (take i leaves) n q m))
    (λ q p m. last-among (take i leaves) n q (subst (IsAmong q) one m))
    (both-take _ _ (λ q. IsAmong q (take i leaves)) (λ q. q ≡ n) v old mid new first second)
