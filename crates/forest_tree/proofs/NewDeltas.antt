-- What a round changes, from the new names alone and from the lost ones alone.
use Rattle.std.proofs.Common.{◌≡◌, Bool, true, false, cond, not, refl, sym, ap, ◌∙◌, subst, List, [], ◌∷◌, filter, inl, inr, ⊎_elim}
use Rattle.std.specs.FinSet.{contains, difference, empty, from_list, union, contains-empty}
use Rattle.std.proofs.lemmas.List.Kept.{IsStrictlySortedBy-filter}
use Rattle.mesh_names.specs.Names.{Name, name_cmp}
use Rattle.mesh_names.specs.Triangles.{Shape}
use Rattle.mesh_names.specs.Forests.{Names, Has, IsListOf, Within}
use Rattle.mesh_names.specs.Partners.{Across}
use Rattle.mesh_names.specs.Patches.{owns}
use Rattle.mesh_names.specs.declared.patch.PatchName.{PatchName}
use Rattle.mesh_names.proofs.Booleans.{and_both, and-both, not-true, not_true, true-not, left}
use Rattle.mesh_names.proofs.Lists.{lists_are_one}
use Rattle.mesh_names.proofs.Sets.{In, is_or_not, both_sides, has-in, in-has, union-either, union-right, within-both}
use Rattle.forest_plain.specs.Deltas.{AreBorn, AreDied, new_owners, owns_new, patches_below, patches_down}
use Rattle.forest_tree.specs.Apart.{IsApart}
use Rattle.forest_tree.proofs.ListedSets.{list_of, list_of-is}

-- ---- what a filter keeps
filter-in : (p : Name → Bool) (q : Name) (ks : List Name) → In q (filter p ks) → In q ks × (p q ≡ true)
filter-in p q [] h = absurd h
filter-in p q (k ∷ ks) h = by (p k) refl h (filter-in p q ks)
  where
    by : (b : Bool) → p k ≡ b → In q (cond b (k ∷ filter p ks) (filter p ks)) → (In q (filter p ks) → In q ks × (p q ≡ true)) → In q (k ∷ ks) × (p q ≡ true)
    by true e i rest = ⊎_elim (λ (s : q ≡ k). (inl s, ap p s ∙ e)) (λ (j : In q (filter p ks)). let r = rest j in (inr r.0, r.1)) i
    by false e i rest = let r = rest i in (inr r.0, r.1)

in-filter : (p : Name → Bool) (q : Name) (ks : List Name) → In q ks → p q ≡ true → In q (filter p ks)
in-filter p q [] h t = absurd h
in-filter p q (k ∷ ks) h t = by (p k) refl h (λ j. in-filter p q ks j t)
  where
    by : (b : Bool) → p k ≡ b → In q (k ∷ ks) → (In q ks → In q (filter p ks)) → In q (cond b (k ∷ filter p ks) (filter p ks))
    by true e i rest = ⊎_elim (λ (s : q ≡ k). inl s) (λ (j : In q ks). inr (rest j)) i
    by false e i rest = ⊎_elim (λ (s : q ≡ k). absurd (both_sides (p k) (sym (ap p s) ∙ t) e)) (λ (j : In q ks). rest j) i

module _ (x : Across) where
  -- the owners of new patches are the owners among the new names
  same-owners : (other part all : Names) (few many : List Name) → IsListOf part few → IsListOf all many → ((q : Name) → Has part q → Has all q × (contains other q ≡ false)) → ((q : Name) → Has all q → contains other q ≡ false → Has part q) →
      new_owners x empty few ≡ new_owners x other many
  same-owners other part all few many is are down up = lists_are_one (from_list (new_owners x other many)) (new_owners x empty few) (new_owners x other many)
      (record {
        in_order = IsStrictlySortedBy-filter name_cmp (owns_new x empty) few is.in_order;
        all = within-both (from_list (new_owners x empty few)) (from_list (new_owners x other many)) (λ q h. in-has q (new_owners x other many) (there q (has-in q (new_owners x empty few) h))) (λ q h. in-has q (new_owners x empty few) (back q (has-in q (new_owners x other many) h)));
      })
      (record { in_order = IsStrictlySortedBy-filter name_cmp (owns_new x other) many are.in_order; all = refl })
    where
      none : (q : Name) → not (contains {R = name_cmp} empty q) ≡ true
      none q = ap not (contains-empty name_cmp q)

      there : (q : Name) → In q (new_owners x empty few) → In q (new_owners x other many)
      there q i =
          let r = filter-in (owns_new x empty) q few i in
          let o = and_both (not (contains {R = name_cmp} empty q)) (owns x q) r.1 in
          let d = down q (subst (λ (s : Names). Has s q) is.all (in-has q few r.0)) in
          in-filter (owns_new x other) q many (has-in q many (subst (λ (s : Names). Has s q) (sym are.all) d.0)) (and-both (not (contains other q)) (owns x q) (not-true (contains other q) d.1) o.1)

      back : (q : Name) → In q (new_owners x other many) → In q (new_owners x empty few)
      back q i =
          let r = filter-in (owns_new x other) q many i in
          let o = and_both (not (contains other q)) (owns x q) r.1 in
          let u = up q (subst (λ (s : Names). Has s q) are.all (in-has q many r.0)) (true-not (contains other q) o.0) in
          in-filter (owns_new x empty) q few (has-in q few (subst (λ (s : Names). Has s q) (sym is.all) u)) (and-both (not (contains {R = name_cmp} empty q)) (owns x q) (none q) o.1)

  module _ (mesh : Shape) (old : Names) where
    -- new names beside the old ones
    pub born-new : (fresh : Names) (list : List Name) (patches : List PatchName) → IsApart old fresh → IsListOf fresh list → patches ≡ patches_below mesh x 24 (new_owners x empty list) → AreBorn mesh x old (union old fresh) patches
    born-new fresh list patches apart is e = record {
      list = list_of (union old fresh);
      is_list = list_of-is (union old fresh);
      are = e ∙ ap (patches_below mesh x 24) (same-owners old fresh (union old fresh) list (list_of (union old fresh)) is (list_of-is (union old fresh))
          (λ q h. (union-right old fresh q h, apart q h))
          (λ q h out. ⊎_elim (λ (a : Has old q). absurd (both_sides (contains old q) a out)) (λ (b : Has fresh q). b) (union-either old fresh q h)));
    }

    -- names that are lost
    pub died-lost : (gone : Names) (list : List Name) (patches : List PatchName) → Within gone old → IsListOf gone list → patches ≡ patches_down mesh x 24 (new_owners x empty list) → AreDied mesh x old (difference old gone) patches
    died-lost gone list patches within is e = record {
      list = list_of old;
      is_list = list_of-is old;
      are = e ∙ ap (patches_down mesh x 24) (same-owners (difference old gone) gone old list (list_of old) is (list_of-is old)
          (λ q h. (within q h, not_true (contains (difference old gone) q) (λ i. both_sides (contains gone q) h (true-not (contains gone q) (and_both (contains old q) (not (contains gone q)) (sym (left old gone q) ∙ i)).1))))
          (λ q h out. ⊎_elim
          (λ (a : contains gone q ≡ true). a)
          (λ (b : contains gone q ≡ false). absurd (both_sides (contains (difference old gone) q) (left old gone q ∙ and-both (contains old q) (not (contains gone q)) h (not-true (contains gone q) b)) out))
          (is_or_not (contains gone q))));
    }
