-- Coarsening by computing, on listed members; and the worked rounds that coarsen the square.
use Rattle.std.proofs.Common.{◌≡◌, ℤ, pos, negsuc, Bool, true, false, cond, not, ◌&&◌, true≢false, refl, sym, ap, ◌∙◌, subst, List, [], ◌∷◌, filter, inl, inr, ⊎_elim}
use Rattle.std.specs.Prelude.{Option, Some, None}
use Rattle.std.specs.Int.{is_negative}
use Rattle.std.specs.List.{list_all}
use Rattle.std.specs.FinSet.{contains, from_list, retain, contains-from_list}
use Rattle.mesh_names.specs.Names.{Name, name_cmp}
use Rattle.mesh_names.specs.Order.{name_cmp_total}
use Rattle.mesh_names.specs.Triangles.{Shape}
use Rattle.mesh_names.specs.Forests.{Names, IsListOf}
use Rattle.mesh_names.specs.Partners.{Across, partner}
use Rattle.mesh_names.specs.Validity.{across_of}
use Rattle.mesh_names.specs.Leaves.{leaves}
use Rattle.mesh_names.specs.Marks.{effective_mark}
use Rattle.mesh_names.specs.Coarsening.{MarkedForest, AreSteps, CanCoarsen, HasEnded, IsCoarsened, IsFullyMarked, after_step, after_steps, child_at, in_patch, joined_mark, marked_by}
use Rattle.mesh_names.specs.Squares.{square}
use Rattle.mesh_names.specs.Examples.{element, gives_all, gives_one, both, four, SquareCoarsened}
use Rattle.mesh_names.specs.declared.rows.MarkRow.{MarkRow}
use Rattle.mesh_names.proofs.Booleans.{and_both, and-both, not-true, true-not, retained}
use Rattle.mesh_names.proofs.Neighbours.{none_some, some_inj}
use Rattle.mesh_names.proofs.Sets.{In, has-in, in-has, within-both}
use Rattle.mesh_names.proofs.Deciding.{has, partners, forest_of, gives_leaves}

abbrev Marks : Type 0
Marks = Name → ℤ

abbrev state : List Name → Marks → MarkedForest
state list m = record { forest = from_list list; marks = m }

has-is : (list : List Name) (n : Name) → contains {R = name_cmp} (from_list list) n ≡ has list n
has-is list n = contains-from_list name_cmp_total list n

-- whether the children of a listed name are not listed, and have marks below 0
abbrev pub is_marked : List Name → Marks → Name → Bool
is_marked list m n = (has list n && (not (has list (child_at n false)) && not (has list (child_at n true)))) && (is_negative (m (child_at n false)) && is_negative (m (child_at n true)))

-- whether this is so all over the patch
abbrev pub can : Across → List Name → Marks → Name → Bool
can x list m p = is_marked list m p && list_all (is_marked list m) (partners (partner x p.0 p.1))

-- what is left of the list after a step, and the marks
abbrev pub rest : Across → Name → List Name → List Name
rest x p list = filter (λ q. not (in_patch x p q)) list

abbrev pub next : Across → Name → Marks → Marks
next x p m = λ q. cond (in_patch x p q) (joined_mark (m (child_at q false)) (m (child_at q true))) (m q)

abbrev pub left : Across → List Name → List Name → List Name
left x [] list = list
left x (p ∷ ps) list = left x ps (rest x p list)

-- whether these are steps, after which there is none
abbrev pub runs : Across → List Name → List Name → Marks → Bool
runs x [] list m = list_all (λ p. not (can x list m p)) list
runs x (p ∷ ps) list m = can x list m p && runs x ps (rest x p list) (next x p m)

module _ (list : List Name) (m : Marks) where
  marked_is : (n : Name) → is_marked list m n ≡ true → IsFullyMarked (state list m) n
  marked_is n e =
      let a = and_both (has list n && (not (has list (child_at n false)) && not (has list (child_at n true)))) (is_negative (m (child_at n false)) && is_negative (m (child_at n true))) e in
      let b = and_both (has list n) (not (has list (child_at n false)) && not (has list (child_at n true))) a.0 in
      let c = and_both (not (has list (child_at n false))) (not (has list (child_at n true))) b.1 in
      let d = and_both (is_negative (m (child_at n false))) (is_negative (m (child_at n true))) a.1 in
      record {
        member = has-is list n ∙ b.0;
        leaves = λ side. each (λ s. contains {R = name_cmp} (from_list list) (child_at n s) ≡ false) (has-is list (child_at n false) ∙ true-not (has list (child_at n false)) c.0) (has-is list (child_at n true) ∙ true-not (has list (child_at n true)) c.1) side;
        below = λ side. each (λ s. is_negative (m (child_at n s)) ≡ true) d.0 d.1 side;
      }
    where
      each : (P : Bool → Type 0) → P false → P true → (side : Bool) → P side
      each P f t false = f
      each P f t true = t

  is-marked : (n : Name) → IsFullyMarked (state list m) n → is_marked list m n ≡ true
  is-marked n h =
      and-both (has list n && (not (has list (child_at n false)) && not (has list (child_at n true)))) (is_negative (m (child_at n false)) && is_negative (m (child_at n true)))
      (and-both (has list n) (not (has list (child_at n false)) && not (has list (child_at n true))) (sym (has-is list n) ∙ h.member)
      (and-both (not (has list (child_at n false))) (not (has list (child_at n true))) (free false) (free true)))
      (and-both (is_negative (m (child_at n false))) (is_negative (m (child_at n true))) (h.below false) (h.below true))
    where
      free : (side : Bool) → not (has list (child_at n side)) ≡ true
      free side = not-true (has list (child_at n side)) (sym (has-is list (child_at n side)) ∙ h.leaves side)

  module _ (x : Across) where
    can_is : (p : Name) → can x list m p ≡ true → CanCoarsen x (state list m) p
    can_is p e = by (partner x p.0 p.1) refl (and_both (is_marked list m p) (list_all (is_marked list m) (partners (partner x p.0 p.1))) e)
      where
        by : (o : Option (Name × Bool)) → partner x p.0 p.1 ≡ o → (is_marked list m p ≡ true) × (list_all (is_marked list m) (partners (partner x p.0 p.1)) ≡ true) → CanCoarsen x (state list m) p
        by None f h q k = ⊎_elim
            (λ (g : q ≡ p). subst (λ (y : Name). IsFullyMarked (state list m) y) (sym g) (marked_is p h.0))
            (λ (g : (t : Bool) × (partner x p.0 p.1 ≡ Some (q, t))). absurd (none_some (q, g.0) (sym f ∙ g.1)))
            k
        by (Some a) f h q k = ⊎_elim
            (λ (g : q ≡ p). subst (λ (y : Name). IsFullyMarked (state list m) y) (sym g) (marked_is p h.0))
            (λ (g : (t : Bool) × (partner x p.0 p.1 ≡ Some (q, t))).
            let other = and_both (is_marked list m a.0) true (sym (ap (λ (o : Option (Name × Bool)). list_all (is_marked list m) (partners o)) f) ∙ h.1) in
            subst (λ (y : Name). IsFullyMarked (state list m) y) (λ i. (some_inj a (q, g.0) (sym f ∙ g.1) i).0) (marked_is a.0 other.0))
            k

    is-can : (p : Name) → CanCoarsen x (state list m) p → can x list m p ≡ true
    is-can p c = and-both (is_marked list m p) (list_all (is_marked list m) (partners (partner x p.0 p.1))) (is-marked p (c p (inl refl))) (by (partner x p.0 p.1) refl)
      where
        by : (o : Option (Name × Bool)) → partner x p.0 p.1 ≡ o → list_all (is_marked list m) (partners o) ≡ true
        by None f = refl
        by (Some a) f = and-both (is_marked list m a.0) true (is-marked a.0 (c a.0 (inr (a.1, f)))) refl

in-filter : (f : Name → Bool) (list : List Name) (q : Name) → In q list → f q ≡ true → In q (filter f list)
in-filter f [] q i e = absurd i
in-filter f (k ∷ ks) q i e = by (f k) refl (λ j. in-filter f ks q j e)
  where
    by : (b : Bool) → f k ≡ b → (In q ks → In q (filter f ks)) → In q (cond b (k ∷ filter f ks) (filter f ks))
    by true h ih = ⊎_elim (λ (g : q ≡ k). inl g) (λ (j : In q ks). inr (ih j)) i
    by false h ih = ⊎_elim (λ (g : q ≡ k). absurd (true≢false (sym e ∙ ap f g ∙ h))) ih i

filter-in : (f : Name → Bool) (list : List Name) (q : Name) → In q (filter f list) → In q list × (f q ≡ true)
filter-in f [] q i = absurd i
filter-in f (k ∷ ks) q i = by (f k) refl i (λ j. filter-in f ks q j)
  where
    by : (b : Bool) → f k ≡ b → In q (cond b (k ∷ filter f ks) (filter f ks)) → (In q (filter f ks) → In q ks × (f q ≡ true)) → In q (k ∷ ks) × (f q ≡ true)
    by true h j ih = ⊎_elim (λ (g : q ≡ k). (inl g, ap f g ∙ h)) (λ (l : In q (filter f ks)). let r = ih l in (inr r.0, r.1)) j
    by false h j ih = let r = ih j in (inr r.0, r.1)

step_is : (x : Across) (p : Name) (list : List Name) (m : Marks) → after_step x p (state list m) ≡ state (rest x p list) (next x p m)
step_is x p list m = λ i. record { forest = sets i; marks = next x p m }
  where
    sets : retain (from_list {R = name_cmp} list) (λ q. not (in_patch x p q)) ≡ from_list (rest x p list)
    sets = within-both (retain (from_list list) (λ q. not (in_patch x p q))) (from_list (rest x p list))
        (λ q h.
        let b = and_both (contains {R = name_cmp} (from_list list) q) (not (in_patch x p q)) (sym (retained (from_list list) (λ y. not (in_patch x p y)) q) ∙ h) in
        in-has q (rest x p list) (in-filter (λ y. not (in_patch x p y)) list q (has-in q list b.0) b.1))
        (λ q h.
        let b = filter-in (λ y. not (in_patch x p y)) list q (has-in q (rest x p list) h) in
        retained (from_list list) (λ y. not (in_patch x p y)) q ∙ and-both (contains {R = name_cmp} (from_list list) q) (not (in_patch x p q)) (in-has q list b.0) b.1)

all_of : (f : Name → Bool) (list : List Name) → list_all f list ≡ true → (n : Name) → In n list → f n ≡ true
all_of f [] h n i = absurd i
all_of f (k ∷ ks) h n i = let b = and_both (f k) (list_all f ks) h in ⊎_elim (λ (e : n ≡ k). ap f e ∙ b.0) (λ (j : In n ks). all_of f ks b.1 n j) i

-- what the computing shows
record Runs (x : Across) (ps list : List Name) (s : MarkedForest) : Type 0 where
  are_steps : AreSteps x ps s
  ended : HasEnded x (after_steps x ps s)
  is : (after_steps x ps s).forest ≡ from_list (left x ps list)

runs_is : (x : Across) (ps list : List Name) (m : Marks) → runs x ps list m ≡ true → Runs x ps list (state list m)
runs_is x [] list m h = record {
  are_steps = tt;
  ended = λ p c.
      let i = has-in p list (c p (inl refl)).member in
      true≢false (sym (is-can list m x p c) ∙ true-not (can x list m p) (all_of (λ q. not (can x list m q)) list h p i));
  is = refl;
}
runs_is x (p ∷ ps) list m h =
    let b = and_both (can x list m p) (runs x ps (rest x p list) (next x p m)) h in
    let after = runs_is x ps (rest x p list) (next x p m) b.1 in
    let e = sym (step_is x p list m) in
    record {
      are_steps = (can_is list m x p b.0, subst (λ (s : MarkedForest). AreSteps x ps s) e after.are_steps);
      ended = subst (λ (s : MarkedForest). HasEnded x (after_steps x ps s)) e after.ended;
      is = subst (λ (s : MarkedForest). (after_steps x ps s).forest ≡ from_list (left x ps (rest x p list))) e after.is;
    }

-- the marks of the listed leaves
abbrev listed_marks : List Name → List MarkRow → Marks
listed_marks list rows n = cond (has list n) (effective_mark rows n) (pos 0)

coarsens : (mesh : Shape) (x : Across) (old refined : List Name) (rows : List MarkRow) (list steps : List Name) → IsListOf (leaves mesh (from_list old)) list → runs x steps refined (listed_marks list rows) ≡ true →
    IsCoarsened x (marked_by mesh (from_list old) rows (from_list refined)) (from_list (left x steps refined))
coarsens mesh x old refined rows list steps is h =
    let run = runs_is x steps refined (listed_marks list rows) h in
    record {
      steps = steps;
      are_steps = subst (λ (s : MarkedForest). AreSteps x steps s) same run.are_steps;
      ended = subst (λ (s : MarkedForest). HasEnded x (after_steps x steps s)) same run.ended;
      is = sym (subst (λ (s : MarkedForest). (after_steps x steps s).forest ≡ from_list (left x steps refined)) same run.is);
    }
  where
    same : state refined (listed_marks list rows) ≡ marked_by mesh (from_list old) rows (from_list refined)
    same = λ i. record { forest = from_list refined; marks = λ n. cond ((sym (has-is list n) ∙ ap (λ (s : Names). contains s n) is.all) i) (effective_mark rows n) (pos 0) }

abbrev four_leaves : List Name
four_leaves = element 0 (0 ∷ []) ∷ element 0 (1 ∷ []) ∷ element 1 (0 ∷ []) ∷ element 1 (1 ∷ []) ∷ []

abbrev eight_leaves : List Name
eight_leaves =
    element 0 (0 ∷ 0 ∷ []) ∷ element 0 (0 ∷ 1 ∷ []) ∷ element 0 (1 ∷ 0 ∷ []) ∷ element 0 (1 ∷ 1 ∷ [])
    ∷ element 1 (0 ∷ 0 ∷ []) ∷ element 1 (0 ∷ 1 ∷ []) ∷ element 1 (1 ∷ 0 ∷ []) ∷ element 1 (1 ∷ 1 ∷ []) ∷ []

are_four : IsListOf (leaves square (from_list both)) four_leaves
are_four = gives_leaves square both four_leaves (forest_of square (across_of square) both refl) refl

are_eight : IsListOf (leaves square (from_list four)) eight_leaves
are_eight = gives_leaves square four eight_leaves (forest_of square (across_of square) four refl) refl

pub square_coarsened : SquareCoarsened
square_coarsened = (
  coarsens square (across_of square) both both (gives_all (negsuc 0) ∷ []) four_leaves (element 0 [] ∷ []) are_four refl,
  coarsens square (across_of square) both both (gives_all (negsuc 0) ∷ gives_one (element 1 (1 ∷ [])) (pos 0) ∷ []) four_leaves [] are_four refl,
  coarsens square (across_of square) four four (gives_all (negsuc 1) ∷ []) eight_leaves (element 0 (0 ∷ []) ∷ element 0 (1 ∷ []) ∷ element 1 (0 ∷ []) ∷ element 1 (1 ∷ []) ∷ element 1 [] ∷ []) are_eight refl,
  coarsens square (across_of square) four four (gives_all (negsuc 1) ∷ gives_one (element 0 (0 ∷ 0 ∷ [])) (negsuc 0) ∷ []) eight_leaves four_leaves are_eight refl,
)
