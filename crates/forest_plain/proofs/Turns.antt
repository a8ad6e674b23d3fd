-- One turn of coarsening: a pending name is tried.
use Rattle.std.proofs.Common.{◌≡◌, ◌⊎◌, ℕ, ◌+◌, ◌<◌, ◌≤◌, ℤ, pos, negsuc, Bool, true, false, cond, ◌&&◌, true≢false, refl, sym, ap, ◌∙◌, subst, List, [], ◌∷◌, ◌++◌, length, arith, inl, inr, ⊎_elim, length-append, append-nil}
use Rattle.std.specs.Prelude.{Option, Some, None, option_map, option_to_list}
use Rattle.std.specs.Int.{is_negative}
use Rattle.std.specs.FinSet.{contains, from_list, remove, len}
use Rattle.mesh_names.specs.Names.{Name, name_eq, parent_of}
use Rattle.mesh_names.specs.Triangles.{Shape}
use Rattle.mesh_names.specs.Forests.{Names, Has, IsForest}
use Rattle.mesh_names.specs.Partners.{Across, Tells, InPatch, partner}
use Rattle.mesh_names.specs.Conformity.{HoldsPartners}
use Rattle.mesh_names.specs.Coarsening.{MarkedForest, CanCoarsen, HasEnded, IsFullyMarked, after_step, allowance, child_at, joined_mark}
use Rattle.mesh_names.proofs.Booleans.{and_both, not_true}
use Rattle.mesh_names.proofs.Neighbours.{some_inj, none_some}
use Rattle.mesh_names.proofs.Sets.{In, both_sides, has-in, in-has, in-append, in-first, in-second, tied-same, same-tied}
use Rattle.mesh_names.proofs.Steps.{negative-allowance, allowance-negative, mark-in, mark-out, next_forest, next_holds, patch-trans, patch_or_not, stays_there, was_there}
use Rattle.mesh_names.proofs.Coarsening.{step-without, without, fewer}
use Rattle.forest_plain.specs.LeafMarks.{joined_in}
use Rattle.forest_plain.specs.Coarsening.{AllPending, AreAlike, IsUnderway}
use Rattle.forest_plain.specs.Tried.{IsTried}
use Rattle.forest_plain.proofs.Alike.{alike_can, reach_next}

module _ (mesh : Shape) (x : Across) (tells : Tells mesh x) (old : MarkedForest) (parents : List Name) (name : Name) (work : IsUnderway mesh x old (parents ++ name ∷ [])) where
  -- a pending name, unless it is the one that is tried
  others : (q : Name) → Has (from_list (parents ++ name ∷ [])) q → Has (from_list parents) q ⊎ (q ≡ name)
  others q h = ⊎_elim (λ i. inl (in-has q parents i)) (λ (b : (q ≡ name) ⊎ ⊥). ⊎_elim (λ (e : q ≡ name). inr e) (λ (f : ⊥). absurd f) b) (in-append q parents (name ∷ []) (has-in q (parents ++ name ∷ []) h))

  -- nothing can be done
  pub skipped : (CanCoarsen x old name → ⊥) → IsTried mesh x old old parents parents
  skipped none = record {
    underway = record {
      forest = work.forest;
      partners = work.partners;
      unmarked = work.unmarked;
      pending = λ p c.
          let w = work.pending p c in
          let rp = work.forest.rooted p (c p (inl refl)).member in (
            w.0,
            w.1,
            ⊎_elim
                (λ h. h)
                (λ (e : w.0 ≡ name). absurd (none (λ q k. c q (patch-trans x mesh tells p name q rp (subst (λ (y : Name). InPatch x p y) e w.1) k))))
                (others w.0 w.2),
          );
    };
    reached = λ f r. r;
    fewer = omega arith;
  }

  -- the patch is taken away
  module _ (new : MarkedForest) (after : List Name) (can : CanCoarsen x old name) (alike : AreAlike (after_step x name old) new) (out : (n : Name) → (InPatch x name n → ⊥) → new.marks n ≡ old.marks n)
      (pushed : (r : Name) (side : Bool) → InPatch x name (child_at r side) → 0 < allowance (new.marks (child_at r side)) → Has (from_list after) r) (kept : (r : Name) → Has (from_list parents) r → Has (from_list after) r) (short : length after ≤ length parents + 2) where
    abbrev Touches : Name → Type 0
    Touches q = (side : Bool) × InPatch x name (child_at q side)

    touches_or_not : (q : Name) → Touches q ⊎ (Touches q → ⊥)
    touches_or_not q = ⊎_elim
        (λ (k : InPatch x name (child_at q false)). inl (false, k))
        (λ (n : InPatch x name (child_at q false) → ⊥). ⊎_elim
        (λ (k : InPatch x name (child_at q true)). inl (true, k))
        (λ (m : InPatch x name (child_at q true) → ⊥). inr (λ t. side n m t.0 t.1))
        (patch_or_not x name (child_at q true)))
        (patch_or_not x name (child_at q false))
      where
        side : (InPatch x name (child_at q false) → ⊥) → (InPatch x name (child_at q true) → ⊥) → (b : Bool) → InPatch x name (child_at q b) → ⊥
        side n m false k = n k
        side n m true k = m k

    abbrev IsPending : Name → Type 0
    IsPending p = (q : Name) × InPatch x p q × Has (from_list after) q

    -- a child of a member is new as a leaf
    touched : (p : Name) → CanCoarsen x new p → (q : Name) → InPatch x p q → Touches q → IsPending p
    touched p c q k t = (q, k, pushed q t.0 t.1 (negative-allowance (new.marks (child_at q t.0)) ((c q k).below t.0)))

    -- no child of a member is, so that the patch could be taken away before
    untouched : (p : Name) → CanCoarsen x new p → ((q : Name) → InPatch x p q → Touches q → ⊥) → IsPending p
    untouched p c none =
        let w = work.pending p before in (
          w.0,
          w.1,
          ⊎_elim
              (λ h. kept w.0 h)
              (λ (e : w.0 ≡ name).
              let rp = work.forest.rooted p (before p (inl refl)).member in
              let gone = stepped name (subst (λ (y : Name). InPatch x p y) e w.1) in
              absurd ((was_there x old name name gone.member).1 (inl refl)))
              (others w.0 w.2),
        )
      where
        stepped : CanCoarsen x (after_step x name old) p
        stepped = alike_can x (after_step x name old) new alike p c

        before : CanCoarsen x old p
        before q k = record {
          member = (was_there x old name q (stepped q k).member).0;
          leaves = λ side. not_true (contains old.forest (child_at q side)) (λ e. both_sides (contains (after_step x name old).forest (child_at q side)) (stays_there x old name (child_at q side) e (λ i. none q k (side, i))) ((stepped q k).leaves side));
          below = λ side. ap is_negative (sym (mark-out x old name (child_at q side) (λ i. none q k (side, i)))) ∙ (stepped q k).below side;
        }

    still_pending : (p : Name) → CanCoarsen x new p → IsPending p
    still_pending p c = ⊎_elim (λ t. touched p c p (inl refl) t) (λ n. by n (partner x p.0 p.1) refl) (touches_or_not p)
      where
        by : (Touches p → ⊥) → (o : Option (Name × Bool)) → partner x p.0 p.1 ≡ o → IsPending p
        by n None e = untouched p c (λ q k t. ⊎_elim (λ (h : q ≡ p). n (subst Touches h t)) (λ (m : (t : Bool) × (partner x p.0 p.1 ≡ Some (q, t))). none_some (q, m.0) (sym e ∙ m.1)) k)
        by n (Some a) e = ⊎_elim
            (λ t. touched p c a.0 (inr (a.1, e)) t)
            (λ l. untouched p c (λ q k t. ⊎_elim
            (λ (h : q ≡ p). n (subst Touches h t))
            (λ (m : (t : Bool) × (partner x p.0 p.1 ≡ Some (q, t))). l (subst Touches (λ i. (some_inj (q, m.0) a (sym m.1 ∙ e) i).0) t))
            k))
            (touches_or_not a.0)

    pub tried : IsTried mesh x old new parents after
    tried = record {
      underway = record {
        forest = subst (λ (f : Names). IsForest mesh f) alike.forest (next_forest x mesh tells old work.forest work.partners name can);
        partners = subst (λ (f : Names). HoldsPartners x f) alike.forest (next_holds x mesh tells old work.forest work.partners name can);
        unmarked = λ n h.
            let w = was_there x old name n (subst (λ (f : Names). Has f n) (sym alike.forest) h) in
            ap allowance (out n w.1) ∙ work.unmarked n w.0;
        pending = still_pending;
      };
      reached = λ first r. reach_next x first old new name r can alike;
      fewer = let l = fewer x old name can in let e = ap (λ (f : Names). len f) alike.forest in omega (arith, l, e, short);
    }

-- ---- joined marks
pub joined-some : (mark : Name → ℤ) (n : Name) (m : ℤ) → joined_in mark n ≡ Some m → (is_negative (mark (child_at n false)) ≡ true) × (is_negative (mark (child_at n true)) ≡ true) × (m ≡ joined_mark (mark (child_at n false)) (mark (child_at n true)))
joined-some mark n m e = by (is_negative (mark (child_at n false)) && is_negative (mark (child_at n true))) refl e
  where
    join : ℤ
    join = joined_mark (mark (child_at n false)) (mark (child_at n true))

    by : (b : Bool) → (is_negative (mark (child_at n false)) && is_negative (mark (child_at n true))) ≡ b → cond b (Some join) None ≡ Some m → (is_negative (mark (child_at n false)) ≡ true) × (is_negative (mark (child_at n true)) ≡ true) × (m ≡ join)
    by true h e = let b = and_both (is_negative (mark (child_at n false))) (is_negative (mark (child_at n true))) h in (b.0, b.1, some_inj m join (sym e))
    by false h e = absurd (none_some m e)

pub joined-none : (old : MarkedForest) (n : Name) → joined_in old.marks n ≡ None → IsFullyMarked old n → ⊥
joined-none old n e l = none_some (joined_mark (old.marks (child_at n false)) (old.marks (child_at n true))) (sym e ∙ (λ i. cond (l.below false i && l.below true i) (Some (joined_mark (old.marks (child_at n false)) (old.marks (child_at n true)))) None))

pub joined_marked : (old : MarkedForest) → ((n : Name) → Has old.forest n → allowance (old.marks n) ≡ 0) → (n : Name) (m : ℤ) → Has old.forest n → joined_in old.marks n ≡ Some m → IsFullyMarked old n
joined_marked old unmarked n m h e =
    let j = joined-some old.marks n m e in
    let below : (side : Bool) → is_negative (old.marks (child_at n side)) ≡ true = λ side. each j.0 j.1 side in
    record {
      member = h;
      leaves = λ side. not_true (contains old.forest (child_at n side)) (λ i. let z = unmarked (child_at n side) i in let l = negative-allowance (old.marks (child_at n side)) (below side) in omega (arith, z, l));
      below = below;
    }
  where
    each : (is_negative (old.marks (child_at n false)) ≡ true) → (is_negative (old.marks (child_at n true)) ≡ true) → (side : Bool) → is_negative (old.marks (child_at n side)) ≡ true
    each f t false = f
    each f t true = t

-- ---- a partner without its sense
pub mapped_none : (o : Option (Name × Bool)) → option_map (λ (m : Name × Bool). m.0) o ≡ None → o ≡ None
mapped_none None e = refl
mapped_none (Some m) e = absurd (none_some m.0 (sym e))

pub mapped_some : (o : Option (Name × Bool)) (n : Name) → option_map (λ (m : Name × Bool). m.0) o ≡ Some n → (t : Bool) × (o ≡ Some (n, t))
mapped_some None n e = absurd (none_some n e)
mapped_some (Some m) n e = (m.1, λ i. Some (some_inj m.0 n e i, m.1))

-- ---- what keeping a mark adds
abbrev pub parents_of : Name → ℤ → List Name
parents_of leaf m = cond (is_negative m) (option_to_list (option_map (λ (w : List Bool). (leaf.0, w)) (parent_of leaf.1))) []

one_parent : (leaf : Name) (m : ℤ) → length {A = Name} (parents_of leaf m) ≤ 1
one_parent leaf m = by (is_negative m) leaf.1
  where
    by : (b : Bool) (w : List Bool) → length {A = Name} (cond b (option_to_list (option_map (λ (v : List Bool). (leaf.0, v)) (parent_of w))) []) ≤ 1
    by false w = omega arith
    by true [] = omega arith
    by true (c ∷ w) = omega arith

pub parent_in : (leaf : Name) (m : ℤ) (r : Name) (side : Bool) → child_at r side ≡ leaf → 0 < allowance m → In r (parents_of leaf m)
parent_in leaf m r side e h = subst (λ (y : Name). In r (parents_of y m)) e (subst (λ (b : Bool). In r (cond b (r ∷ []) [])) (sym (allowance-negative m h)) (inl refl))

pub no_allowance : (m : ℤ) → is_negative m ≡ false → allowance m ≡ 0
no_allowance (pos m) e = refl
no_allowance (negsuc m) e = absurd (true≢false e)

pub kept_mark : (t : Bool) (m z : ℤ) → t ≡ true → allowance z ≡ 0 → allowance (cond (t && is_negative m) m z) ≡ allowance m
kept_mark t m z e h = ap (λ (b : Bool). allowance (cond (b && is_negative m) m z)) e ∙ by (is_negative m) refl
  where
    by : (b : Bool) → is_negative m ≡ b → allowance (cond b m z) ≡ allowance m
    by true f = refl
    by false f = h ∙ sym (no_allowance m f)

pub other_mark : (t b : Bool) (m z : ℤ) → t ≡ false → cond (t && b) m z ≡ z
other_mark true b m z e = absurd (true≢false e)
other_mark false b m z e = refl

not_tied : (n q : Name) → (q ≡ n → ⊥) → name_eq n q ≡ false
not_tied n q f = not_true (name_eq n q) (λ e. f (sym (tied-same n q e)))

-- ---- a patch of one
module _ (mesh : Shape) (x : Across) (tells : Tells mesh x) (old new : MarkedForest) (parents after : List Name) (name : Name) (work : IsUnderway mesh x old (parents ++ name ∷ [])) (member : Has old.forest name) (m : ℤ) (joined : joined_in old.marks name ≡ Some m) where
  module _ (alone : partner x name.0 name.1 ≡ None) (forest : new.forest ≡ remove old.forest name) (marks : (n : Name) → new.marks n ≡ cond (name_eq name n && is_negative m) m (old.marks n)) (more : after ≡ parents ++ parents_of name m) where
    only : (q : Name) → InPatch x name q → q ≡ name
    only q k = ⊎_elim (λ e. e) (λ (p : (t : Bool) × (partner x name.0 name.1 ≡ Some (q, t))). absurd (none_some (q, p.0) (sym alone ∙ p.1))) k

    can_one : CanCoarsen x old name
    can_one q k = subst (λ (y : Name). IsFullyMarked old y) (sym (only q k)) (joined_marked old work.unmarked name m member joined)

    own_mark : allowance (new.marks name) ≡ allowance m
    own_mark = ap allowance (marks name) ∙ kept_mark (name_eq name name) m (old.marks name) (same-tied name name refl) (work.unmarked name member)

    alike_one : AreAlike (after_step x name old) new
    alike_one = record {
      forest = step-without x old name ∙ ap (λ (o : Option (Name × Bool)). without x old o (remove old.forest name)) alone ∙ sym forest;
      leaves = λ n out. ⊎_elim
          (λ (k : InPatch x name n).
          let e = only n k in
          ap allowance (mark-in x old name n k)
          ∙ ap (λ (y : Name). allowance (joined_mark (old.marks (child_at y false)) (old.marks (child_at y true)))) e
          ∙ ap allowance (sym (joined-some old.marks name m joined).2)
          ∙ sym own_mark
          ∙ ap (λ (y : Name). allowance (new.marks y)) (sym e))
          (λ (k : InPatch x name n → ⊥). ap allowance (mark-out x old name n k ∙ sym (outside n k)))
          (patch_or_not x name n);
    }
      where
        outside : (n : Name) → (InPatch x name n → ⊥) → new.marks n ≡ old.marks n
        outside n k = marks n ∙ other_mark (name_eq name n) (is_negative m) m (old.marks n) (not_tied name n (λ e. k (inl e)))

    pub tried_one : IsTried mesh x old new parents after
    tried_one = tried mesh x tells old parents name work new after can_one alike_one
        (λ n k. marks n ∙ other_mark (name_eq name n) (is_negative m) m (old.marks n) (not_tied name n (λ e. k (inl e))))
        (λ r side k l. subst (λ (ks : List Name). Has (from_list ks) r) (sym more) (in-has r (parents ++ parents_of name m) (in-second r parents (parents_of name m)
        (parent_in name m r side (only (child_at r side) k) (subst (λ (n : ℕ). 0 < n) (ap (λ (y : Name). allowance (new.marks y)) (only (child_at r side) k) ∙ own_mark) l)))))
        (λ r h. subst (λ (ks : List Name). Has (from_list ks) r) (sym more) (in-has r (parents ++ parents_of name m) (in-first r parents (parents_of name m) (has-in r parents h))))
        (let a = ap (λ (ks : List Name). length ks) more ∙ length-append parents (parents_of name m) in let b = one_parent name m in omega (arith, a, b))

  -- ---- a patch of two
  module _ (other : Name) (turned : Bool) (o : ℤ) (two : partner x name.0 name.1 ≡ Some (other, turned)) (joined_other : joined_in old.marks other ≡ Some o) (apart : other ≡ name → ⊥) (forest : new.forest ≡ remove (remove old.forest name) other)
      (marks : (n : Name) → new.marks n ≡ cond (name_eq other n && is_negative o) o (cond (name_eq name n && is_negative m) m (old.marks n))) (more : after ≡ (parents ++ parents_of name m) ++ parents_of other o) where
    either : (q : Name) → InPatch x name q → (q ≡ name) ⊎ (q ≡ other)
    either q k = ⊎_elim (λ e. inl e) (λ (p : (t : Bool) × (partner x name.0 name.1 ≡ Some (q, t))). inr (λ i. (some_inj (q, p.0) (other, turned) (sym p.1 ∙ two) i).0)) k

    other_member : Has old.forest other
    other_member = work.partners name.0 name.1 other turned member two

    can_two : CanCoarsen x old name
    can_two q k = ⊎_elim
        (λ (e : q ≡ name). subst (λ (y : Name). IsFullyMarked old y) (sym e) (joined_marked old work.unmarked name m member joined))
        (λ (e : q ≡ other). subst (λ (y : Name). IsFullyMarked old y) (sym e) (joined_marked old work.unmarked other o other_member joined_other))
        (either q k)

    first_mark : allowance (new.marks name) ≡ allowance m
    first_mark = ap allowance (marks name)
        ∙ ap allowance (other_mark (name_eq other name) (is_negative o) o (cond (name_eq name name && is_negative m) m (old.marks name)) (not_tied other name (λ e. apart (sym e))))
        ∙ kept_mark (name_eq name name) m (old.marks name) (same-tied name name refl) (work.unmarked name member)

    second_mark : allowance (new.marks other) ≡ allowance o
    second_mark = ap allowance (marks other)
        ∙ kept_mark (name_eq other other) o (cond (name_eq name other && is_negative m) m (old.marks other)) (same-tied other other refl)
        (ap allowance (other_mark (name_eq name other) (is_negative m) m (old.marks other) (not_tied name other apart)) ∙ work.unmarked other other_member)

    outside_two : (n : Name) → (InPatch x name n → ⊥) → new.marks n ≡ old.marks n
    outside_two n k =
        marks n
        ∙ other_mark (name_eq other n) (is_negative o) o (cond (name_eq name n && is_negative m) m (old.marks n)) (not_tied other n (λ e. k (inr (turned, two ∙ (λ i. Some (sym e i, turned))))))
        ∙ other_mark (name_eq name n) (is_negative m) m (old.marks n) (not_tied name n (λ e. k (inl e)))

    -- the mark of a member as a leaf
    as_leaf : (n : Name) (z : ℤ) → joined_in old.marks n ≡ Some z → allowance (joined_mark (old.marks (child_at n false)) (old.marks (child_at n true))) ≡ allowance z
    as_leaf n z e = ap allowance (sym (joined-some old.marks n z e).2)

    alike_two : AreAlike (after_step x name old) new
    alike_two = record {
      forest = step-without x old name ∙ ap (λ (p : Option (Name × Bool)). without x old p (remove old.forest name)) two ∙ sym forest;
      leaves = λ n out. ⊎_elim
          (λ (k : InPatch x name n). ap allowance (mark-in x old name n k) ∙ ⊎_elim
          (λ (e : n ≡ name). ap (λ (y : Name). allowance (joined_mark (old.marks (child_at y false)) (old.marks (child_at y true)))) e ∙ as_leaf name m joined ∙ sym first_mark ∙ ap (λ (y : Name). allowance (new.marks y)) (sym e))
          (λ (e : n ≡ other). ap (λ (y : Name). allowance (joined_mark (old.marks (child_at y false)) (old.marks (child_at y true)))) e ∙ as_leaf other o joined_other ∙ sym second_mark ∙ ap (λ (y : Name). allowance (new.marks y)) (sym e))
          (either n k))
          (λ (k : InPatch x name n → ⊥). ap allowance (mark-out x old name n k ∙ sym (outside_two n k)))
          (patch_or_not x name n);
    }

    pushed_two : (r : Name) (side : Bool) → InPatch x name (child_at r side) → 0 < allowance (new.marks (child_at r side)) → In r ((parents ++ parents_of name m) ++ parents_of other o)
    pushed_two r side k l = ⊎_elim
        (λ (e : child_at r side ≡ name). in-first r (parents ++ parents_of name m) (parents_of other o) (in-second r parents (parents_of name m)
        (parent_in name m r side e (subst (λ (n : ℕ). 0 < n) (ap (λ (y : Name). allowance (new.marks y)) e ∙ first_mark) l))))
        (λ (e : child_at r side ≡ other). in-second r (parents ++ parents_of name m) (parents_of other o)
        (parent_in other o r side e (subst (λ (n : ℕ). 0 < n) (ap (λ (y : Name). allowance (new.marks y)) e ∙ second_mark) l)))
        (either (child_at r side) k)

    pub tried_two : IsTried mesh x old new parents after
    tried_two = tried mesh x tells old parents name work new after can_two alike_two outside_two
        (λ r side k l. subst (λ (ks : List Name). Has (from_list ks) r) (sym more) (in-has r ((parents ++ parents_of name m) ++ parents_of other o) (pushed_two r side k l)))
        (λ r h. subst (λ (ks : List Name). Has (from_list ks) r) (sym more) (in-has r ((parents ++ parents_of name m) ++ parents_of other o) (in-first r (parents ++ parents_of name m) (parents_of other o) (in-first r parents (parents_of name m) (has-in r parents h)))))
        (let a = ap (λ (ks : List Name). length ks) more ∙ length-append (parents ++ parents_of name m) (parents_of other o) in let b = length-append parents (parents_of name m) in let c = one_parent name m in let d = one_parent other o in omega (arith, a, b, c, d))

-- nothing is pending
pub none_pending : (x : Across) (now : MarkedForest) (pending : List Name) → pending ≡ [] → AllPending x now pending → HasEnded x now
none_pending x now pending e all p can = let w = all p can in has-in w.0 [] (subst (λ (ks : List Name). Has (from_list ks) w.0) e w.2)

-- a list whose last item was asked for in vain
pub nothing_left : (pending rest : List Name) → pending ≡ rest ++ [] → length rest ≡ 0 → pending ≡ []
nothing_left pending rest e z = e ∙ append-nil rest ∙ none rest z
  where
    none : (l : List Name) → length l ≡ 0 → l ≡ []
    none [] z = refl
    none (q ∷ l) z = absurd (omega (arith, z))
