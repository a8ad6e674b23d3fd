-- Died patches level by level: when the turn of a level comes, the children of its members are no members.
use Rattle.std.proofs.Common.{◌≡◌, ◌⊎◌, ℕ, ◌≤◌, arith, eqb, eqb-true, Bool, true, false, cond, refl, ap, ◌∙◌, subst, List, [], ◌∷◌, ◌++◌, inl, inr, ⊎_elim}
use Rattle.std.specs.FinSet.{contains, difference, from_list}
use Rattle.mesh_names.specs.Names.{Name}
use Rattle.mesh_names.specs.Triangles.{Shape, level}
use Rattle.mesh_names.specs.Forests.{Names, Has, Within}
use Rattle.mesh_names.proofs.Booleans.{not_true}
use Rattle.mesh_names.proofs.Sets.{In, both_sides, in-append, in-first, in-second, within-both}
use Rattle.dof_transfer.specs.Exchanges.{by_level, child, joined}
use Rattle.dof_transfer.specs.Changes.{AreCoarsenings, IsBottom}
use Rattle.dof_transfer.proofs.Exchanging.{Misses}
use Rattle.dof_transfer.proofs.NamedElements.{in-or-misses, less-has, less-member, not-in}
use Rattle.mesh_rounds.proofs.NameLists.{Turns, all-names, turns-across, turns-rest}
use Rattle.mesh_rounds.proofs.NewOwners.{Falls}

-- the names of all lists
abbrev pub flat : List (List Name) → List Name
flat [] = []
flat (ns ∷ runs) = ns ++ flat runs

-- no name is of a greater level than one of its list, or of a list before
abbrev pub LevelsFall : Shape → List (List Name) → Type 0
LevelsFall mesh [] = Unit {0}
LevelsFall mesh (ns ∷ runs) = ((n q : Name) → In n ns → In q (ns ++ flat runs) → level mesh q ≤ level mesh n) × LevelsFall mesh runs

module _ (mesh : Shape) where
  flat-joined : (n : Name) (runs : List (List Name)) → flat (joined mesh n runs) ≡ n ∷ flat runs
  flat-joined n [] = refl
  flat-joined n ([] ∷ runs) = refl
  flat-joined n ((m ∷ run) ∷ runs) = by (eqb (level mesh n) (level mesh m))
    where
      by : (b : Bool) → flat (cond b ((n ∷ m ∷ run) ∷ runs) ((n ∷ []) ∷ (m ∷ run) ∷ runs)) ≡ n ∷ flat ((m ∷ run) ∷ runs)
      by true = refl
      by false = refl

  pub flat-by_level : (ns : List Name) → flat (by_level mesh ns) ≡ ns
  flat-by_level [] = refl
  flat-by_level (n ∷ ns) = flat-joined n (by_level mesh ns) ∙ ap (λ (l : List Name). n ∷ l) (flat-by_level ns)

  -- a name of no smaller level than all of the lists
  alone : (n : Name) (ns : List Name) → ((q : Name) → In q ns → level mesh q ≤ level mesh n) → (m q : Name) → In m (n ∷ []) → In q (n ∷ ns) → level mesh q ≤ level mesh m
  alone n ns above m q i j = ⊎_elim
      (λ (e : m ≡ n). let s = ap (level mesh) e in ⊎_elim (λ (f : q ≡ n). let t = ap (level mesh) f in omega (arith, s, t)) (λ (k : In q ns). let l = above q k in omega (arith, s, l)) j)
      (λ (f : ⊥). absurd f)
      i

  fall-joined : (n : Name) (runs : List (List Name)) → LevelsFall mesh runs → ((q : Name) → In q (flat runs) → level mesh q ≤ level mesh n) → LevelsFall mesh (joined mesh n runs)
  fall-joined n [] h above = (alone n [] above, tt)
  fall-joined n ([] ∷ runs) h above = (alone n (flat runs) above, h.1)
  fall-joined n ((m ∷ run) ∷ runs) h above = by (eqb (level mesh n) (level mesh m)) refl
    where
      together : level mesh n ≡ level mesh m → (a q : Name) → In a (n ∷ m ∷ run) → In q (n ∷ (m ∷ run) ++ flat runs) → level mesh q ≤ level mesh a
      together same a q i j = ⊎_elim
          (λ (e : a ≡ n). alone n ((m ∷ run) ++ flat runs) above a q (inl e) j)
          (λ (k : In a (m ∷ run)). ⊎_elim
          (λ (f : q ≡ n). let s = ap (level mesh) f in let l = h.0 a m k (inl refl) in omega (arith, same, s, l))
          (λ (l : In q ((m ∷ run) ++ flat runs)). h.0 a q k l)
          j)
          i

      by : (b : Bool) → eqb (level mesh n) (level mesh m) ≡ b → LevelsFall mesh (cond b ((n ∷ m ∷ run) ∷ runs) ((n ∷ []) ∷ (m ∷ run) ∷ runs))
      by true e = (together (eqb-true (level mesh n) (level mesh m) e), h.1)
      by false e = (alone n ((m ∷ run) ++ flat runs) above, h)

  pub fall-by_level : (ns : List Name) → Turns (Falls mesh) ns → LevelsFall mesh (by_level mesh ns)
  fall-by_level [] turns = tt
  fall-by_level (n ∷ ns) turns = fall-joined n (by_level mesh ns) (fall-by_level ns turns.1) (λ q i. (turns.0 q (subst (In q) (flat-by_level ns) i)).level)

  module _ (less : Names) (closed : (r : ℕ) (b : Bool) (w : List Bool) → Has less (r, b ∷ w) → Has less (r, w)) where
    -- a forest on the way down to the smaller one, which has these names more
    pub record IsLeft (now : Names) (ns : List Name) : Type 0 where
      pub kept : Within less now
      pub rest : (q : Name) → Has now q → Has less q ⊎ In q ns
      pub here : (q : Name) → In q ns → Has now q
      pub gone : (q : Name) → In q ns → contains less q ≡ false

    module _ (now : Names) (ns : List Name) (runs : List (List Name)) (left : IsLeft now (ns ++ flat runs)) (turns : Turns (Falls mesh) (ns ++ flat runs)) (fall : LevelsFall mesh (ns ∷ runs)) where
      in-run : (n : Name) → In n ns → In n (ns ++ flat runs)
      in-run n i = in-first n ns (flat runs) i

      childless : (b : Bool) (n : Name) → In n ns → contains now (child b n) ≡ false
      childless b n i = not_true (contains now (child b n)) (λ h. ⊎_elim
          (λ (a : Has less (child b n)). both_sides (contains less n) (closed n.0 b n.1 a) (left.gone n (in-run n i)))
          (λ (j : In (child b n) (ns ++ flat runs)). let l = fall.0 n (child b n) i j in omega (arith, l))
          (left.rest (child b n) h))

      pub bottoms : (n : Name) → In n ns → IsBottom now n
      bottoms n i = record { member = left.here n (in-run n i); zero = childless false n i; one = childless true n i }

      misses : (q : Name) → (In q ns → ⊥) → Misses q ns
      misses q none = ⊎_elim (λ (i : In q ns). absurd (none i)) (λ (m : Misses q ns). m) (in-or-misses q ns)

      later : (q : Name) → In q (flat runs) → In q (ns ++ flat runs)
      later q i = in-second q ns (flat runs) i

      pub left-next : IsLeft (difference now (from_list ns)) (flat runs)
      left-next = record {
        kept = λ q h. less-has now ns q (left.kept q h) (misses q (λ i. both_sides (contains less q) h (left.gone q (in-run q i))));
        rest = λ q h. let b = less-member now ns q h in ⊎_elim
            (λ (a : Has less q). inl a)
            (λ (i : In q (ns ++ flat runs)). ⊎_elim (λ (j : In q ns). absurd (not-in q ns b.1 j)) (λ (k : In q (flat runs)). inr k) (in-append q ns (flat runs) i))
            (left.rest q b.0);
        here = λ q i. less-has now ns q (left.here q (later q i)) (misses q (λ j. (turns-across (Falls mesh) ns (flat runs) turns q q j i).other refl));
        gone = λ q i. left.gone q (later q i);
      }

    pub all-coarsenings : (runs : List (List Name)) (now : Names) → IsLeft now (flat runs) → Turns (Falls mesh) (flat runs) → LevelsFall mesh runs → AreCoarsenings now runs less
    all-coarsenings [] now left turns fall = within-both less now left.kept (λ q h. ⊎_elim (λ (a : Has less q). a) (λ (f : ⊥). absurd f) (left.rest q h))
    all-coarsenings (ns ∷ runs) now left turns fall =
        (all-names (IsBottom now) ns (bottoms now ns runs left turns fall), all-coarsenings runs (difference now (from_list ns)) (left-next now ns runs left turns fall) (turns-rest (Falls mesh) ns (flat runs) turns) fall.1)
