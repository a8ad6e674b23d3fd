-- What rows set of leaves, under a renaming.
use Rattle.std.proofs.Common.{◌≡◌, zero, suc, refl, sym, ap, subst, ◌∙◌, List, [], ◌∷◌, ◌++◌, arith, inl, inr, ⊎_elim}
use Rattle.std.specs.Prelude.{All, ℤ, IsSome, Option, Some, None}
use Rattle.std.proofs.lemmas.List.Elements.{All-nil, All-cons}
use Rattle.std.specs.FinSet.{contains}
use Rattle.mesh_names.specs.Names.{Name}
use Rattle.mesh_names.specs.Triangles.{Shape}
use Rattle.mesh_names.specs.Forests.{Names, IsForest, IsLeaf}
use Rattle.mesh_names.specs.Leaves.{leaves}
use Rattle.mesh_names.specs.Partners.{Across}
use Rattle.mesh_names.specs.declared.rows.MarkRow.{MarkRow}
use Rattle.mesh_names.proofs.Leaving.{leaves_are}
use Rattle.mesh_names.proofs.Sets.{is_or_not, both_sides}
use Rattle.dof_transfer.specs.Changes.{AreOfForest}
use Rattle.dof_transfer.specs.Held.{Held, value_of}
use Rattle.mesh_rounds.specs.Setting.{IsLast, SetsLeaf, TakesLast}
use Rattle.written_meshes.specs.ForestRenaming.{IsRenaming}
use Rattle.written_meshes.specs.RoundRenaming.{AreRowsFor, IsRowFor}
use Rattle.written_meshes.specs.ValueRenaming.{ForestStandsFor, LeavesAreSet, SetValuesStand, ValuesStandFor}
use Rattle.written_meshes.proofs.RenamedRounds.{leaf_to, leaf_back, new_forest, places}

-- ---- the last of some rows
first_row : {a b : MarkRow} {l m : List MarkRow} → a ∷ l ≡ b ∷ m → a ≡ b
first_row e = cc

other_rows : {a b : MarkRow} {l m : List MarkRow} → a ∷ l ≡ b ∷ m → l ≡ m
other_rows e = cc

behind : (P : MarkRow → Type 0) (before after : List MarkRow) (row : MarkRow) → All P (before ++ row ∷ after) → P row
behind P [] after row all = all zero row (omega arith)
behind P (b ∷ before) after row all = behind P before after row (λ i d h. all (suc i) d (omega (arith, h)))

-- two last rows are one
one_last : (meant : MarkRow → Type 0) (b c a d : List MarkRow) (r s : MarkRow) → b ++ r ∷ a ≡ c ++ s ∷ d → meant r → meant s → All (λ q. meant q → ⊥) a → All (λ q. meant q → ⊥) d → r ≡ s
one_last meant [] [] a d r s e mr ms na nd = first_row e
one_last meant [] (y ∷ c) a d r s e mr ms na nd = absurd (behind (λ q. meant q → ⊥) c d s (subst (All (λ q. meant q → ⊥)) (other_rows e) na) ms)
one_last meant (x ∷ b) [] a d r s e mr ms na nd = absurd (behind (λ q. meant q → ⊥) b a r (subst (All (λ q. meant q → ⊥)) (sym (other_rows e)) nd) mr)
one_last meant (x ∷ b) (y ∷ c) a d r s e mr ms na nd = one_last meant b c a d r s (other_rows e) mr ms na nd

pub one_taken : (meant : MarkRow → Type 0) (rows : List MarkRow) (old p q : Option ℤ) → TakesLast meant rows old p → TakesLast meant rows old q → p ≡ q
one_taken meant rows old p q a b = ⊎_elim
    (λ (x : All (λ r. meant r → ⊥) rows × (p ≡ old)). ⊎_elim
    (λ (y : All (λ r. meant r → ⊥) rows × (q ≡ old)). x.1 ∙ sym y.1)
    (λ (y : IsLast meant rows q). absurd (behind (λ r. meant r → ⊥) y.before y.after y.row (subst (All (λ r. meant r → ⊥)) y.split x.0) y.this))
    b)
    (λ (x : IsLast meant rows p). ⊎_elim
    (λ (y : All (λ r. meant r → ⊥) rows × (q ≡ old)). absurd (behind (λ r. meant r → ⊥) x.before x.after x.row (subst (All (λ r. meant r → ⊥)) x.split y.0) x.this))
    (λ (y : IsLast meant rows q). x.number ∙ ap (λ (r : MarkRow). Some r.number) (one_last meant x.before y.before x.after y.after x.row y.row (sym x.split ∙ y.split) x.this y.this x.none y.none) ∙ sym y.number)
    b)
    a

-- ---- rows with their places named anew
module _ (other : Shape) (rename : Name → Name) (one two : MarkRow → Type 0) (back : (a b : MarkRow) → IsRowFor other rename a b → two b → one a) (to : (a b : MarkRow) → IsRowFor other rename a b → one a → two b) where
  none_for : (news olds : List MarkRow) → AreRowsFor other rename news olds → All (λ r. one r → ⊥) news → All (λ r. two r → ⊥) olds
  none_for [] [] f h = All-nil (λ r. two r → ⊥)
  none_for [] (b ∷ olds) f h = absurd f
  none_for (a ∷ news) [] f h = absurd f
  none_for (a ∷ news) (b ∷ olds) f h = All-cons (λ r. two r → ⊥) b olds (λ t. h zero a (omega arith) (back a b f.0 t)) (none_for news olds f.1 (λ i d l. h (suc i) d (omega (arith, l))))

  last_for : (before after olds : List MarkRow) (row : MarkRow) (value : Option ℤ) → AreRowsFor other rename (before ++ row ∷ after) olds → one row → All (λ r. one r → ⊥) after → value ≡ Some row.number → IsLast two olds value
  last_for [] after [] row value f h n e = absurd f
  last_for [] after (b ∷ olds) row value f h n e = record { before = []; row = b; after = olds; split = refl; this = to row b f.0 h; none = none_for after olds f.1 n; number = e ∙ ap Some f.0.number }
  last_for (a ∷ before) after [] row value f h n e = absurd f
  last_for (a ∷ before) after (b ∷ olds) row value f h n e =
      let l = last_for before after olds row value f.1 h n e in
      record { before = b ∷ l.before; row = l.row; after = l.after; split = ap (λ (rows : List MarkRow). b ∷ rows) l.split; this = l.this; none = l.none; number = l.number }

  pub taken_for : (news olds : List MarkRow) (old new : Option ℤ) → AreRowsFor other rename news olds → TakesLast one news old new → TakesLast two olds old new
  taken_for news olds old new f t = ⊎_elim
      (λ (x : All (λ r. one r → ⊥) news × (new ≡ old)). inl (none_for news olds f x.0, x.1))
      (λ (x : IsLast one news new). inr (last_for x.before x.after olds x.row new (subst (λ (l : List MarkRow). AreRowsFor other rename l olds) x.split f) x.this x.none x.number))
      t

module _ (mesh other : Shape) (x y : Across) (members : Names) (rename : Name → Name) (r : IsRenaming mesh other x y members rename) where
  stand : (before new_before : Names) (rows new_rows : List MarkRow) (old set new_old new_set : Held) → ForestStandsFor mesh other x members rename new_before before → AreOfForest mesh before old → ValuesStandFor other rename new_old old →
      AreRowsFor other rename new_rows rows → LeavesAreSet mesh before rows old set → LeavesAreSet other new_before new_rows new_old new_set → ValuesStandFor other rename new_set set
  stand before new_before rows new_rows old set new_old new_set was of values rows_for there here n h = ⊎_elim
      (λ yes.
      let leaf = (leaves_are other new_before forest n).0 yes in
      let a = here.values n leaf in
      let b = there.values (rename n) (leaf_to mesh other x y members rename r before new_before was.forest was.partners was.within was.stands n h leaf) in
      let c = taken_for other rename (SetsLeaf n) (SetsLeaf (rename n)) sets_back sets_to new_rows rows (value_of new_old n) (value_of new_set n) rows_for a in
      one_taken (SetsLeaf (rename n)) rows (value_of old (rename n)) (value_of new_set n) (value_of set (rename n)) (subst (λ (o : Option ℤ). TakesLast (SetsLeaf (rename n)) rows o (value_of new_set n)) (values n h) c) b)
      (λ no.
      let gone : value_of old (rename n) ≡ None = dead (rename n) (λ leaf. both_sides (contains (leaves other new_before) n) ((leaves_are other new_before forest n).1 (leaf_back mesh other x y members rename r before new_before was.forest was.partners was.within was.stands n h leaf)) no) in
      here.none n (values n h ∙ gone) ∙ sym (there.none (rename n) gone))
      (is_or_not (contains (leaves other new_before) n))
    where
      forest : IsForest other new_before
      forest = new_forest mesh other x y members rename r before new_before was.forest was.partners was.within was.stands

      dead : (q : Name) → (IsLeaf mesh before q → ⊥) → value_of old q ≡ None
      dead q none = by (value_of old q) refl
        where
          by : (o : Option ℤ) → value_of old q ≡ o → value_of old q ≡ None
          by None e = e
          by (Some v) e = absurd (none ((of.live q).1 (subst IsSome (sym e) refl)))

      sets_to : (a b : MarkRow) → IsRowFor other rename a b → SetsLeaf n a → SetsLeaf (rename n) b
      sets_to a b f s = record { what = sym f.what ∙ s.what; place = sym (places mesh other x y members rename r before new_before was.forest was.partners was.within was.stands a.place b.place n h f.place) ∙ s.place }

      sets_back : (a b : MarkRow) → IsRowFor other rename a b → SetsLeaf (rename n) b → SetsLeaf n a
      sets_back a b f s = record { what = f.what ∙ s.what; place = places mesh other x y members rename r before new_before was.forest was.partners was.within was.stands a.place b.place n h f.place ∙ s.place }

pub set_values_stand : SetValuesStand
set_values_stand mesh other x y members rename r before new_before rows new_rows old set new_old new_set was of values rows_for there here = stand mesh other x y members rename r before new_before rows new_rows old set new_old new_set was of values rows_for there here
