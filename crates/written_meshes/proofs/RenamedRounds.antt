-- Rounds under a renaming.
use Rattle.std.proofs.Common.{◌≡◌, ℕ, zero, suc, ◌<◌, ◌≤◌, ℤ, pos, Bool, cond, ◌&&◌, refl, sym, ap, subst, ◌∙◌, List, [], ◌∷◌, ◌++◌, length, arith, ⊎_elim}
use Rattle.std.specs.Prelude.{All, IfSome, Option, Some, None, unwrap_or}
use Rattle.std.proofs.lemmas.List.{get_or_at}
use Rattle.std.proofs.lemmas.List.Elements.{All-nil, All-cons}
use Rattle.std.specs.FinSet.{contains}
use Rattle.mesh_names.specs.Names.{Name, name_eq}
use Rattle.mesh_names.specs.Triangles.{Shape, size, level}
use Rattle.mesh_names.specs.Forests.{Names, Has, Within, IsForest, IsLeaf}
use Rattle.mesh_names.specs.Leaves.{leaves}
use Rattle.mesh_names.specs.Conformity.{HoldsPartners}
use Rattle.mesh_names.specs.Partners.{Across, partner}
use Rattle.mesh_names.specs.Marks.{AreNeeds, bisections, effective_mark, is_mark, last_mark, later, names_leaf}
use Rattle.mesh_names.specs.Coarsening.{child_at, marked_by}
use Rattle.mesh_names.specs.declared.rows.MarkRow.{MarkRow}
use Rattle.mesh_names.specs.declared.rows.Place.{Place}
use Rattle.mesh_names.specs.declared.rows.Place.TheVariants.{EveryLeaf, Elem, Corner}
use Rattle.mesh_names.proofs.Leaving.{leaves_are}
use Rattle.mesh_names.proofs.Pairs.{partners_pair}
use Rattle.mesh_names.proofs.Sets.{both_sides, both_ways, same-tied, tied-same}
use Rattle.forest_plain.specs.Rounds.{IsFine, IsFirstFault, IsRefined, IsRound, IsRoundRefusal, IsRowFault, Room, named}
use Rattle.forest_plain.specs.declared.refusal.RoundRefusal.{RoundRefusal}
use Rattle.forest_plain.specs.declared.refusal.RoundRefusal.TheVariants.{RoundsUsedUp, NotALeaf, LevelTooDeep, PoolFull, Memory}
use Rattle.written_meshes.specs.ForestRenaming.{IsRenaming, StandsFor}
use Rattle.written_meshes.specs.RoundRenaming.{AreRowsFor, IsPlaceFor, IsRoundFor, IsRowFor, NoRefusal, RoundStandsFor}
use Rattle.written_meshes.proofs.RenamedLeast.{least_stands_for}
use Rattle.written_meshes.proofs.RenamedSteps.{coarsened_stands_for}
use Rattle.written_meshes.proofs.FewerPatches.{patches_are_fewer}

tail_of : {a b : Bool} {v w : List Bool} → a ∷ v ≡ b ∷ w → v ≡ w
tail_of e = cc

module _ (mesh other : Shape) (x y : Across) (members : Names) (rename : Name → Name) (r : IsRenaming mesh other x y members rename) where
  -- ---- names
  same_root : (k : ℕ) (w : List Bool) → (rename (k, w)).0 ≡ (rename (k, [])).0
  same_root k [] = refl
  same_root k (b ∷ w) = ap (λ (q : Name). q.0) (r.children k b w) ∙ same_root k w

  pub rooted : (n : Name) → n.0 < size other → (rename n).0 < size mesh
  rooted n h = subst (λ (k : ℕ). k < size mesh) (sym (same_root n.0 n.1)) (r.tops n.0 h).rooted

  pub deeper : (k : ℕ) (u w : List Bool) → rename (k, u ++ w) ≡ ((rename (k, w)).0, u ++ (rename (k, w)).1)
  deeper k [] w = refl
  deeper k (b ∷ u) w = r.children k b (u ++ w) ∙ (λ i. ((deeper k u w i).0, b ∷ (deeper k u w i).1))

  lower : (n : Name) → n.0 < size other → level other n ≤ level mesh (rename n)
  lower n h = let l = r.levels n.0 h in let e = l.1 n.1 in omega (arith, e)

  -- ---- forests
  module _ (old new : Names) (forest : IsForest mesh old) (holds : HoldsPartners x old) (within : Within members old) (stands : StandsFor other rename new old) where
    held : (n : Name) → Has new n → Has old (rename n)
    held n h = sym (stands.same n (stands.rooted n h)) ∙ h

    pub new_forest : IsForest other new
    new_forest = record {
      rooted = stands.rooted;
      shallow = λ n h. let a = lower n (stands.rooted n h) in let b = forest.shallow (rename n) (held n h) in omega (arith, a, b);
      closed = λ k b w h. stands.same (k, w) (stands.rooted (k, b ∷ w) h) ∙ forest.closed (rename (k, w)).0 b (rename (k, w)).1 (subst (Has old) (r.children k b w) (held (k, b ∷ w) h));
    }

    pub new_holds : HoldsPartners y new
    new_holds k w m t h e =
        let p = r.partners (k, w) m t (stands.rooted (k, w) h) e in
        stands.same m (partners_rooted k w m t (stands.rooted (k, w) h) e) ∙ holds (rename (k, w)).0 (rename (k, w)).1 (rename m) p.0 (held (k, w) h) p.1
      where
        partners_rooted : (k : ℕ) (w : List Bool) (m : Name) (t : Bool) → k < size other → partner y k w ≡ Some (m, t) → m.0 < size other
        partners_rooted k w m t h e = (partners_pair other y r.tells_other (k, w) m t h e).rooted

    -- leaves stand for leaves
    pub leaf_to : (n : Name) → n.0 < size other → IsLeaf other new n → IsLeaf mesh old (rename n)
    leaf_to n h l = record {
      rooted = rooted n h;
      unsplit = sym (stands.same n h) ∙ l.unsplit;
      born = λ b w e. born n.1 refl b w e;
    }
      where
        born : (u : List Bool) → n.1 ≡ u → (b : Bool) (w : List Bool) → (rename n).1 ≡ b ∷ w → Has old ((rename n).0, w)
        born [] z b w e =
            let here : rename n ≡ rename (n.0, []) = λ i. rename (n.0, z i) in
            subst (λ (k : ℕ). Has old (k, w)) (ap (λ (q : Name). q.0) (sym here)) (within ((rename (n.0, [])).0, w) ((r.tops n.0 h).born b w (ap (λ (q : Name). q.1) (sym here) ∙ e)))
        born (c ∷ u) z b w e =
            let here : rename n ≡ child_at (rename (n.0, u)) c = (λ i. rename (n.0, z i)) ∙ r.children n.0 c u in
            let words : (rename (n.0, u)).1 ≡ w = tail_of (ap (λ (q : Name). q.1) (sym here) ∙ e) in
            let roots : (rename (n.0, u)).0 ≡ (rename n).0 = ap (λ (q : Name). q.0) (sym here) in
            subst (Has old) (λ i. (roots i, words i)) (held (n.0, u) (l.born c u z))

    pub leaf_back : (n : Name) → n.0 < size other → IsLeaf mesh old (rename n) → IsLeaf other new n
    leaf_back n h l = record {
      rooted = h;
      unsplit = stands.same n h ∙ l.unsplit;
      born = λ b w e. let here : rename n ≡ child_at (rename (n.0, w)) b = (λ i. rename (n.0, e i)) ∙ r.children n.0 b w in
          stands.same (n.0, w) h ∙ subst (λ (k : ℕ). Has old (k, (rename (n.0, w)).1)) (ap (λ (q : Name). q.0) here) (l.born b (rename (n.0, w)).1 (ap (λ (q : Name). q.1) here));
    }

    pub leaf_from : (q : Name) → IsLeaf mesh old q → (n : Name) × (n.0 < size other) × (rename n ≡ q)
    leaf_from q l = ⊎_elim
        (λ (has : Has members q). absurd (both_sides (contains old q) (within q has) l.unsplit))
        (λ (n : (n : Name) × (n.0 < size other) × (rename n ≡ q)). n)
        (r.all q l.rooted)

    pub leaves-same : (n : Name) → n.0 < size other → contains (leaves other new) n ≡ contains (leaves mesh old) (rename n)
    leaves-same n h = both_ways (contains (leaves other new) n) (contains (leaves mesh old) (rename n))
        (λ e. (leaves_are mesh old forest (rename n)).1 (leaf_to n h ((leaves_are other new new_forest n).0 e)))
        (λ e. (leaves_are other new new_forest n).1 (leaf_back n h ((leaves_are mesh old forest (rename n)).0 e)))

    -- ---- rows
    pub places : (p q : Place) (n : Name) → n.0 < size other → IsPlaceFor other rename p q → names_leaf p n ≡ names_leaf q (rename n)
    places EveryLeaf EveryLeaf n h f = refl
    places EveryLeaf (Elem q) n h f = absurd f
    places EveryLeaf (Corner q k) n h f = absurd f
    places (Elem p) EveryLeaf n h f = absurd f
    places (Elem p) (Elem q) n h f = both_ways (name_eq p n) (name_eq q (rename n))
        (λ e. same-tied q (rename n) (sym f.1 ∙ ap rename (tied-same p n e)))
        (λ e. same-tied p n (r.one p n f.0 h (f.1 ∙ tied-same q (rename n) e)))
    places (Elem p) (Corner q k) n h f = absurd f
    places (Corner p j) EveryLeaf n h f = absurd f
    places (Corner p j) (Elem q) n h f = absurd f
    places (Corner p j) (Corner q k) n h f = refl

    last-same : (new_rows rows : List MarkRow) (n : Name) → n.0 < size other → AreRowsFor other rename new_rows rows → last_mark new_rows n ≡ last_mark rows (rename n)
    last-same [] [] n h f = refl
    last-same [] (b ∷ rows) n h f = absurd f
    last-same (a ∷ new_rows) [] n h f = absurd f
    last-same (a ∷ new_rows) (b ∷ rows) n h f = λ i. later (cond (is_mark (f.0.what i) && places a.place b.place n h f.0.place i) (Some (f.0.number i)) None) (last-same new_rows rows n h f.1 i)

    -- what can be done there can be done here
    named_leaf : (p q : Place) → IsPlaceFor other rename p q → IfSome (named q) (λ n. IsLeaf mesh old n) → IfSome (named p) (λ n. IsLeaf other new n)
    named_leaf EveryLeaf EveryLeaf f l = l
    named_leaf EveryLeaf (Elem q) f l = absurd f
    named_leaf EveryLeaf (Corner q k) f l = absurd f
    named_leaf (Elem p) EveryLeaf f l = absurd f
    named_leaf (Elem p) (Elem q) f l = leaf_back p f.0 (subst (IsLeaf mesh old) (sym f.1) l)
    named_leaf (Elem p) (Corner q k) f l = absurd f
    named_leaf (Corner p j) EveryLeaf f l = absurd f
    named_leaf (Corner p j) (Elem q) f l = absurd f
    named_leaf (Corner p j) (Corner q k) f l = leaf_back p f.0.0 (subst (IsLeaf mesh old) (sym f.0.1) l)

    fine_row : (a b : MarkRow) → IsRowFor other rename a b → IsFine mesh old b → IsFine other new a
    fine_row a b f fine = record {
      leaf_named = named_leaf a.place b.place f.place fine.leaf_named;
      within = λ mark some n l on.
          let hn = l.rooted in
          let deep = fine.within (ap is_mark (sym f.what) ∙ mark) (subst (λ (z : ℤ). 0 < bisections z) f.number some) (rename n) (leaf_to n hn l) (sym (places a.place b.place n hn f.place) ∙ on) in
          let same = ap bisections f.number in
          let low = lower n hn in
          omega (arith, deep, same, low);
    }

    pub all_fine : (rows new_rows : List MarkRow) → AreRowsFor other rename new_rows rows → All (IsFine mesh old) rows → All (IsFine other new) new_rows
    all_fine [] [] f h = All-nil (IsFine other new)
    all_fine [] (a ∷ new_rows) f h = absurd f
    all_fine (b ∷ rows) [] f h = absurd f
    all_fine (b ∷ rows) (a ∷ new_rows) f h = All-cons (IsFine other new) a new_rows (fine_row a b f.0 (h zero b (omega arith))) (all_fine rows new_rows f.1 (λ i d l. h (suc i) d (omega (arith, l))))

    module _ (rows new_rows : List MarkRow) (rows_for : AreRowsFor other rename new_rows rows) where
      pub marks-same : (n : Name) → n.0 < size other → effective_mark new_rows n ≡ effective_mark rows (rename n)
      marks-same n h = ap (λ (o : Option ℤ). unwrap_or o (pos 0)) (last-same new_rows rows n h rows_for)

      pub needs_stand : (needs new_needs : Names) → AreNeeds mesh old rows needs → AreNeeds other new new_rows new_needs → StandsFor other rename new_needs needs
      needs_stand needs new_needs are new_are = record {
        rooted = there;
        same = λ n h. both_ways (contains new_needs n) (contains needs (rename n)) (forward n) (back n h);
      }
        where
          there : (n : Name) → Has new_needs n → n.0 < size other
          there n h = let d = new_are.needed n h in subst (λ (q : Name). q.0 < size other) (sym d.below) d.is_leaf.rooted

          forward : (n : Name) → Has new_needs n → Has needs (rename n)
          forward n h =
              let d = new_are.needed n h in
              let hl = d.is_leaf.rooted in
              are.all (rename n) (record {
                leaf = rename d.leaf;
                word = d.word;
                is_leaf = leaf_to d.leaf hl d.is_leaf;
                fewer = subst (λ (z : ℤ). length d.word < bisections z) (marks-same d.leaf hl) d.fewer;
                below = ap rename d.below ∙ deeper d.leaf.0 d.word d.leaf.1;
              })

          back : (n : Name) → n.0 < size other → Has needs (rename n) → Has new_needs n
          back n hn h =
              let d = are.needed (rename n) h in
              let k = leaf_from d.leaf d.is_leaf in
              new_are.all n (record {
                leaf = k.0;
                word = d.word;
                is_leaf = leaf_back k.0 k.1 (subst (IsLeaf mesh old) (sym k.2) d.is_leaf);
                fewer = subst (λ (z : ℤ). length d.word < bisections z) (ap (effective_mark rows) (sym k.2) ∙ sym (marks-same k.0 k.1)) d.fewer;
                below = r.one n (k.0.0, d.word ++ k.0.1) hn k.1 (d.below ∙ (λ i. ((sym k.2 i).0, d.word ++ (sym k.2 i).1)) ∙ sym (deeper k.0.0 d.word k.0.1));
              })

picked : (P : MarkRow → Type 0) (rows before after : List MarkRow) (row : MarkRow) → rows ≡ before ++ row ∷ after → All P rows → P row
picked P rows before after row e all = subst P (get_or_at before row after row (length before) refl) (subst (All P) e all (length before) row (below before))
  where
    below : (xs : List MarkRow) → length xs < length (xs ++ row ∷ after)
    below [] = omega arith
    below (x ∷ xs) = let b = below xs in omega (arith, b)

module _ (mesh other : Shape) (x y : Across) (members : Names) (rename : Name → Name) (r : IsRenaming mesh other x y members rename) (room : Room) (old new_old : Names) (rows new_rows : List MarkRow) (new : Names) (is : IsRoundFor mesh other x y members rename room old new_old rows new_rows new) where
  fine : All (IsFine other new_old) new_rows
  fine = all_fine mesh other x y members rename r old new_old is.forest is.partners is.within is.stands rows new_rows is.rows_for is.round.fine

  -- the refined forests stand so
  refined_stands : (new_refined : Names) → IsRefined other new_old new_rows new_refined → StandsFor other rename new_refined is.round.refined
  refined_stands new_refined here =
      let there = is.round.is_refined in
      least_stands_for mesh other x y members rename r old there.needs is.round.refined new_old here.needs new_refined is.within is.stands
      (needs_stand mesh other x y members rename r old new_old is.forest is.partners is.within is.stands rows new_rows is.rows_for there.needs here.needs there.are_needs here.are_needs)
      there.least here.least

  no_fault : (refusal : RoundRefusal) → ((row : MarkRow) → IsFine other new_old row → IsRowFault other new_old row refusal → ⊥) → IsFirstFault other new_old new_rows refusal → ⊥
  no_fault refusal clash f = clash f.row (picked (IsFine other new_old) new_rows f.before f.after f.row f.split fine) f.fault

  refused : (refusal : RoundRefusal) → IsRoundRefusal other y room new_old new_rows refusal → refusal ≡ Memory
  refused (RoundsUsedUp rounds) h = absurd h
  refused (NotALeaf row) h = absurd (no_fault (NotALeaf row) (λ q ok f. f.1 ok.leaf_named) h)
  refused (LevelTooDeep row deep) h = absurd (no_fault (LevelTooDeep row deep)
      (λ q ok f.
      let d = f.2.is_deepest in
      let low = ok.within f.2.mark f.2.positive d.leaf d.is_leaf d.is_named in
      let at = d.reached in
      let sum = f.2.sum in
      let above = f.2.above in
      omega (arith, low, at, sum, above))
      h)
  refused (PoolFull needed kept pool) h =
      let n = h.1 in
      let few = patches_are_fewer mesh other x y members rename r n.refined is.round.refined (refined_stands n.refined n.is_refined) in
      let fits = is.round.fits in
      let count = n.count in
      let full = h.2 in
      absurd (omega (arith, few, fits, count, full))
  refused Memory h = refl

  stands : (new_new : Names) → Within members new → IsRound other y room new_old new_rows new_new → StandsFor other rename new_new new
  stands new_new kept done =
      let there = is.round.is_refined.least in
      let here = done.is_refined.least in
      let refined = refined_stands done.refined done.is_refined in
      coarsened_stands_for mesh other x y members rename r (marked_by mesh old rows is.round.refined) (marked_by other new_old new_rows done.refined) new new_new
      (record { tells = r.tells; forest = there.forest; conforms = there.conforms })
      (record { tells = r.tells_other; forest = here.forest; conforms = here.conforms })
      (record {
        forest = refined;
        marks = λ n h. (λ i. cond (leaves-same mesh other x y members rename r old new_old is.forest is.partners is.within is.stands n h i) (marks-same mesh other x y members rename r old new_old is.forest is.partners is.within is.stands rows new_rows is.rows_for n h i) (pos 0));
      })
      is.round.coarsened kept done.coarsened

pub no_refusal : NoRefusal
no_refusal mesh other x y members rename r room old new_old rows new_rows new is refusal h = refused mesh other x y members rename r room old new_old rows new_rows new is refusal h

pub round_stands_for : RoundStandsFor
round_stands_for mesh other x y members rename r room old new_old rows new_rows new new_new is kept done = stands mesh other x y members rename r room old new_old rows new_rows new is new_new kept done
