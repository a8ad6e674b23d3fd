-- Effective marks give the needs.
use Rattle.std.proofs.Common.{◌≡◌, ℕ, ◌<◌, Bool, refl, sym, ◌∙◌, subst, List, [], ◌∷◌, ◌++◌, length, inl, inr, ⊎_elim}
use Rattle.mesh_names.specs.Names.{Name}
use Rattle.mesh_names.specs.Forests.{Names, Has}
use Rattle.mesh_names.specs.LeastForest.{IsAsked}
use Rattle.mesh_names.specs.Marks.{effective_mark, bisections, work_of, MarksGiveNeeds}
use Rattle.mesh_names.specs.declared.rows.MarkRow.{MarkRow}
use Rattle.mesh_names.proofs.Sets.{In, has-in, in-has}
use Rattle.mesh_names.proofs.Leaving.{leaves_are}
use Rattle.mesh_names.proofs.Needs.{needs_are}

module _ (rows : List MarkRow) where
  times : Name → ℕ
  times t = bisections (effective_mark rows t)

  -- asked for of a listed leaf
  pub record IsListed (list : List Name) (n : Name) : Type 0 where
    pub leaf : Name
    pub word : List Bool
    pub listed : In leaf list
    pub fewer : length word < bisections (effective_mark rows leaf)
    pub below : n ≡ (leaf.0, word ++ leaf.1)

  asked-listed : (list : List Name) (n : Name) → IsAsked (work_of rows list) n → IsListed list n
  asked-listed [] n h = absurd h
  asked-listed (t ∷ list) n h = ⊎_elim
      (λ (a : (u : List Bool) × (length u < bisections (effective_mark rows t)) × (n ≡ (t.0, u ++ t.1))). record { leaf = t; word = a.0; listed = inl refl; fewer = a.1; below = a.2 })
      (λ (b : IsAsked (work_of rows list) n). let r = asked-listed list n b in record { leaf = r.leaf; word = r.word; listed = inr r.listed; fewer = r.fewer; below = r.below })
      h

  listed-asked : (list : List Name) (t : Name) (u : List Bool) (n : Name) → In t list → length u < bisections (effective_mark rows t) → n ≡ (t.0, u ++ t.1) → IsAsked (work_of rows list) n
  listed-asked [] t u n h f e = absurd h
  listed-asked (k ∷ list) t u n h f e = ⊎_elim
      (λ (p : t ≡ k). inl (u, subst (λ (y : Name). length u < bisections (effective_mark rows y)) p f, e ∙ (λ i. ((p i).0, u ++ (p i).1))))
      (λ (i : In t list). inr (listed-asked list t u n i f e))
      h

pub marks_give_needs : MarksGiveNeeds
marks_give_needs mesh old rows list forest is = record {
  needed = λ n h. let r = asked-listed rows list n ((needs_are (work_of rows list) n).0 h) in record {
    leaf = r.leaf;
    word = r.word;
    is_leaf = (leaves_are mesh old forest r.leaf).0 (subst (λ (s : Names). Has s r.leaf) is.all (in-has r.leaf list r.listed));
    fewer = r.fewer;
    below = r.below;
  };
  all = λ n h. (needs_are (work_of rows list) n).1 (listed-asked rows list h.leaf h.word n (has-in h.leaf list (subst (λ (s : Names). Has s h.leaf) (sym is.all) ((leaves_are mesh old forest h.leaf).1 h.is_leaf))) h.fewer h.below);
}
