-- Leaves that rows mark, and what the marks ask for.
use Rattle.std.proofs.Common.{◌≡◌, ◌<◌, Bool, true, false, refl, sym, ap, ◌∙◌, subst, List, [], ◌∷◌, ◌++◌, length, inl, inr, ⊎_elim, arith}
use Rattle.std.specs.FinSet.{contains, from_list}
use Rattle.mesh_names.specs.Names.{Name, name_cmp}
use Rattle.mesh_names.specs.Triangles.{Shape}
use Rattle.mesh_names.specs.Forests.{Names, Has, IsForest, IsListOf, IsLeaf}
use Rattle.mesh_names.specs.Leaves.{leaves}
use Rattle.mesh_names.specs.LeastForest.{IsAsked, needs_of}
use Rattle.mesh_names.specs.Marks.{AreNeeds, IsNeeded, bisections, effective_mark, work_of}
use Rattle.mesh_names.specs.declared.rows.MarkRow.{MarkRow}
use Rattle.mesh_names.proofs.Leaving.{leaves_are}
use Rattle.mesh_names.proofs.Needs.{needs_are}
use Rattle.mesh_names.proofs.Sets.{In, is_or_not, both_sides, has-in, in-has}
use Rattle.forest_plain.specs.Needed.{AreMarked}

-- all leaves are such
pub all_marked : (mesh : Shape) (old : Names) (rows : List MarkRow) (list : List Name) → IsForest mesh old → IsListOf (leaves mesh old) list → AreMarked mesh old rows list
all_marked mesh old rows list forest is = record {
  leaves = λ n h. (leaves_are mesh old forest n).0 (subst (λ (s : Names). Has s n) is.all h);
  others = λ n l out. absurd (both_sides (contains {R = name_cmp} (from_list list) n) (subst (λ (s : Names). Has s n) (sym is.all) ((leaves_are mesh old forest n).1 l)) out);
}

module _ (mesh : Shape) (old : Names) (rows : List MarkRow) where
  -- what is asked for of a listed leaf is needed
  asked-needed : (list : List Name) → ((t : Name) → In t list → IsLeaf mesh old t) → (n : Name) → IsAsked (work_of rows list) n → IsNeeded mesh old rows n
  asked-needed [] each n h = absurd h
  asked-needed (t ∷ list) each n h = ⊎_elim
      (λ (a : (u : List Bool) × (length u < bisections (effective_mark rows t)) × (n ≡ (t.0, u ++ t.1))). record { leaf = t; word = a.0; is_leaf = each t (inl refl); fewer = a.1; below = a.2 })
      (λ (b : IsAsked (work_of rows list) n). asked-needed list (λ q i. each q (inr i)) n b)
      h

  listed-asked : (list : List Name) (t : Name) (u : List Bool) (n : Name) → In t list → length u < bisections (effective_mark rows t) → n ≡ (t.0, u ++ t.1) → IsAsked (work_of rows list) n
  listed-asked [] t u n h f e = absurd h
  listed-asked (k ∷ list) t u n h f e = ⊎_elim
      (λ (p : t ≡ k). inl (u, subst (λ (y : Name). length u < bisections (effective_mark rows y)) p f, e ∙ (λ i. ((p i).0, u ++ (p i).1))))
      (λ (i : In t list). inr (listed-asked list t u n i f e))
      h

  pub marked_needs : (list : List Name) → AreMarked mesh old rows list → AreNeeds mesh old rows (needs_of (work_of rows list))
  marked_needs list is = record {
    needed = λ n h. asked-needed list (λ q i. is.leaves q (in-has q list i)) n ((needs_are (work_of rows list) n).0 h);
    all = λ n h. (needs_are (work_of rows list) n).1 (listed-asked list h.leaf h.word n (among n h) h.fewer h.below);
  }
    where
      among : (n : Name) (h : IsNeeded mesh old rows n) → In h.leaf list
      among n h = ⊎_elim
          (λ (e : contains {R = name_cmp} (from_list list) h.leaf ≡ true). has-in h.leaf list e)
          (λ (e : contains {R = name_cmp} (from_list list) h.leaf ≡ false). let none = ap bisections (is.others h.leaf h.is_leaf e) in let few = h.fewer in absurd (omega (arith, none, few)))
          (is_or_not (contains {R = name_cmp} (from_list list) h.leaf))
