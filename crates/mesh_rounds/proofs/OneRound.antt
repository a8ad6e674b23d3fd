-- A round leads to one forest, wherever its rows stand in a file.
use Rattle.std.proofs.Common.{◌≡◌, ◌<◌, ℤ, cond, ◌&&◌, refl, sym, ◌∙◌, subst, List, [], ◌∷◌, length}
use Rattle.std.specs.Prelude.{Some, None, pos, unwrap_or}
use Rattle.std.specs.FinSet.{contains}
use Rattle.mesh_names.specs.Names.{Name}
use Rattle.mesh_names.specs.Triangles.{Shape}
use Rattle.mesh_names.specs.Partners.{Across}
use Rattle.mesh_names.specs.Forests.{IsListOf, Names}
use Rattle.mesh_names.specs.Leaves.{leaves}
use Rattle.mesh_names.specs.LeastForest.{IsLeast}
use Rattle.mesh_names.specs.Coarsening.{IsCoarsened, IsConforming, MarkedForest, marked_by}
use Rattle.mesh_names.specs.Marks.{IsNeeded, bisections, effective_mark, is_mark, last_mark, later, names_leaf}
use Rattle.mesh_names.specs.declared.patch.PatchName.{PatchName}
use Rattle.mesh_names.specs.declared.rows.MarkRow.{MarkRow}
use Rattle.mesh_names.proofs.Closing.{least-same}
use Rattle.mesh_names.proofs.Lists.{lists_are_one}
use Rattle.mesh_names.proofs.Coarsening.{steps_end_at_one}
use Rattle.mesh_names.proofs.Sets.{within-both}
use Rattle.forest_plain.specs.Deltas.{AreBorn, AreDied, new_owners, patches_below, patches_down}
use Rattle.forest_plain.specs.Rounds.{IsRefined}
use Rattle.mesh_rounds.specs.SameRounds.{AreSameRows, RoundsChangeAlike, RoundsEndAtOne}

-- ---- the same marks
last-same : (rows same : List MarkRow) → AreSameRows rows same → (n : Name) → last_mark rows n ≡ last_mark same n
last-same [] [] h n = refl
last-same [] (b ∷ bs) h n = absurd h
last-same (a ∷ more) [] h n = absurd h
last-same (a ∷ more) (b ∷ bs) h n = λ i. later (cond (is_mark (h.0.what i) && names_leaf (h.0.place i) n) (Some (h.0.number i)) None) (last-same more bs h.1 n i)

marks-same : (rows same : List MarkRow) → AreSameRows rows same → (n : Name) → effective_mark rows n ≡ effective_mark same n
marks-same rows same h n = λ i. unwrap_or (last-same rows same h n i) (pos 0)

module _ (mesh : Shape) (old : Names) where
  -- the same needs
  needed-same : (rows same : List MarkRow) → ((n : Name) → effective_mark rows n ≡ effective_mark same n) → (n : Name) → IsNeeded mesh old rows n → IsNeeded mesh old same n
  needed-same rows same marks n is = record {
    leaf = is.leaf;
    word = is.word;
    is_leaf = is.is_leaf;
    fewer = subst (λ (z : ℤ). length is.word < bisections z) (marks is.leaf) is.fewer;
    below = is.below;
  }

  -- the same refined forest
  refined-same : (rows same : List MarkRow) → AreSameRows rows same → (a b : Names) → IsRefined mesh old rows a → IsRefined mesh old same b → a ≡ b
  refined-same rows same h a b ha hb =
      let needs : hb.needs ≡ ha.needs = within-both hb.needs ha.needs
      (λ n i. ha.are_needs.all n (needed-same same rows (λ m. sym (marks-same rows same h m)) n (hb.are_needs.needed n i)))
      (λ n i. hb.are_needs.all n (needed-same rows same (marks-same rows same h) n (ha.are_needs.needed n i))) in
      least-same mesh old ha.needs a b ha.least (subst (λ (s : Names). IsLeast mesh old s b) needs hb.least)

  -- with the same marks
  marked-same : (rows same : List MarkRow) → AreSameRows rows same → (a b : Names) → a ≡ b → marked_by mesh old rows a ≡ marked_by mesh old same b
  marked-same rows same h a b e = λ i. record { forest = e i; marks = λ n. cond (contains (leaves mesh old) n) (marks-same rows same h n i) (pos 0) }

pub rounds_end_at_one : RoundsEndAtOne
rounds_end_at_one mesh x tells room other old rows same new end delta change h one two =
    let refined = refined-same mesh old rows same h one.round.refined two.round.refined one.round.is_refined two.round.is_refined in
    let marked : marked_by mesh old same two.round.refined ≡ marked_by mesh old rows one.round.refined = sym (marked-same mesh old rows same h one.round.refined two.round.refined refined) in
    let conforming : IsConforming mesh x (marked_by mesh old rows one.round.refined) = record { tells = tells; forest = one.round.is_refined.least.forest; conforms = one.round.is_refined.least.conforms } in
    steps_end_at_one mesh x (marked_by mesh old rows one.round.refined) conforming new end one.round.coarsened (subst (λ (s : MarkedForest). IsCoarsened x s end) marked two.round.coarsened)

-- ---- the same patches
module _ (mesh : Shape) (x : Across) where
  born-same : (old a b : Names) (ps qs : List PatchName) → a ≡ b → AreBorn mesh x old a ps → AreBorn mesh x old b qs → ps ≡ qs
  born-same old a b ps qs e h k =
      let lists : h.list ≡ k.list = lists_are_one a h.list k.list h.is_list (subst (λ (s : Names). IsListOf s k.list) (sym e) k.is_list) in
      h.are ∙ (λ i. patches_below mesh x 24 (new_owners x old (lists i))) ∙ sym k.are

  died-same : (a b new end : Names) (ps qs : List PatchName) → a ≡ b → new ≡ end → AreDied mesh x a new ps → AreDied mesh x b end qs → ps ≡ qs
  died-same a b new end ps qs e f h k =
      let lists : h.list ≡ k.list = lists_are_one a h.list k.list h.is_list (subst (λ (s : Names). IsListOf s k.list) (sym e) k.is_list) in
      h.are ∙ (λ i. patches_down mesh x 24 (new_owners x (f i) (lists i))) ∙ sym k.are

pub rounds_change_alike : RoundsChangeAlike
rounds_change_alike mesh x tells room other old rows same new end delta change h one two =
    let refined = refined-same mesh old rows same h one.round.refined two.round.refined one.round.is_refined two.round.is_refined in
    let ends = rounds_end_at_one mesh x tells room other old rows same new end delta change h one two in (
      ends,
      record {
        born = born-same mesh x old one.round.refined two.round.refined delta.born.items change.born.items refined one.born two.born;
        died = died-same mesh x one.round.refined two.round.refined new end delta.died.items change.died.items refined ends one.died two.died;
      },
    )
