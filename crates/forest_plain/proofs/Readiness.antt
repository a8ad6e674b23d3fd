-- From a refined forest to a coarsened one.
use Rattle.std.proofs.Common.{◌≡◌, ℕ, ◌<◌, ◌≤◌, ℤ, pos, Bool, true, false, cond, not, ◌&&◌, refl, sym, ap, ◌∙◌, List, [], inl, arith}
use Rattle.std.specs.FinSet.{contains, from_list, retain, len}
use Rattle.mesh_names.specs.Names.{Name, name_cmp}
use Rattle.mesh_names.specs.Triangles.{Shape}
use Rattle.mesh_names.specs.Forests.{Names, Has, IsForest}
use Rattle.mesh_names.specs.Partners.{Across, Tells}
use Rattle.mesh_names.specs.Leaves.{leaves}
use Rattle.mesh_names.specs.Marks.{effective_mark}
use Rattle.mesh_names.specs.Patches.{owns, patch_count}
use Rattle.mesh_names.specs.Coarsening.{IsCoarsened, IsConforming, allowance, child_at, marked_by}
use Rattle.mesh_names.specs.declared.rows.MarkRow.{MarkRow}
use Rattle.mesh_names.proofs.Booleans.{and_both, and-both, retained}
use Rattle.mesh_names.proofs.Conforming.{conforms_by_partners}
use Rattle.mesh_names.proofs.Coarsening.{coarsened_conforms}
use Rattle.mesh_names.proofs.Leaving.{leaves_are}
use Rattle.mesh_names.proofs.Sets.{both_sides}
use Rattle.mesh_names.proofs.Steps.{negative-allowance}
use Rattle.forest_plain.specs.LeafMarks.{leaf_mark, marked_so}
use Rattle.forest_plain.specs.Coarsening.{IsReached}
use Rattle.forest_plain.specs.Needed.{AreMarked}
use Rattle.forest_plain.specs.Refined.{IsReady}
use Rattle.forest_plain.specs.Rounds.{IsRefined, Stands}
use Rattle.forest_plain.specs.declared.refined.Refined.{Refined}
use Rattle.forest_plain.proofs.Worklist.{len-within}

module _ (mesh : Shape) (x : Across) (tells : Tells mesh x) (old : Names) (rows : List MarkRow) where
  -- the marks that are kept of the leaves
  pub ready : IsForest mesh old → (list : List Name) → AreMarked mesh old rows list → (mark : Name → ℤ) → ((n : Name) → mark n ≡ effective_mark rows n) → (r : Refined) → IsRefined mesh old rows r.members →
      ((n : Name) → allowance (leaf_mark r.marks n) ≡ cond (contains {R = name_cmp} (from_list list) n && not (contains r.members n)) (allowance (mark n)) 0) →
      ((n : Name) (side : Bool) → 0 < allowance (leaf_mark r.marks (child_at n side)) → Has (from_list r.marks.parents.items) n) → IsReady mesh x old rows r
  ready forest list is mark same r refined marks parents = record {
    refined = refined;
    alike = record { forest = refl; leaves = λ n out. sym (marks n ∙ leaf n out) };
    underway = record {
      forest = refined.least.forest;
      partners = (conforms_by_partners mesh x tells r.members refined.least.forest).0 refined.least.conforms;
      unmarked = λ n h. marks n ∙ member n (contains {R = name_cmp} (from_list list) n) h;
      pending = λ p can. (p, inl refl, parents p false (negative-allowance (leaf_mark r.marks (child_at p false)) ((can p (inl refl)).below false)));
    };
  }
    where
      leaf : (n : Name) → contains r.members n ≡ false → cond (contains {R = name_cmp} (from_list list) n && not (contains r.members n)) (allowance (mark n)) 0 ≡ allowance (cond (contains (leaves mesh old) n) (effective_mark rows n) (pos 0))
      leaf n out =
          (λ i. cond (contains {R = name_cmp} (from_list list) n && not (out i)) (allowance (same n i)) 0)
          ∙ by (contains {R = name_cmp} (from_list list) n) (contains (leaves mesh old) n) refl refl
        where
          by : (a b : Bool) → contains {R = name_cmp} (from_list list) n ≡ a → contains (leaves mesh old) n ≡ b → cond (a && true) (allowance (effective_mark rows n)) 0 ≡ allowance (cond b (effective_mark rows n) (pos 0))
          by true true e f = refl
          by true false e f = absurd (both_sides (contains (leaves mesh old) n) ((leaves_are mesh old forest n).1 (is.leaves n e)) f)
          by false true e f = sym (ap allowance (is.others n ((leaves_are mesh old forest n).0 f) e))
          by false false e f = refl

      member : (n : Name) (b : Bool) → Has r.members n → cond (b && not (contains r.members n)) (allowance (mark n)) 0 ≡ 0
      member n true h = ap (λ (c : Bool). cond (not c) (allowance (mark n)) 0) h
      member n false h = refl

  -- no step was made yet
  pub reached_first : (r : Refined) → IsReady mesh x old rows r → IsReached x (marked_by mesh old rows r.members) (marked_so r.members r.marks)
  reached_first r h = record { steps = []; are_steps = tt; alike = h.alike }

  -- the coarsened forest stands
  pub coarsened_stands : (pool : ℕ) → Stands mesh x pool old → (refined new : Names) → IsRefined mesh old rows refined → patch_count x refined ≤ pool → IsCoarsened x (marked_by mesh old rows refined) new → Stands mesh x pool new
  coarsened_stands pool stands refined new is_refined room coarse =
      let s : IsConforming mesh x (marked_by mesh old rows refined) = record { tells = tells; forest = is_refined.least.forest; conforms = is_refined.least.conforms } in
      let kept = coarsened_conforms mesh x (marked_by mesh old rows refined) s new coarse in
      let fewer = len-within (len (retain new (owns x))) (retain new (owns x)) (retain refined (owns x)) (omega arith) (λ n h.
      let b = and_both (contains new n) (owns x n) (sym (retained new (owns x) n) ∙ h) in
      retained refined (owns x) n ∙ and-both (contains refined n) (owns x n) (kept.2 n b.0) b.1) in
      record {
        forest = kept.0;
        partners = (conforms_by_partners mesh x tells new kept.0).0 kept.1;
        room = omega (arith, room, fewer);
        some = stands.some;
        most = stands.most;
      }
