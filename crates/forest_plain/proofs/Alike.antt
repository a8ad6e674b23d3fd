-- Forests that are alike can be coarsened alike.
use Rattle.std.proofs.Common.{◌≡◌, ℕ, ◌<◌, min, ℤ, Bool, true, false, not, refl, sym, ap, ◌∙◌, subst, List, [], ◌∷◌, ◌++◌, arith, ⊎_elim}
use Rattle.std.specs.Int.{is_negative}
use Rattle.std.specs.FinSet.{contains, retain}
use Rattle.mesh_names.specs.Names.{Name}
use Rattle.mesh_names.specs.Forests.{Names, Has}
use Rattle.mesh_names.specs.Partners.{Across, InPatch}
use Rattle.mesh_names.specs.Coarsening.{MarkedForest, CanCoarsen, AreSteps, HasEnded, IsCoarsened, after_step, after_steps, allowance, child_at, in_patch, joined_mark}
use Rattle.mesh_names.proofs.Booleans.{not_true}
use Rattle.mesh_names.proofs.Sets.{both_sides}
use Rattle.mesh_names.proofs.Steps.{joined-allowance, negative-allowance, allowance-negative, mark-in, mark-out, patch_or_not, stays_there}
use Rattle.forest_plain.specs.Coarsening.{AreAlike, IsReached}

pub alike-sym : (a b : MarkedForest) → AreAlike a b → AreAlike b a
alike-sym a b h = record { forest = sym h.forest; leaves = λ n out. sym (h.leaves n (ap (λ (f : Names). contains f n) h.forest ∙ out)) }

pub alike-trans : (a b c : MarkedForest) → AreAlike a b → AreAlike b c → AreAlike a c
alike-trans a b c h k = record { forest = h.forest ∙ k.forest; leaves = λ n out. h.leaves n out ∙ k.leaves n (ap (λ (f : Names). contains f n) (sym h.forest) ∙ out) }

-- a patch that can be taken away from one can be taken away from the other
pub alike_can : (x : Across) (a b : MarkedForest) → AreAlike a b → (p : Name) → CanCoarsen x b p → CanCoarsen x a p
alike_can x a b alike p h q k = record {
  member = subst (λ (f : Names). Has f q) (sym alike.forest) (h q k).member;
  leaves = out;
  below = λ side. allowance-negative (a.marks (child_at q side)) (subst (λ (n : ℕ). 0 < n) (sym (alike.leaves (child_at q side) (out side))) (negative-allowance (b.marks (child_at q side)) ((h q k).below side)));
}
  where
    out : (side : Bool) → contains a.forest (child_at q side) ≡ false
    out side = ap (λ (f : Names). contains f (child_at q side)) alike.forest ∙ (h q k).leaves side

-- marks that allow as much are joined to marks that allow as much
pub joined_same : (a b c d : ℤ) → is_negative a ≡ true → is_negative b ≡ true → is_negative c ≡ true → is_negative d ≡ true → allowance a ≡ allowance c → allowance b ≡ allowance d → allowance (joined_mark a b) ≡ allowance (joined_mark c d)
joined_same a b c d ha hb hc hd e f =
    let least : min (allowance a) (allowance b) ≡ min (allowance c) (allowance d) = λ i. min (e i) (f i) in
    let one = joined-allowance a b ha hb in
    let two = joined-allowance c d hc hd in
    omega (arith, least, one, two)

module _ (x : Across) (a b : MarkedForest) (alike : AreAlike a b) (p : Name) (can : CanCoarsen x a p) where
  step_leaves : (n : Name) → contains (after_step x p a).forest n ≡ false → allowance ((after_step x p a).marks n) ≡ allowance ((after_step x p b).marks n)
  step_leaves n out = ⊎_elim
      (λ (k : InPatch x p n).
      let l = can n k in
      let m = alike_can x b a (alike-sym a b alike) p can n k in
      ap allowance (mark-in x a p n k)
      ∙ joined_same (a.marks (child_at n false)) (a.marks (child_at n true)) (b.marks (child_at n false)) (b.marks (child_at n true)) (l.below false) (l.below true) (m.below false) (m.below true) (alike.leaves (child_at n false) (l.leaves false)) (alike.leaves (child_at n true) (l.leaves true))
      ∙ ap allowance (sym (mark-in x b p n k)))
      (λ (k : InPatch x p n → ⊥).
      let was : contains a.forest n ≡ false = not_true (contains a.forest n) (λ e. both_sides (contains (after_step x p a).forest n) (stays_there x a p n e k) out) in
      ap allowance (mark-out x a p n k) ∙ alike.leaves n was ∙ ap allowance (sym (mark-out x b p n k)))
      (patch_or_not x p n)

  -- one step, taken in both
  pub alike_step : AreAlike (after_step x p a) (after_step x p b)
  alike_step = record { forest = λ i. retain (alike.forest i) (λ q. not (in_patch x p q)); leaves = step_leaves }

-- one step more
steps_push : (x : Across) (ps : List Name) (p : Name) (s : MarkedForest) → AreSteps x ps s → CanCoarsen x (after_steps x ps s) p → AreSteps x (ps ++ p ∷ []) s × (after_steps x (ps ++ p ∷ []) s ≡ after_step x p (after_steps x ps s))
steps_push x [] p s h c = ((c, tt), refl)
steps_push x (k ∷ ps) p s h c = let r = steps_push x ps p (after_step x k s) h.1 c in ((h.0, r.0), r.1)

pub reach_next : (x : Across) (first old new : MarkedForest) (p : Name) → IsReached x first old → CanCoarsen x old p → AreAlike (after_step x p old) new → IsReached x first new
reach_next x first old new p r can alike =
    let far = after_steps x r.steps first in
    let can_far = alike_can x far old r.alike p can in
    let push = steps_push x r.steps p first r.are_steps can_far in
    record {
      steps = r.steps ++ p ∷ [];
      are_steps = push.0;
      alike = subst (λ (s : MarkedForest). AreAlike s new) (sym push.1) (alike-trans (after_step x p far) (after_step x p old) new (alike_step x far old r.alike p can_far) alike);
    }

-- where no patch can be taken away any more, the forest is coarsened
pub reach_end : (x : Across) (first now : MarkedForest) → IsReached x first now → HasEnded x now → IsCoarsened x first now.forest
reach_end x first now r end = record {
  steps = r.steps;
  are_steps = r.are_steps;
  ended = λ p can. end p (alike_can x now (after_steps x r.steps first) (alike-sym (after_steps x r.steps first) now r.alike) p can);
  is = sym r.alike.forest;
}
