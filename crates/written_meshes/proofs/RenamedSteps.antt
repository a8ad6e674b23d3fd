-- Coarsening, under a renaming.
use Rattle.std.proofs.Common.{◌≡◌, ◌<◌, Bool, true, false, cond, not, ◌&&◌, refl, sym, ap, subst, ◌∙◌, List, [], ◌∷◌, inl, inr, ⊎_elim}
use Rattle.std.specs.Prelude.{Some}
use Rattle.std.specs.Int.{is_negative}
use Rattle.std.specs.FinSet.{contains}
use Rattle.mesh_names.specs.Names.{Name}
use Rattle.mesh_names.specs.Triangles.{Shape, size}
use Rattle.mesh_names.specs.Forests.{Names, Has, Within}
use Rattle.mesh_names.specs.Partners.{Across, InPatch, partner}
use Rattle.mesh_names.specs.Coarsening.{AreSteps, CanCoarsen, HasEnded, IsCoarsened, IsConforming, IsFullyMarked, MarkedForest, after_step, after_steps, child_at, in_patch, joined_mark}
use Rattle.mesh_names.proofs.Booleans.{retained}
use Rattle.mesh_names.proofs.Sets.{both_ways}
use Rattle.mesh_names.proofs.Pairs.{partners_pair}
use Rattle.mesh_names.proofs.Steps.{is-patch, patch-is, steps_keep, was_there}
use Rattle.mesh_names.proofs.Coarsening.{steps_end_at_one}
use Rattle.written_meshes.specs.ForestRenaming.{IsRenaming, StandsFor, MarksStandFor, CoarsenedStandsFor}

-- steps only take away
still : (x : Across) (ps : List Name) (s : MarkedForest) (q : Name) → Has (after_steps x ps s).forest q → Has s.forest q
still x [] s q h = h
still x (p ∷ ps) s q h = (was_there x s p q (still x ps (after_step x p s) q h)).0

module _ (mesh other : Shape) (x y : Across) (members : Names) (rename : Name → Name) (r : IsRenaming mesh other x y members rename) where
  -- ---- patches
  patch_to : (k n : Name) → k.0 < size other → InPatch y k n → (n.0 < size other) × InPatch x (rename k) (rename n)
  patch_to k n h p = ⊎_elim
      (λ (e : n ≡ k). (subst (λ (q : Name). q.0 < size other) (sym e) h, inl (ap rename e)))
      (λ (m : (t : Bool) × (partner y k.0 k.1 ≡ Some (n, t))). ((partners_pair other y r.tells_other k n m.0 h m.1).rooted, inr (r.partners k n m.0 h m.1)))
      p

  patch_back : (k q : Name) → k.0 < size other → InPatch x (rename k) q → (n : Name) × (n.0 < size other) × InPatch y k n × (rename n ≡ q)
  patch_back k q h p = ⊎_elim
      (λ (e : q ≡ rename k). (k, h, inl refl, sym e))
      (λ (m : (t : Bool) × (partner x (rename k).0 (rename k).1 ≡ Some (q, t))).
      let b = r.back k q m.0 h m.1 in
      (b.0, (partners_pair other y r.tells_other k b.0 b.1.0 h b.1.1).rooted, inr (b.1.0, b.1.1), b.1.2))
      p

  one_patch : (k n : Name) → k.0 < size other → n.0 < size other → InPatch x (rename k) (rename n) → InPatch y k n
  one_patch k n hk hn p = let b = patch_back k (rename n) hk p in subst (λ (q : Name). InPatch y k q) (r.one b.0 n b.1 hn b.3) b.2

  patch-same : (k n : Name) → k.0 < size other → n.0 < size other → in_patch y k n ≡ in_patch x (rename k) (rename n)
  patch-same k n hk hn = both_ways (in_patch y k n) (in_patch x (rename k) (rename n))
      (λ e. is-patch x (rename k) (rename n) (patch_to k n hk (patch-is y k n e)).1)
      (λ e. is-patch y k n (one_patch k n hk hn (patch-is x (rename k) (rename n) e)))

  -- ---- one step
  module _ (s new : MarkedForest) (is : MarksStandFor other rename new s) where
    child-marks : (n : Name) (side : Bool) → n.0 < size other → new.marks (child_at n side) ≡ s.marks (child_at (rename n) side)
    child-marks n side h = is.marks (child_at n side) h ∙ ap s.marks (r.children n.0 side n.1)

    child-held : (n : Name) (side : Bool) → n.0 < size other → contains new.forest (child_at n side) ≡ contains s.forest (child_at (rename n) side)
    child-held n side h = is.forest.same (child_at n side) h ∙ ap (contains s.forest) (r.children n.0 side n.1)

    marked_new : (n : Name) → n.0 < size other → IsFullyMarked s (rename n) → IsFullyMarked new n
    marked_new n h f = record {
      member = is.forest.same n h ∙ f.member;
      leaves = λ side. child-held n side h ∙ f.leaves side;
      below = λ side. ap is_negative (child-marks n side h) ∙ f.below side;
    }

    marked_old : (n : Name) → n.0 < size other → IsFullyMarked new n → IsFullyMarked s (rename n)
    marked_old n h f = record {
      member = sym (is.forest.same n h) ∙ f.member;
      leaves = λ side. sym (child-held n side h) ∙ f.leaves side;
      below = λ side. ap is_negative (sym (child-marks n side h)) ∙ f.below side;
    }

    can_new : (k : Name) → k.0 < size other → CanCoarsen x s (rename k) → CanCoarsen y new k
    can_new k h c q p = let t = patch_to k q h p in marked_new q t.0 (c (rename q) t.1)

    can_old : (k : Name) → k.0 < size other → CanCoarsen y new k → CanCoarsen x s (rename k)
    can_old k h c q p = let b = patch_back k q h p in subst (IsFullyMarked s) b.3 (marked_old b.0 b.1 (c b.0 b.2))

    after : (k : Name) → k.0 < size other → MarksStandFor other rename (after_step y k new) (after_step x (rename k) s)
    after k h = record {
      forest = record {
        rooted = λ n held. is.forest.rooted n (was_there y new k n held).0;
        same = λ n hn. retained new.forest (λ q. not (in_patch y k q)) n ∙ (λ i. is.forest.same n hn i && not (patch-same k n h hn i)) ∙ sym (retained s.forest (λ q. not (in_patch x (rename k) q)) (rename n));
      };
      marks = λ n hn. (λ i. cond (patch-same k n h hn i) (joined_mark (child-marks n false hn i) (child-marks n true hn i)) (is.marks n hn i));
    }

    ended_new : HasEnded x s → HasEnded y new
    ended_new end k c = let member = (c k (inl refl)).member in end (rename k) (can_old k (is.forest.rooted k member) c)

  -- ---- steps
  abbrev Follows : List Name → MarkedForest → MarkedForest → Type 0
  Follows ps s new = (ks : List Name) × AreSteps y ks new × MarksStandFor other rename (after_steps y ks new) (after_steps x ps s)

  follow : (ps : List Name) (s new : MarkedForest) → IsConforming mesh x s → MarksStandFor other rename new s → AreSteps x ps s → Within members (after_steps x ps s).forest → Follows ps s new
  follow [] s new st is steps within = ([], tt, is)
  follow (p ∷ ps) s new st is steps within = ⊎_elim
      (λ (has : Has members p). absurd ((was_there x s p p (still x ps (after_step x p s) p (within p has))).1 (inl refl)))
      (λ (k : (k : Name) × (k.0 < size other) × (rename k ≡ p)). subst (λ (q : Name). CanCoarsen x s q → AreSteps x ps (after_step x q s) → Within members (after_steps x ps (after_step x q s)).forest → Follows (q ∷ ps) s new) k.2
      (λ c more w.
      let rest = follow ps (after_step x (rename k.0) s) (after_step y k.0 new) (steps_keep mesh x s st (rename k.0) c) (after s new is k.0 k.1) more w in
      (k.0 ∷ rest.0, (can_new s new is k.0 k.1 c, rest.1), rest.2))
      steps.0 steps.1 within)
      (r.all p (st.forest.rooted p (steps.0 p (inl refl)).member))

  stands : (s new : MarkedForest) (coarsened new_coarsened : Names) → IsConforming mesh x s → IsConforming other y new → MarksStandFor other rename new s → IsCoarsened x s coarsened → Within members coarsened → IsCoarsened y new new_coarsened → StandsFor other rename new_coarsened coarsened
  stands s new coarsened new_coarsened st new_st is end within new_end =
      let f = follow end.steps s new st is end.are_steps (subst (Within members) end.is within) in
      let last : IsCoarsened y new (after_steps y f.0 new).forest = record {
        steps = f.0;
        are_steps = f.1;
        ended = ended_new (after_steps x end.steps s) (after_steps y f.0 new) f.2 end.ended;
        is = refl;
      } in
      subst (λ (c : Names). StandsFor other rename new_coarsened c) (sym end.is)
      (subst (λ (c : Names). StandsFor other rename c (after_steps x end.steps s).forest) (steps_end_at_one other y new new_st (after_steps y f.0 new).forest new_coarsened last new_end) f.2.forest)

pub coarsened_stands_for : CoarsenedStandsFor
coarsened_stands_for mesh other x y members rename r s new_s coarsened new_coarsened st new_st is end within new_end = stands mesh other x y members rename r s new_s coarsened new_coarsened st new_st is end within new_end
