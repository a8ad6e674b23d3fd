-- A round has one answer, but for want of memory.
use Rattle.std.proofs.Common.{◌≡◌, ℕ, suc, ◌+◌, min, refl, sym, ap, ◌∙◌, subst, List, [], ◌∷◌, ◌++◌, slice_index_or, inl, inr, arith}
use Rattle.std.specs.Prelude.{All}
use Rattle.mesh_names.specs.Triangles.{Shape}
use Rattle.mesh_names.specs.Partners.{Across}
use Rattle.mesh_names.specs.Forests.{Names}
use Rattle.mesh_names.specs.LeastForest.{IsLeast}
use Rattle.mesh_names.specs.Marks.{bisections}
use Rattle.mesh_names.specs.Patches.{patch_count}
use Rattle.mesh_names.specs.declared.rows.MarkRow.{MarkRow}
use Rattle.mesh_names.proofs.Closing.{least-same}
use Rattle.mesh_names.proofs.Sets.{within-both}
use Rattle.forest_plain.specs.AnyForest.{DoneOrRefused, OneRefusal}
use Rattle.forest_plain.specs.Rounds.{IsDeepest, IsFine, IsFirstFault, IsRefined, IsRowFault}
use Rattle.forest_plain.specs.declared.refusal.RoundRefusal.{RoundRefusal}
use Rattle.forest_plain.specs.declared.refusal.RoundRefusal.TheVariants.{RoundsUsedUp, NotALeaf, LevelTooDeep, PoolFull, Memory}

abbrev rest : List MarkRow → List MarkRow
rest [] = []
rest (row ∷ rows) = rows

module _ (mesh : Shape) (old : Names) where
  -- two greatest levels are one
  deepest-same : (row : MarkRow) (a b : ℕ) → IsDeepest mesh old row a → IsDeepest mesh old row b → a ≡ b
  deepest-same row a b ha hb =
      let low = hb.greatest ha.leaf ha.is_leaf ha.is_named in
      let high = ha.greatest hb.leaf hb.is_leaf hb.is_named in
      let reached = ha.reached in
      let reached' = hb.reached in
      omega (arith, low, high, reached, reached')

  -- a row that can be done has no fault
  fine-or-fault : (row : MarkRow) (r : RoundRefusal) → IsFine mesh old row → IsRowFault mesh old row r → ⊥
  fine-or-fault row (RoundsUsedUp rounds) fine fault = fault
  fine-or-fault row (NotALeaf n) fine fault = fault.1 fine.leaf_named
  fine-or-fault row (LevelTooDeep n deep) fine fault =
      let deepest = fault.2.is_deepest in
      let within = fine.within fault.2.mark fault.2.positive deepest.leaf deepest.is_leaf deepest.is_named in
      let reached = deepest.reached in
      let sum = fault.2.sum in
      let above = fault.2.above in
      omega (arith, within, reached, sum, above)
  fine-or-fault row (PoolFull needed kept pool) fine fault = fault
  fine-or-fault row Memory fine fault = fault

  -- a row has one fault at the most
  fault-same : (row : MarkRow) (r s : RoundRefusal) → IsRowFault mesh old row r → IsRowFault mesh old row s → r ≡ s
  fault-same row (RoundsUsedUp rounds) s hr hs = absurd hr
  fault-same row (PoolFull needed kept pool) s hr hs = absurd hr
  fault-same row Memory s hr hs = absurd hr
  fault-same row (NotALeaf n) (RoundsUsedUp rounds) hr hs = absurd hs
  fault-same row (NotALeaf n) (NotALeaf m) hr hs = λ i. NotALeaf ((hr.0 ∙ sym hs.0) i)
  fault-same row (NotALeaf n) (LevelTooDeep m deep) hr hs = absurd (hr.1 hs.1)
  fault-same row (NotALeaf n) (PoolFull needed kept pool) hr hs = absurd hs
  fault-same row (NotALeaf n) Memory hr hs = absurd hs
  fault-same row (LevelTooDeep n deep) (RoundsUsedUp rounds) hr hs = absurd hs
  fault-same row (LevelTooDeep n deep) (NotALeaf m) hr hs = absurd (hs.1 hr.1)
  fault-same row (LevelTooDeep n deep) (LevelTooDeep m deep') hr hs =
      let deepest = deepest-same row hr.2.deepest hs.2.deepest hr.2.is_deepest hs.2.is_deepest in
      let same : deep ≡ deep' = hr.2.sum ∙ ap (λ d. d + bisections row.number) deepest ∙ sym hs.2.sum in
      λ i. LevelTooDeep ((hr.0 ∙ sym hs.0) i) (same i)
  fault-same row (LevelTooDeep n deep) (PoolFull needed kept pool) hr hs = absurd hs
  fault-same row (LevelTooDeep n deep) Memory hr hs = absurd hs

  -- the first fault of a list is one
  first-same : (before before' : List MarkRow) (row row' : MarkRow) (after after' : List MarkRow) (r s : RoundRefusal) → before ++ row ∷ after ≡ before' ++ row' ∷ after' →
      All (IsFine mesh old) before → All (IsFine mesh old) before' → IsRowFault mesh old row r → IsRowFault mesh old row' s → r ≡ s
  first-same [] [] row row' after after' r s e fine fine' hr hs =
      let same : row ≡ row' = ap (λ (l : List MarkRow). slice_index_or l 0 row) e in
      fault-same row r s hr (subst (λ (x : MarkRow). IsRowFault mesh old x s) (sym same) hs)
  first-same [] (x ∷ before') row row' after after' r s e fine fine' hr hs =
      let same : row ≡ x = ap (λ (l : List MarkRow). slice_index_or l 0 row) e in
      absurd (fine-or-fault row r (subst (IsFine mesh old) (sym same) (fine' 0 row (omega arith))) hr)
  first-same (x ∷ before) [] row row' after after' r s e fine fine' hr hs =
      let same : x ≡ row' = ap (λ (l : List MarkRow). slice_index_or l 0 row) e in
      absurd (fine-or-fault row' s (subst (IsFine mesh old) same (fine 0 row (omega arith))) hs)
  first-same (x ∷ before) (y ∷ before') row row' after after' r s e fine fine' hr hs =
      first-same before before' row row' after after' r s (ap rest e) (λ k d l. fine (suc k) d (omega (arith, l))) (λ k d l. fine' (suc k) d (omega (arith, l))) hr hs

  pub first_is_one : (rows : List MarkRow) (r s : RoundRefusal) → IsFirstFault mesh old rows r → IsFirstFault mesh old rows s → r ≡ s
  first_is_one rows r s hr hs = first-same hr.before hs.before hr.row hs.row hr.after hs.after r s (sym hr.split ∙ hs.split) hr.fine hs.fine hr.fault hs.fault

  -- rows that can all be done have no first fault
  fine-or-first : (before : List MarkRow) (row : MarkRow) (after : List MarkRow) (r : RoundRefusal) → All (IsFine mesh old) (before ++ row ∷ after) → IsRowFault mesh old row r → ⊥
  fine-or-first [] row after r fine fault = fine-or-fault row r (fine 0 row (omega arith)) fault
  fine-or-first (x ∷ before) row after r fine fault = fine-or-first before row after r (λ k d l. fine (suc k) d (omega (arith, l))) fault

  pub fine-or-refused : (rows : List MarkRow) (r : RoundRefusal) → All (IsFine mesh old) rows → IsFirstFault mesh old rows r → ⊥
  fine-or-refused rows r fine first = fine-or-first first.before first.row first.after r (subst (All (IsFine mesh old)) first.split fine) first.fault

  -- the refined forest is one
  refined-same : (rows : List MarkRow) (a b : Names) → IsRefined mesh old rows a → IsRefined mesh old rows b → a ≡ b
  refined-same rows a b ha hb =
      let needs : hb.needs ≡ ha.needs = within-both hb.needs ha.needs (λ n h. ha.are_needs.all n (hb.are_needs.needed n h)) (λ n h. hb.are_needs.all n (ha.are_needs.needed n h)) in
      least-same mesh old ha.needs a b ha.least (subst (λ (n : Names). IsLeast mesh old n b) needs hb.least)

  pub count-same : (across : Across) (rows : List MarkRow) (a b : Names) → IsRefined mesh old rows a → IsRefined mesh old rows b → patch_count across a ≡ patch_count across b
  count-same across rows a b ha hb = ap (patch_count across) (refined-same rows a b ha hb)

pub done_or_refused : DoneOrRefused
done_or_refused old new kept rows delta (RoundsUsedUp rounds) done refused = absurd (done.left refused.0)
done_or_refused old new kept rows delta (NotALeaf row) done refused = absurd (fine-or-refused old.mesh old.members rows (NotALeaf row) done.round.round.fine refused.1)
done_or_refused old new kept rows delta (LevelTooDeep row deep) done refused = absurd (fine-or-refused old.mesh old.members rows (LevelTooDeep row deep) done.round.round.fine refused.1)
done_or_refused old new kept rows delta (PoolFull needed back pool) done refused =
    let patches = refused.1.1 in
    let same = count-same old.mesh old.members old.sides rows patches.refined done.round.round.refined patches.is_refined done.round.round.is_refined in
    let count = patches.count in
    let above = refused.1.2 in
    let fits = done.round.round.fits in
    absurd (omega (arith, same, count, above, fits))
done_or_refused old new kept rows delta Memory done refused = refl

pub one_refusal : OneRefusal
one_refusal forest kept rows Memory s hr hs = inl refl
one_refusal forest kept rows (RoundsUsedUp a) (RoundsUsedUp b) hr hs = inr (inr (λ i. RoundsUsedUp ((hr.1 ∙ sym hs.1) i)))
one_refusal forest kept rows (RoundsUsedUp a) (NotALeaf row) hr hs = absurd (hs.0 hr.0)
one_refusal forest kept rows (RoundsUsedUp a) (LevelTooDeep row deep) hr hs = absurd (hs.0 hr.0)
one_refusal forest kept rows (RoundsUsedUp a) (PoolFull needed back pool) hr hs = absurd (hs.0 hr.0)
one_refusal forest kept rows (RoundsUsedUp a) Memory hr hs = inr (inl refl)
one_refusal forest kept rows (NotALeaf row) (RoundsUsedUp b) hr hs = absurd (hr.0 hs.0)
one_refusal forest kept rows (NotALeaf row) (NotALeaf m) hr hs = inr (inr (first_is_one forest.mesh forest.members rows (NotALeaf row) (NotALeaf m) hr.1 hs.1))
one_refusal forest kept rows (NotALeaf row) (LevelTooDeep m deep) hr hs = inr (inr (first_is_one forest.mesh forest.members rows (NotALeaf row) (LevelTooDeep m deep) hr.1 hs.1))
one_refusal forest kept rows (NotALeaf row) (PoolFull needed back pool) hr hs = absurd (fine-or-refused forest.mesh forest.members rows (NotALeaf row) hs.1.1.fine hr.1)
one_refusal forest kept rows (NotALeaf row) Memory hr hs = inr (inl refl)
one_refusal forest kept rows (LevelTooDeep row deep) (RoundsUsedUp b) hr hs = absurd (hr.0 hs.0)
one_refusal forest kept rows (LevelTooDeep row deep) (NotALeaf m) hr hs = inr (inr (first_is_one forest.mesh forest.members rows (LevelTooDeep row deep) (NotALeaf m) hr.1 hs.1))
one_refusal forest kept rows (LevelTooDeep row deep) (LevelTooDeep m deep') hr hs = inr (inr (first_is_one forest.mesh forest.members rows (LevelTooDeep row deep) (LevelTooDeep m deep') hr.1 hs.1))
one_refusal forest kept rows (LevelTooDeep row deep) (PoolFull needed back pool) hr hs = absurd (fine-or-refused forest.mesh forest.members rows (LevelTooDeep row deep) hs.1.1.fine hr.1)
one_refusal forest kept rows (LevelTooDeep row deep) Memory hr hs = inr (inl refl)
one_refusal forest kept rows (PoolFull needed back pool) (RoundsUsedUp b) hr hs = absurd (hr.0 hs.0)
one_refusal forest kept rows (PoolFull needed back pool) (NotALeaf m) hr hs = absurd (fine-or-refused forest.mesh forest.members rows (NotALeaf m) hr.1.1.fine hs.1)
one_refusal forest kept rows (PoolFull needed back pool) (LevelTooDeep m deep) hr hs = absurd (fine-or-refused forest.mesh forest.members rows (LevelTooDeep m deep) hr.1.1.fine hs.1)
one_refusal forest kept rows (PoolFull needed back pool) (PoolFull needed' back' pool') hr hs =
    let same : hr.1.0 ≡ hs.1.0 = hr.1.1.count ∙ count-same forest.mesh forest.members forest.sides rows hr.1.1.refined hs.1.1.refined hr.1.1.is_refined hs.1.1.is_refined ∙ sym hs.1.1.count in
    let needed_same : needed ≡ needed' = hr.1.3 ∙ ap (λ n. min n 4294967295) same ∙ sym hs.1.3 in
    inr (inr (λ i. PoolFull (needed_same i) ((hr.1.4 ∙ sym hs.1.4) i) ((hr.1.5 ∙ sym hs.1.5) i)))
one_refusal forest kept rows (PoolFull needed back pool) Memory hr hs = inr (inl refl)
