-- Rounds that are done one after another.
use Rattle.std.proofs.Common.{◌≡◌, ℕ, suc, ◌+◌, ◌<◌, refl, sym, ap, ◌∙◌, subst, List, [], ◌∷◌, ◌++◌, take, drop, length, slice_index_or, Option, Some, None, true, false, true≢false, Bool, arith}
use Rattle.std.proofs.lemmas.List.{length-take}
use Rattle.mesh_names.specs.declared.patch.RoundDelta.{RoundDelta}
use Rattle.mesh_names.specs.declared.rows.RoundMarks.{RoundMarks}
use Rattle.forest_plain.specs.AnyForest.{IsDone, IsRefusal, Seen}
use Rattle.forest_plain.specs.Runs.{AreDone, StopsAt}
use Rattle.forest_plain.specs.declared.refusal.RoundRefusal.{RoundRefusal}
use Rattle.forest_plain.proofs.RowOrder.{next-take, split_at}

-- what is not limited is not used up
pub unlimited : ◌≡◌ {A = Option ℕ} None (Some 0) → ⊥
unlimited h = true≢false (ap has (sym h)) where
  has : Option ℕ → Bool
  has None = false
  has (Some n) = true

module _ {F : Type 0} (seen : F → Seen) (kept : F → ℕ) where
  -- a forest that looks the same is as good
  pub done-same : (rounds : List RoundMarks) (deltas : List RoundDelta) (old now new : F) → AreDone seen kept rounds deltas old now → seen new ≡ seen now → AreDone seen kept rounds deltas old new
  done-same [] [] old now new done same = same ∙ done
  done-same [] (delta ∷ deltas) old now new done same = absurd done
  done-same (round ∷ rounds) [] old now new done same = absurd done
  done-same (round ∷ rounds) (delta ∷ deltas) old now new done same = (done.0, done.1, done-same rounds deltas done.0 now new done.2 same)

  -- one round more
  done-push : (rounds : List RoundMarks) (deltas : List RoundDelta) (round : RoundMarks) (delta : RoundDelta) (old now new : F) →
      AreDone seen kept rounds deltas old now → IsDone (seen now) (kept new) round.rows.items (seen new) delta → AreDone seen kept (rounds ++ round ∷ []) (deltas ++ delta ∷ []) old new
  done-push [] [] round delta old now new done step = (new, subst (λ (s : Seen). IsDone s (kept new) round.rows.items (seen new) delta) done step, refl)
  done-push [] (d ∷ deltas) round delta old now new done step = absurd done
  done-push (r ∷ rounds) [] round delta old now new done step = absurd done
  done-push (r ∷ rounds) (d ∷ deltas) round delta old now new done step = (done.0, done.1, done-push rounds deltas round delta done.0 now new done.2 step)

  -- one round more of a list
  pub done-next : (rounds : List RoundMarks) (i : ℕ) (round d : RoundMarks) (deltas : List RoundDelta) (delta : RoundDelta) (old now new : F) → i < length rounds → round ≡ slice_index_or rounds i d →
      AreDone seen kept (take i rounds) deltas old now → IsDone (seen now) (kept new) round.rows.items (seen new) delta → AreDone seen kept (take (i + 1) rounds) (deltas ++ delta ∷ []) old new
  done-next rounds i round d deltas delta old now new low at done step =
      subst (λ (rs : List RoundMarks). AreDone seen kept rs (deltas ++ delta ∷ []) old new) (sym (next-take rounds i round d low at)) (done-push (take i rounds) deltas round delta old now new done step)

  -- a round that is refused after those before it
  pub stops : (rounds : List RoundMarks) (i index : ℕ) (round d : RoundMarks) (deltas : List RoundDelta) (old now new : F) (refusal : RoundRefusal) → i < length rounds → round ≡ slice_index_or rounds i d → index ≡ i →
      AreDone seen kept (take i rounds) deltas old now → seen new ≡ seen now → IsRefusal (seen now) (kept new) round.rows.items refusal → StopsAt seen kept rounds old new index refusal
  stops rounds i index round d deltas old now new refusal low at counted done same refused = record {
    before = take i rounds;
    round = round;
    after = drop (suc i) rounds;
    split = split_at rounds i round d low at;
    place = omega (arith, counted, length-take i rounds, low);
    deltas = deltas;
    done = done-same (take i rounds) deltas old now new done same;
    refused = subst (λ (s : Seen). IsRefusal s (kept new) round.rows.items refusal) (sym same) refused;
  }
