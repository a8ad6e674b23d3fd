-- Rounds that are made in order.
use Rattle.std.proofs.Common.{◌≡◌, ℕ, zero, suc, ◌+◌, ◌<◌, ◌≤◌, refl, sym, ap, ◌∙◌, subst, List, [], ◌∷◌, ◌++◌, drop, length, slice_index_or, inl, inr, arith, append_assoc}
use Rattle.std.specs.Prelude.{Option, Some, None, Result, Ok, Err, string_bytes}
use Rattle.std.specs.Result.{result_map_both}
use Rattle.mesh_names.specs.Triangles.{Shape}
use Rattle.mesh_names.specs.Partners.{Across}
use Rattle.mesh_names.specs.declared.rows.MarkRow.{MarkRow}
use Rattle.mesh_names.specs.declared.rows.RoundMarks.{RoundMarks}
use Rattle.compat_check.specs.Meshes.{Mesh, across_in, shape_of}
use Rattle.mark_file.specs.Meaning.{rounds_read}
use Rattle.forest_plain.specs.AnyForest.{IsRefusal, Seen, room_in}
use Rattle.forest_plain.specs.Rounds.{IsRoundRefusal}
use Rattle.forest_plain.specs.declared.refusal.RoundRefusal.{RoundRefusal}
use Rattle.forest_plain.specs.declared.refusal.RoundRefusal.TheVariants.{RoundsUsedUp, NotALeaf, LevelTooDeep, PoolFull, Memory as no_memory}
use Rattle.mesh_rounds.specs.State.{IsMeshRound, State}
use Rattle.adapt_cli.specs.FaultTexts.{Fault}
use Rattle.adapt_cli.specs.Reports.{IsReport, IsRoundText}
use Rattle.adapt_cli.specs.Rounds.{LeadTo, last_state, preceded, whole}
use Rattle.adapt_cli.specs.Stops.{IsReportedRun, IsRoundStop, IsRun, StopsBy}
use Rattle.adapt_cli.specs.declared.fault.Stop.{Stop}
use Rattle.adapt_cli.specs.declared.fault.Stop.TheVariants.{Refused, Memory}

-- these states before all others, where there is no fault
abbrev after : List State → Result (List State) Fault → Result (List State) Fault
after states end = result_map_both (λ (more : List State). states ++ more) (λ (fault : Fault). fault) end

after-none : (end : Result (List State) Fault) → after [] end ≡ end
after-none (Ok states) = refl
after-none (Err fault) = refl

append-one : (states : List State) (new : State) (more : List State) → (states ++ new ∷ []) ++ more ≡ states ++ new ∷ more
append-one [] new more = refl
append-one (s ∷ states) new more = ap (λ (l : List State). s ∷ l) (append-one states new more)

after-one : (states : List State) (new : State) (end : Result (List State) Fault) → after (states ++ new ∷ []) end ≡ after states (preceded new end)
after-one states new (Ok more) = ap Ok (append-one states new more)
after-one states new (Err fault) = refl

append-none : (states : List State) → states ++ [] ≡ states
append-none [] = refl
append-none (s ∷ states) = ap (λ (l : List State). s ∷ l) (append-none states)

last-one : (old : State) (states : List State) (new : State) → last_state old (states ++ new ∷ []) ≡ new
last-one old [] new = refl
last-one old (s ∷ states) new = last-one s states new

module _ (mesh : Mesh) (pool : ℕ) (rounds : List RoundMarks) (old : State) where
  -- what the rounds from the i-th on lead to from here, all of them lead to from the start, after the states before
  pub record SoFar (i : ℕ) (now : State) : Type 0 where
    pub states : List State
    pub leads : (end : Result (List State) Fault) → LeadTo mesh pool (rounds_read (drop i rounds)) now end → LeadTo mesh pool (rounds_read rounds) old (after states end)
    pub last : now ≡ last_state old states

  pub begins : SoFar 0 old
  begins = record { states = []; leads = λ end h. subst (LeadTo mesh pool (rounds_read rounds) old) (sym (after-none end)) h; last = refl }

next-drop : (xs : List RoundMarks) (i : ℕ) (x d : RoundMarks) → i < length xs → x ≡ slice_index_or xs i d → drop i xs ≡ x ∷ drop (suc i) xs
next-drop [] i x d low at = absurd (omega (arith, low))
next-drop (y ∷ xs) zero x d low at = λ j. sym at j ∷ xs
next-drop (y ∷ xs) (suc i) x d low at = next-drop xs i x d (omega (arith, low)) at

none_left : (xs : List RoundMarks) (i : ℕ) → length xs ≤ i → drop i xs ≡ []
none_left [] zero h = refl
none_left [] (suc i) h = refl
none_left (x ∷ xs) zero h = absurd (omega (arith, h))
none_left (x ∷ xs) (suc i) h = none_left xs i (omega (arith, h))

module _ (mesh : Mesh) (pool : ℕ) (rounds : List RoundMarks) (old : State) (i : ℕ) (now : State) (so_far : SoFar mesh pool rounds old i now) where
  -- one more round is made
  pub next_round : (next : State) (round d : RoundMarks) → i < length rounds → round ≡ slice_index_or rounds i d → IsMeshRound mesh (whole pool) round.rows.items now next → SoFar mesh pool rounds old (i + 1) next
  next_round next round d low at done = record {
    states = so_far.states ++ next ∷ [];
    leads = λ end h. subst (LeadTo mesh pool (rounds_read rounds) old) (sym (after-one so_far.states next end)) (so_far.leads (preceded next end) (subst (λ (xs : List RoundMarks). LeadTo mesh pool (rounds_read xs) now (preceded next end)) (sym (next-drop rounds i round d low at)) (inl (
      next,
      done,
      end,
      subst (λ (k : ℕ). LeadTo mesh pool (rounds_read (drop k rounds)) next end) one_more h,
      refl,
    ))));
    last = sym (last-one old so_far.states next);
  }
    where
      one_more : i + 1 ≡ suc i
      one_more = omega arith

  -- a round is refused
  pub stop_here : (round d : RoundMarks) (refusal : RoundRefusal) → i < length rounds → round ≡ slice_index_or rounds i d → IsRoundRefusal (shape_of mesh) (across_in mesh) (whole pool) now.members round.rows.items refusal → (stop : Stop) → IsRoundStop round.number refusal stop →
      StopsBy (LeadTo mesh pool (rounds_read rounds) old) stop
  stop_here round d refusal low at cause Memory told = tt
  stop_here round d refusal low at cause (Refused fault) told = so_far.leads (Err (fault.status, string_bytes fault.line)) (subst (λ (xs : List RoundMarks). LeadTo mesh pool (rounds_read xs) now (Err (fault.status, string_bytes fault.line))) (sym (next-drop rounds i round d low at)) (inr (
    (fault.status, string_bytes fault.line),
    record { refusal = refusal; cause = cause; told = told },
    refl,
  )))

  -- all rounds are made
  pub end_here : length rounds ≤ i → IsRun mesh pool (rounds_read rounds) old now
  end_here h = (
    so_far.states,
    subst (λ (l : List State). LeadTo mesh pool (rounds_read rounds) old (Ok l)) (append-none so_far.states) (so_far.leads (Ok []) (subst (λ (xs : List RoundMarks). LeadTo mesh pool (rounds_read xs) now (Ok [])) (sym (none_left rounds i h)) refl)),
    so_far.last,
  )

-- one more line of a report
pub report-more : (mesh : Mesh) (r : ℕ) (states : List State) (text : List ℕ) (s : State) (line : List ℕ) → IsReport mesh r states text → IsRoundText mesh (r + length states) s line → IsReport mesh r (states ++ s ∷ []) (text ++ line)
report-more mesh r [] text s line is told = (line, subst (λ (n : ℕ). IsRoundText mesh n s line) (none r) told, [], refl, ap (λ (t : List ℕ). t ++ line) is ∙ sym (append_none line))
  where
    none : (n : ℕ) → n + 0 ≡ n
    none n = omega arith

    append_none : (xs : List ℕ) → xs ++ [] ≡ xs
    append_none [] = refl
    append_none (x ∷ xs) = ap (λ (l : List ℕ). x ∷ l) (append_none xs)
report-more mesh r (u ∷ states) text s line is told = (
  is.0,
  is.1,
  is.2 ++ line,
  report-more mesh (r + 1) states is.2 s line is.3 (subst (λ (n : ℕ). IsRoundText mesh n s line) (shift r (length states)) told),
  ap (λ (t : List ℕ). t ++ line) is.4 ∙ append_assoc is.0 is.2 line,
)
  where
    shift : (n m : ℕ) → n + suc m ≡ (n + 1) + m
    shift n m = omega arith

length-one : (states : List State) (s : State) → length (states ++ s ∷ []) ≡ suc (length states)
length-one [] s = refl
length-one (u ∷ states) s = ap suc (length-one states s)

-- so many rounds were made, of which this is the report
pub record Reported (mesh : Mesh) (pool : ℕ) (rounds : List RoundMarks) (old : State) (i : ℕ) (now : State) (text : List ℕ) : Type 0 where
  pub so_far : SoFar mesh pool rounds old i now
  pub report : IsReport mesh 1 so_far.states text
  pub count : length so_far.states ≡ i

pub none-reported : (mesh : Mesh) (pool : ℕ) (rounds : List RoundMarks) (old : State) (text : List ℕ) → text ≡ [] → Reported mesh pool rounds old 0 old text
unfolding begins
none-reported mesh pool rounds old text is = record { so_far = begins mesh pool rounds old; report = is; count = refl }

pub next-reported : (mesh : Mesh) (pool : ℕ) (rounds : List RoundMarks) (old : State) (i : ℕ) (now : State) (text : List ℕ) → Reported mesh pool rounds old i now text → (next : State) (round d : RoundMarks) → i < length rounds → round ≡ slice_index_or rounds i d → IsMeshRound mesh (whole pool) round.rows.items now next →
    (number : ℕ) → number ≡ i + 1 → (line after : List ℕ) → IsRoundText mesh number next line → after ≡ text ++ line → Reported mesh pool rounds old (i + 1) next after
unfolding next_round
next-reported mesh pool rounds old i now text reported next round d low at done number numbered line after told grown = record {
  so_far = next_round mesh pool rounds old i now reported.so_far next round d low at done;
  report = subst (IsReport mesh 1 (reported.so_far.states ++ next ∷ [])) (sym grown) (report-more mesh 1 reported.so_far.states text next line reported.report (subst (λ (n : ℕ). IsRoundText mesh n next line) (omega (arith, numbered, reported.count)) told));
  count = length-one reported.so_far.states next ∙ (omega (arith, reported.count));
}

pub report-ends : (mesh : Mesh) (pool : ℕ) (rounds : List RoundMarks) (old : State) (i : ℕ) (now : State) (text : List ℕ) → Reported mesh pool rounds old i now text → length rounds ≤ i → IsReportedRun mesh pool (rounds_read rounds) old text
unfolding end_here
report-ends mesh pool rounds old i now text reported h = let ran = end_here mesh pool rounds old i now reported.so_far h in (ran.0, ran.1, reported.report)

-- a refusal of a forest whose rounds are not limited and which keeps nothing back
pub refused-as : (mesh : Mesh) (seen : Seen) (pool : ℕ) (rows : List MarkRow) (refusal : RoundRefusal) → seen.mesh ≡ shape_of mesh → seen.sides ≡ across_in mesh → seen.pool ≡ pool → seen.left ≡ None → IsRefusal seen 0 rows refusal → IsRoundRefusal (shape_of mesh) (across_in mesh) (whole pool) seen.members rows refusal
refused-as mesh seen pool rows refusal same sides room left h = moved refusal (here refusal h) where
  moved : (r : RoundRefusal) → IsRoundRefusal seen.mesh seen.sides (room_in seen 0) seen.members rows r → IsRoundRefusal (shape_of mesh) (across_in mesh) (whole pool) seen.members rows r
  moved r = subst (λ (y : Shape × Across × ℕ). IsRoundRefusal y.0 y.1 (whole y.2) seen.members rows r) (λ i. (same i, sides i, room i))

  not_used : seen.left ≡ Some 0 → ⊥
  not_used e = apart (sym left ∙ e) where
    apart : ◌≡◌ {A = Option ℕ} None (Some 0) → ⊥
    apart q = cc

  here : (r : RoundRefusal) → IsRefusal seen 0 rows r → IsRoundRefusal seen.mesh seen.sides (room_in seen 0) seen.members rows r
  here (RoundsUsedUp rounds) g = absurd (not_used g.0)
  here (NotALeaf row) g = g.1
  here (LevelTooDeep row deep) g = g.1
  here (PoolFull needed back room_now) g = g.1
  here no_memory g = tt
