-- How a soak ends.
use Rattle.std.proofs.Common.{◌≡◌, ℕ, zero, suc, ◌+◌, ap, sym, ◌∙◌, subst, List, min, inl, inr, ⊎_elim, arith}
use Rattle.std.specs.Prelude.{Option, Some, None, Result, Ok, Err}
use Rattle.mesh_names.specs.Triangles.{level}
use Rattle.compat_check.specs.Meshes.{Mesh, shape_of}
use Rattle.mesh_rounds.specs.State.{IsMeshRound, State}
use Rattle.soak.specs.Rows.{Drawing, after, rows_for}
use Rattle.adapt_words.specs.Numbers.{Word}
use Rattle.adapt_words.specs.Rounds.{SoakWords}
use Rattle.adapt_words.specs.Words.{CommandWords, soak}
use Rattle.adapt_cli.specs.Ending.{AsksFor, Call, IsOutcomeOf, IsOutside, IsRefused, IsUnread, LosesLine, LosesText, WantsMemory, WritesLine, WritesText}
use Rattle.adapt_cli.specs.FaultTexts.{Fault}
use Rattle.adapt_cli.specs.Rounds.{whole}
use Rattle.adapt_cli.specs.SoakEnds.{FaultsAreFullPools, IsFullPool, IsSoakEnd, SoaksEnd}
use Rattle.adapt_cli.specs.Soaks.{DrawsTo, IsSoakOutcome, Overfills}

-- a fault of drawn rounds
drawn-full : (mesh : Mesh) (pool left number : ℕ) (drawing : Drawing) (old : State) (fault : Fault) → DrawsTo mesh pool left number drawing old (Err fault) → IsFullPool pool number left fault
drawn-full mesh pool zero number drawing old fault h = absurd (apart h)
  where
    apart : {A B : Type 0} {a : A} {b : B} → ◌≡◌ {A = Result A B} (Err b) (Ok a) → ⊥
    apart q = cc
drawn-full mesh pool (suc left) number drawing old fault h = ⊎_elim
    (λ (a : (new : State) × IsMeshRound mesh (whole pool) (rows_for (level (shape_of mesh)) drawing h.0) old new × DrawsTo mesh pool left (number + 1) (after (level (shape_of mesh)) drawing h.0) new (Err fault)).
    later (drawn-full mesh pool left (number + 1) (after (level (shape_of mesh)) drawing h.0) a.0 fault a.2))
    (λ (b : (f : Fault) × Overfills mesh pool old.members number (rows_for (level (shape_of mesh)) drawing h.0) f × (◌≡◌ {A = Result State Fault} (Err fault) (Err f))). record {
      round = number;
      needed = min b.1.patches 4294967295;
      from = omega arith;
      within = omega arith;
      told = inner b.2 ∙ b.1.told;
    })
    h.2
  where
    inner : {A B : Type 0} {a b : B} → ◌≡◌ {A = Result A B} (Err a) (Err b) → a ≡ b
    inner q = cc

    later : IsFullPool pool (number + 1) left fault → IsFullPool pool number (suc left) fault
    later full = let from = full.from in let within = full.within in record {
      round = full.round;
      needed = full.needed;
      from = omega (arith, from);
      within = omega (arith, within);
      told = full.told;
    }

pub faults_are_full_pools : FaultsAreFullPools
faults_are_full_pools s fault h = drawn-full h.0 s.pool s.rounds 1 (record { state = s.start; row = 1 }) h.2 fault h.4

pub soak-status : (s : SoakWords) (fault : Fault) → IsSoakOutcome s (Err fault) → fault.0 ≡ 5
soak-status s fault h = ap (λ (f : Fault). f.0) (faults_are_full_pools s fault h).told

module _ (call : Call) (s : SoakWords) (is : call.source.command ≡ Some (soak s)) where
  abbrev inside : Option CommandWords → CommandWords
  inside None = soak s
  inside (Some c) = c

  no-words : call.source.command ≡ None → ⊥
  no-words e = apart (sym is ∙ e)
    where
      apart : Some (soak s) ≡ None → ⊥
      apart q = cc

  no-file : (command : CommandWords) → call.source.command ≡ Some command → (name : Word) → AsksFor command call.source.files name → ⊥
  no-file command e name asks = subst (λ (c : CommandWords). AsksFor c call.source.files name) (ap inside (sym e ∙ is)) asks

  refused : (line : List ℕ) → IsRefused call.source call.status line → IsSoakOutcome s (Err (call.status, line))
  refused line h = subst (λ (c : CommandWords). IsOutcomeOf call.source.files c (Err (call.status, line))) (ap inside (sym h.outcome.is_command ∙ is)) h.outcome.outcome

  by-line : WritesLine call → IsSoakEnd s call
  by-line w = ⊎_elim (λ (h : WantsMemory call.source call.status w.line). inr (inl h.status_is))
      (⊎_elim (λ (h : IsOutside call.source call.status w.line). absurd (no-words h.outside))
      (⊎_elim
      (λ (h : IsRefused call.source call.status w.line). inr (inr (inl (record {
        status_is = soak-status s (call.status, w.line) (refused w.line h);
        line = w.line;
        full = faults_are_full_pools s (call.status, w.line) (refused w.line h);
        err_took = w.err_took;
      }))))
      (λ (h : IsUnread call.source call.status w.line). absurd (no-file h.is_next.0 h.is_next.1 h.name h.is_next.2))))
      w.tells

pub soaks_end : SoaksEnd
soaks_end call s is ends = ⊎_elim (λ (w : WritesText call). inl w.status_is)
    (⊎_elim (by-line call s is) (⊎_elim (λ (w : LosesText call). inr (inr (inr w.status_is))) (λ (w : LosesLine call). inr (inr (inr w.status_is)))))
    ends
