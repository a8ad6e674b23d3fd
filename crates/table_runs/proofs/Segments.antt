-- Runs that go on from others.
use Rattle.std.proofs.Common.{◌≡◌, List, [], ◌∷◌, ◌++◌, sym, subst, inl, inr}
use Rattle.table_words.specs.Setup.{Setup}
use Rattle.table_words.specs.Words.{Words}
use Rattle.table_steps.specs.States.{State}
use Rattle.table_steps.specs.Steps.{Run}
use Rattle.table_runs.specs.SquareKinds.{last_of}
use Rattle.table_runs.specs.SquareRun.{Along}

pub run_append : (s : Setup) (a : State) (xs ys : List State) → Run s a xs → Run s (last_of a xs) ys → Run s a (xs ++ ys)
run_append s a [] ys r q = q
run_append s a (b ∷ xs) ys (step, r) q = (step, run_append s b xs ys r q)

-- the last of the words
abbrev pub last_word : Words → List Words → Words
last_word u [] = u
last_word u (w ∷ ws) = last_word w ws

no_words : (u : Words) (us : List Words) → u ∷ us ≡ [] → ⊥
no_words u us e = cc

-- the second run's states begin with the first one's last words
pub along_on : (a : State) (xs ys : List State) (d : Words) (ws vs : List Words) → Along (a ∷ xs) ws → Along ys (last_word d ws ∷ vs) → Along (a ∷ xs ++ ys) (ws ++ vs)
along_on a xs ys d [] vs h q = absurd h
along_on a [] ys d (w ∷ ws) vs (e, inl h) q = subst (λ (us : List Words). Along ys (last_word w us ∷ vs) → Along (a ∷ ys) (w ∷ us ++ vs)) (sym h) (λ k. (e, inr k)) q
along_on a [] ys d (w ∷ ws) vs (e, inr h) q = absurd (no_words w ws h)
along_on a (b ∷ xs) ys d (w ∷ ws) vs (e, inl h) q = (e, inl (along_on b xs ys w ws vs h q))
along_on a (b ∷ xs) ys d (w ∷ ws) vs (e, inr h) q = (e, inr (along_on b xs ys d (w ∷ ws) vs h q))
