use Rattle.std.specs.Prelude.{◌≡◌, All, None, take}
use Rattle.shared_rounds.proofs.answers.any_failed.Given as goal

abbrev pub invariant-loop-pass : goal.invariant-loop-pass
invariant-loop-pass l = All (λ d. d.lists.failed ≡ None) (take l.pass-index l.joined)
