use Rattle.std.proofs.Common.{◌≡◌, length}
use Rattle.macro_file.specs.Keywords.{same_words}
use Rattle.macro_file.proofs.words.same_words.Given as goal

abbrev pub invariant-loop-word : goal.invariant-loop-word
invariant-loop-word l = same_words l.left l.right ≡ same_words l.text l.other

abbrev pub decreases-loop-word : goal.decreases-loop-word
decreases-loop-word l = length l.left
