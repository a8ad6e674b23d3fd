use Rattle.std.proofs.Common.{◌≡◌, length, map, reverse, take}
use Rattle.mesh_names.specs.Spelling.{letter_text}
use Rattle.mesh_names.proofs.spelling.read_word.Given as goal

abbrev pub invariant-loop-letter : goal.invariant-loop-letter
invariant-loop-letter l = (l.name.0 ≡ l.fn.top.0) × (map letter_text l.name.1 ≡ reverse (take l.letter-index l.letters)) × (length l.name.1 ≡ l.letter-index)
