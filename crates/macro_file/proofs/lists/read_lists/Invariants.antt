use Rattle.std.proofs.Common.{◌≡◌, map, drop}
use Rattle.macro_file.specs.Meaning.{lists}
use Rattle.macro_file.specs.Places.{section_of, listed_of}
use Rattle.macro_file.proofs.StepLemmas.{onto}
use Rattle.macro_file.proofs.lists.read_lists.Given as goal

abbrev pub invariant-loop-section : goal.invariant-loop-section
invariant-loop-section l = lists l.counts (map section_of l.sections) ≡ onto (map listed_of l.lists.items) (lists l.counts (map section_of (drop l.section-index l.sections)))
