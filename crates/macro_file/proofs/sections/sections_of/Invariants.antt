use Rattle.std.proofs.Common.{◌≡◌, ◌+◌, ◌≤◌, length, map, IfSome}
use Rattle.macro_file.specs.Sections.{sections, add_blocks}
use Rattle.macro_file.specs.Walks.{blocks_of}
use Rattle.macro_file.specs.Places.{section_of}
use Rattle.macro_file.proofs.SectionLemmas.{left}
use Rattle.macro_file.proofs.sections.sections_of.Given as goal

abbrev pub invariant-loop-next : goal.invariant-loop-next
invariant-loop-next l = record {
  same : sections l.bytes ≡ add_blocks (map section_of l.sections.items) (blocks_of l.next);
  within : IfSome l.next (λ k. k.line + length k.after.now ≤ 1 + length l.bytes);
}

abbrev pub decreases-loop-next : goal.decreases-loop-next
decreases-loop-next l = left l.next
