use Rattle.std.proofs.Common.{◌+◌, ◌≤◌, length}
use Rattle.macro_file.specs.Walks.{tokens_from}
use Rattle.macro_file.specs.Places.{section_of}
use Rattle.macro_file.proofs.ListLemmas.{Reads}
use Rattle.macro_file.proofs.lists.read_numbers.Given as goal

abbrev pub invariant-loop-found : goal.invariant-loop-found
invariant-loop-found l = record {
  reads : Reads (section_of l.section) l.found l.numbers.items (tokens_from l.here l.left);
  within : l.here + length l.left ≤ l.section.line + length l.section.body.now;
  short : l.found + length l.left ≤ length l.section.body.now;
}
