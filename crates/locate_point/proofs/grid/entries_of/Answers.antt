use Rattle.std.proofs.lemmas.List.Sorted.{IsPermutation-sym}
use Rattle.locate_point.proofs.Filling.{reordered}
use Rattle.locate_point.proofs.grid.entries_of.Goals as goal

pub returns : goal.returns
returns c = record {
  sorted = c.sort_unstable.ensures.sorted;
  entries_are = reordered c.args.mesh.now c.args.columns c.args.rows c.args.names.now c.fill.new.entries.items c.sort_unstable.new.self.items c.sort_unstable.ensures.permutation (IsPermutation-sym c.fill.new.entries.items c.sort_unstable.new.self.items c.sort_unstable.ensures.permutation) c.in_ok-fill.ensures;
  rooted = c.requires;
}
