use Rattle.std.proofs.Common.{rules, ◌≡◌, ◌++◌, ◌∷◌, [], ◌+◌}
use Rattle.locate_point.proofs.Filling.{adds_more, adds_one, column_more}
use Rattle.locate_point.proofs.grid.push_row.Goals as goal

pub loop-column-preserved : goal.loop-column-preserved
loop-column-preserved c =
    let pushed : c.push.new.self.items ≡ c.loop-column.entries.items ++ (c.args.start + c.loop-column.column, c.args.name) ∷ [] = search rules in
    record {
      only = adds_more c.args.name c.args.entries.now.items c.loop-column.entries.items c.push.new.self.items c.loop-column.invariant.only (adds_one c.args.name c.loop-column.entries.items c.push.new.self.items (c.args.start + c.loop-column.column) pushed);
      added = column_more c.args.name c.args.start c.args.from c.loop-column.column c.loop-column.entries.items c.push.new.self.items pushed c.loop-column.invariant.added;
    }
