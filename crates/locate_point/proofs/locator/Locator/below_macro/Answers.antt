use Rattle.std.proofs.Common.{Bool, true, List, subst, sym}
use Rattle.locate_point.specs.Grids.{Entry, IsGrid}
use Rattle.locate_point.specs.Locators.{names_of}
use Rattle.locate_point.proofs.Tops.{top_none, top_way}
use Rattle.locate_point.proofs.locator.Locator.below_macro.Goals as goal

pub leaf_below-requires-clause-exact : goal.leaf_below-requires-clause-exact
leaf_below-requires-clause-exact c = c.requires.ready.tenths c.requires.exact

pub leaf_below-requires-clause-way : goal.leaf_below-requires-clause-way
leaf_below-requires-clause-way c =
    let mesh = c.args.self.now.mesh.now in
    let leaves = c.args.self.now.leaves.now in
    let kept = subst (λ (b : Bool). IsGrid mesh c.args.self.now.columns c.args.self.now.rows (names_of b mesh leaves) c.args.self.now.entries.items) c.requires.exact c.requires.ready.grid in
    let grid = subst (λ (es : List Entry). IsGrid mesh c.args.self.now.columns c.args.self.now.rows (names_of true mesh leaves) es) (sym c.deref.ensures.value) kept in
    top_way c.contains_by_children.ensures mesh (c.requires.ready.tenths c.requires.exact) leaves c.requires.ready.leaves_are c.args.point c.in-Some.top (c.in-Some.ensures _ grid)

pub returns-in-None : goal.returns-in-None
returns-in-None c =
    let mesh = c.args.self.now.mesh.now in
    let leaves = c.args.self.now.leaves.now in
    let kept = subst (λ (b : Bool). IsGrid mesh c.args.self.now.columns c.args.self.now.rows (names_of b mesh leaves) c.args.self.now.entries.items) c.requires.exact c.requires.ready.grid in
    let grid = subst (λ (es : List Entry). IsGrid mesh c.args.self.now.columns c.args.self.now.rows (names_of true mesh leaves) es) (sym c.deref.ensures.value) kept in
    top_none c.contains_by_children.ensures mesh (c.requires.ready.tenths c.requires.exact) leaves c.requires.ready.leaves_are c.args.point (c.in-None.ensures _ grid)
