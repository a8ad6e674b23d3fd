use Rattle.std.proofs.Common.{refl, sym, ◌∙◌}
use Rattle.std.specs.FinSet.{from_list}
use Rattle.compat_check.specs.Meshes.{across_in, shape_of}
use Rattle.forest_plain.proofs.Worklist.{start, popped_low, step, finish}
use Rattle.forest_plain.proofs.closing.close.Goals as goal

pub loop-name-init : goal.loop-name-init
loop-name-init g c = record {
  work = start (shape_of c.args.mesh.now) (across_in c.args.mesh.now) c.element_count-count.ensures.tells (g.S.Growing.grown c.args.members.now) (from_list c.args.needed.items) c.requires.forest c.requires.partners c.requires.can c.args.needed.items refl;
  start = refl;
}

pub add-requires-clause-root : goal.add-requires-clause-root
add-requires-clause-root g c = (popped_low (shape_of c.args.mesh.now) (across_in c.args.mesh.now) c.element_count-count.ensures.tells (g.S.Growing.grown c.args.members.now) (from_list c.args.needed.items) c.requires.forest c.requires.partners c.requires.can
    (g.S.Growing.grown c.loop-name.members) c.loop-name.pending.items c.pop.new.self.items c.in-Some.name c.loop-name.invariant.work c.in-Some.ensures.items).0

pub add-requires-clause-level : goal.add-requires-clause-level
add-requires-clause-level g c = (popped_low (shape_of c.args.mesh.now) (across_in c.args.mesh.now) c.element_count-count.ensures.tells (g.S.Growing.grown c.args.members.now) (from_list c.args.needed.items) c.requires.forest c.requires.partners c.requires.can
    (g.S.Growing.grown c.loop-name.members) c.loop-name.pending.items c.pop.new.self.items c.in-Some.name c.loop-name.invariant.work c.in-Some.ensures.items).1

pub loop-name-smaller : goal.loop-name-smaller
loop-name-smaller g c = (step (shape_of c.args.mesh.now) (across_in c.args.mesh.now) c.element_count-count.ensures.tells (g.S.Growing.grown c.args.members.now) (from_list c.args.needed.items) c.requires.forest c.requires.partners c.requires.can
    (g.S.Growing.grown c.loop-name.members) c.loop-name.pending.items c.pop.new.self.items c.in-Some.name c.loop-name.invariant.work c.in-Some.ensures.items
    (g.S.Growing.grown c.add.new.members) c.add.new.pending.items c.in_ok-add.ensures.held c.in_ok-add.ensures.above).1

pub loop-name-preserved : goal.loop-name-preserved
loop-name-preserved g c = record {
  work = (step (shape_of c.args.mesh.now) (across_in c.args.mesh.now) c.element_count-count.ensures.tells (g.S.Growing.grown c.args.members.now) (from_list c.args.needed.items) c.requires.forest c.requires.partners c.requires.can
      (g.S.Growing.grown c.loop-name.members) c.loop-name.pending.items c.pop.new.self.items c.in-Some.name c.loop-name.invariant.work c.in-Some.ensures.items
      (g.S.Growing.grown c.add.new.members) c.add.new.pending.items c.in_ok-add.ensures.held c.in_ok-add.ensures.above).0;
  start = c.in_ok-add.ensures.start ∙ c.loop-name.invariant.start;
}

pub returns-clause-least : goal.returns-clause-least
returns-clause-least g c = finish (shape_of c.args.mesh.now) (across_in c.args.mesh.now) c.element_count-count.ensures.tells (g.S.Growing.grown c.args.members.now) (from_list c.args.needed.items) c.requires.forest c.requires.partners c.requires.can
    (g.S.Growing.grown c.loop-name.members) c.loop-name.pending.items c.pop.new.self.items c.loop-name.invariant.work c.in_default.ensures.items (sym c.pop.new.self.ok.0 ∙ c.in_default.ensures.cases.1)
