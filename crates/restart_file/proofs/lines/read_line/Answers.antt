use Rattle.std.proofs.Common.{◌<◌, ◌≤◌, ◌+◌, refl, ap, arith, drop}
use Rattle.mesh_names.specs.Names.{Name}
use Rattle.mesh_names.specs.Triangles.{level}
use Rattle.compat_check.specs.Meshes.{shape_of}
use Rattle.restart_file.proofs.Walking.{some_root, next_root, after_root}
use Rattle.restart_file.proofs.Parsing.{reads, read_open, read_close, read_none, read_end, deep_or_bad}
use Rattle.restart_file.proofs.lines.read_line.Goals as goal

pub loop-at-init : goal.loop-at-init
loop-at-init c = record {
  within = c.requires.first;
  root = ap (λ (n : Name). n.0) c.top.ensures;
  reading = reads c.args.mesh.now c.args.root (drop c.args.first c.args.bytes.now) c.args.members.now.items c.top.result c.top.ensures;
}

pub returns-then-level-gt-LAST_LEVEL-clause-refused : goal.returns-then-level-gt-LAST_LEVEL-clause-refused
returns-then-level-gt-LAST_LEVEL-clause-refused c =
    let p = c.loop-at.place in let bs = c.args.bytes.now in
    let deep : 23 < level (shape_of c.args.mesh.now) c.in-Some.name = let a = c.if-level-gt-LAST_LEVEL.true in let b = c.level.ensures.level in omega arith in
    deep_or_bad c.args.mesh.now c.args.root (drop c.args.first bs) c.args.members.now.items c.loop-at.members.items c.loop-at.at (drop p bs) (drop (p + 1) bs) c.in-Some.name c.too_deep.result c.loop-at.invariant.reading c.in-Some.is
    (some_root c.loop-at.at c.in-Some.name c.args.root c.in-Some.is c.loop-at.invariant.root) c.if-is_at.ensures.next deep c.too_deep.ensures

pub loop-at-preserved-then-is_at : goal.loop-at-preserved-then-is_at
loop-at-preserved-then-is_at c =
    let p = c.loop-at.place in let bs = c.args.bytes.now in
    let low : level (shape_of c.args.mesh.now) c.in-Some.name ≤ 23 = let a = c.if-level-gt-LAST_LEVEL.false in let b = c.level.ensures.level in omega arith in
    record {
      within = omega (arith, c.if-is_at.ensures.within refl);
      root = next_root c.child_at.result c.in-Some.name c.args.root c.child_at.ensures (some_root c.loop-at.at c.in-Some.name c.args.root c.in-Some.is c.loop-at.invariant.root);
      reading = read_open c.args.mesh.now c.args.root (drop c.args.first bs) c.args.members.now.items c.loop-at.members.items c.loop-at.at (drop p bs) c.loop-at.invariant.reading c.in-Some.name c.in-Some.is (drop (p + 1) bs) c.if-is_at.ensures.next low
          c.add.new.members.items c.in_ok-add.ensures.ok c.child_at.result c.child_at.ensures;
    }

pub loop-at-preserved : goal.loop-at-preserved
loop-at-preserved c =
    let p = c.loop-at.place in let bs = c.args.bytes.now in
    record {
      within = omega (arith, c.if-is_at-2.ensures.within refl);
      root = after_root c.next_after-at.result c.in-Some.name c.args.root (some_root c.loop-at.at c.in-Some.name c.args.root c.in-Some.is c.loop-at.invariant.root) c.next_after-at.ensures.root;
      reading = read_close c.args.mesh.now c.args.root (drop c.args.first bs) c.args.members.now.items c.loop-at.members.items c.loop-at.at (drop p bs) c.loop-at.invariant.reading c.in-Some.name c.in-Some.is (drop (p + 1) bs) c.if-is_at-2.ensures.next
          c.next_after-at.result c.next_after-at.ensures.coming;
    }

pub returns-else-is_at-2-clause-refused : goal.returns-else-is_at-2-clause-refused
returns-else-is_at-2-clause-refused c =
    let p = c.loop-at.place in let bs = c.args.bytes.now in
    (refl, read_none c.args.mesh.now c.args.root (drop c.args.first bs) c.args.members.now.items c.loop-at.members.items c.loop-at.at (drop p bs) c.loop-at.invariant.reading c.in-Some.name c.in-Some.is c.if-is_at.ensures.next c.if-is_at-2.ensures.next)

pub returns-then-is_at-3-clause-ok : goal.returns-then-is_at-3-clause-ok
returns-then-is_at-3-clause-ok c =
    let p = c.loop-at.place in let bs = c.args.bytes.now in
    read_end c.args.mesh.now c.args.root (drop c.args.first bs) c.args.members.now.items c.loop-at.members.items c.loop-at.at (drop p bs) c.loop-at.invariant.reading c.in_default.is (drop (p + 1) bs) c.if-is_at-3.ensures.next
