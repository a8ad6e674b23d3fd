use Rattle.std.proofs.Common.{◌<◌, ◌+◌, ◌++◌, refl, ap, subst, arith, length, drop}
use Rattle.mesh_names.specs.Names.{Name, depth}
use Rattle.restart_file.specs.Trees.{word}
use Rattle.restart_file.proofs.Walking.{begun, opened, closed, item_is, some_root, next_root, after_root}
use Rattle.restart_file.proofs.writing.put_line.Goals as goal

pub loop-at-init : goal.loop-at-init
loop-at-init c = record {
  within = c.requires.first;
  root = ap (λ (n : Name). n.0) c.top.ensures;
  stands = λ t later e past. begun c.top.result c.args.root t (drop c.args.first c.args.members.now) later c.args.to.now.items c.top.ensures e;
}

pub child_at-requires : goal.child_at-requires
child_at-requires c =
    let inside : c.loop-at.next < length c.args.members.now = c.if-is_next.ensures.within refl in
    subst (λ (n : Name). depth n < 24) (item_is c.args.members.now (drop (c.loop-at.next + 1) c.args.members.now) c.loop-at.next c.in-Some.name c.in-Some.name inside c.if-is_next.ensures.next) (c.requires.low c.loop-at.next c.in-Some.name inside)

pub loop-at-preserved-then-is_next : goal.loop-at-preserved-then-is_next
loop-at-preserved-then-is_next c =
    let inside : c.loop-at.next < length c.args.members.now = c.if-is_next.ensures.within refl in
    let root = some_root c.loop-at.at c.in-Some.name c.args.root c.in-Some.is c.loop-at.invariant.root in
    record {
      within = omega arith;
      root = next_root c.child_at.result c.in-Some.name c.args.root c.child_at.ensures root;
      stands = λ t later e past. opened c.loop-at.at c.in-Some.name c.child_at.result c.args.root (drop c.loop-at.next c.args.members.now) (drop (c.loop-at.next + 1) c.args.members.now) later c.loop-at.to.items c.push.new.self.items (c.args.to.now.items ++ word t)
          c.in-Some.is root past (c.loop-at.invariant.stands t later e past) c.if-is_next.ensures.next c.child_at.ensures c.in_ok-push.ensures.items;
    }

pub loop-at-preserved : goal.loop-at-preserved
loop-at-preserved c =
    let root = some_root c.loop-at.at c.in-Some.name c.args.root c.in-Some.is c.loop-at.invariant.root in
    record {
      within = c.loop-at.invariant.within;
      root = after_root c.next_after-at.result c.in-Some.name c.args.root root c.next_after-at.ensures.root;
      stands = λ t later e past. closed c.loop-at.at c.next_after-at.result c.in-Some.name (drop c.loop-at.next c.args.members.now) later c.loop-at.to.items c.push-else-is_next.new.self.items (c.args.to.now.items ++ word t)
          c.in-Some.is (c.loop-at.invariant.stands t later e past) c.if-is_next.ensures.next c.next_after-at.ensures.coming c.in_ok-push-2.ensures.items;
    }
