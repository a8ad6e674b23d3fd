use Rattle.std.proofs.Common.{◌≡◌, ◌<◌, ◌≤◌, arith, List, length}
use Rattle.mesh_names.specs.Triangles.{size}
use Rattle.compat_check.specs.Meshes.{shape_of}
use Rattle.restart_file.specs.Trees.{Tree}
use Rattle.restart_file.specs.Files.{file_of}
use Rattle.restart_file.proofs.TreeMembers.{has_trees}
use Rattle.restart_file.proofs.Elements.{left_more, written_more, whole, few_letters}
use Rattle.restart_file.proofs.writing.put_restart.Goals as goal

pub put_line-requires-clause-low : goal.put_line-requires-clause-low
put_line-requires-clause-low c = few_letters (shape_of c.args.mesh.now) c.args.members.now c.requires.members

pub loop-root-preserved : goal.loop-root-preserved
loop-root-preserved c =
    let members = c.args.members.now in let r = c.loop-root.root in
    let inside : (ts : List Tree) → length ts ≡ size (shape_of c.args.mesh.now) → r < length ts = λ ts l. let t = c.loop-root-test.true in let k = c.element_count-root-end.ensures.count in omega arith in
    record {
      within = c.in_ok-next.ensures.within;
      left = λ ts l m. left_more ts r (inside ts l) members c.loop-root.next c.in_ok-next.next c.loop-root.to.items c.put_line.new.to.items (file_of c.args.macro_bytes.now ts) c.in_ok-next.ensures.done (c.loop-root.invariant.left ts l m) (c.loop-root.invariant.written ts l m);
      written = λ ts l m. written_more ts r (inside ts l) members c.loop-root.next c.in_ok-next.next c.loop-root.to.items c.put_line.new.to.items (file_of c.args.macro_bytes.now ts) c.in_ok-next.ensures.done (c.loop-root.invariant.left ts l m) (c.loop-root.invariant.written ts l m);
    }

pub returns-clause-ok : goal.returns-clause-ok
returns-clause-ok c =
    let h = has_trees (shape_of c.args.mesh.now) c.args.members.now c.requires.members in
    let over : length h.trees ≤ c.loop-root.root = let t = c.loop-root-test.false in let k = c.element_count-root-end.ensures.count in let e = h.each in omega arith in
    record {
      is_part = c.requires.part;
      trees = h.trees;
      each = h.each;
      bytes_are = whole h.trees c.loop-root.root c.loop-root.to.items (file_of c.args.macro_bytes.now h.trees) over (c.loop-root.invariant.written h.trees h.each h.members_are);
      members_are = h.members_are;
      kept = c.requires.members;
    }
