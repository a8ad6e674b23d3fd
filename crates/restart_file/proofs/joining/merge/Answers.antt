use mir.Val.{bool_byte}
use Rattle.std.proofs.Common.{◌≡◌, ◌+◌, ap, sym, List, subst, inl, inr, length, cond, Bool, ◌∙◌}
use Rattle.std.specs.Ordering.{is_gt}
use Rattle.mesh_names.specs.Names.{Name}
use Rattle.restart_file.specs.Merges.{IsMerge}
use Rattle.restart_file.proofs.Merging.{step, onward, ends, appended}
use Rattle.restart_file.proofs.joining.merge.Goals as goal
use Rattle.restart_file.proofs.joining.merge.Goals.{then-is_gt, else-is_gt, then-loop-i-test+else-j-second, else-loop-i-test}

pub loop-i-preserved : goal.loop-i-preserved
loop-i-preserved c =
    let i = c.loop-i.i in let j = c.loop-i.j in
    let k = i + bool_byte c.is_le.result in let l = j + bool_byte c.is_ge.result in
    let ek = ap (λ b. i + bool_byte b) c.is_le.ensures in let el = ap (λ b. j + bool_byte b) c.is_ge.ensures in
    let a = onward i j k l (length c.args.first.now) (length c.args.second.now) c.cmp-order.result c.loop-i-test.true c.if-j-second.true ek el in
    let least : c.if-is_gt.least ≡ cond (is_gt c.cmp-order.result) c.index-second-j.result c.index-first-i.result = elim c.if-is_gt.branch [
      | then-is_gt w ↦ w.least-is ∙ ap (λ (x : Bool). cond x c.index-second-j.result c.index-first-i.result) w.if-is_gt.ensures
      | else-is_gt w ↦ w.least-is ∙ ap (λ (x : Bool). cond x c.index-second-j.result c.index-first-i.result) w.if-is_gt.ensures
    ] in
    record {
      first_in = a.0;
      second_in = a.1;
      merged = step c.args.first.now c.args.second.now i j k l c.loop-i.both.items c.push.new.self.items c.index-first-i.result c.index-second-j.result c.if-is_gt.least c.loop-i.invariant.merged c.loop-i-test.true c.if-j-second.true
          c.index-first-i.is c.index-second-j.is c.cmp-order.result c.cmp-order.ensures least ek el c.in_ok-push.ensures.items;
    }

pub returns : goal.returns
returns c =
    let first = c.args.first.now in let second = c.args.second.now in
    let e = ends first second c.loop-i.i c.loop-i.j c.loop-i.both.items c.loop-i.invariant.merged (elim c.loop-i-test.branch [ then-loop-i-test+else-j-second w ↦ inr w.if-j-second.false | else-loop-i-test w ↦ inl w.loop-i-test.false ]) in
    subst (λ (x : List Name). IsMerge x first second) (sym (appended c.loop-i.both.items first second c.loop-i.i c.loop-i.j _ _ c.in_ok-extend_from_slice.ensures.items c.in_ok-extend_from_slice-2.ensures.items)) e
