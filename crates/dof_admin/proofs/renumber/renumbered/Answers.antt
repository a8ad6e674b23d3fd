use Rattle.std.proofs.Common.{◌+◌, ◌<◌, ℕ, Bool, false, length, ap, sym, ◌∙◌, arith}
use Rattle.std.specs.Prelude.{Vec}
use Rattle.std.specs.declared.alloc.Global.{Global}
use Rattle.std.proofs.lemmas.List.Sums.{count_by_more_yes, count_by_more_no}
use Rattle.dof_admin.proofs.Renumbering.{renumbered-used, renumbered-hole}
use Rattle.dof_admin.proofs.renumber.renumbered.Goals as goal
use Rattle.dof_admin.proofs.renumber.renumbered.Goals.{then-flag+in_ok-push, else-flag+in_ok-push-2}

pub loop-flag-preserved : goal.loop-flag-preserved
loop-flag-preserved c =
    let within : c.loop-flag.flag-index < length c.args.flags.now = omega arith in
    elim c.if-flag.branch [
      | then-flag+in_ok-push w ↦ record {
        used = w.used-is ∙ ap (λ (n : ℕ). n + 1) c.loop-flag.invariant.used ∙ sym (count_by_more_yes (λ (u : Bool). u) c.args.flags.now c.loop-flag.flag-index false within w.if-flag.true);
        moved = renumbered-used c.args.flags.now c.loop-flag.flag-index c.loop-flag.used c.loop-flag.moved.items c.if-flag.moved.items within w.if-flag.true c.loop-flag.invariant.used c.loop-flag.invariant.moved (ap (λ (v : Vec ℕ Global). v.items) w.moved-is ∙ w.in_ok-push.ensures.items);
      }
      | else-flag+in_ok-push-2 w ↦ record {
        used = w.used-is ∙ c.loop-flag.invariant.used ∙ sym (count_by_more_no (λ (u : Bool). u) c.args.flags.now c.loop-flag.flag-index false within w.if-flag.false);
        moved = renumbered-hole c.args.flags.now c.loop-flag.flag-index c.loop-flag.moved.items c.if-flag.moved.items within w.if-flag.false c.loop-flag.invariant.moved (ap (λ (v : Vec ℕ Global). v.items) w.moved-is ∙ w.in_ok-push-2.ensures.items);
      }
    ]
