use Rattle.std.proofs.Common.{[], refl, arith, sym, ap, ◌∙◌}
use Rattle.std.proofs.Math.Seq.{drop-length}
use Rattle.mesh_names.specs.Spelling.{letter_text}
use Rattle.mesh_names.proofs.SpelledNames.{letter_step}
use Rattle.mesh_names.proofs.spelling.write_letters.Goals as goal
use Rattle.mesh_names.proofs.spelling.write_letters.Goals.{then-side, else-side}

pub loop-parent-init : goal.loop-parent-init
loop-parent-init c = (c.requires, ([], refl, drop-length c.args.room.now))

pub loop-parent-preserved : goal.loop-parent-preserved
loop-parent-preserved c =
    letter_step c.args.name.1 c.loop-parent.rest.1 _ _ c.loop-parent.room c.loop-parent.at c.if-side.room (omega arith) c.loop-parent.invariant (ap (λ n. n.1) c.in-Some.ensures)
    (elim c.if-side.branch [ then-side w ↦ w.room-is ∙ ap letter_text (sym w.if-side.true) | else-side w ↦ w.room-is ∙ ap letter_text (sym w.if-side.false) ])
