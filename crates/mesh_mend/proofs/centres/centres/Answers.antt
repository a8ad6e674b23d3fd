use Rattle.std.proofs.Common.{List, [], ℕ, length, sym, subst, arith}
use Rattle.std.proofs.lemmas.List.{length-map}
use Rattle.macro_file.specs.declared.text.MacroElem.{MacroElem}
use Rattle.compat_check.specs.Faults.{IsOutside}
use Rattle.mesh_mend.proofs.Rows.{row_is}
use Rattle.mesh_mend.proofs.centres.centres.Goals as goal

pub centre_at-requires : goal.centre_at-requires
centre_at-requires c =
    let es = c.args.elements.now in
    let i = c.loop-element.element-index in
    let row = row_is (λ (e : MacroElem). e.corners) es i c.element-item.result [] c.loop-element-test.true c.element-item.is in
    λ h. c.requires i c.loop-element-test.true (subst (IsOutside (length c.args.vertices.now)) (sym row) h)
