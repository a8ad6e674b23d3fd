use Rattle.std.proofs.Common.{◌≢◌, ◌+◌, ◌*◌, ◌∷◌, ◌++◌, [], ◌∙◌, sym, ap, arith, append_assoc}
use Rattle.mesh_io.specs.Written.{padded, trimmed, fraction}
use Rattle.mesh_io.proofs.Padded.{appended, fraction_some}
use Rattle.mesh_io.proofs.written.put_fraction.Goals.{else-upper-eq0-via-then-upper-eq0+else-lower-eq0, else-upper-eq0-via-else-upper-eq0}
use Rattle.mesh_io.proofs.written.put_fraction.Goals as goal

pub returns-clause-ok : goal.returns-clause-ok
returns-clause-ok c =
    let f = c.args.upper * 1000000000000 + c.args.lower in
    let some : f ≢ 0 = elim c.else-upper-eq0.branch [ else-upper-eq0-via-then-upper-eq0+else-lower-eq0 w ↦ omega arith | else-upper-eq0-via-else-upper-eq0 w ↦ omega arith ] in
    let point = c.in_ok-extend_from_slice.ensures.items in
    let digits = c.trim.ensures ∙ ap trimmed c.fraction_digits-digits.ensures in
    appended c.extend_from_slice-2.result c.extend_from_slice-2.new.self.items c.extend_from_slice.new.self.items c.trim.result.now (c.args.to.now.items ++ fraction f) c.extend_from_slice-2.ensures.items
    ((λ i. point i ++ digits i) ∙ append_assoc c.args.to.now.items (46 ∷ []) (trimmed (padded 22 f)) ∙ ap (λ t. c.args.to.now.items ++ t) (sym (fraction_some f some)))
