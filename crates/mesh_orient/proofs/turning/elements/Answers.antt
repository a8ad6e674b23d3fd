use Rattle.std.proofs.Common.{◌≡◌, ◌∙◌, ◌<◌, ℕ, length, sym, ap, arith}
use Rattle.macro_file.specs.Text.{element_of}
use Rattle.macro_file.proofs.AssemblyLemmas.{made_more}
use Rattle.mesh_orient.specs.Turns.{element_in, shift_in, turned_element}
use Rattle.mesh_orient.proofs.Turned.{entry}
use Rattle.mesh_orient.proofs.turning.elements.Goals as goal

pub loop-number-preserved : goal.loop-number-preserved
loop-number-preserved c =
    let text = c.args.text.now in
    let shifts = c.args.shifts.now in
    let n = c.loop-number.number in
    let less : n < length text.elements.items = omega (arith, c.loop-number-test.true, c.len-number-end.ensures, text.elements.ok) in
    let here : element_of c.index.result.now ≡ element_in text n = ap element_of c.index.ensures ∙ sym (entry text.elements.items n c.index.result.now less) in
    made_more element_of (λ (r : ℕ). turned_element (shift_in shifts r) (element_in text r)) c.loop-number.turned.items c.push.new.self.items c.turned_element.result n c.loop-number.invariant c.in_ok-push.ensures.items
    (c.turned_element.ensures ∙ (λ i. turned_element (c.shift_of-shift.ensures.shift i) (here i)))
