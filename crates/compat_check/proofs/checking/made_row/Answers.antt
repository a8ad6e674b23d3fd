use Rattle.std.proofs.Common.{◌≡◌, ◌+◌, ◌*◌, ◌∙◌, ℕ, ap, arith, rules}
use Rattle.std.specs.Prelude.{None, slice_index_or}
use Rattle.std.specs.Int.{w8}
use Rattle.std.proofs.lemmas.Int.{to_z-of_z}
use mir.Val.{SFits}
use Rattle.compat_check.specs.Tables.{label_by}
use Rattle.compat_check.proofs.Labelling.{row_at}
use Rattle.compat_check.proofs.checking.made_row.Goals as goal

pub returns : goal.returns
returns c = λ k hk.
    let x : SFits w8 c.made_label.result = search rules in
    let y : SFits w8 c.made_label-2.result = search rules in
    let z : SFits w8 c.made_label-3.result = search rules in
    let first : c.args.element * 3 ≡ c.args.element * 3 + 0 = omega arith in
    row_at _ _ _ k (λ k. label_by (slice_index_or c.args.sides.now (c.args.element * 3 + k) None)) (to_z-of_z w8 c.made_label.result x ∙ c.made_label.ensures ∙ ap (λ (i : ℕ). label_by (slice_index_or c.args.sides.now i None)) first)
    (to_z-of_z w8 c.made_label-2.result y ∙ c.made_label-2.ensures) (to_z-of_z w8 c.made_label-3.result z ∙ c.made_label-3.ensures) hk
