use Rattle.std.proofs.Common.{◌/◌, ◌∙◌, sym, ap, arith, Ok}
use Rattle.mesh_io.specs.Decimals.{with_sign}
use Rattle.mesh_io.proofs.Measures.{measured_in, measured_out, cut_in, cut_out, as_pos, as_neg}
use Rattle.mesh_io.proofs.Shortened.{short_measured}
use Rattle.mesh_io.proofs.decimal.in_units.Goals as goal

pub returns-in-None : goal.returns-in-None
returns-in-None c = λ m h. sym (measured_out (record { minus = c.args.minus; mantissa = m; places = c.args.places; up = c.args.up; down = c.args.down }) (cut_out m _ _ _ _ _ h c.in-None.ensures.none))

pub returns-then-minus : goal.returns-then-minus
returns-then-minus c = λ m h. let s = c.in-Some-scaled.ensures.some in
    (ap Ok (as_neg (c.in-Some-scaled.cut / 244140625) (omega (arith, s.1)) ∙ ap (λ b. with_sign b (c.in-Some-scaled.cut / 244140625)) (sym c.if-minus.true)))
    ∙ sym (measured_in (record { minus = c.args.minus; mantissa = m; places = c.args.places; up = c.args.up; down = c.args.down }) c.in-Some-scaled.cut (cut_in m _ _ _ _ _ _ h s.0 s.1) s.1)

pub returns-else-minus : goal.returns-else-minus
returns-else-minus c = λ m h. let s = c.in-Some-scaled.ensures.some in
    (ap Ok (as_pos (c.in-Some-scaled.cut / 244140625) (omega (arith, s.1)) ∙ ap (λ b. with_sign b (c.in-Some-scaled.cut / 244140625)) (sym c.if-minus.false)))
    ∙ sym (measured_in (record { minus = c.args.minus; mantissa = m; places = c.args.places; up = c.args.up; down = c.args.down }) c.in-Some-scaled.cut (cut_in m _ _ _ _ _ _ h s.0 s.1) s.1)

pub returns-in-Some : goal.returns-in-Some
returns-in-Some c = λ m h. c.signed_units.ensures ∙ short_measured c.args.minus m c.args.head.kept c.args.head.dropped c.args.places c.args.up c.args.down c.in-Some.units h c.if-head-eq0.true c.in-Some.ensures
