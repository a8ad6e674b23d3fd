use Rattle.std.proofs.Common.{map, nat_abs, ◌∙◌, ap, arith, rules}
use Rattle.std.proofs.lemmas.Int.{to_z-of_z}
use mir.Val.{SFits}
use mir.Syntax.{w64}
use Rattle.macro_file.specs.Places.{section_of}
use Rattle.macro_file.proofs.RangeLemmas.{vertices_small, elements_small}
use Rattle.macro_file.proofs.counts.read_counts.Goals as goal

pub overflow_cast-result : goal.overflow_cast-result
overflow_cast-result c =
    let fits : SFits w64 c.in_ok-vertices.vertices = search rules in
    let small = vertices_small (map section_of c.args.sections.now) c.in_ok-vertices.vertices c.unsigned_abs.result c.in_ok-vertices.ensures.ok (c.unsigned_abs.ensures.value ∙ ap nat_abs (to_z-of_z w64 _ fits)) in omega (arith, small)

pub overflow_cast-result-2 : goal.overflow_cast-result-2
overflow_cast-result-2 c =
    let fits : SFits w64 c.in_ok-elements.elements = search rules in
    let small = elements_small (map section_of c.args.sections.now) c.in_ok-elements.elements c.unsigned_abs-2.result c.in_ok-elements.ensures.ok (c.unsigned_abs-2.ensures.value ∙ ap nat_abs (to_z-of_z w64 _ fits)) in omega (arith, small)
