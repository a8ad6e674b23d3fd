use Rattle.std.proofs.Common.{arith, refl, map}
use Rattle.macro_file.specs.declared.keyword.Keyword.TheVariants.{Triples, Labels, Neighbours, ElementValues}
use Rattle.macro_file.specs.Meaning.{Element, element, numbers_of}
use Rattle.macro_file.specs.Places.{listed_of}
use Rattle.macro_file.proofs.AssemblyLemmas.{made_length, zero_rows}
use Rattle.macro_file.proofs.assembly.assemble.Goals as goal

pub invariant_of-result : goal.invariant_of-result
invariant_of-result c =
    let v = made_length _ _ c.in_ok-vertices.field-0.items c.args.counts.vertices c.in_ok-vertices.ensures.ok in
    let e = made_length _ _ c.in_ok-elements.field-0.items c.args.counts.elements c.in_ok-elements.ensures.ok in
    let p = c.in_ok-vertices.field-0.ok in
    let q = c.in_ok-elements.field-0.ok in
    let ls = map listed_of c.args.lists.now in
    let f = element (numbers_of Triples ls) (numbers_of Labels ls) (numbers_of Neighbours ls) (numbers_of ElementValues ls) in
    record {
      some_vertices = (omega (arith, v, p.0), omega (arith, v, p.0));
      some_elements = (omega (arith, e, q.0), omega (arith, e, q.0));
      labels_zero = zero_rows ls Labels c.is_given.result (λ (x : Element). x.labels) c.in_ok-elements.field-0.items f c.args.counts.elements c.is_given.ensures c.in_ok-elements.ensures.ok (λ i. refl);
      neighbours_zero = zero_rows ls Neighbours c.is_given-2.result (λ (x : Element). x.neighbours) c.in_ok-elements.field-0.items f c.args.counts.elements c.is_given-2.ensures c.in_ok-elements.ensures.ok (λ i. refl);
    }
