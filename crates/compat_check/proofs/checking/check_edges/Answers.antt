use Rattle.std.proofs.Common.{◌∙◌, ◌*◌, ℕ, List, ap, subst, length}
use Rattle.std.specs.Prelude.{Option, None, Some}
use Rattle.compat_check.specs.Faults.{IsFirst}
use Rattle.compat_check.specs.Paired.{AreSides, IsThirdAt}
use Rattle.compat_check.specs.Checks.{IsEdgeOfThree}
use Rattle.compat_check.proofs.Firsts.{first_edge_of, third_edge, edge_third}
use Rattle.compat_check.proofs.checking.check_edges.Goals as goal

pub returns-clause-ok : goal.returns-clause-ok
returns-clause-ok c =
    let places = ap length c.as_slice-2.ensures.value ∙ c.in_ok-earlier.ensures.each in
    record {
      earlier = c.in_ok-earlier.earlier.items;
      known = c.in_ok-earlier.ensures;
      free = subst (λ (e : List (Option ℕ)). IsFirst (length e) (IsThirdAt e) None) c.as_slice.ensures.value c.in_default.ensures;
      sides_are = subst (λ (y : List (Option ℕ) × ℕ). AreSides c.args.triples.now y.0 c.in_ok-sides.sides.items y.1) (λ i. (c.as_slice-2.ensures.value i, places i)) c.in_ok-sides.ensures;
    }

pub returns-in-Some-clause-refused : goal.returns-in-Some-clause-refused
returns-in-Some-clause-refused c =
    let triples = c.args.triples.now in
    let earlier = c.in_ok-earlier.earlier.items in
    let known = c.in_ok-earlier.ensures in
    let found : IsFirst (length earlier) (IsThirdAt earlier) (Some c.in-Some.place) = subst (λ (e : List (Option ℕ)). IsFirst (length e) (IsThirdAt e) (Some c.in-Some.place)) c.as_slice.ensures.value c.in-Some.ensures in
    let first : IsFirst (length triples * 3) (IsThirdAt earlier) (Some c.in-Some.place) = subst (λ (n : ℕ). IsFirst n (IsThirdAt earlier) (Some c.in-Some.place)) known.each found in
    first_edge_of (length triples) (IsThirdAt earlier) (IsEdgeOfThree triples) c.in-Some.place first
    (third_edge triples c.requires.distinct earlier known c.in-Some.place first.0)
    (λ q j hq hj. edge_third triples earlier known q j hq hj)
