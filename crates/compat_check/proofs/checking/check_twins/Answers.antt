use Rattle.std.proofs.Common.{◌≡◌, ◌<◌, ◌∙◌, ℕ, List, ap, sym, subst, arith, length}
use Rattle.std.specs.Prelude.{Option, None, slice_index_or}
use Rattle.compat_check.specs.Twins.{IsTwinBefore}
use Rattle.compat_check.proofs.Firsts.{first_twins}
use Rattle.compat_check.proofs.checking.check_twins.Goals as goal

pub returns-clause-ok : goal.returns-clause-ok
returns-clause-ok c = λ r s rs hs twin.
    let same = c.deref-before-items.ensures.value in
    let each = c.in_ok-earlier.ensures.each in
    let seen : s < c.loop-second.second = omega (arith, hs, each, ap length same) in
    let none : slice_index_or c.in_ok-earlier.earlier.items s None ≡ None = ap (λ (l : List (Option ℕ)). slice_index_or l s None) (sym same) ∙ c.loop-second.invariant s seen in
    let before : IsTwinBefore c.args.triples.now s None = subst (IsTwinBefore c.args.triples.now s) none (c.in_ok-earlier.ensures.last s hs) in
    before r rs twin

pub returns-in-Some-clause-refused : goal.returns-in-Some-clause-refused
returns-in-Some-clause-refused c =
    let same = c.deref-before-items.ensures.value in
    let b = c.loop-second.second in
    let inside : b < length c.args.triples.now = omega (arith, c.in_ok-earlier.ensures.each, ap length same) in
    first_twins c.args.triples.now c.requires.distinct c.in_ok-earlier.earlier.items c.in_ok-earlier.ensures b c.in-Some.first inside
    (λ s hs. ap (λ (l : List (Option ℕ)). slice_index_or l s None) (sym same) ∙ c.loop-second.invariant s hs)
    (ap (λ (l : List (Option ℕ)). slice_index_or l b None) (sym same) ∙ c.in-Some.is)
