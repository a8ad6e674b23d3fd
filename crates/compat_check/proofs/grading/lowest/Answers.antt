use Rattle.std.proofs.Common.{◌≡◌, ◌+◌, ◌<◌, ◌∙◌, ℕ, List, ap, sym, subst, arith, rules, length, set}
use Rattle.std.specs.Prelude.{ℤ, pos}
use Rattle.std.specs.Int.{w32}
use Rattle.std.proofs.lemmas.Int.{ints, to_z-of_z}
use Rattle.std.proofs.lemmas.List.{get_or_read, get_or-replicate}
use lib.ListN.{replicate}
use mir.Val.{SFits}
use Rattle.compat_check.specs.Parts.{size}
use Rattle.compat_check.specs.Grading.{AreLows, low_of}
use Rattle.compat_check.proofs.Lows.{lows_none, lows_skip, lows_more}
use Rattle.compat_check.proofs.grading.lowest.Goals as goal

pub loop-element-init : goal.loop-element-init
loop-element-init c = λ head height leads.
    let n = size c.args.parts.now in
    let items : c.in_ok-lows.lows.items ≡ replicate c.size.result (pos 0) = c.in_ok-lows.ensures.items_if_clones_equal (λ y h. h) in
    let each : length c.in_ok-lows.lows.items ≡ n = omega (arith, c.in_ok-lows.ensures.len, c.size.ensures) in
    lows_none n c.requires.few c.args.parts.now head height leads c.in_ok-lows.lows.items each
    (λ x hx. ap (λ (l : List ℤ). low_of l x) items ∙ get_or-replicate c.size.result x (pos 0) (pos 0) (omega (arith, c.size.ensures, hx)))

pub loop-element-preserved-then-index-height : goal.loop-element-preserved-then-index-height
loop-element-preserved-then-index-height c = λ head height leads.
    let n = size c.args.parts.now in
    let k = c.loop-element.element in
    let are = c.loop-element.invariant head height leads in
    let found = c.find-head.ensures.found head height leads in
    let idx = c.index.result.now in
    let inside : c.find-head.result.0 < length c.loop-element.lows.items = omega (arith, are.each, c.find-head.ensures.within) in
    let read : idx ≡ low_of c.loop-element.lows.items (head k) = get_or_read c.loop-element.lows.items c.find-head.result.0 idx inside c.index.ensures (pos 0) ∙ ap (low_of c.loop-element.lows.items) found.0 in
    lows_skip n c.requires.few c.args.parts.now head height leads c.loop-element.lows.items k (omega (arith, ints, read, found.1, c.if-index-height.true)) are

pub loop-element-preserved : goal.loop-element-preserved
loop-element-preserved c = λ head height leads.
    let n = size c.args.parts.now in
    let k = c.loop-element.element in
    let are = c.loop-element.invariant head height leads in
    let found = c.find-head.ensures.found head height leads in
    let idx = c.index.result.now in
    let v = c.find-head.result.1 in
    let fits : SFits w32 v = search rules in
    let inside : c.find-head.result.0 < length c.loop-element.lows.items = omega (arith, are.each, c.find-head.ensures.within) in
    let read : idx ≡ low_of c.loop-element.lows.items (head k) = get_or_read c.loop-element.lows.items c.find-head.result.0 idx inside c.index.ensures (pos 0) ∙ ap (low_of c.loop-element.lows.items) found.0 in
    subst (λ (y : ℕ × ℤ). AreLows n (k + 1) head height (set c.loop-element.lows.items y.0 y.1)) (λ i. (sym found.0 i, sym (to_z-of_z w32 v fits ∙ found.1) i))
    (lows_more n c.requires.few c.args.parts.now head height leads c.loop-element.lows.items k (omega (arith, c.size-element-end.ensures)) (omega (arith, ints, read, found.1, c.if-index-height.false)) are)

pub returns : goal.returns
returns c = λ head height leads.
    let n = size c.args.parts.now in
    let all : c.loop-element.element ≡ n = omega (arith, c.size-element-end.ensures) in
    subst (λ (y : ℕ). AreLows n y head height c.loop-element.lows.items) all (c.loop-element.invariant head height leads)
