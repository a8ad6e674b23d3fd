use Rattle.std.proofs.Common.{◌≡◌, ◌-◌, ◌<◌, ◌≤◌, arith, length, refl}
use Rattle.std.specs.Prelude.{Some, slice_get}
use Rattle.std.proofs.lemmas.Option.{slice_get_read, slice_get_within}
use Rattle.compat_check.proofs.Links.{linked_skip, linked_more, links_are}
use Rattle.compat_check.proofs.earlier.earlier_equals.Goals as goal

pub loop-i-preserved-in_default : goal.loop-i-preserved-in_default
loop-i-preserved-in_default g c =
    let entries = c.in_ok-ranked.ranked.items in
    let inside : c.loop-i.i < length entries = omega arith in
    let low : slice_get entries (c.loop-i.i - 1) ≡ Some c.index-in-loop-i.result.now = slice_get_read entries (length entries) (c.loop-i.i - 1) c.index-in-loop-i.result.now refl (omega arith) c.index-in-loop-i.ensures in
    let high : slice_get entries c.loop-i.i ≡ Some c.index.result.now = slice_get_read entries (length entries) c.loop-i.i c.index.result.now refl inside c.index.ensures in
    linked_skip g.K.Ord.cmp g.met.K.Ord.total c.args.keys.now entries c.in_ok-ranked.ensures c.loop-i.earlier.items (c.loop-i.i - 1) c.loop-i.i c.index-in-loop-i.result.now c.index.result.now (omega arith) low high c.in_default.ensures.none c.loop-i.invariant

pub index_mut-requires : goal.index_mut-requires
index_mut-requires g c =
    let entries = c.in_ok-ranked.ranked.items in
    let high : slice_get entries c.loop-i.i ≡ Some c.index.result.now = slice_get_read entries (length entries) c.loop-i.i c.index.result.now refl (omega arith) c.index.ensures in
    let own = c.in_ok-ranked.ensures.own c.loop-i.i c.index.result.now high in
    omega (arith, c.loop-i.invariant.each, slice_get_within c.args.keys.now c.index.result.now.1 c.index.result.now.0 own)

pub loop-i-preserved : goal.loop-i-preserved
loop-i-preserved g c =
    let entries = c.in_ok-ranked.ranked.items in
    let low : slice_get entries (c.loop-i.i - 1) ≡ Some c.index-in-loop-i.result.now = slice_get_read entries (length entries) (c.loop-i.i - 1) c.index-in-loop-i.result.now refl (omega arith) c.index-in-loop-i.ensures in
    let high : slice_get entries c.loop-i.i ≡ Some c.index.result.now = slice_get_read entries (length entries) c.loop-i.i c.index.result.now refl (omega arith) c.index.ensures in
    linked_more g.K.Ord.cmp g.met.K.Ord.total c.args.keys.now entries c.in_ok-ranked.ensures c.loop-i.earlier.items (c.loop-i.i - 1) c.loop-i.i c.in-Some.tied c.index-in-loop-i.result.now c.index.result.now (omega arith) low high c.in-Some.ensures.some c.loop-i.invariant

pub returns : goal.returns
returns g c =
    let own : length c.in_ok-ranked.ranked.items ≤ c.loop-i.i = omega arith in
    links_are g.K.Ord.cmp g.met.K.Ord.total c.args.keys.now c.in_ok-ranked.ranked.items c.in_ok-ranked.ensures c.loop-i.earlier.items c.loop-i.i c.loop-i.invariant own
