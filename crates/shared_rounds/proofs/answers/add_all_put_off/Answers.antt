use Rattle.std.proofs.Common.{◌≡◌, ◌≤◌, List, ◌++◌, length, take, get_or, sym, ap, ◌∙◌, subst, arith}
use Rattle.std.proofs.lemmas.List.{append_assoc, length-append, take_all}
use Rattle.mesh_names.specs.Names.{Name}
use Rattle.table_passes.specs.declared.work.Joined.{Joined}
use Rattle.shared_rounds.specs.Reached.{all_put_off, put_off}
use Rattle.shared_rounds.proofs.PuttingOff.{all_off_more, all_off_within}
use Rattle.shared_rounds.proofs.answers.add_all_put_off.Goals as goal

pub add_put_off-requires : goal.add_put_off-requires
add_put_off-requires c =
    let ds = c.args.joined.now in
    let i = c.loop-pass.pass-index in
    let d = c.pass-item.result in
    let within = all_off_within ds i d c.loop-pass-test.true in
    let is : get_or ds i d ≡ d = sym c.pass-item.is in
    let one : length (put_off (get_or ds i d).names.items (get_or ds i d).answers.items) ≡ length (put_off c.deref.result.now c.deref-in-loop-pass.result.now) = ap (λ (e : Joined). length (put_off e.names.items e.answers.items)) is
    ∙ (λ j. length (put_off (sym c.deref.ensures.value j) (sym c.deref-in-loop-pass.ensures.value j))) in
    let now = ap length c.loop-pass.invariant.items in
    let sum = length-append c.args.names.now.items (all_put_off (take i ds)) in
    let same = c.loop-pass.invariant.capacity in
    let room = c.requires.room in
    let few : length d.answers.items ≤ length d.names.items = subst (λ (e : Joined). length e.answers.items ≤ length e.names.items) is (c.requires.few i d c.loop-pass-test.true) in
    let a = ap length c.deref.ensures.value in
    let b = ap length c.deref-in-loop-pass.ensures.value in
    record { few = omega arith; room = omega arith }

pub loop-pass-preserved : goal.loop-pass-preserved
loop-pass-preserved c =
    let ds = c.args.joined.now in
    let i = c.loop-pass.pass-index in
    let d = c.pass-item.result in
    let old = c.args.names.now.items in
    record {
      items = c.add_put_off.ensures.items ∙ (λ j. c.loop-pass.invariant.items j ++ put_off (c.deref.ensures.value j) (c.deref-in-loop-pass.ensures.value j))
          ∙ append_assoc old (all_put_off (take i ds)) (put_off d.names.items d.answers.items)
          ∙ ap (λ (e : Joined). old ++ (all_put_off (take i ds) ++ put_off e.names.items e.answers.items)) c.pass-item.is
          ∙ ap (λ (xs : List Name). old ++ xs) (sym (all_off_more ds i d c.loop-pass-test.true));
      capacity = c.add_put_off.ensures.capacity ∙ c.loop-pass.invariant.capacity;
    }

pub returns-clause-items : goal.returns-clause-items
returns-clause-items c = c.loop-pass.invariant.items ∙ ap (λ (ds : List Joined). c.args.names.now.items ++ all_put_off ds) (take_all c.loop-pass.pass-index c.args.joined.now c.loop-pass-test.false)
