use Rattle.std.proofs.Common.{◌≡◌, ℕ, length, map, sym, ap, subst, ◌∙◌}
use Rattle.std.specs.Prelude.{All, Some}
use Rattle.std.proofs.lemmas.List.{length-map}
use Rattle.std.proofs.lemmas.Result.{IfOk-weaker}
use Rattle.dof_transfer.specs.VertexValues.{value_at, worth}
use Rattle.mesh_writer.specs.Picks.{IsBelow, value_in}
use Rattle.mesh_writer.proofs.PickedValues.{all_worth, picked_values}
use Rattle.mesh_writer.proofs.values.vertex_values.Goals as goal

pub values_in-requires : goal.values_in-requires
values_in-requires c =
    let held = c.args.vertices.now in
    let known = c.args.numbers.now.known.items in
    let by_slot = c.deref-3.ensures.value ∙ c.in-Ok.ensures ∙ ap (map (worth held)) c.deref.ensures.value in
    let many : length known ≡ length c.deref-3.result.now = sym (ap length by_slot ∙ length-map known (worth held)) in
    subst (λ (n : ℕ). All (IsBelow n) c.deref-2.result.now) many (subst (All (IsBelow (length known))) (sym c.deref-2.ensures.value) c.requires.below)

pub returns : goal.returns
returns c =
    let held = c.args.vertices.now in
    let numbers = c.args.numbers.now in
    let by_slot = c.deref-3.ensures.value ∙ c.in-Ok.ensures ∙ ap (map (worth held)) c.deref.ensures.value in
    IfOk-weaker c.values_in.result _ _
    (λ values is. ap (map Some) (is ∙ (λ i. map (value_in (by_slot i)) (c.deref-2.ensures.value i)) ∙ picked_values (worth held) numbers.known.items numbers.slots.items c.requires.below ∙ ap (map (worth held)) (sym c.requires.keys)) ∙ all_worth (value_at held) numbers.keys.items c.requires.values)
    c.values_in.ensures
