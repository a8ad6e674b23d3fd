use Rattle.std.proofs.Common.{◌∙◌, ap, arith, get_or, sym, take}
use Rattle.std.specs.FinSet.{from_list, from_list_push, insert}
use Rattle.std.proofs.lemmas.List.{take_all, take_more}
use Rattle.mesh_names.specs.Forests.{Names}
use Rattle.mesh_names.specs.Names.{Name}
use Rattle.mesh_names.specs.Order.{name_cmp_total, name_cmp-same}
use Rattle.forest_plain.proofs.name_set.NameSet.of_names.Goals as goal

pub loop-name-preserved : goal.loop-name-preserved
loop-name-preserved c =
    let names = c.args.names.now in
    let i = c.loop-name.name-index in
    c.in_ok-insert.ensures.held
    ∙ ap (λ (s : Names). insert s c.name-item.result) c.loop-name.invariant
    ∙ ap (λ (n : Name). insert (from_list (take i names)) n) c.name-item.is
    ∙ sym (from_list_push name_cmp_total name_cmp-same (take i names) (get_or names i c.name-item.result))
    ∙ ap from_list (sym (take_more names i c.name-item.result (omega arith)))

pub returns : goal.returns
returns c = c.loop-name.invariant ∙ ap from_list (take_all c.loop-name.name-index c.args.names.now (omega arith))
