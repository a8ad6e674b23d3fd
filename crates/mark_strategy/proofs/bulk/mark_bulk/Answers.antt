use Rattle.std.proofs.Common.{List, ℕ, Some, subst, sym, ◌≡◌}
use Rattle.mesh_names.specs.Names.{Name}
use Rattle.mark_strategy.specs.Picks.{IsCut, IsEnough}
use Rattle.mark_strategy.specs.Strategies.{IsBulk}
use Rattle.mark_strategy.proofs.Choosing.{bulk_by_cut, bulk_of_none}
use Rattle.mark_strategy.proofs.Fewest.{bulk_is_fewest}
use Rattle.mark_strategy.proofs.bulk.mark_bulk.Goals as goal

pub returns-in_default-clause-bulk : goal.returns-in_default-clause-bulk
returns-in_default-clause-bulk c =
    let enough = subst (λ (s : List ℕ). IsEnough c.args.share s c.enough-count.result) c.deref.ensures.value c.enough-count.ensures in
    bulk_of_none c.args.values.now c.in_ok-sizes.sizes.items c.in_ok-sizes.ensures c.args.share c.enough-count.result enough c.requires c.in_default.ensures.none c.new.result.items c.new.ensures.items

pub returns-clause-bulk : goal.returns-clause-bulk
returns-clause-bulk c =
    let enough = subst (λ (s : List ℕ). IsEnough c.args.share s c.enough-count.result) c.deref.ensures.value c.enough-count.ensures in
    let cut = subst (λ (s : List ℕ). IsCut s c.enough-count.result c.in-Some.cut.size c.in-Some.cut.ties) c.deref-2.ensures.value c.in-Some.ensures.cut in
    subst (IsBulk c.args.share c.args.values.now) (sym c.in_ok-names.ensures)
    (bulk_by_cut c.args.values.now c.in_ok-sizes.sizes.items c.in_ok-sizes.ensures c.args.share c.enough-count.result enough c.requires c.in-Some.cut.size c.in-Some.cut.ties cut)

pub returns-clause-fewest : goal.returns-clause-fewest
returns-clause-fewest c =
    let enough = subst (λ (s : List ℕ). IsEnough c.args.share s c.enough-count.result) c.deref.ensures.value c.enough-count.ensures in
    let cut = subst (λ (s : List ℕ). IsCut s c.enough-count.result c.in-Some.cut.size c.in-Some.cut.ties) c.deref-2.ensures.value c.in-Some.ensures.cut in
    bulk_is_fewest c.args.share c.args.values.now c.in_ok-names.names.items (subst (IsBulk c.args.share c.args.values.now) (sym c.in_ok-names.ensures)
    (bulk_by_cut c.args.values.now c.in_ok-sizes.sizes.items c.in_ok-sizes.ensures c.args.share c.enough-count.result enough c.requires c.in-Some.cut.size c.in-Some.cut.ties cut))
