use Rattle.std.proofs.Common.{sym, subst, take}
use Rattle.std.specs.Prelude.{Option, IfSome, IsSome, Some, None}
use Rattle.mesh_names.specs.Names.{Name}
use Rattle.dof_transfer.specs.Held.{value_of}
use Rattle.forest_plain.specs.Rounds.{named}
use Rattle.mesh_rounds.specs.Setting.{leaf_holding}
use Rattle.mesh_rounds.specs.Taking.{MeansLeaf, NamesLive}
use Rattle.mesh_rounds.proofs.Lasts.{set-live, set-more}
use Rattle.mesh_rounds.proofs.rows.set_leaf_rows.Goals as goal

pub set_leaf_row-requires-clause-live : goal.set_leaf_row-requires-clause-live
set_leaf_row-requires-clause-live c what =
    kept (named c.row-item.result.place) (subst (NamesLive c.args.elements.now) (sym c.row-item.is) (c.requires.live c.loop-row.row-index c.row-item.result c.loop-row-test.true) what) where
      kept : (o : Option Name) → IfSome o (λ n. IsSome (value_of c.args.elements.now n)) → IfSome o (λ n. IsSome (value_of c.loop-row.elements n))
      kept None h = h
      kept (Some n) h = set-live leaf_holding (λ q. Unit {0}) (MeansLeaf c.args.leaves.now) (take c.loop-row.row-index c.args.rows.now) c.args.elements.now c.loop-row.elements c.loop-row.invariant n tt h

pub loop-row-preserved : goal.loop-row-preserved
loop-row-preserved c = set-more leaf_holding (λ q. Unit {0}) (MeansLeaf c.args.leaves.now) c.args.rows.now c.loop-row.row-index c.row-item.result c.args.elements.now c.loop-row.elements c.set_leaf_row.new.elements c.loop-row-test.true c.row-item.is c.loop-row.invariant c.set_leaf_row.ensures
