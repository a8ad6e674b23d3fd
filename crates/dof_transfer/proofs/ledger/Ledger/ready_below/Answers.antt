use Rattle.std.proofs.Common.{◌≡◌, ◌∙◌, subst, arith, length, true, false}
use Rattle.std.specs.Prelude.{◌<◌, All}
use Rattle.std.specs.FinMap.{contains_key}
use Rattle.std.proofs.lemmas.List.{take_all}
use Rattle.std.proofs.lemmas.List.Elements.{All-more, All-weaker}
use Rattle.mesh_names.specs.Names.{Name}
use Rattle.dof_transfer.specs.Exchanges.{child}
use Rattle.dof_transfer.specs.Ledgers.{HasRoomBelow}
use Rattle.dof_transfer.proofs.ledger.Ledger.ready_below.Goals as goal

pub loop-name-preserved : goal.loop-name-preserved
loop-name-preserved c =
    let within : c.loop-name.name-index < length c.args.names.now = omega arith in
    record {
      held = c.in_ok-ready-2.ensures.held ∙ c.in_ok-ready.ensures.held ∙ c.loop-name.invariant.held;
      admin = c.in_ok-ready-2.ensures.spare ∙ c.in_ok-ready.ensures.spare ∙ c.loop-name.invariant.admin;
      kept = λ n there. c.in_ok-ready-2.ensures.kept n (c.in_ok-ready.ensures.kept n (c.loop-name.invariant.kept n there));
      room = All-more (HasRoomBelow c.ready-in-loop-name.new.self) c.args.names.now c.loop-name.name-index c.name-item.result within
          (All-weaker (HasRoomBelow c.loop-name.self) (HasRoomBelow c.ready-in-loop-name.new.self) (λ n room. record {
            zero = c.in_ok-ready-2.ensures.kept (child false n) (c.in_ok-ready.ensures.kept (child false n) room.zero);
            one = c.in_ok-ready-2.ensures.kept (child true n) (c.in_ok-ready.ensures.kept (child true n) room.one);
          }) _ c.loop-name.invariant.room)
          (subst (HasRoomBelow c.ready-in-loop-name.new.self) c.name-item.is (record {
            zero = c.in_ok-ready-2.ensures.kept (child false c.name-item.result) (subst (λ (n : Name). contains_key c.ready.new.self.entries n ≡ true) c.child_at.ensures c.in_ok-ready.ensures.ready);
            one = subst (λ (n : Name). contains_key c.ready-in-loop-name.new.self.entries n ≡ true) c.child_at-in-loop-name.ensures c.in_ok-ready-2.ensures.ready;
          }));
    }

pub returns-clause-room : goal.returns-clause-room
returns-clause-room c = subst (All (HasRoomBelow c.loop-name.self)) (take_all c.loop-name.name-index c.args.names.now (omega arith)) c.loop-name.invariant.room
