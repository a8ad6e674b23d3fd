use Rattle.std.proofs.Common.{subst, sym}
use Rattle.dof_admin.specs.Administration.{IsRenumbering}
use Rattle.dof_transfer.specs.Ledgers.{held_of}
use Rattle.dof_transfer.proofs.Compressing.{compressed, sound-compressed}
use Rattle.dof_transfer.proofs.ledger.Ledger.compress.Goals as goal

pub returns-clause-ok : goal.returns-clause-ok
returns-clause-ok c =
    let moved : IsRenumbering c.args.self.now.admin.flags c.deref.result.now = subst (IsRenumbering c.args.self.now.admin.flags) (sym c.deref.ensures.value) c.in_ok-moved.ensures.moved in
    compressed c.args.self.now (record { entries = c.renumber.new.self; admin = c.compress.new.self }) c.deref.result.now c.requires moved c.renumber.ensures.live c.in_ok-moved.ensures.flags

pub returns-clause-sound : goal.returns-clause-sound
returns-clause-sound c = sound-compressed (held_of c.args.self.now) (held_of (record { entries = c.renumber.new.self; admin = c.compress.new.self })) c.requires (returns-clause-ok c)
