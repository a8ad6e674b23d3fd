use Rattle.restart_file.proofs.Walking.{tells_next}
use Rattle.restart_file.proofs.writing.is_next.Goals as goal

pub returns-clause-next : goal.returns-clause-next
returns-clause-next c = tells_next c.args.members.now c.args.next c.index-members-next.result c.args.name c.eq.result c.if-next-members.false c.index-members-next.is c.eq.ensures
