use Rattle.table_steps.proofs.StepsKeep.{next_named, steps_keep}
use Rattle.table_steps.proofs.Local.{steps_local}
use Rattle.table_steps.proofs.WritesLeave.{workers_change, writes_leave}
use Rattle.table_steps.proofs.Reuse.{steps_spare}
use Rattle.table_steps.proofs.Onward.{workers_go_on, readers_go_on, pins_go_on, ready_below, pins_fit, passes_made, passes_joined, claims_go_on, singles_go_on, claims_go_back}
use Rattle.table_steps.proofs.OnwardRounds.{loads_go_on, fills_go_on, retiring_goes_on, rounds_go_on, notes_go_on, rows_go_on, grown_goes_on}
use Rattle.table_steps.proofs.OnwardSweeps.{sweeps_go_on}
use Rattle.table_steps.proofs.laws.laws.Goals as goal

pub returns-clause-next : goal.returns-clause-next
returns-clause-next c = next_named

pub returns-clause-steps : goal.returns-clause-steps
returns-clause-steps c = steps_keep

pub returns-clause-local : goal.returns-clause-local
returns-clause-local c = steps_local

pub returns-clause-leave : goal.returns-clause-leave
returns-clause-leave c = writes_leave

pub returns-clause-change : goal.returns-clause-change
returns-clause-change c = workers_change

pub returns-clause-spare : goal.returns-clause-spare
returns-clause-spare c = steps_spare

pub returns-clause-workers : goal.returns-clause-workers
returns-clause-workers c = workers_go_on

pub returns-clause-readers : goal.returns-clause-readers
returns-clause-readers c = readers_go_on

pub returns-clause-pins : goal.returns-clause-pins
returns-clause-pins c = pins_go_on

pub returns-clause-made : goal.returns-clause-made
returns-clause-made c = passes_made

pub returns-clause-joined : goal.returns-clause-joined
returns-clause-joined c = passes_joined

pub returns-clause-claims : goal.returns-clause-claims
returns-clause-claims c = claims_go_on

pub returns-clause-singles : goal.returns-clause-singles
returns-clause-singles c = singles_go_on

pub returns-clause-back : goal.returns-clause-back
returns-clause-back c = claims_go_back

pub returns-clause-loads : goal.returns-clause-loads
returns-clause-loads c = loads_go_on

pub returns-clause-fills : goal.returns-clause-fills
returns-clause-fills c = fills_go_on

pub returns-clause-retiring : goal.returns-clause-retiring
returns-clause-retiring c = retiring_goes_on

pub returns-clause-rounds : goal.returns-clause-rounds
returns-clause-rounds c = rounds_go_on

pub returns-clause-notes : goal.returns-clause-notes
returns-clause-notes c = notes_go_on

pub returns-clause-rows : goal.returns-clause-rows
returns-clause-rows c = rows_go_on

pub returns-clause-ready : goal.returns-clause-ready
returns-clause-ready c = ready_below

pub returns-clause-fit : goal.returns-clause-fit
returns-clause-fit c = pins_fit

pub returns-clause-grown : goal.returns-clause-grown
returns-clause-grown c = grown_goes_on

pub returns-clause-sweeps : goal.returns-clause-sweeps
returns-clause-sweeps c = sweeps_go_on
