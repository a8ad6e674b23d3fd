use Rattle.table_words.specs.NameWords.{name_code}
use Rattle.mesh_table.specs.Told.{sight}
use Rattle.patch_claims.proofs.Leaving.{dying_keeps, dying_idle, dying_open, dying_saw}
use Rattle.patch_claims.proofs.retire.look_word.Goals as goal

pub returns-clause-keeps : goal.returns-clause-keeps
returns-clause-keeps c = rw (c.look_dying.ensures.view) (dying_keeps c.args.block (name_code c.args.name) c.look_dying.result (sight c.args.pass.now))

pub returns-clause-idle : goal.returns-clause-idle
returns-clause-idle c = rw (c.look_dying.ensures.view) (dying_idle c.args.block (name_code c.args.name) c.look_dying.result (sight c.args.pass.now))

pub returns-clause-saw : goal.returns-clause-saw
returns-clause-saw c = rw (c.look_dying.ensures.view) (dying_saw c.args.block (name_code c.args.name) c.look_dying.result (sight c.args.pass.now))

pub returns-clause-open_ : goal.returns-clause-open_
returns-clause-open_ c = rw (c.look_dying.ensures.view) (dying_open c.args.block (name_code c.args.name) c.look_dying.result (sight c.args.pass.now))

pub returns-clause-undead : goal.returns-clause-undead
returns-clause-undead c = c.look_dying.ensures.undead
