use Rattle.mesh_mend.proofs.FlatPieces.{first_flat_edge, no_flat}
use Rattle.mesh_mend.proofs.mending.check_pieces.Goals as goal

pub returns-in-None-clause-ok : goal.returns-in-None-clause-ok
returns-in-None-clause-ok c = no_flat c.args.text.now c.deref.result.now c.deref-2.result.now c.deref.ensures.value c.deref-2.ensures.value c.in-None.ensures

pub returns-in-Some-clause-refused : goal.returns-in-Some-clause-refused
returns-in-Some-clause-refused c = (c.requires.faultless, c.requires.fits, first_flat_edge c.args.text.now c.deref.result.now c.deref-2.result.now c.deref.ensures.value c.deref-2.ensures.value c.in-Some.number c.in-Some.ensures)
