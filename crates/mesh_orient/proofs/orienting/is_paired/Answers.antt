use Rattle.mesh_orient.proofs.Pairs.{paired_of}
use Rattle.mesh_orient.proofs.orienting.is_paired.Goals as goal

pub returns-in-Ok : goal.returns-in-Ok
returns-in-Ok c = λ all. paired_of c.in_ok-copy.copy c.args.text.now c.in_ok-copy.ensures.same c.in-Ok.mesh c.in-Ok.ensures.ok c.in-Ok.ensures.faultless (c.has_no_grades.ensures all)
