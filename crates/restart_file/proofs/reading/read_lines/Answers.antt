use Rattle.std.proofs.Common.{◌<◌, arith, drop}
use Rattle.std.proofs.lemmas.Result.{err_from_is_err_and}
use Rattle.mesh_names.specs.Triangles.{size}
use Rattle.compat_check.specs.Meshes.{shape_of}
use Rattle.restart_file.proofs.Files.{none_read, one_read, line_refused}
use Rattle.restart_file.proofs.reading.read_lines.Goals as goal

pub loop-root-init : goal.loop-root-init
loop-root-init c = record { within = omega arith; so_far = none_read c.args.mesh.now c.args.bytes.now c.new-members.result.items c.new-members.ensures.items }

pub returns-in_err-place-clause-refused : goal.returns-in_err-place-clause-refused
returns-in_err-place-clause-refused c =
    let p = err_from_is_err_and c.from_residual.result c.from_residual.ensures.1 in
    let inside : c.loop-root.root < size (shape_of c.args.mesh.now) = let t = c.loop-root-test.true in let k = c.element_count-root-end.ensures.count in omega arith in
    rw (p.1, p.2) (line_refused c.args.mesh.now c.args.bytes.now (drop c.loop-root.place c.args.bytes.now) c.loop-root.members.items c.loop-root.root c.loop-root.invariant.so_far inside c.in_err-place.field-0.0 c.in_err-place.ensures.refused)

pub loop-root-preserved : goal.loop-root-preserved
loop-root-preserved c = record {
  within = c.in_ok-place.ensures.within;
  so_far = one_read c.args.mesh.now c.args.bytes.now (drop c.loop-root.place c.args.bytes.now) (drop c.in_ok-place.place c.args.bytes.now) c.loop-root.members.items c.read_line.new.members.items c.loop-root.root c.loop-root.invariant.so_far c.in_ok-place.ensures.ok;
}
