use Rattle.std.proofs.Common.{not}
use Rattle.mesh_names.specs.Forests.{Has}
use Rattle.compat_check.specs.Meshes.{across_in}
use Rattle.restart_file.specs.Kept.{set_of}
use Rattle.restart_file.proofs.Searching.{is_alone}
use Rattle.restart_file.proofs.Windowing.{turned_round}
use Rattle.restart_file.proofs.reading.is_alone.Goals as goal

pub returns-in-Some : goal.returns-in-Some
returns-in-Some c =
    let xs = c.args.members.now in let q = c.in-Some.partner in
    is_alone (across_in c.args.mesh.now) xs c.args.name q (not c.is_member.result) c.in-Some.ensures.partner
    (turned_round c.is_member.result (Has (set_of xs) q) c.is_member.ensures)
