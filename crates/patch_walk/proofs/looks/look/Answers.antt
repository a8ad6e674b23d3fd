use Rattle.std.proofs.Common.{ap, ◌∙◌}
use Rattle.table_words.specs.NameWords.{name_code}
use Rattle.table_words.specs.Places.{place_number}
use Rattle.mesh_table.specs.Sights.{setup_at}
use Rattle.patch_walk.specs.Looks.{reach}
use Rattle.mesh_table.specs.Told.{sight}
use Rattle.patch_walk.proofs.Falling.{arriving_reach, falls_by}
use Rattle.patch_walk.proofs.looks.look.Goals as goal

pub loop-place-smaller : goal.loop-place-smaller
loop-place-smaller c = let k = c.args.table.now.site in
    rw c.in-Some.is (falls_by c.read_next-place.result (sight c.read_next-place.new.pass) (sight c.read_born-born.new.seat) (sight c.loop-place.pass)
    (ap reach c.read_born-born.ensures.view ∙ arriving_reach (setup_at k) (place_number k.layout c.args.at) (name_code c.args.name) c.in-Some.block c.in-Some.second c.args.round c.read_born-born.result (sight c.loop-place.pass)) c.read_next-place.ensures.falls)
