use Rattle.std.proofs.Common.{sym, ap, subst}
use Rattle.table_words.specs.Entries.{HasEntry}
use Rattle.table_words.specs.Places.{place_number}
use Rattle.mesh_table.specs.Sights.{Sight}
use Rattle.mesh_table.specs.Told.{mate_number}
use Rattle.table_rounds.specs.Patches.{spot}
use Rattle.table_rounds.proofs.sweeps.clear_words.Goals as goal

pub lead_older-requires-in-Some-clause-stands : goal.lead_older-requires-in-Some-clause-stands
lead_older-requires-in-Some-clause-stands c =
    let l = c.args.table.now.site.layout in
    let p = c.args.patch in
    (place_number l p.first, mate_number l p.second, subst (λ (z : Sight). HasEntry z.ruling.placed (spot l p)) (sym c.lead_older.ensures.still.same) c.requires.placed, ap (mate_number l) c.in-Some.is)
