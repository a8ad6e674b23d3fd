use Rattle.std.proofs.Common.{◌≡◌, ◌-◌, ◌/◌, ◌^◌}
use Rattle.mesh_names.specs.Names.{letters, bits_of, depth}
use Rattle.table_words.specs.Entries.{HasEntry}
use Rattle.table_words.specs.Layout.{IsElemAt}
use Rattle.table_words.specs.NameWords.{name_code}
use Rattle.table_words.specs.Places.{place_number}
use Rattle.mesh_table.specs.Told.{Stays, sight}
use Rattle.patch_walk.specs.Wiser.{Wiser}
use Rattle.patch_claims.specs.Needs.{HasPublished}
use Rattle.patch_claims.proofs.descents.descend.Given as goal

abbrev pub invariant-loop-depth : goal.invariant-loop-depth
invariant-loop-depth l = record {
  stays : Stays l.fn.pass l.pass;
  wiser : Wiser (sight l.fn.pass) (sight l.pass);
  published : HasPublished (sight l.fn.pass) (sight l.pass) 0;
  place : IsElemAt l.table.site.layout l.at;
  above : l.above ≡ (l.name.0, letters l.depth (bits_of l.name.1 / 2 ^ (depth l.name - l.depth)));
  found : HasEntry (sight l.pass).work.found (place_number l.table.site.layout l.at, name_code l.above);
}
