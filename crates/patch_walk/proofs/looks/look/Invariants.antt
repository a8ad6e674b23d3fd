use Rattle.std.proofs.Common.{◌≡◌, ◌<◌, MatchOption, false}
use Rattle.table_words.specs.NameWords.{name_code}
use Rattle.table_words.specs.Places.{place_number}
use Rattle.table_words.specs.Views.{At}
use Rattle.patch_walk.specs.Looks.{Learned, Noted, left_to_read}
use Rattle.mesh_table.specs.Told.{Stays, sight}
use Rattle.patch_walk.proofs.looks.look.Given as goal

abbrev pub invariant-loop-place : goal.invariant-loop-place
invariant-loop-place l = record {
  stays : Stays l.fn.pass l.pass;
  learned : Learned (sight l.fn.pass) (sight l.pass);
  place : MatchOption l.place (Noted (sight l.pass) l.round (name_code l.name) false) (λ p. (p.0 < l.table.site.layout.pool) × ((sight l.pass).read.walk ≡ At (place_number l.table.site.layout l.at) (name_code l.name) p.0 p.1));
}

abbrev pub decreases-loop-place : goal.decreases-loop-place
decreases-loop-place l = left_to_read l.place (sight l.pass)
