-- What a seat knows, in one record, and the views by parts.
use Rattle.std.specs.Prelude.{ℕ, List, [], slice_index_or, false}
use Rattle.compat_check.specs.Meshes.{shape_of, across_in}
use Rattle.table_words.specs.Claims.{Claim}
use Rattle.table_words.specs.Setup.{Setup, setup_of}
use Rattle.table_words.specs.Views.{no_plan, Work, Owned, owns_nothing, Read, unread, Ruling, Views, Vacant, Owner, Resting, Kind}
use Rattle.table_state.specs.Fresh.{idle, blank, fresh_owned, fresh_views}
use Rattle.mesh_table.specs.Saw.{Saw}
use Rattle.mesh_table.specs.declared.rule.Site.{Site}

pub record Sight : Type 0 where
  pub kind : Kind
  pub claims : List Claim
  pub work : Work
  pub owned : Owned
  pub read : Read
  pub ruling : Ruling
  -- what its steps found, the newest first
  pub saw : List Saw

-- the ruling of a seat that is not the owner's
abbrev pub no_ruling : Ruling
no_ruling = record {
  phase = Resting;
  finished = 0;
  history = [];
  plan = no_plan;
  workers = 0;
  readers = 0;
  early = 0;
  lone = false;
  left = [];
  drained = [];
  hand = [];
  cursor = 0;
  free = 0;
  low = 0;
  high = 0;
  retired = [];
  kept = [];
  placed = [];
  rolled_back = [];
  seen = 0;
  quiet = false;
}

-- a seat that was joined, or never made
abbrev pub nobody : Sight
nobody = record { kind = Vacant; claims = []; work = idle; owned = owns_nothing; read = unread; ruling = no_ruling; saw = [] }

-- the owner's seat at a fresh table
abbrev pub owner_sight : Site → Sight
owner_sight k = record {
  kind = Owner;
  claims = [];
  work = idle;
  owned = fresh_owned k.layout.pool 0;
  read = blank [];
  ruling = (fresh_views k.layout.pool).ruling;
  saw = [];
}

abbrev pub seat_at : List Sight → ℕ → Sight
seat_at vs j = slice_index_or vs j nobody

-- the views by parts
abbrev pub views_of : (ℕ → Sight) → Views
views_of f = record {
  kind = λ j. (f j).kind;
  claims = λ j. (f j).claims;
  work = λ j. (f j).work;
  owned = λ j. (f j).owned;
  read = λ j. (f j).read;
  ruling = (f 0).ruling;
}

-- what the rule knows of the site
abbrev pub setup_at : Site → Setup
setup_at k = setup_of (shape_of k.mesh.now) (across_in k.mesh.now) k.layout k.passes
