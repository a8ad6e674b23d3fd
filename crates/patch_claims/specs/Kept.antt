-- What the steps of one patch keep of the view of their pass.
use Rattle.std.specs.Prelude.{◌≡◌}
use Rattle.mesh_table.specs.Sights.{Sight}

-- nothing is learned of names
pub record SameWork (u v : Sight) : Type 0 where
  pub kind : v.kind ≡ u.kind
  pub half : v.work.half ≡ u.work.half
  pub round : v.work.round ≡ u.work.round
  pub number : v.work.number ≡ u.work.number
  pub plan : v.work.plan ≡ u.work.plan
  pub found : v.work.found ≡ u.work.found
  pub known : v.work.known ≡ u.work.known
  pub absent : v.work.absent ≡ u.work.absent

-- what a seat owns may change, and nothing else
pub record SureOnly (u v : Sight) : Type 0 where
  pub kind : v.kind ≡ u.kind
  pub claims : v.claims ≡ u.claims
  pub work : v.work ≡ u.work
  pub saw : v.saw ≡ u.saw
