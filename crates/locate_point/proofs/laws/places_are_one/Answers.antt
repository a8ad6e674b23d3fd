use Rattle.locate_point.proofs.Places.{places_are_one}
use Rattle.locate_point.proofs.laws.places_are_one.Goals as goal

pub returns : goal.returns
returns c = places_are_one
