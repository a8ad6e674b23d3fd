use Rattle.std.proofs.Common.{take}
use Rattle.locate_point.specs.PlaceTexts.{IsPlacesText}
use Rattle.locate_point.proofs.writing.put_places.Given as goal

abbrev pub invariant-loop-point : goal.invariant-loop-point
invariant-loop-point l = IsPlacesText l.mesh l.leaves (take l.point-index l.points) l.text.items
