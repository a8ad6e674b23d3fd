-- A reader's walk ends.
use Rattle.std.proofs.Common.{◌≡◌, ℕ, ◌+◌, ◌<◌, ltb, ◌&&◌, cond, Bool, true, false, Option, Some, None, IfSome, refl, arith}
use Rattle.table_words.specs.Setup.{Setup}
use Rattle.mesh_table.specs.Sights.{Sight}
use Rattle.patch_walk.specs.Looks.{reach, left_to_read}
use Rattle.mesh_table.specs.Told.{arriving_read, finding_read, passed_read}

-- a load of BORN leaves the measure
pub arriving_reach : (s : Setup) (x k b : ℕ) (t : Bool) (q n : ℕ) (v : Sight) → reach (arriving_read s x k b t q n v) ≡ reach v
arriving_reach s x k b t q n v = by (ltb 0 n && ltb n (q + 1))
  where
    by : (y : Bool) → reach (cond y (finding_read s v k b t q) (passed_read v x k b t)) ≡ reach v
    by true = refl
    by false = refl

pub falls_by : (r : Option (ℕ × Bool)) (v u w : Sight) → reach u ≡ reach w → IfSome r (λ p. reach v < reach u) → left_to_read r v < reach w + 1
falls_by None v u w e h = omega arith
falls_by (Some p) v u w e h = omega arith
