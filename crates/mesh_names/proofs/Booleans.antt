-- Tests that hold, and tests that do not.
use Rattle.std.proofs.Common.{◌≡◌, Bool, true, false, not, ◌&&◌, true≢false, refl, sym, ap}
use Rattle.std.specs.FinSet.{contains, retain, difference, contains-retain, contains-difference}
use Rattle.mesh_names.specs.Names.{Name}
use Rattle.mesh_names.specs.Order.{name_cmp_total, name_cmp-same}
use Rattle.mesh_names.specs.Forests.{Names}

pub and_both : (a b : Bool) → (a && b) ≡ true → (a ≡ true) × (b ≡ true)
and_both true b e = (refl, e)
and_both false b e = absurd (true≢false (sym e))

pub and-both : (a b : Bool) → a ≡ true → b ≡ true → (a && b) ≡ true
and-both a b p q = λ i. p i && q i

pub not-true : (a : Bool) → a ≡ false → not a ≡ true
not-true a e = ap not e

pub true-not : (a : Bool) → not a ≡ true → a ≡ false
true-not true e = absurd (true≢false (sym e))
true-not false e = refl

pub not_true : (b : Bool) → (b ≡ true → ⊥) → b ≡ false
not_true true f = absurd (f refl)
not_true false f = refl

-- what a retained set holds
pub retained : (s : Names) (f : Name → Bool) (q : Name) → contains (retain s f) q ≡ (contains s q && f q)
retained s f q = contains-retain s f q (λ y e. ap f (sym (name_cmp-same q y e)))

-- what is left of a set without another
pub left : (s t : Names) (q : Name) → contains (difference s t) q ≡ (contains s q && not (contains t q))
left s t q = contains-difference name_cmp_total s t q
