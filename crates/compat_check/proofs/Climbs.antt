-- Walks up from a name by pairs of its letters.
use Rattle.std.proofs.Common.{◌≡◌, ℕ, ◌+◌, ◌*◌, ◌<◌, ◌≤◌, Bool, true, false, not, cond, List, [], ◌∷◌, ◌++◌, map, length, length-append, ◌-◌, ◌%◌, ◌^◌, refl, sym, ap, ◌∙◌, subst, arith, append_assoc, true≢false}
use Rattle.std.proofs.lemmas.List.{map-append, length-map}
use Rattle.std.proofs.Math.Pow.{pow_mono}
use Rattle.std.specs.Prelude.{Option, Some, None}
use mathlib.Core.Bool.{beq}
use Rattle.mesh_names.specs.Names.{Name, bits_of, depth, letters}
use Rattle.mesh_names.specs.Triangles.{Shape, grade_of, level}
use Rattle.mesh_names.specs.Partners.{Across, partner, half_partner}
use Rattle.compat_check.specs.Climbing.{Climbs, moved, lifted}
use Rattle.compat_check.proofs.Words.{bits_below, bits-append, bits-other, letters-bits}

lifted_none : (p : Option (Name × Bool)) → p ≡ lifted [] p
lifted_none None = refl
lifted_none (Some (m, true)) = refl
lifted_none (Some (m, false)) = refl

pub climb_here : (n : Name) → Climbs n n
climb_here n = record { passed = []; below = refl; tells = λ x. lifted_none (partner x n.0 n.1) }

other_of : (a b : Bool) → beq b a ≡ false → b ≡ not a
other_of true true e = absurd (true≢false e)
other_of true false e = refl
other_of false true e = refl
other_of false false e = absurd (true≢false e)

lifted_more : (v : List Bool) (c : Bool) (p : Option (Name × Bool)) → lifted v (half_partner c p) ≡ lifted (v ++ c ∷ not c ∷ []) p
lifted_more v c None = refl
lifted_more v true (Some (m, true)) = λ i. Some ((m.0, (sym (append_assoc (map not v) (false ∷ true ∷ []) m.1) ∙ ap (λ u. u ++ m.1) (sym (map-append not v (true ∷ false ∷ [])))) i), true)
lifted_more v false (Some (m, true)) = λ i. Some ((m.0, (sym (append_assoc (map not v) (true ∷ false ∷ []) m.1) ∙ ap (λ u. u ++ m.1) (sym (map-append not v (false ∷ true ∷ [])))) i), true)
lifted_more v true (Some (m, false)) = λ i. Some ((m.0, sym (append_assoc v (true ∷ false ∷ []) m.1) i), false)
lifted_more v false (Some (m, false)) = λ i. Some ((m.0, sym (append_assoc v (false ∷ true ∷ []) m.1) i), false)

-- two letters that differ are passed
pub climb_on : (n m p a : Name) (c b : Bool) → Climbs n m → m ≡ (p.0, c ∷ p.1) → p ≡ (a.0, b ∷ a.1) → beq b c ≡ false → Climbs n a
climb_on n m p a c b h last before differ =
    let whole : m ≡ (a.0, c ∷ not c ∷ a.1) = last ∙ (λ i. ((before i).0, c ∷ (before i).1)) ∙ (λ i. (a.0, c ∷ other_of c b differ i ∷ a.1)) in
    record {
      passed = h.passed ++ c ∷ not c ∷ [];
      below = h.below ∙ (λ i. ((whole i).0, h.passed ++ (whole i).1)) ∙ (λ i. (a.0, sym (append_assoc h.passed (c ∷ not c ∷ []) a.1) i));
      tells = λ x. h.tells x ∙ (λ i. lifted h.passed (partner x (whole i).0 (whole i).1)) ∙ ap (lifted h.passed) (turn x c) ∙ lifted_more h.passed c (partner x a.0 a.1);
    }
  where
    turn : (x : Across) (c : Bool) → partner x a.0 (c ∷ not c ∷ a.1) ≡ half_partner c (partner x a.0 a.1)
    turn x true = refl
    turn x false = refl

-- how many letters were passed, and their bits
pub passed_is : (n m : Name) (v : List Bool) → n ≡ (m.0, v ++ m.1) → depth n ≤ 24 → (depth n - depth m ≡ length v) × (bits_of n.1 ≡ bits_of m.1 * 2 ^ length v + bits_of v) × ((bits_of m.1 * 2 ^ length v) % 4294967296 ≡ bits_of m.1 * 2 ^ length v)
passed_is n m v e low =
    let long : depth n ≡ length v + depth m = ap depth e ∙ length-append v m.1 in
    let whole : bits_of n.1 ≡ bits_of m.1 * 2 ^ length v + bits_of v = ap (λ (y : Name). bits_of y.1) e ∙ bits-append v m.1 in
    let small = bits_below n.1 in
    let power : 2 ^ depth n ≤ 2 ^ 24 = pow_mono low in
    let some : bits_of m.1 * 2 ^ length v < 4294967296 = omega arith in
    (omega arith, whole, omega arith)

pub passed_long : (n m : Name) (v : List Bool) → n ≡ (m.0, v ++ m.1) → depth n ≡ length v + depth m
passed_long n m v e = ap depth e ∙ length-append v m.1

-- the same of values that are known to be these
pub passed_by : (n m : Name) (v : List Bool) (dn dm bn bm : ℕ) → n ≡ (m.0, v ++ m.1) → dn ≡ depth n → dn ≤ 24 → dm ≡ depth m → bn ≡ bits_of n.1 → bm ≡ bits_of m.1 → (dn - dm ≡ length v) × ((bm * 2 ^ (dn - dm)) % 4294967296 ≤ bn) × (bn - (bm * 2 ^ (dn - dm)) % 4294967296 ≡ bits_of v)
passed_by n m v dn dm bn bm e hn low hm kn km =
    let is = passed_is n m v e (omega arith) in
    let long : dn - dm ≡ length v = (λ i. hn i - hm i) ∙ is.0 in
    let front : (bm * 2 ^ (dn - dm)) % 4294967296 ≡ bits_of m.1 * 2 ^ length v = (λ i. (km i * 2 ^ long i) % 4294967296) ∙ is.2 in
    let whole : bn ≡ bits_of m.1 * 2 ^ length v + bits_of v = kn ∙ is.1 in
    (long, omega arith, omega arith)

turned-length : (v : List Bool) (t : Bool) → length (cond t (map not v) v) ≡ length v
turned-length v true = length-map v not
turned-length v false = refl

turned-bits : (v : List Bool) (t : Bool) → bits_of (cond t (map not v) v) ≡ cond t (2 ^ length v - 1 - bits_of v) (bits_of v)
turned-bits v true = let a = bits-other v in omega arith
turned-bits v false = refl

-- the length and the bits of the name that is moved
pub moved_is : (v : List Bool) (t : Bool) (m : Name) → depth m + length v ≤ 24 → (depth m + length v ≡ length (moved v t m).1) × ((bits_of m.1 * 2 ^ length v) % 4294967296 + cond t (2 ^ length v - 1 - bits_of v) (bits_of v) ≡ bits_of (moved v t m).1)
moved_is v t m low =
    let w = cond t (map not v) v in
    let long : length (w ++ m.1) ≡ length v + depth m = length-append w m.1 ∙ ap (λ (k : ℕ). k + depth m) (turned-length v t) in
    let whole : bits_of (w ++ m.1) ≡ bits_of m.1 * 2 ^ length v + cond t (2 ^ length v - 1 - bits_of v) (bits_of v) =
    bits-append w m.1 ∙ (λ i. bits_of m.1 * 2 ^ turned-length v t i + turned-bits v t i) in
    let small = bits_below (w ++ m.1) in
    let fit : length (w ++ m.1) ≤ 24 = omega arith in
    let power : 2 ^ length (w ++ m.1) ≤ 2 ^ 24 = pow_mono fit in
    let some : bits_of m.1 * 2 ^ length v < 4294967296 = omega arith in
    (omega arith, omega arith)

-- the same of values that are known to be these
pub moved_by : (v : List Bool) (t : Bool) (m : Name) (l x d b y : ℕ) → l ≡ length v → x ≡ bits_of v → d ≡ depth m → b ≡ bits_of m.1 → y ≡ cond t (2 ^ l - 1 - x) x → depth m + l ≤ 24 → (d + l ≡ length (moved v t m).1) × ((b * 2 ^ l) % 4294967296 + y ≡ bits_of (moved v t m).1)
moved_by v t m l x d b y hl hx hd hb hy low =
    let whole = moved_is v t m (omega arith) in
    ((λ i. hd i + hl i) ∙ whole.0, (λ i. (hb i * 2 ^ hl i) % 4294967296 + (hy ∙ (λ j. cond t (2 ^ hl j - 1 - hx j) (hx j))) i) ∙ whole.1)

-- which is spelled by them
pub moved_spelled : (v : List Bool) (t : Bool) (m : Name) (d b : ℕ) → d ≡ length (moved v t m).1 → b ≡ bits_of (moved v t m).1 → letters d b ≡ (moved v t m).1
moved_spelled v t m d b hd hb = (λ i. letters (hd i) (hb i)) ∙ letters-bits (moved v t m).1

pub moved_small : (v : List Bool) (t : Bool) (m : Name) (d b : ℕ) → d ≡ length (moved v t m).1 → b ≡ bits_of (moved v t m).1 → b < 2 ^ d
moved_small v t m d b hd hb = subst (λ (p : ℕ × ℕ). p.0 < 2 ^ p.1) (λ i. (sym hb i, sym hd i)) (bits_below (moved v t m).1)

-- a name that is moved to a partner of the name above is no longer than the level
pub moved_low : (mesh : Shape) (n m o : Name) (v : List Bool) → n ≡ (m.0, v ++ m.1) → level mesh o ≡ level mesh m → level mesh n ≤ 24 → depth o + depth n ≤ 24 + depth m
moved_low mesh n m o v e same low =
    let grade : grade_of mesh n.0 ≡ grade_of mesh m.0 = ap (λ (y : Name). grade_of mesh y.0) e in
    omega arith

pub same_root : (n m : Name) (v : List Bool) (k : ℕ) → n ≡ (m.0, v ++ m.1) → n.0 < k → m.0 < k
same_root n m v k e h = subst (λ (y : Name). y.0 < k) e h
