-- The way of an element to the head of its part.
use Rattle.std.proofs.Common.{◌≡◌, ℕ, ◌<◌, ◌≤◌, Bool, true, false, eqb, refl, sym, ap, ◌∙◌, subst, arith, eqb-true, true≢false, eq-eqb, rules}
use Rattle.std.specs.Prelude.{ℤ, pos, negsuc, ◌+ℤ◌, ◌-ℤ◌, ◌≤ℤ◌, MatchBool}
use Rattle.std.specs.Int.{w32}
use Rattle.std.proofs.lemmas.Int.{ints, to_z-of_z}
use mir.Val.{to_z, of_z, SFits}
use Rattle.compat_check.specs.Parts.{count, parent_of, rise_of, rank_of, Leads}
use Rattle.compat_check.specs.declared.parts.Parts.{Parts}
use Rattle.compat_check.proofs.Linking.{count_few}

module _ (n : ℕ) (few : n ≤ 65535) (parts : Parts) (head : ℕ → ℕ) (height : ℕ → ℤ) (leads : Leads n parts head height) where
  pub apart_low : (x y : ℕ) → x < n → y < n → head x ≡ head y → (negsuc 65534 ≤ℤ (height x -ℤ height y)) × ((height x -ℤ height y) ≤ℤ pos 65535)
  apart_low x y hx hy e =
      let one = leads.spread x y hx hy e in
      let two = leads.spread y x hy hx (sym e) in
      let few1 : pos (count head n (head y)) ≤ℤ pos 65535 = omega (arith, ints, count_few head n (head y), few) in
      let few2 : pos (count head n (head x)) ≤ℤ pos 65535 = omega (arith, ints, count_few head n (head x), few) in
      (omega (arith, ints, two, few2), omega (arith, ints, one, few1))

  -- one step up
  pub step_up : (e at p : ℕ) (h u : ℤ) → at < n → p ≡ parent_of parts at → u ≡ rise_of parts at → (p ≡ at → ⊥) → head at ≡ head e → height e ≡ h +ℤ height at → (p < n) × (head p ≡ head e) × (height e ≡ (h +ℤ u) +ℤ height p) × (rank_of parts at < rank_of parts p)
  step_up e at p h u hat is_p is_u ne same sum =
      let was = leads.below at hat (λ f. ne (is_p ∙ f)) in
      let known : (parent_of parts at < n) × (head (parent_of parts at) ≡ head e) × (height e ≡ (h +ℤ rise_of parts at) +ℤ height (parent_of parts at)) × (rank_of parts at < rank_of parts (parent_of parts at)) =
      (was.0, sym was.1 ∙ same, omega (arith, ints, sum, was.2), was.3) in
      subst (λ (y : ℕ × ℤ). (y.0 < n) × (head y.0 ≡ head e) × (height e ≡ (h +ℤ y.1) +ℤ height y.0) × (rank_of parts at < rank_of parts y.0)) (λ i. (sym is_p i, sym is_u i)) known

  -- the sum that a step makes
  pub step_fits : (e at p : ℕ) (h u : ℤ) → e < n → at < n → p ≡ parent_of parts at → u ≡ rise_of parts at → (p ≡ at → ⊥) → head at ≡ head e → height e ≡ h +ℤ height at → (negsuc 65534 ≤ℤ (h +ℤ u)) × ((h +ℤ u) ≤ℤ pos 65535)
  step_fits e at p h u he hat is_p is_u ne same sum =
      let up = step_up e at p h u hat is_p is_u ne same sum in
      let near = apart_low e p he up.0 (sym up.1) in
      (omega (arith, ints, near.0, up.2), omega (arith, ints, near.1, up.2))

  -- the way has come to the head
  pub at_top : (e at : ℕ) (h : ℤ) → at < n → parent_of parts at ≡ at → head at ≡ head e → height e ≡ h +ℤ height at → (at ≡ head e) × (h ≡ height e)
  at_top e at h hat top same sum = let own = leads.top at hat top in (sym own.0 ∙ same, omega (arith, ints, sum, own.1))

  pub small_at_top : (e at : ℕ) (h : ℤ) → e < n → at < n → head at ≡ head e → height e ≡ h +ℤ height at → (negsuc 65534 ≤ℤ h) × (h ≤ℤ pos 65535)
  small_at_top e at h he hat same sum = let near = apart_low e at he hat (sym same) in (omega (arith, ints, near.0, sum), omega (arith, ints, near.1, sum))

match_test : (P Q : Type 0) (b : Bool) → (b ≡ true → P) → (b ≡ false → Q) → MatchBool b P Q
match_test P Q true p q = p refl
match_test P Q false p q = q refl

pub zero_bits : (z : ℤ) → SFits w32 z → of_z w32 z ≡ 0 → z ≡ pos 0
zero_bits z f e = sym (to_z-of_z w32 z f) ∙ ap (to_z w32) e

pub match_zero : (P Q : Type 0) (z : ℤ) → SFits w32 z → (z ≡ pos 0 → P) → ((z ≡ pos 0 → ⊥) → Q) → MatchBool (eqb (of_z w32 z) 0) P Q
match_zero P Q z f p q = match_test P Q (eqb (of_z w32 z) 0) (λ h. p (zero_bits z f (eqb-true (of_z w32 z) 0 h))) (λ h. q (λ e. true≢false (sym (eq-eqb (of_z w32 z) 0 (ap (of_z w32) e)) ∙ h)))

pub fits_small : (z : ℤ) → negsuc 65534 ≤ℤ z → z ≤ℤ pos 65535 → SFits w32 z
fits_small z low high = search (rules, ints)
