-- Kinds of seat and phases: each is one of its cases, and the order of phases.
use Rattle.std.proofs.Common.{◌≡◌, ℕ, ◌<◌, ◌≤◌, Bool, true, false, refl, ap, arith}
use native.Mathlib.Decide.{ℕ_discrete}
use Rattle.mesh_names.specs.Names.{digit}
use Rattle.table_words.specs.Views.{Kind, Vacant, Worker, Reader, Owner, is_worker, is_reader, Phase, Resting, FirstHalf, SecondHalf, Closing, RollingBack, order, Precedes}

pub kind_discrete : (a b : Kind) → Dec (a ≡ b)
kind_discrete Vacant Vacant = yes refl
kind_discrete Vacant Worker = no (λ e. cc)
kind_discrete Vacant Reader = no (λ e. cc)
kind_discrete Vacant Owner = no (λ e. cc)
kind_discrete Worker Vacant = no (λ e. cc)
kind_discrete Worker Worker = yes refl
kind_discrete Worker Reader = no (λ e. cc)
kind_discrete Worker Owner = no (λ e. cc)
kind_discrete Reader Vacant = no (λ e. cc)
kind_discrete Reader Worker = no (λ e. cc)
kind_discrete Reader Reader = yes refl
kind_discrete Reader Owner = no (λ e. cc)
kind_discrete Owner Vacant = no (λ e. cc)
kind_discrete Owner Worker = no (λ e. cc)
kind_discrete Owner Reader = no (λ e. cc)
kind_discrete Owner Owner = yes refl

-- each phase is told from the others by its order
pub order_tells : (a b : Phase) → order a ≡ order b → a ≡ b
order_tells Resting Resting e = refl
order_tells Resting FirstHalf e = absurd (omega arith)
order_tells Resting SecondHalf e = absurd (omega arith)
order_tells Resting Closing e = absurd (omega arith)
order_tells Resting RollingBack e = absurd (omega arith)
order_tells FirstHalf Resting e = absurd (omega arith)
order_tells FirstHalf FirstHalf e = refl
order_tells FirstHalf SecondHalf e = absurd (omega arith)
order_tells FirstHalf Closing e = absurd (omega arith)
order_tells FirstHalf RollingBack e = absurd (omega arith)
order_tells SecondHalf Resting e = absurd (omega arith)
order_tells SecondHalf FirstHalf e = absurd (omega arith)
order_tells SecondHalf SecondHalf e = refl
order_tells SecondHalf Closing e = absurd (omega arith)
order_tells SecondHalf RollingBack e = absurd (omega arith)
order_tells Closing Resting e = absurd (omega arith)
order_tells Closing FirstHalf e = absurd (omega arith)
order_tells Closing SecondHalf e = absurd (omega arith)
order_tells Closing Closing e = refl
order_tells Closing RollingBack e = absurd (omega arith)
order_tells RollingBack Resting e = absurd (omega arith)
order_tells RollingBack FirstHalf e = absurd (omega arith)
order_tells RollingBack SecondHalf e = absurd (omega arith)
order_tells RollingBack Closing e = absurd (omega arith)
order_tells RollingBack RollingBack e = refl

pub phase_discrete : (a b : Phase) → Dec (a ≡ b)
phase_discrete a b = elim (ℕ_discrete (order a) (order b)) [
  | yes e ↦ yes (order_tells a b e)
  | no o ↦ no (λ e. o (ap order e))
]

-- a seat of a kind is counted among that kind, and no other
pub worker_is : (k : Kind) → k ≡ Worker → digit (is_worker k) ≡ 1
worker_is k e = ap (λ (x : Kind). digit (is_worker x)) e

pub worker_not : (k : Kind) → (k ≡ Worker → ⊥) → digit (is_worker k) ≡ 0
worker_not Vacant o = refl
worker_not Worker o = absurd (o refl)
worker_not Reader o = refl
worker_not Owner o = refl

pub reader_true : (k : Kind) → k ≡ Reader → is_reader k ≡ true
reader_true k e = ap is_reader e

pub reader_false : (k : Kind) → (k ≡ Reader → ⊥) → is_reader k ≡ false
reader_false Vacant o = refl
reader_false Worker o = refl
reader_false Reader o = absurd (o refl)
reader_false Owner o = refl

pub reader_is : (k : Kind) → k ≡ Reader → digit (is_reader k) ≡ 1
reader_is k e = ap digit (reader_true k e)

pub reader_not : (k : Kind) → (k ≡ Reader → ⊥) → digit (is_reader k) ≡ 0
reader_not k o = ap digit (reader_false k o)

-- a phase that is not the first stands after it
pub past_resting : (p : Phase) → (p ≡ Resting → ⊥) → Precedes Resting p
past_resting Resting o = absurd (o refl)
past_resting FirstHalf o = omega arith
past_resting SecondHalf o = omega arith
past_resting Closing o = omega arith
past_resting RollingBack o = omega arith

pub digit_low : (b : Bool) → digit b ≤ 1
digit_low true = omega arith
digit_low false = omega arith

pub digit_zero : (b : Bool) → digit b ≡ 0 → b ≡ false
digit_zero true e = absurd (omega arith)
digit_zero false e = refl
