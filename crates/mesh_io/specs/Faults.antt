-- Counts of faults, and calls that fail on purpose.
use Rattle.std.specs.Prelude.{◌≡◌, ℕ, ◌+◌, ◌-◌, ◌^◌, ◌<◌, ◌==◌, ◌⊎◌, Bool, true, false, cond, nat_lt, min, List, Option, Some, None}
use Rattle.std.specs.List.{list_any, list_all}

-- the count is greater now than before, or it was already at the end of its range
abbrev pub Rose : ℕ → ℕ → Type 0
Rose before now = (before < now) ⊎ (before ≡ 2 ^ 64 - 1)

-- which calls are to fail, counted from 1; the number of the next call, none past 2^64 - 1; and how many faults there were
pub record Plan : Type 0 where
  pub listed : List ℕ
  pub next : Option ℕ
  pub faults : ℕ

-- the plan before the first call
abbrev pub first_plan : List ℕ → Plan
first_plan listed = record { listed = listed; next = Some 1; faults = 0 }

-- whether a call of this number is listed
abbrev pub is_listed : List ℕ → Option ℕ → Bool
is_listed listed None = false
is_listed listed (Some number) = list_any (λ call. call == number) listed

-- whether the next call is to fail
abbrev pub fails_next : Plan → Bool
fails_next plan = is_listed plan.listed plan.next

-- whether all of these calls are before the call of this number
abbrev pub all_before : List ℕ → Option ℕ → Bool
all_before listed None = true
all_before listed (Some number) = list_all (λ call. nat_lt call number) listed

-- whether no listed call is still to come
abbrev pub is_over : Plan → Bool
is_over plan = all_before plan.listed plan.next

-- the number of the call after this one
abbrev pub number_after : Option ℕ → Option ℕ
number_after None = None
number_after (Some number) = cond (nat_lt (number + 1) (2 ^ 64)) (Some (number + 1)) None

-- the plan after one more call, which failed or not
abbrev pub after_call : Bool → Plan → Plan
after_call failed plan = record { listed = plan.listed; next = number_after plan.next; faults = cond failed (min (plan.faults + 1) (2 ^ 64 - 1)) plan.faults }
