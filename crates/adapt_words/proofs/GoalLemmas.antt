-- When a word gives a goal, and which.
use Rattle.std.proofs.Common.{◌≡◌, ℕ, ◌≤◌, Bool, true, false, cond, ◌&&◌, length, Some, None, refl, ap}
use Rattle.std.specs.Str.{all_ascii_digits}
use Rattle.std.specs.Str.Parse.{digits_value}
use Rattle.std.proofs.lemmas.Bool.{and_parts, leb-true, le-leb}
use Rattle.adapt_words.specs.Numbers.{Word}
use Rattle.adapt_words.specs.Rules.{is_goal, goal_in}

-- what a goal's word is
pub record IsGoal (word : Word) : Type 0 where
  pub digits : all_ascii_digits word ≡ true
  pub some : 1 ≤ length word
  pub few : length word ≤ 19
  pub small : digits_value 10 word ≤ 4611686018427387904

goal_facts : (word : Word) → is_goal word ≡ true → IsGoal word
goal_facts word e =
    let h = and_parts _ _ e in
    let f = and_parts _ _ h.0 in
    let s = and_parts _ _ f.0 in
    record {
      digits = s.0;
      some = leb-true 1 (length word) s.1;
      few = leb-true (length word) 19 f.1;
      small = leb-true (digits_value 10 word) 4611686018427387904 h.1;
    }

pub goal_none : (word : Word) → ¬ (IsGoal word) → goal_in word ≡ None
unfolding goal_in
goal_none word h = by (is_goal word) refl where
  by : (b : Bool) → is_goal word ≡ b → cond b (Some (digits_value 10 word)) None ≡ None
  by false e = refl
  by true e = absurd (h (goal_facts word e))

pub goal_some : (word : Word) → IsGoal word → goal_in word ≡ Some (digits_value 10 word)
unfolding goal_in
goal_some word h =
    ap (λ b. cond b (Some (digits_value 10 word)) None)
    (λ i. h.digits i && le-leb 1 (length word) h.some i && le-leb (length word) 19 h.few i && le-leb (digits_value 10 word) 4611686018427387904 h.small i)
