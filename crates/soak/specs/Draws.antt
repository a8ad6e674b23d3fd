-- Numbers that look random, and the mark that each stands for.
use Rattle.std.specs.Prelude.{ℕ, Bool, ◌+◌, ◌*◌, ◌%◌, ℤ, pos, neg_ℤ, cond, ltb, ◌&&◌, Option, Some, None}
use Rattle.mesh_names.specs.Marks.{bisections}

-- the generator's next state
abbrev pub next_state : ℕ → ℕ
next_state x = (75 * x + 74) % 65537

-- the number that a draw gives, of the state that it has led to
abbrev pub drawn : ℕ → ℕ
drawn x = x % 16

-- the mark that a number stands for: 1 for 0 and 1, 2 for 2, -1 for 3 to 5, and none for the others
abbrev pub mark_for : ℕ → Option ℤ
mark_for u = cond (ltb u 2) (Some (pos 1)) (cond (ltb u 3) (Some (pos 2)) (cond (ltb u 6) (Some (neg_ℤ (pos 1))) None))

-- the mark is above 0, and with the level more than 24
abbrev pub too_deep : ℕ → ℤ → Bool
too_deep level mark = ltb 0 (bisections mark) && ltb 24 (level + bisections mark)

abbrev pub unless_too_deep : ℕ → Option ℤ → Option ℤ
unless_too_deep level None = None
unless_too_deep level (Some mark) = cond (too_deep level mark) None (Some mark)

-- the mark of a leaf of this level for which this number is drawn
abbrev pub mark_at : ℕ → ℕ → Option ℤ
mark_at level u = unless_too_deep level (mark_for u)
