-- What the square's run reads is read from its words.
use Rattle.std.proofs.Common.{◌≡◌, ℕ, ◌+◌, [], ◌↔◌, sym, ◌∙◌, arith}
use Rattle.mesh_names.specs.Squares.{square}
use Rattle.mesh_names.specs.Validity.{across_of}
use Rattle.mesh_names.proofs.Squares.{squares_fit}
use Rattle.table_words.specs.NameWords.{name_code}
use Rattle.table_reading.specs.Reading.{StandsAt, Bisects}
use Rattle.table_runs.specs.SquareRun.{SquareReads}
use Rattle.table_reading.proofs.Reading.{words_read}

pub square_reads : SquareReads
square_reads w q k (n, v, g, r, may, first, second) b = (of 0 first, of 1 second)
  where
    of : (i : ℕ) → g.who q (name_code (i, [])) ≡ k → ((x : ℕ) × StandsAt w 2 q i [] x × Bisects w q x (name_code (i, [])) b) ↔ (k ≡ b + 1)
    of i is = let t = words_read square (across_of square) (record { rounds = 4; elements = 2; pool = 1 }) 1 (squares_fit.0).2 w n v (g, r) q may (i, []) b in
        ((λ h. sym is ∙ (t.1 h).1), λ e. t.0 (omega arith, is ∙ e))
