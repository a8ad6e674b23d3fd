-- A round with its pins and its word give each other.
use Rattle.std.proofs.Common.{◌≡◌, ◌/◌, ◌%◌, arith}
use Rattle.table_words.specs.Rounds.{round_word, RoundsRead, RoundsSpell}

pub rounds_read : RoundsRead
rounds_read r small =
    let a : round_word r / 4294967296 ≡ r.finished = omega arith in
    let b : round_word r % 4294967296 ≡ r.taken = omega arith in
    λ i. record { finished = a i; taken = b i }

pub rounds_spell : RoundsSpell
rounds_spell n = omega arith
