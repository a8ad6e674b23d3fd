-- What a step does to the words of a table: it writes one of them, or none.
use Rattle.std.specs.Prelude.{ℕ}
use Rattle.table_words.specs.Functions.{update}
use Rattle.table_words.specs.Words.{Node, Words}

-- A write of one word, by its kind, its number and its new content. A LINK word is a claim bit and a node: a step writes the bit, the node, or both
pub data Write : Type 0 where
  WriteNothing : Write
  WriteRound : ℕ → ℕ → Write
  WriteCursor : ℕ → Write
  WriteFree : ℕ → Write
  WriteReleased : ℕ → ℕ → Write
  WriteRow : ℕ → ℕ → Write
  WriteClaim : ℕ → ℕ → Write
  WriteLink : ℕ → Node → Write
  WriteLinkAndClaim : ℕ → Node → ℕ → Write
  WriteHistory : ℕ → Node → Write
  WriteBorn : ℕ → ℕ → Write
  WriteDied : ℕ → ℕ → Write
  WriteName : ℕ → ℕ → Write

-- the words after a write
abbrev pub written : Words → Write → Words
written w WriteNothing = w
written w (WriteRound r t) = record w { round = r; taken = t }
written w (WriteCursor k) = record w { cursor = k }
written w (WriteFree k) = record w { free = k }
written w (WriteReleased q k) = record w { released = update w.released q k }
written w (WriteRow i k) = record w { row = update w.row i k }
written w (WriteClaim x k) = record w { claimed = update w.claimed x k }
written w (WriteLink x l) = record w { head = update w.head x l }
written w (WriteLinkAndClaim x l k) = record w { head = update w.head x l; claimed = update w.claimed x k }
written w (WriteHistory h l) = record w { history = update w.history h l }
written w (WriteBorn b k) = record w { born = update w.born b k }
written w (WriteDied b k) = record w { died = update w.died b k }
written w (WriteName h k) = record w { name = update w.name h k }
