-- The records that a reader of bytes has still to give.
use Rattle.std.specs.Prelude.{◌≡◌, ℕ, ◌+◌, List, [], length, Option, Some, None, IsSome, true}
use Rattle.csv.specs.Reading.{Ready, default_config, records_from, source_of}
use Rattle.csv.specs.declared.parser.State.{State}
use Rattle.csv.specs.declared.reader.Reader.{Reader}
use Rattle.csv.specs.declared.reader.Trim.TheVariants as trim
use Rattle.mark_file.specs.Rows.{Record}
use denote.Bor.{Bor}

-- a reader that reads from bytes
abbrev pub BytesReader : Type 0
BytesReader = Reader (Bor (List ℕ))

-- the bytes that it has left, where no read failed
abbrev pub bytes_left : BytesReader → Option (List ℕ)
bytes_left reader = source_of (λ s. Some s.now) reader

-- no read has failed, and each read gives the next record as it stands, of any length
pub record IsSteady (reader : BytesReader) : Type 0 where
  pub untrimmed : reader.trim ≡ trim.None
  pub ready : Ready reader
  pub plain : reader.config ≡ default_config
  pub flexible : reader.flexible ≡ true
  pub known : IsSome (bytes_left reader)

-- the records of known bytes from a state of `csv`; more turns than there can be records
abbrev pub records_in : State → Option (List ℕ) → List Record
records_in state None = []
records_in state (Some bytes) = records_from default_config (length bytes + 2) state bytes

-- the records that are still to come
abbrev pub unread : BytesReader → List Record
unread reader = records_in reader.state (bytes_left reader)
