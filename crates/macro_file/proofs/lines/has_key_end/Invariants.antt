use Rattle.std.proofs.Common.{◌≡◌, take}
use Rattle.std.specs.List.{list_any}
use Rattle.macro_file.specs.Walks.{ends_key}
use Rattle.macro_file.proofs.lines.has_key_end.Given as goal

abbrev pub invariant-loop-byte : goal.invariant-loop-byte
invariant-loop-byte l = l.found ≡ list_any ends_key (take l.byte-index l.bytes)
