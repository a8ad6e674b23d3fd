use Rattle.std.proofs.Common.{arith}
use Rattle.table_words.proofs.NameCodes.{parts_fit}
use Rattle.table_words.proofs.name_word.read_name.Goals as goal

pub overflow_cast-spelled : goal.overflow_cast-spelled
overflow_cast-spelled c = let low = (parts_fit c.args.word c.if-word-eq0.false c.requires).0 in omega arith

pub of_bits-requires : goal.of_bits-requires
of_bits-requires c = parts_fit c.args.word c.if-word-eq0.false c.requires
