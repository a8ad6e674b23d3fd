-- What the words say that have a macro file mended.
use Rattle.std.specs.Prelude.{List, codes, Option, option_and_then, option_map}
use Rattle.clap.specs.Words.{Row}
use Rattle.adapt_words.specs.Commands.{found_in, mend_app, word_of}
use Rattle.adapt_words.specs.Numbers.{Word}
use Rattle.adapt_words.specs.declared.mending.Mend.{Mend}

-- what the words say that have a macro file mended
pub record MendWords : Type 0 where
  pub macro_file : Word

-- the mending of a file
abbrev pub mend_from : Word → MendWords
mend_from macro_file = record { macro_file = macro_file }

-- the call that was found
abbrev pub mend_in : List Row → Option MendWords
mend_in rows = option_map mend_from (word_of (codes "macro") rows)

-- what the words say, where the first of them is `mend`
unfoldable pub mend_of : List Word → Option MendWords
mend_of words = option_and_then mend_in (found_in mend_app words)

-- what the answer of the code stands for
abbrev pub mend_said : Mend → MendWords
mend_said m = mend_from m.macro_file.now
