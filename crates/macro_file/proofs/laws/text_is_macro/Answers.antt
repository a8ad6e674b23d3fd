use Rattle.macro_file.proofs.Texts.{text_is_macro}
use Rattle.macro_file.proofs.laws.text_is_macro.Goals as goal

pub returns : goal.returns
returns c = text_is_macro
