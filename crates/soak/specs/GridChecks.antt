-- The check of a grid.
use Rattle.std.specs.Prelude.{◌≡◌, ℕ, ◌≤◌}
use Rattle.macro_file.specs.declared.text.MacroText.{MacroText}
use Rattle.macro_file.specs.Text.{macro_of}
use Rattle.compat_check.specs.Checks.{IsCheckRefusal}
use Rattle.compat_check.specs.declared.refusal.CheckRefusal.{CheckRefusal}
use Rattle.compat_check.specs.declared.refusal.CheckRefusal.TheVariants.{Memory}
use Rattle.soak.specs.Grid.{grid}

-- the law that the check of a grid refuses nothing but for want of memory
abbrev pub GridsPass : Type 0
GridsPass = (g : ℕ) → 1 ≤ g → g ≤ 128 → (text : MacroText) → macro_of text ≡ grid g → (refusal : CheckRefusal) → IsCheckRefusal text refusal → refusal ≡ Memory
