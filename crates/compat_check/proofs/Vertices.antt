-- Two vertices with the same numbers are one.
use Rattle.std.proofs.Common.{◌≡◌}
use Rattle.std.proofs.Props.{props}
use mathlib.Core.HLevel.{is_prop→PathP}
use Rattle.macro_file.specs.Limits.{AtMost}
use Rattle.macro_file.specs.declared.MacroVertex.{MacroVertex}

pub same_vertex : (a b : MacroVertex) → a.x ≡ b.x → a.y ≡ b.y → a.value ≡ b.value → a ≡ b
same_vertex a b p q r = λ i. record {
  x = p i;
  y = q i;
  value = r i;
  in_range = is_prop→PathP (λ j. AtMost 4096000000000000000 (p j) × AtMost 4096000000000000000 (q j) × AtMost 2147483648 (r j)) (λ j. hlevel props) a.in_range b.in_range i;
}
