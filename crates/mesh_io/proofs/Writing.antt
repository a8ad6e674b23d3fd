-- What a sink holds after one more part of a text.
use Rattle.std.proofs.Common.{◌≡◌, ℕ, ◌+◌, ◌-◌, ◌≤◌, ◌++◌, List, take, drop, length, arith, ap, ◌∙◌, sym, subst, append_assoc}
use Rattle.std.specs.Prelude.{Option, Some, None, IfSome}
use Rattle.std.proofs.lemmas.List.{length-take}
use Rattle.std.proofs.Math.Seq.{take-add}
use lib.Seq.{take-take}

-- a write of `count` bytes of a piece, after `at` bytes of the text
pub grown : (old now new : Option (List ℕ)) (text : List ℕ) (at end count : ℕ) → count ≤ length (take (end - at) (drop at text)) → IfSome old (λ held. now ≡ Some (held ++ take at text)) →
    IfSome now (λ held. new ≡ Some (held ++ take count (take (end - at) (drop at text)))) → IfSome old (λ held. new ≡ Some (held ++ take (at + count) text))
grown None now new text at end count h before write = tt
grown (Some held) now new text at end count h before write =
    let within : count ≤ end - at = omega (arith, length-take (end - at) (drop at text)) in
    let step : new ≡ Some ((held ++ take at text) ++ take count (take (end - at) (drop at text))) = subst (λ o. IfSome o (λ x. new ≡ Some (x ++ take count (take (end - at) (drop at text))))) before write in
    step
    ∙ ap Some (append_assoc held (take at text) (take count (take (end - at) (drop at text)))
    ∙ ap (λ rest. held ++ rest) (ap (λ rest. take at text ++ rest) (take-take count (end - at) (drop at text) within) ∙ sym (take-add at count text)))
