-- The order of names is total, and only equal names tie.
use Rattle.std.specs.Prelude.{◌≡◌, ℕ, ◌+◌, ◌*◌, Bool, true, false, reverse, refl}
use Rattle.std.proofs.Common.{sym, ap, ◌∙◌}
use Rattle.std.proofs.lemmas.List.{reverse-reverse}
use Rattle.std.specs.Cmp.{IsTotalOrder, then_total, on_total, nat_cmp_total, bool_cmp_total}
use Rattle.std.specs.Cmp.Lexicographic.{slice_cmp, lists_total}
use Rattle.std.specs.FinSet.{IsAntisymmetric, nat_cmp-IsAntisymmetric, slice_cmp-IsAntisymmetric}
use Rattle.std.specs.Ordering.{nat_cmp, bool_cmp, ordering_then}
use Rattle.std.specs.declared.cmp.Ordering.{Ordering}
use Rattle.std.specs.declared.cmp.Ordering.TheVariants.{Less, Equal, Greater}
use Rattle.mesh_names.specs.Names.{Name, name_cmp}

-- an index, a word at the front of 24 bits, and its length, as one number
abbrev pub ranked : ℕ → ℕ → ℕ → ℕ
ranked root front level = (root * 16777216 + front) * 32 + level

-- the order is total
pub name_cmp_total : IsTotalOrder name_cmp
name_cmp_total = then_total (on_total (λ (n : Name). n.0) nat_cmp_total) (on_total (λ (n : Name). reverse n.1) (lists_total bool_cmp_total))

bool_cmp-same : (a b : Bool) → bool_cmp a b ≡ Equal → a ≡ b
bool_cmp-same false false e = refl
bool_cmp-same false true e = absurd (cc)
bool_cmp-same true false e = absurd (cc)
bool_cmp-same true true e = refl

both_tie : (r s : Ordering) → ordering_then r s ≡ Equal → (r ≡ Equal) × (s ≡ Equal)
both_tie Less s e = absurd (cc)
both_tie Equal s e = (refl, e)
both_tie Greater s e = absurd (cc)

-- names that tie are equal
pub name_cmp-same : IsAntisymmetric name_cmp
name_cmp-same m n e =
    let t = both_tie (nat_cmp m.0 n.0) (slice_cmp bool_cmp (reverse m.1) (reverse n.1)) e in
    let roots : m.0 ≡ n.0 = nat_cmp-IsAntisymmetric m.0 n.0 t.0 in
    let turned : reverse m.1 ≡ reverse n.1 = slice_cmp-IsAntisymmetric bool_cmp-same (reverse m.1) (reverse n.1) t.1 in
    let words : m.1 ≡ n.1 = sym (reverse-reverse m.1) ∙ ap reverse turned ∙ reverse-reverse n.1 in
    λ i. (roots i, words i)
