-- How large the numbers of a macro text may be.
use Rattle.std.specs.Prelude.{◌≡◌, ℕ, ℤ, pos, neg_ℤ, nat_abs, ◌≤◌, ◌≤ℤ◌, ◌^◌, Bool, false, List, [], ◌∷◌, All}
use Rattle.macro_file.specs.declared.keyword.Keyword.{Keyword}
use Rattle.macro_file.specs.declared.keyword.Keyword.TheVariants.{Dim, DimOfWorld, VertexCount, ElementCount, Coordinates, Triples, Labels, Neighbours, VertexValues, ElementValues}

-- z is at most this much in size
abbrev pub AtMost : ℕ → ℤ → Type 0
AtMost limit z = nat_abs z ≤ limit

-- z lies between two bounds
abbrev pub Between : ℤ → ℤ → ℤ → Type 0
Between least greatest z = (least ≤ℤ z) × (z ≤ℤ greatest)

-- what the numbers of a key may be
abbrev pub InRange : Keyword → ℤ → Type 0
InRange Dim z = Between (pos 2) (pos 2) z
InRange DimOfWorld z = Between (pos 2) (pos 2) z
InRange VertexCount z = Between (pos 1) (pos 65535) z
InRange ElementCount z = Between (pos 1) (pos 65535) z
InRange Coordinates z = AtMost 4096000000000000000 z
InRange Triples z = Between (pos 0) (pos 65535) z
InRange Labels z = Between (neg_ℤ (pos 128)) (pos 127) z
InRange Neighbours z = Between (neg_ℤ (pos 1)) (pos 65535) z
InRange VertexValues z = AtMost (2 ^ 31) z
InRange ElementValues z = AtMost (2 ^ 55) z

-- a list of three a row that was not given holds 0
abbrev pub ZeroUnless : {A : Type 0} → Bool → List A → (A → List ℤ) → Type 0
ZeroUnless given items row = given ≡ false → All (λ x. row x ≡ pos 0 ∷ pos 0 ∷ pos 0 ∷ []) items
