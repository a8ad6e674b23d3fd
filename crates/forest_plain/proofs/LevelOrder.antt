-- Patches, level by level.
use Rattle.std.proofs.Common.{◌≡◌, ℕ, suc, ◌+◌, ◌-◌, arith, ◌<◌, Bool, true, false, refl, sym, ap, ◌∙◌, List, [], ◌∷◌, ◌++◌, take, length, filter, map, slice_index_or, append_assoc, eq-eqb}
use Rattle.std.proofs.lemmas.Bool.{ne_eqb}
use Rattle.std.specs.Prelude.{◌==◌}
use Rattle.std.proofs.lemmas.List.{map-append}
use Rattle.mesh_names.specs.Names.{Name}
use Rattle.mesh_names.specs.Triangles.{Shape, level}
use Rattle.mesh_names.specs.Partners.{Across}
use Rattle.mesh_names.specs.Patches.{patch_of}
use Rattle.mesh_names.specs.declared.patch.PatchName.{PatchName}
use Rattle.forest_plain.specs.Deltas.{patches_at, patches_down}
use Rattle.forest_plain.proofs.Filtering.{filter-kept, filter-skipped}

module _ (mesh : Shape) (across : Across) (l : ℕ) where
  is_at : Name → Bool
  is_at n = level mesh n == l

  pub level-kept : (owners : List Name) (first old new : List PatchName) (i : ℕ) (n d : Name) (now : ℕ) → i < length owners → n ≡ slice_index_or owners i d → now ≡ level mesh n → now ≡ l →
      old ≡ first ++ patches_at mesh across l (take i owners) → new ≡ old ++ patch_of across n ∷ [] → new ≡ first ++ patches_at mesh across l (take (i + 1) owners)
  unfolding is_at
  level-kept owners first old new i n d now low at is here was step =
      step
      ∙ (λ j. was j ++ patch_of across n ∷ [])
      ∙ append_assoc first (patches_at mesh across l (take i owners)) (patch_of across n ∷ [])
      ∙ ap (λ (ps : List PatchName). first ++ ps) (sym (map-append (patch_of across) (filter is_at (take i owners)) (n ∷ [])) ∙ ap (map (patch_of across)) (filter-kept is_at owners (filter is_at (take i owners)) (filter is_at (take i owners) ++ n ∷ []) i n d low at passes refl refl))
    where
      passes : is_at n ≡ true
      passes = eq-eqb (level mesh n) l (sym is ∙ here)

  pub level-skipped : (owners : List Name) (first old new : List PatchName) (i : ℕ) (n d : Name) (now : ℕ) → i < length owners → n ≡ slice_index_or owners i d → now ≡ level mesh n → (now ≡ l → ⊥) →
      old ≡ first ++ patches_at mesh across l (take i owners) → new ≡ old → new ≡ first ++ patches_at mesh across l (take (i + 1) owners)
  unfolding is_at
  level-skipped owners first old new i n d now low at is here was step =
      step ∙ was ∙ ap (λ (ps : List Name). first ++ map (patch_of across) ps) (filter-skipped is_at owners (filter is_at (take i owners)) (filter is_at (take i owners)) i n d low at fails refl refl)
    where
      fails : is_at n ≡ false
      fails = ne_eqb (level mesh n) l (λ e. here (is ∙ e))

-- one level more, from the greatest down
pub next_down : (mesh : Shape) (across : Across) (owners : List Name) (all old new : List PatchName) (above : ℕ) → above < 24 → old ++ patches_down mesh across (24 - above) owners ≡ all → new ≡ old ++ patches_at mesh across (23 - above) owners → new ++ patches_down mesh across (24 - (above + 1)) owners ≡ all
next_down mesh across owners all old new above h was step =
    (λ i. step i ++ patches_down mesh across (24 - (above + 1)) owners)
    ∙ append_assoc old (patches_at mesh across (23 - above) owners) (patches_down mesh across (24 - (above + 1)) owners)
    ∙ ap (λ (k : ℕ). old ++ (patches_at mesh across k owners ++ patches_down mesh across (24 - (above + 1)) owners)) same
    ∙ ap (λ (k : ℕ). old ++ patches_down mesh across k owners) (sym up)
    ∙ was
  where
    same : 23 - above ≡ 24 - (above + 1)
    same = omega arith

    up : 24 - above ≡ suc (24 - (above + 1))
    up = omega (arith, h)
