-- How a corner is spelled.
use Rattle.std.specs.Prelude.{◌≡◌, ◌↔◌, ℕ, ◌+◌, ◌<◌, [], ◌∷◌, ◌++◌, Some}
use Rattle.mesh_names.specs.Names.{Name}
use Rattle.mesh_names.specs.Spelling.{Spells}
use Rattle.mesh_names.specs.declared.rows.Place.TheVariants.{Corner}
use Rattle.mark_file.specs.Fields.{Field, corner_in}

-- the field is the spelling of the corner: that of its element, a `/` and 0, 1 or 2
pub record SpellsCorner (field : Field) (n : Name) (k : ℕ) : Type 0 where
  pub element : Field
  pub spells : Spells element n
  pub field_is : field ≡ element ++ 47 ∷ (48 + k) ∷ []
  pub within : k < 3

-- the law that a field gives the corner whose spelling it is, and no other
abbrev pub CornersTell : Type 0
CornersTell = (field : Field) (n : Name) (k : ℕ) → ((corner_in field ≡ Some (Corner n k)) ↔ SpellsCorner field n k)
