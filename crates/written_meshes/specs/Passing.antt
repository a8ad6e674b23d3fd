-- A written text is accepted.
use Rattle.std.specs.Prelude.{◌≡◌, ◌<◌, ℕ, ℤ, pos, List, length}
use Rattle.macro_file.specs.declared.text.MacroText.{MacroText}
use Rattle.mesh_names.specs.Names.{Name}
use Rattle.mesh_names.specs.Forests.{Names}
use Rattle.compat_check.specs.Checks.{IsCheckRefusal}
use Rattle.compat_check.specs.Meshes.{Mesh}
use Rattle.compat_check.specs.declared.refusal.CheckRefusal.{CheckRefusal}
use Rattle.compat_check.specs.declared.refusal.CheckRefusal.TheVariants.{Memory}
use Rattle.written_meshes.specs.Renaming.{leaf_at}
use Rattle.written_meshes.specs.WrittenTexts.{IsWrittenText, area}

-- no leaf is flat
abbrev pub NoLeafIsFlat : Mesh → List Name → Type 0
NoLeafIsFlat mesh list = (i : ℕ) → i < length list → area mesh (leaf_at list i) ≡ pos 0 → ⊥

-- the law that the check refuses a written text in which no leaf is flat only where memory runs out
abbrev pub WrittenPasses : Type 0
WrittenPasses = (mesh : Mesh) (members : Names) (list : List Name) (vertex_values element_values : List ℤ) (text : MacroText) →
    IsWrittenText mesh members list vertex_values element_values text →
    NoLeafIsFlat mesh list → (refusal : CheckRefusal) → IsCheckRefusal text refusal → refusal ≡ Memory
