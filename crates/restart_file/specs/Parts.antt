-- What reading each part of a restart file answers.
use Rattle.std.specs.Prelude.{◌≡◌, ◌≢◌, ℕ, List, length, Ok, Err}
use Rattle.mesh_names.specs.Names.{Name}
use Rattle.mesh_names.specs.Triangles.{size}
use Rattle.mesh_names.specs.Forests.{Names, Has}
use Rattle.mesh_names.specs.Partners.{Across}
use Rattle.macro_file.specs.Meaning.{meaning}
use Rattle.macro_file.specs.Text.{macro_of}
use Rattle.macro_file.specs.declared.text.MacroText.{MacroText}
use Rattle.macro_file.specs.declared.refusal.MacroRefusal.TheVariants.{Memory as no_macro_memory}
use Rattle.compat_check.specs.Meshes.{Mesh, shape_of}
use Rattle.compat_check.specs.Checks.{IsCheckRefusal}
use Rattle.compat_check.specs.declared.refusal.CheckRefusal.{CheckRefusal}
use Rattle.compat_check.specs.declared.refusal.CheckRefusal.TheVariants.{Memory as no_check_memory}
use Rattle.restart_file.specs.Trees.{Tree, lines, members_from}
use Rattle.restart_file.specs.Refusals.{AreLow, HasHead, IsAlone, IsShort}
use Rattle.restart_file.specs.declared.refusal.RestartRefusal.{RestartRefusal}
use Rattle.restart_file.specs.declared.refusal.RestartRefusal.TheVariants.{BadHead, MacroShort, Macro, Check, Memory}

-- when the head line or the length of the macro part is refused
abbrev pub RefusesHead : List ℕ → RestartRefusal → Type 0
RefusesHead bytes BadHead = (m : ℕ) (rest : List ℕ) → HasHead bytes m rest → ⊥
RefusesHead bytes (MacroShort wanted found) = IsShort bytes wanted found
RefusesHead bytes other = ⊥

-- the part is read as a text that the check refuses
pub record IsRefusedText (part : List ℕ) (refusal : CheckRefusal) : Type 0 where
  pub text : MacroText
  pub read : meaning part ≡ Ok (macro_of text)
  pub fault : IsCheckRefusal text refusal
  pub cause : refusal ≢ no_check_memory

-- the refusal tells what the check refuses, want of memory as its own
abbrev pub TellsCheck : CheckRefusal → RestartRefusal → Type 0
TellsCheck refusal (Check told) = (told ≡ refusal) × (refusal ≢ no_check_memory)
TellsCheck refusal Memory = Unit {0}
TellsCheck refusal other = ⊥

-- when a macro part is refused
abbrev pub IsPartRefusal : List ℕ → RestartRefusal → Type 0
IsPartRefusal part (Macro refusal) = (meaning part ≡ Err refusal) × (refusal ≢ no_macro_memory)
IsPartRefusal part (Check refusal) = IsRefusedText part refusal
IsPartRefusal part Memory = Unit {0}
IsPartRefusal part other = ⊥

-- the bytes are a line for each macro element, and these are the members
pub record AreLinesRead (mesh : Mesh) (bytes : List ℕ) (members : List Name) : Type 0 where
  pub trees : List Tree
  pub each : length trees ≡ size (shape_of mesh)
  pub bytes_are : bytes ≡ lines trees
  pub members_are : members ≡ members_from 0 trees
  pub low : AreLow mesh members

-- each member's partner, if it has one, is a member
abbrev pub HoldsAllPartners : Across → Names → Type 0
HoldsAllPartners x members = (n : Name) → Has members n → IsAlone x members n → ⊥
