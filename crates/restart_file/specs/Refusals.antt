-- When each refusal of a restart file comes: the causes are tried in the order of the refusals.
use Rattle.std.specs.Prelude.{◌≡◌, ◌≢◌, ℕ, ◌<◌, ◌≤◌, Bool, false, List, [], ◌∷◌, ◌++◌, length, Some, Ok, Err}
use Rattle.std.specs.FinSet.{contains}
use Rattle.std.specs.declared.cmp.Ordering.TheVariants.{Less}
use Rattle.mesh_names.specs.Names.{Name, name_cmp}
use Rattle.mesh_names.specs.Triangles.{size, level}
use Rattle.mesh_names.specs.Forests.{Names, Has}
use Rattle.mesh_names.specs.Partners.{Across, partner}
use Rattle.macro_file.specs.Meaning.{meaning}
use Rattle.macro_file.specs.Text.{macro_of}
use Rattle.macro_file.specs.declared.text.MacroText.{MacroText}
use Rattle.macro_file.specs.declared.refusal.MacroRefusal.{MacroRefusal}
use Rattle.macro_file.specs.declared.refusal.MacroRefusal.TheVariants.{Memory as no_macro_memory}
use Rattle.compat_check.specs.Meshes.{Mesh, shape_of, across_in}
use Rattle.compat_check.specs.Checks.{IsCheckRefusal}
use Rattle.compat_check.specs.declared.refusal.CheckRefusal.{CheckRefusal}
use Rattle.compat_check.specs.declared.refusal.CheckRefusal.TheVariants.{Memory as no_check_memory}
use Rattle.restart_file.specs.Kept.{set_of}
use Rattle.restart_file.specs.Trees.{Tree, word, bisected, lines, members_from}
use Rattle.restart_file.specs.Files.{part_limit, head_line, with_part, IsPart}
use Rattle.restart_file.specs.declared.refusal.RestartRefusal.{RestartRefusal}
use Rattle.restart_file.specs.declared.refusal.RestartRefusal.TheVariants.{BadHead, MacroShort, Macro, Check, BadWord, TooDeep, LeftOver, NotConforming, Memory}

-- the file begins with the head line of a macro part of m bytes
pub record HasHead (bytes : List ℕ) (m : ℕ) (rest : List ℕ) : Type 0 where
  pub few : m ≤ part_limit
  pub bytes_are : bytes ≡ head_line m ++ rest

-- fewer bytes follow the head line than it says
pub record IsShort (bytes : List ℕ) (wanted found : ℕ) : Type 0 where
  pub rest : List ℕ
  pub head : HasHead bytes wanted rest
  pub told : found ≡ length rest
  pub short : found < wanted

-- the file begins with the head line and all bytes of its macro part
pub record HasPart (bytes part rest : List ℕ) : Type 0 where
  pub few : length part ≤ part_limit
  pub bytes_are : bytes ≡ with_part part rest

-- the macro part is no macro text
pub record IsMisread (bytes : List ℕ) (refusal : MacroRefusal) : Type 0 where
  pub part : List ℕ
  pub rest : List ℕ
  pub has : HasPart bytes part rest
  pub read : meaning part ≡ Err refusal
  pub cause : refusal ≢ no_macro_memory

-- the macro text is no mesh
pub record IsUnchecked (bytes : List ℕ) (refusal : CheckRefusal) : Type 0 where
  pub part : List ℕ
  pub rest : List ℕ
  pub has : HasPart bytes part rest
  pub text : MacroText
  pub read : meaning part ≡ Ok (macro_of text)
  pub fault : IsCheckRefusal text refusal
  pub cause : refusal ≢ no_check_memory

-- all names are of levels that a member of a forest can have
abbrev pub AreLow : Mesh → List Name → Type 0
AreLow mesh names = (n : Name) → Has (set_of names) n → level (shape_of mesh) n ≤ 23

-- the file begins with the head line and the macro part of a mesh
pub record HasMesh (bytes part : List ℕ) (mesh : Mesh) (rest : List ℕ) : Type 0 where
  pub has : HasPart bytes part rest
  pub is_part : IsPart part mesh

-- the bytes after the macro part begin with a line for each of these trees, those of the first macro elements; the rest follows
pub record ReadsTo (mesh : Mesh) (bytes : List ℕ) (trees : List Tree) (rest : List ℕ) : Type 0 where
  pub bytes_are : bytes ≡ lines trees ++ rest
  pub low : AreLow mesh (members_from 0 trees)
  pub within : length trees ≤ size (shape_of mesh)

-- a word and a newline come next
abbrev pub HasLine : List ℕ → Tree → List ℕ → Type 0
HasLine bytes tree rest = bytes ≡ word tree ++ 10 ∷ rest

-- no word and newline come next
abbrev pub HasNoLine : List ℕ → Type 0
HasNoLine bytes = (tree : Tree) (rest : List ℕ) → HasLine bytes tree rest → ⊥

-- a word and a newline come next, and the tree at this element has a bisected name of level above 23
pub record HasDeepLine (mesh : Mesh) (element : ℕ) (bytes : List ℕ) : Type 0 where
  pub tree : Tree
  pub rest : List ℕ
  pub line : HasLine bytes tree rest
  pub member : Name
  pub is_member : Has (set_of (bisected (element, []) tree)) member
  pub deep : 23 < level (shape_of mesh) member

-- the elements before this one have their lines, and what comes next is as told
pub record IsAtElement (mesh : Mesh) (bytes : List ℕ) (element : ℕ) (NextIs : List ℕ → Type 0) : Type 0 where
  pub trees : List Tree
  pub rest : List ℕ
  pub reads : ReadsTo mesh bytes trees rest
  pub place : element ≡ length trees
  pub inside : element < size (shape_of mesh)
  pub next : NextIs rest

-- all elements have their lines, and bytes follow
pub record IsLeftOver (mesh : Mesh) (bytes : List ℕ) : Type 0 where
  pub trees : List Tree
  pub rest : List ℕ
  pub reads : ReadsTo mesh bytes trees rest
  pub all : length trees ≡ size (shape_of mesh)
  pub more : rest ≢ []

-- the name has a partner, which is no member
abbrev pub IsAlone : Across → Names → Name → Type 0
IsAlone x members n = (p : Name) × (t : Bool) × (partner x n.0 n.1 ≡ Some (p, t)) × (contains members p ≡ false)

-- the least member whose partner is no member
pub record IsFirstAlone (x : Across) (members : Names) (n : Name) : Type 0 where
  pub member : Has members n
  pub alone : IsAlone x members n
  pub first : (m : Name) → Has members m → name_cmp m n ≡ Less → IsAlone x members m → ⊥

-- all elements have their lines, nothing follows, and of the members this is the least whose partner is no member
pub record IsUnmatched (mesh : Mesh) (bytes : List ℕ) (member : Name) : Type 0 where
  pub trees : List Tree
  pub reads : ReadsTo mesh bytes trees []
  pub all : length trees ≡ size (shape_of mesh)
  pub first : IsFirstAlone (across_in mesh) (set_of (members_from 0 trees)) member

-- when the bytes after the macro part are refused
abbrev pub IsLinesRefusal : Mesh → List ℕ → RestartRefusal → Type 0
IsLinesRefusal mesh bytes (BadWord element) = IsAtElement mesh bytes element HasNoLine
IsLinesRefusal mesh bytes (TooDeep element) = IsAtElement mesh bytes element (HasDeepLine mesh element)
IsLinesRefusal mesh bytes LeftOver = IsLeftOver mesh bytes
IsLinesRefusal mesh bytes (NotConforming member) = IsUnmatched mesh bytes member
IsLinesRefusal mesh bytes Memory = Unit {0}
IsLinesRefusal mesh bytes other = ⊥

-- the file begins with the macro part of a mesh, and what follows is refused
pub record RefusesLines (bytes : List ℕ) (refusal : RestartRefusal) : Type 0 where
  pub part : List ℕ
  pub mesh : Mesh
  pub rest : List ℕ
  pub has_mesh : HasMesh bytes part mesh rest
  pub lines : IsLinesRefusal mesh rest refusal

-- when each refusal comes; want of memory may come at any place
abbrev pub IsRestartRefusal : List ℕ → RestartRefusal → Type 0
IsRestartRefusal bytes BadHead = (m : ℕ) (rest : List ℕ) → HasHead bytes m rest → ⊥
IsRestartRefusal bytes (MacroShort wanted found) = IsShort bytes wanted found
IsRestartRefusal bytes (Macro refusal) = IsMisread bytes refusal
IsRestartRefusal bytes (Check refusal) = IsUnchecked bytes refusal
IsRestartRefusal bytes (BadWord element) = RefusesLines bytes (BadWord element)
IsRestartRefusal bytes (TooDeep element) = RefusesLines bytes (TooDeep element)
IsRestartRefusal bytes LeftOver = RefusesLines bytes LeftOver
IsRestartRefusal bytes (NotConforming member) = RefusesLines bytes (NotConforming member)
IsRestartRefusal bytes Memory = Unit {0}
