-- What a load from a shelf gives, and the shelf in memory.
use Rattle.std.specs.Prelude.{◌≡◌, ℕ, ◌<◌, ◌≤◌, Bool, true, false, List, map, length, Option, Some, None, IfSome, Result, Ok, Err, IfOk, IfErr, Vec, String, string_bytes}
use Rattle.std.specs.declared.alloc.Global.{Global}
use Rattle.std.specs.Ordering.{nat_cmp}
use Rattle.std.specs.Cmp.Lexicographic.{slice_cmp}
use Rattle.std.specs.FinMap.{FinMap, get, from_entries}
use Rattle.mesh_io.specs.Faults.{Rose, Plan, first_plan}
use Rattle.mesh_io.specs.declared.shelf.LoadRefusal.{LoadRefusal}
use Rattle.mesh_io.specs.declared.shelf.LoadRefusal.TheVariants.{Failed, TooLong, Memory}

-- the bytes under each name
abbrev pub Files : Type 0
Files = FinMap (slice_cmp nat_cmp) (List ℕ)

-- no file has the name
abbrev pub Lacks : Files → List ℕ → Type 0
Lacks files name = get files name ≡ None

-- more than `limit` bytes stand under the name
abbrev pub HoldsMore : Files → List ℕ → ℕ → Type 0
HoldsMore files name limit = (bytes : List ℕ) × (get files name ≡ Some bytes) × (limit < length bytes)

-- when each refusal of a load comes; `files` is what the shelf tells, `before` and `now` are its counts of faults
abbrev pub IsCause : Option Files → Bool → List ℕ → ℕ → ℕ → ℕ → LoadRefusal → Type 0
IsCause files steady name limit before now Failed = Rose before now × (steady ≡ true → IfSome files (λ told. Lacks told name))
IsCause files steady name limit before now (TooLong read) = (limit < read) × (now ≡ before) × IfSome files (λ told. HoldsMore told name limit)
IsCause files steady name limit before now Memory = now ≡ before

-- what a load answers, and what becomes of the count of faults
pub record Loads (files : Option Files) (steady : Bool) (name : List ℕ) (limit before now : ℕ) (result : Result (Vec ℕ Global) LoadRefusal) : Type 0 where
  pub never_falls : before ≤ now
  pub bytes : IfOk result (λ bytes. (length bytes.items ≤ limit) × (now ≡ before) × IfSome files (λ told. get told name ≡ Some bytes.items))
  pub cause : IfErr result (IsCause files steady name limit before now)

-- when these bytes cannot be copied
abbrev pub IsCopyCause : List ℕ → ℕ → LoadRefusal → Type 0
IsCopyCause bytes limit Failed = ⊥
IsCopyCause bytes limit (TooLong read) = (read ≡ length bytes) × (limit < read)
IsCopyCause bytes limit Memory = Unit {0}

-- whether a load failed, which is neither for its length nor for want of memory
abbrev pub has_failed : Result (Vec ℕ Global) LoadRefusal → Bool
has_failed (Ok bytes) = false
has_failed (Err Failed) = true
has_failed (Err (TooLong read)) = false
has_failed (Err Memory) = false

-- a shelf in memory: each file's name and bytes, and which of its loads are to fail
pub record MemFiles : Type 0 where
  pub entries : List (List ℕ × List ℕ)
  pub plan : Plan

-- the map of a list of names and bytes; of two equal names the first counts
abbrev pub files_of : List (List ℕ × List ℕ) → Files
files_of entries = from_entries entries

-- the name and the bytes of a file
abbrev pub entry_of : String Global × Vec ℕ Global → List ℕ × List ℕ
entry_of file = (string_bytes file.0, file.1.items)

-- a shelf of these files before the first load
abbrev pub stocked_shelf : List (String Global × Vec ℕ Global) → List ℕ → MemFiles
stocked_shelf files listed = record { entries = map entry_of files; plan = first_plan listed }
