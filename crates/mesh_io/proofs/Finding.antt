-- The search for a file by its name.
use Rattle.std.proofs.Common.{◌≡◌, ℕ, ◌+◌, ◌<◌, ◌≤◌, List, [], ◌∷◌, map, length, get_or, drop, suc, zero, Option, Some, None, option_map, Bor, String, Vec, string_bytes, cond, Bool, true, false, bytes_eq, refl, ap, sym, ◌∙◌, arith}
use Rattle.std.specs.declared.alloc.Global.{Global}
use Rattle.std.specs.Ordering.{nat_cmp, is_eq}
use Rattle.std.specs.Cmp.Lexicographic.{slice_cmp}
use Rattle.std.specs.FinMap.{find, get, get-from_entries}
use Rattle.std.proofs.lemmas.Cmp.{nat_list_cmp_total}
use Rattle.std.proofs.lemmas.Map.Text.{is_eq-slice_cmp}
use Rattle.std.proofs.Math.Seq.{drop-cons}
use Rattle.mesh_io.specs.Shelves.{files_of, entry_of}

abbrev pub File : Type 0
File = String Global × Vec ℕ Global

-- what the first of the files with this name holds
abbrev pub found : List ℕ → List File → Option (List ℕ)
found name files = find (slice_cmp nat_cmp) name (map entry_of files)

pub get-files : (name : List ℕ) (files : List File) → get (files_of (map entry_of files)) name ≡ found name files
get-files name files = get-from_entries nat_list_cmp_total (map entry_of files) name

found-drop : (name : List ℕ) (files : List File) (index : ℕ) (file : File) → index < length files → file ≡ get_or files index file →
    found name (drop index files) ≡ cond (bytes_eq name (string_bytes file.0)) (Some file.1.items) (found name (drop (index + 1) files))
found-drop name files index file below is =
    ap (found name) (drop-cons files index file below)
    ∙ ap (λ (f : File). cond (is_eq (slice_cmp nat_cmp name (string_bytes f.0))) (Some f.1.items) (found name (drop (suc index) files))) (sym is)
    ∙ (λ i. cond (is_eq-slice_cmp name (string_bytes file.0) i) (Some file.1.items) (found name (drop (next i) files)))
  where
    next : suc index ≡ index + 1
    next = omega arith

pub found-here : (name : List ℕ) (files : List File) (index : ℕ) (file : File) → index < length files → file ≡ get_or files index file → bytes_eq name (string_bytes file.0) ≡ true → found name (drop index files) ≡ Some file.1.items
found-here name files index file below is same = found-drop name files index file below is ∙ ap (λ b. cond b (Some file.1.items) (found name (drop (index + 1) files))) same

pub found-later : (name : List ℕ) (files : List File) (index : ℕ) (file : File) → index < length files → file ≡ get_or files index file → bytes_eq name (string_bytes file.0) ≡ false → found name (drop index files) ≡ found name (drop (index + 1) files)
found-later name files index file below is other = found-drop name files index file below is ∙ ap (λ b. cond b (Some file.1.items) (found name (drop (index + 1) files))) other

no_more : (files : List File) (index : ℕ) → length files ≤ index → drop index files ≡ []
no_more [] zero past = refl
no_more [] (suc index) past = refl
no_more (file ∷ files) zero past = absurd (omega arith)
no_more (file ∷ files) (suc index) past = no_more files index (omega arith)

pub found-none : (name : List ℕ) (files : List File) (index : ℕ) → length files ≤ index → found name (drop index files) ≡ None
found-none name files index past = ap (found name) (no_more files index past)

-- a search that was not left out and found nothing
pub lacks : (result : Option (Bor (List ℕ))) (fails : Bool) (given entries : List (List ℕ × List ℕ)) (name : List ℕ) → option_map (λ (b : Bor (List ℕ)). b.now) result ≡ cond fails None (get (files_of given) name) →
    result ≡ None → fails ≡ false → given ≡ entries → get (files_of entries) name ≡ None
lacks result fails given entries name gives none runs same =
    ap (λ es. get (files_of es) name) (sym same)
    ∙ sym (ap (λ b. cond b None (get (files_of given) name)) runs)
    ∙ sym gives
    ∙ ap (option_map (λ (b : Bor (List ℕ)). b.now)) none
