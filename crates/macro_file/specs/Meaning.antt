-- What the bytes of a macro file mean: a macro text, or the first refusal.
use Rattle.std.specs.Prelude.{ℕ, ℤ, pos, nat_abs, Bool, not, List, [], ◌∷◌, map, length, cond, ◌==◌, ◌+◌, ◌*◌, find, is_some, Option, Some, None, Result, Ok, Err}
use Rattle.std.specs.List.{range_with_len, slice_index_or}
use Rattle.macro_file.specs.declared.keyword.Keyword.{Keyword}
use Rattle.macro_file.specs.declared.keyword.Keyword.TheVariants.{Dim, DimOfWorld, VertexCount, ElementCount, Coordinates, Triples, Labels, Neighbours, VertexValues, ElementValues}
use Rattle.macro_file.specs.declared.refusal.Key.{Key}
use Rattle.macro_file.specs.declared.refusal.Key.TheVariants.{VertexCount as vertex_count, ElementCount as element_count, Coordinates as coordinates, Triples as triples}
use Rattle.macro_file.specs.declared.refusal.MacroRefusal.{MacroRefusal}
use Rattle.macro_file.specs.declared.refusal.MacroRefusal.TheVariants.{KeyMissing, CountDiffers}
use Rattle.macro_file.specs.declared.counts.Counts.{Counts}
use Rattle.macro_file.specs.Steps.{then, each}
use Rattle.macro_file.specs.Keywords.{same}
use Rattle.macro_file.specs.Sections.{Section, stands, sections}
use Rattle.macro_file.specs.Numbers.{value}

pub record Vertex : Type 0 where
  pub x : ℤ
  pub y : ℤ
  pub value : ℤ

pub record Element : Type 0 where
  pub corners : List ℕ
  pub labels : List ℤ
  pub neighbours : List ℤ
  pub value : ℤ

-- a macro text as plain data
pub record Macro : Type 0 where
  pub vertices : List Vertex
  pub elements : List Element
  pub labels_given : Bool
  pub neighbours_given : Bool

-- the keys that must be there
abbrev pub required : List Key
required = vertex_count ∷ element_count ∷ coordinates ∷ triples ∷ []

abbrev pub keyword_for : Key → Keyword
keyword_for vertex_count = VertexCount
keyword_for element_count = ElementCount
keyword_for coordinates = Coordinates
keyword_for triples = Triples

abbrev pub unless_missing : Option Key → List Section → Result (List Section) MacroRefusal
unless_missing None ss = Ok ss
unless_missing (Some key) ss = Err (KeyMissing key)

-- step 2: the sections, or the first of the four keys that is not there
abbrev pub complete : List Section → Result (List Section) MacroRefusal
complete ss = unless_missing (find (λ key. not (stands (keyword_for key) ss)) required) ss

-- the numbers of a section, of which this many belong there
abbrev pub numbers : ℕ → Section → Result (List ℤ) MacroRefusal
numbers wanted s = cond (length s.tokens == wanted) (each (value s.keyword) s.tokens) (Err (CountDiffers s.line wanted (length s.tokens)))

-- the number at i, or 0 past the end
abbrev pub number_at : List ℤ → ℕ → ℤ
number_at zs i = slice_index_or zs i (pos 0)

-- the one number of a key, or 0 where the key is not there
abbrev pub single_in : Option Section → Result ℤ MacroRefusal
single_in None = Ok (pos 0)
single_in (Some s) = then (numbers 1 s) (λ zs. Ok (number_at zs 0))

abbrev pub single : Keyword → List Section → Result ℤ MacroRefusal
single k ss = single_in (find (λ (s : Section). same s.keyword k) ss)

-- step 3: the numbers of the first four keys
abbrev pub counts : List Section → Result Counts MacroRefusal
counts ss = then (single Dim ss) (λ _. then (single DimOfWorld ss) (λ _. then (single VertexCount ss) (λ v. then (single ElementCount ss) (λ e. Ok (record { vertices = nat_abs v; elements = nat_abs e })))))

-- how many numbers belong to a key
abbrev pub wanted : Counts → Keyword → ℕ
wanted n Dim = 1
wanted n DimOfWorld = 1
wanted n VertexCount = 1
wanted n ElementCount = 1
wanted n Coordinates = 2 * n.vertices
wanted n Triples = 3 * n.elements
wanted n Labels = 3 * n.elements
wanted n Neighbours = 3 * n.elements
wanted n VertexValues = n.vertices
wanted n ElementValues = n.elements

-- a key with the numbers of its section
abbrev pub Listed : Type 0
Listed = Keyword × List ℤ

-- step 4: the numbers of each section, in the order of the file (those of the first four keys have passed step 3)
abbrev pub lists : Counts → List Section → Result (List Listed) MacroRefusal
lists n ss = each (λ (s : Section). then (numbers (wanted n s.keyword) s) (λ zs. Ok (s.keyword, zs))) ss

abbrev pub listed : Keyword → List Listed → Option Listed
listed k ls = find (λ (l : Listed). same l.0 k) ls

-- the numbers of a key, none where it was left out
abbrev pub numbers_in : Option Listed → List ℤ
numbers_in None = []
numbers_in (Some l) = l.1

abbrev pub numbers_of : Keyword → List Listed → List ℤ
numbers_of k ls = numbers_in (listed k ls)

abbrev pub vertex : List ℤ → List ℤ → ℕ → Vertex
vertex xs values i = record { x = number_at xs (2 * i); y = number_at xs (2 * i + 1); value = number_at values i }

-- the three numbers of element e
abbrev pub three : List ℤ → ℕ → List ℤ
three zs e = number_at zs (3 * e) ∷ number_at zs (3 * e + 1) ∷ number_at zs (3 * e + 2) ∷ []

abbrev pub element : List ℤ → List ℤ → List ℤ → List ℤ → ℕ → Element
element corners labels neighbours values e = record { corners = map nat_abs (three corners e); labels = three labels e; neighbours = three neighbours e; value = number_at values e }

-- the macro text of these lists; a list that was left out holds 0
abbrev pub made : Counts → List Listed → Macro
made n ls = record {
  vertices = map (vertex (numbers_of Coordinates ls) (numbers_of VertexValues ls)) (range_with_len 0 n.vertices);
  elements = map (element (numbers_of Triples ls) (numbers_of Labels ls) (numbers_of Neighbours ls) (numbers_of ElementValues ls)) (range_with_len 0 n.elements);
  labels_given = is_some (listed Labels ls);
  neighbours_given = is_some (listed Neighbours ls);
}

-- what the sections of a file mean: steps 2 to 4
abbrev pub sections_mean : List Section → Result Macro MacroRefusal
sections_mean all = then (complete all) (λ ss. then (counts ss) (λ n. then (lists n ss) (λ ls. Ok (made n ls))))

-- what the bytes of a macro file mean: step 1, and the others
abbrev pub meaning : List ℕ → Result Macro MacroRefusal
meaning bytes = then (sections bytes) sections_mean
