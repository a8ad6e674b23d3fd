-- The ten keys.
use Rattle.std.specs.Prelude.{ℕ, Bool, List, [], ◌∷◌, ◌==◌, codes, find, Option}
use lib.Pointwise.{pointwise}
use Rattle.std.specs.Str.{str_eq_ignore_ascii_case}
use Rattle.macro_file.specs.declared.keyword.Keyword.{Keyword}
use Rattle.macro_file.specs.declared.keyword.Keyword.TheVariants.{Dim, DimOfWorld, VertexCount, ElementCount, Coordinates, Triples, Labels, Neighbours, VertexValues, ElementValues}
use Rattle.macro_file.specs.Lines.{words}

-- the keys, in the order in which their numbers are tried
abbrev pub keywords : List Keyword
keywords = Dim ∷ DimOfWorld ∷ VertexCount ∷ ElementCount ∷ Coordinates ∷ Triples ∷ Labels ∷ Neighbours ∷ VertexValues ∷ ElementValues ∷ []

-- its place among them
abbrev pub place : Keyword → ℕ
place Dim = 0
place DimOfWorld = 1
place VertexCount = 2
place ElementCount = 3
place Coordinates = 4
place Triples = 5
place Labels = 6
place Neighbours = 7
place VertexValues = 8
place ElementValues = 9

abbrev pub same : Keyword → Keyword → Bool
same a b = place a == place b

-- how it is written
abbrev pub spelling : Keyword → List ℕ
spelling Dim = codes "DIM"
spelling DimOfWorld = codes "DIM_OF_WORLD"
spelling VertexCount = codes "number of vertices"
spelling ElementCount = codes "number of elements"
spelling Coordinates = codes "vertex coordinates"
spelling Triples = codes "element vertices"
spelling Labels = codes "element boundaries"
spelling Neighbours = codes "element neighbours"
spelling VertexValues = codes "vertex values"
spelling ElementValues = codes "element values"

-- whether two keys have the same words, letters of either case being equal
abbrev pub same_words : List ℕ → List ℕ → Bool
same_words a b = pointwise str_eq_ignore_ascii_case (words a) (words b)

-- the key that a text is
unfoldable pub keyword_of : List ℕ → Option Keyword
keyword_of text = find (λ k. same_words text (spelling k)) keywords
