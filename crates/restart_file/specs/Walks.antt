-- A walk over the elements of a tree in preorder: what is still to come at an element, and the trees that stand there.
use Rattle.std.specs.Prelude.{◌≡◌, ℕ, Bool, false, true, List, [], ◌∷◌, ◌++◌, length, Option, Some, None}
use Rattle.mesh_names.specs.Names.{Name}
use Rattle.restart_file.specs.Trees.{Tree, word, bisected}

-- what comes after the tree of (r, w): child 1 of each element above of which (r, w) is in child 0, from the lowest up
abbrev pub after : ℕ → List Bool → List Name
after r [] = []
after r (false ∷ w) = (r, true ∷ w) ∷ after r w
after r (true ∷ w) = after r w

-- the elements whose trees are still to come, where the walk has come to an element, or to the end
abbrev pub coming : Option Name → List Name
coming None = []
coming (Some n) = n ∷ after n.0 n.1

-- the words of trees, one after another
abbrev pub words : List Tree → List ℕ
words [] = []
words (t ∷ ts) = word t ++ words ts

-- the bisected names of trees that stand at these names
abbrev pub bisected_all : List Name → List Tree → List Name
bisected_all [] ts = []
bisected_all (n ∷ ns) [] = []
bisected_all (n ∷ ns) (t ∷ ts) = bisected n t ++ bisected_all ns ts

-- the words of so many trees, a newline and the rest are these bytes
pub record AreWords (count : ℕ) (bytes : List ℕ) (trees : List Tree) (rest : List ℕ) : Type 0 where
  pub each : length trees ≡ count
  pub bytes_are : bytes ≡ words trees ++ 10 ∷ rest

-- so many words and a newline come next
abbrev pub HasWords : ℕ → List ℕ → Type 0
HasWords count bytes = (trees : List Tree) × (rest : List ℕ) × AreWords count bytes trees rest

-- this byte comes next
abbrev pub HasByte : ℕ → List ℕ → Type 0
HasByte byte bytes = (rest : List ℕ) × (bytes ≡ byte ∷ rest)

-- the line of the tree was written, and the later names are left
pub record IsLineDone (t : Tree) (later : List Name) (old new : List ℕ) (left : List Name) : Type 0 where
  pub written : new ≡ old ++ (word t ++ 10 ∷ [])
  pub left_are : left ≡ later
