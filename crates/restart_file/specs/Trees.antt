-- The bisections below a macro element, as a tree: its preorder word, and the names that are bisected in it.
use Rattle.std.specs.Prelude.{ℕ, suc, false, true, List, [], ◌∷◌, ◌++◌}
use Rattle.mesh_names.specs.Names.{Name}

-- an element is a leaf, or is bisected into child 0 and child 1
pub data Tree : Type 0 where
  Leaf : Tree
  Bisected : Tree → Tree → Tree

-- the preorder word: `0` for a leaf, else `1` followed by the words of child 0 and of child 1
abbrev pub word : Tree → List ℕ
word Leaf = 48 ∷ []
word (Bisected a b) = 49 ∷ (word a ++ word b)

-- the bisected names of the tree of a name
abbrev pub bisected : Name → Tree → List Name
bisected n Leaf = []
bisected n (Bisected a b) = n ∷ (bisected (n.0, false ∷ n.1) a ++ bisected (n.0, true ∷ n.1) b)

-- one line for each tree, which ends with a newline
abbrev pub lines : List Tree → List ℕ
lines [] = []
lines (t ∷ ts) = word t ++ 10 ∷ lines ts

-- the bisected names of the trees of the macro elements from the r-th on
abbrev pub members_from : ℕ → List Tree → List Name
members_from r [] = []
members_from r (t ∷ ts) = bisected (r, []) t ++ members_from (suc r) ts
