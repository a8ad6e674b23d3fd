-- Nodes in two lists.
use Rattle.std.proofs.Common.{◌≡◌, ℕ, zero, suc, set, List, [], ◌∷◌, ◌++◌, length, refl, ap, arith, Option, None}
use Rattle.std.specs.Prelude.{slice_index_or}
use Rattle.name_tree.specs.declared.nodes.Entry.{Entry}
use Rattle.name_tree.specs.declared.nodes.Node.{Node}
use Rattle.name_tree.specs.NodeLists.{nodes_of}
use Rattle.name_tree.specs.Trees.{blank, node_at}

-- as many as there are entries
pub length-nodes : (es : List (Option Entry)) (ps : List (Option ℕ)) → length ps ≡ length es → length (nodes_of es ps) ≡ length es
length-nodes [] ps h = refl
length-nodes (e ∷ es) [] h = absurd (omega arith)
length-nodes (e ∷ es) (p ∷ ps) h = ap suc (length-nodes es ps (omega arith))

-- each has its entry and its pair
pub node-at : (es : List (Option Entry)) (ps : List (Option ℕ)) (i : ℕ) → length ps ≡ length es → node_at (nodes_of es ps) i ≡ record { entry = slice_index_or es i None; below = slice_index_or ps i None }
node-at [] [] i h = refl
node-at [] (p ∷ ps) i h = absurd (omega arith)
node-at (e ∷ es) [] i h = absurd (omega arith)
node-at (e ∷ es) (p ∷ ps) zero h = refl
node-at (e ∷ es) (p ∷ ps) (suc i) h = node-at es ps i (omega arith)

-- an entry is put
pub nodes-put : (es : List (Option Entry)) (ps : List (Option ℕ)) (i : ℕ) (x : Option Entry) → length ps ≡ length es → nodes_of (set es i x) ps ≡ set (nodes_of es ps) i (record (node_at (nodes_of es ps) i) { entry = x })
nodes-put [] [] i x h = refl
nodes-put [] (p ∷ ps) i x h = absurd (omega arith)
nodes-put (e ∷ es) [] i x h = absurd (omega arith)
nodes-put (e ∷ es) (p ∷ ps) zero x h = refl
nodes-put (e ∷ es) (p ∷ ps) (suc i) x h = ap (λ (l : List Node). record { entry = e; below = p } ∷ l) (nodes-put es ps i x (omega arith))

-- a pair is put
pub nodes-join : (es : List (Option Entry)) (ps : List (Option ℕ)) (i : ℕ) (x : Option ℕ) → length ps ≡ length es → nodes_of es (set ps i x) ≡ set (nodes_of es ps) i (record (node_at (nodes_of es ps) i) { below = x })
nodes-join [] [] i x h = refl
nodes-join [] (p ∷ ps) i x h = absurd (omega arith)
nodes-join (e ∷ es) [] i x h = absurd (omega arith)
nodes-join (e ∷ es) (p ∷ ps) zero x h = refl
nodes-join (e ∷ es) (p ∷ ps) (suc i) x h = ap (λ (l : List Node). record { entry = e; below = p } ∷ l) (nodes-join es ps i x (omega arith))

-- two nodes more
pub nodes-widen : (es : List (Option Entry)) (ps : List (Option ℕ)) → length ps ≡ length es → nodes_of ((es ++ None ∷ []) ++ None ∷ []) ((ps ++ None ∷ []) ++ None ∷ []) ≡ nodes_of es ps ++ blank ∷ blank ∷ []
nodes-widen [] [] h = refl
nodes-widen [] (p ∷ ps) h = absurd (omega arith)
nodes-widen (e ∷ es) [] h = absurd (omega arith)
nodes-widen (e ∷ es) (p ∷ ps) h = ap (λ (l : List Node). record { entry = e; below = p } ∷ l) (nodes-widen es ps (omega arith))

-- past two blank nodes, as before them, there are blank ones
pub at-wider : (ns : List Node) (i : ℕ) → node_at (ns ++ blank ∷ blank ∷ []) i ≡ node_at ns i
at-wider [] zero = refl
at-wider [] (suc zero) = refl
at-wider [] (suc (suc i)) = refl
at-wider (n ∷ ns) zero = refl
at-wider (n ∷ ns) (suc i) = at-wider ns i
