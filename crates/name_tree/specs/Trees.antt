-- A tree of names: a macro element, and each node with children, has a pair of nodes for the names below it.
use Rattle.std.specs.Prelude.{◌≡◌, ◌≢◌, ℕ, ◌+◌, ◌*◌, ◌^◌, ◌<◌, ◌≤◌, Bool, List, [], ◌∷◌, All, AllPairs, length, slice_index, slice_index_or, Option, Some, None, option_map, unwrap_or}
use Rattle.mesh_names.specs.Names.{Name, digit}
use Rattle.name_tree.specs.Letters.{first_letters}
use Rattle.name_tree.specs.declared.nodes.Entry.{Entry}
use Rattle.name_tree.specs.declared.nodes.Node.{Node}
use Rattle.name_tree.specs.declared.nodes.Nodes.{Nodes}

-- a node with nothing in it and nothing below it
abbrev pub blank : Node
blank = record { entry = None; below = None }

abbrev pub node_at : List Node → ℕ → Node
node_at nodes i = slice_index_or nodes i blank

-- where a pair of nodes is named: at a macro element, or at a node
pub data Source : Type 0 where
  Root : ℕ → Source
  Under : ℕ → Source

-- which pair each source names
abbrev pub Pairs : Type 0
Pairs = Source → Option ℕ

abbrev pub pair_at : List (Option ℕ) → List Node → Pairs
pair_at tops nodes (Root r) = slice_index_or tops r None
pair_at tops nodes (Under i) = (node_at nodes i).below

abbrev pub pairs_of : Nodes → Pairs
pairs_of t = pair_at t.tops.items t.nodes

-- the node on one side of a pair: the pairs lie one after another
abbrev pub side_of : Bool → Option ℕ → Option ℕ
side_of b pair = option_map (λ p. 2 * p + digit b) pair

-- the pair below a node
abbrev pub pair_under : Pairs → Option ℕ → Option ℕ
pair_under pairs None = None
pair_under pairs (Some i) = pairs (Under i)

-- the pair in which a word's node stands; a macro element has its own
abbrev pub place : Pairs → ℕ → List Bool → Option ℕ
place pairs r [] = option_map (λ p. 2 * p) (pairs (Root r))
place pairs r (b ∷ w) = side_of b (pair_under pairs (place pairs r w))

-- what stands in the node of a name, if it has a node
abbrev pub slot_in : Pairs → List Node → Name → Option (Option Entry)
slot_in pairs nodes n = option_map (λ i. (node_at nodes i).entry) (place pairs n.0 n.1)

-- the entry of a name, if it has one
abbrev pub live_in : Pairs → List Node → Name → Option Entry
live_in pairs nodes n = unwrap_or (slot_in pairs nodes n) None

-- no pair is named twice, and none that was given back is named
pub record IsTree (pairs : Pairs) (count : ℕ) (spare : List ℕ) : Type 0 where
  pub within : (s : Source) (p : ℕ) → pairs s ≡ Some p → p < count
  pub apart : (s t : Source) (p : ℕ) → pairs s ≡ Some p → pairs t ≡ Some p → s ≡ t
  pub unnamed : (s : Source) (p : ℕ) → pairs s ≡ Some p → All (λ q. q ≢ p) spare
  pub others : AllPairs (λ p q. p ≢ q) spare
  pub inside : All (λ q. q < count) spare

-- nothing stands in a pair
pub record IsBlank (nodes : List Node) (p : ℕ) : Type 0 where
  pub zero : node_at nodes (2 * p) ≡ blank
  pub one : node_at nodes (2 * p + 1) ≡ blank

-- a tree as it is kept: nodes in whole pairs, and those that were given back empty
pub record IsKept (t : Nodes) : Type 0 where
  pub count : ℕ
  pub whole : length t.nodes ≡ 2 * count
  pub small : count ≤ 2 ^ 31
  pub tree : IsTree (pairs_of t) count t.spare.items
  pub blanks : All (IsBlank t.nodes) t.spare.items

-- the places of a name's first letters, as far as `end` letters
abbrev pub LeadsTo : Pairs → Name → ℕ → List ℕ → Type 0
LeadsTo pairs n end places = (k : ℕ) → k ≤ end → place pairs n.0 (first_letters n k).1 ≡ Some (slice_index places k)
