-- How a tree grows and shrinks.
use Rattle.std.specs.Prelude.{◌≡◌, ◌≢◌, ℕ, ◌+◌, ◌*◌, ◌<◌, Bool, All, length, Some, None}
use Rattle.mesh_names.specs.Names.{Name, digit}
use Rattle.name_tree.specs.Trees.{IsBlank, Pairs, Source, Under, live_in, node_at, pairs_of}
use Rattle.name_tree.specs.declared.nodes.Nodes.{Nodes}

-- an empty pair is named in addition
pub record Adds (f g : Pairs) (s : Source) (q : ℕ) : Type 0 where
  pub before : f s ≡ None
  pub after : g s ≡ Some q
  pub others : (t : Source) → t ≢ s → g t ≡ f t
  pub bare : (b : Bool) → g (Under (2 * q + digit b)) ≡ None

-- a pair that can be named
pub record IsFree (t : Nodes) (p : ℕ) : Type 0 where
  pub inside : 2 * p + 1 < length t.nodes
  pub blank : IsBlank t.nodes p
  pub unnamed : (s : Source) → pairs_of t s ≡ Some p → ⊥
  pub unspared : All (λ q. q ≢ p) t.spare.items

-- a node that stands in a named pair
pub record IsNamed (pairs : Pairs) (i : ℕ) : Type 0 where
  pub source : Source
  pub pair : ℕ
  pub side : Bool
  pub named : pairs source ≡ Some pair
  pub is : 2 * pair + digit side ≡ i

-- no entry and no pair has changed
pub record Stays (old new : Nodes) : Type 0 where
  pub pairs : (s : Source) → pairs_of new s ≡ pairs_of old s
  pub entries : (i : ℕ) → (node_at new.nodes i).entry ≡ (node_at old.nodes i).entry

-- an empty pair is named in addition, and no entry has changed
pub record Grows (old new : Nodes) (s : Source) (q : ℕ) : Type 0 where
  pub adds : Adds (pairs_of old) (pairs_of new) s q
  pub small : q < 2147483648
  pub entries : (i : ℕ) → (node_at new.nodes i).entry ≡ (node_at old.nodes i).entry
  pub empty : (b : Bool) → (node_at new.nodes (2 * q + digit b)).entry ≡ None

-- an empty pair is named no longer, and no entry has changed
pub record Shrinks (old new : Nodes) (place q : ℕ) : Type 0 where
  pub adds : Adds (pairs_of new) (pairs_of old) (Under place) q
  pub entries : (i : ℕ) → (node_at new.nodes i).entry ≡ (node_at old.nodes i).entry
  pub empty : (b : Bool) → (node_at new.nodes (2 * q + digit b)).entry ≡ None

-- no pair is named otherwise than before, and all entries stand as before
pub record Keeps (old new : Nodes) : Type 0 where
  pub pairs : (s : Source) (p : ℕ) → pairs_of old s ≡ Some p → pairs_of new s ≡ Some p
  pub live : (n : Name) → live_in (pairs_of new) new.nodes n ≡ live_in (pairs_of old) old.nodes n
