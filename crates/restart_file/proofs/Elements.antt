-- A walk over the macro elements and their trees.
use Rattle.std.proofs.Common.{◌≡◌, ℕ, suc, ◌+◌, ◌<◌, ◌≤◌, refl, sym, ap, ◌∙◌, List, [], ◌∷◌, ◌++◌, length, drop, get_or, drop-cons, arith, append_assoc}
use Rattle.std.proofs.lemmas.List.{drop_all}
use Rattle.mesh_names.specs.Names.{Name, depth}
use Rattle.mesh_names.specs.Triangles.{Shape}
use Rattle.mesh_names.proofs.Sets.{item-in, in-has, has-in}
use Rattle.restart_file.specs.Kept.{ArePast, IsKept}
use Rattle.restart_file.specs.Trees.{Tree, Leaf, word, bisected, lines, members_from}
use Rattle.restart_file.specs.Walks.{IsLineDone}
use Rattle.restart_file.proofs.TreeMembers.{members_root}

pub past : (ts : List Tree) (r : ℕ) → ArePast r (members_from (suc r) ts)
past ts r n h = let m = members_root ts (suc r) n (has-in n (members_from (suc r) ts) h) in omega arith

-- the first tree of a rest
pub first_tree : (ts : List Tree) (r : ℕ) → r < length ts → drop r ts ≡ get_or ts r Leaf ∷ drop (r + 1) ts
first_tree ts r h = let e : suc r ≡ r + 1 = omega arith in drop-cons ts r Leaf h ∙ ap (λ (k : ℕ). get_or ts r Leaf ∷ drop k ts) e

-- one line more
module _ (ts : List Tree) (r : ℕ) (inside : r < length ts) (members : List Name) (next after : ℕ) (old new target : List ℕ)
    (line_done : (t : Tree) (later : List Name) → drop next members ≡ bisected (r, []) t ++ later → ArePast r later → IsLineDone t later old new (drop after members))
    (left : drop next members ≡ members_from r (drop r ts)) (written : old ++ lines (drop r ts) ≡ target) where
  at : IsLineDone (get_or ts r Leaf) (members_from (suc r) (drop (r + 1) ts)) old new (drop after members)
  at = line_done (get_or ts r Leaf) (members_from (suc r) (drop (r + 1) ts)) (left ∙ ap (members_from r) (first_tree ts r inside)) (past (drop (r + 1) ts) r)

  pub left_more : drop after members ≡ members_from (r + 1) (drop (r + 1) ts)
  left_more = let e : suc r ≡ r + 1 = omega arith in at.left_are ∙ ap (λ (k : ℕ). members_from k (drop (r + 1) ts)) e

  pub written_more : new ++ lines (drop (r + 1) ts) ≡ target
  written_more =
      let t = get_or ts r Leaf in let ls = lines (drop (r + 1) ts) in
      ap (λ (l : List ℕ). l ++ ls) at.written ∙ append_assoc old (word t ++ 10 ∷ []) ls ∙ ap (λ (l : List ℕ). old ++ l) (append_assoc (word t) (10 ∷ []) ls) ∙ ap (λ (l : List Tree). old ++ lines l) (sym (first_tree ts r inside)) ∙ written

-- after the last element
pub whole : (ts : List Tree) (r : ℕ) (text target : List ℕ) → length ts ≤ r → text ++ lines (drop r ts) ≡ target → text ≡ target
whole ts r text target h e = sym (nil text) ∙ ap (λ (l : List Tree). text ++ lines l) (sym (drop_all r ts h)) ∙ e
  where
    nil : (l : List ℕ) → l ++ [] ≡ l
    nil [] = refl
    nil (x ∷ l) = ap (λ (k : List ℕ). x ∷ k) (nil l)

-- the members of a forest have less than 24 letters
pub few_letters : (mesh : Shape) (members : List Name) → IsKept mesh members → (k : ℕ) (d : Name) → k < length members → depth (get_or members k d) < 24
few_letters mesh members kept k d h = let l = kept.forest.shallow (get_or members k d) (in-has (get_or members k d) members (item-in members k d h)) in omega arith
