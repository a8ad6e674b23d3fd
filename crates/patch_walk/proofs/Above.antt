-- What is above a name: its parent, and its partner's.
use Rattle.std.proofs.Common.{◌≡◌, ℕ, ◌+◌, ◌<◌, Bool, List, ◌∷◌, Some, option_map, sym, ap, ◌∙◌, subst, arith}
use Rattle.mesh_names.specs.Names.{Name}
use Rattle.mesh_names.specs.Triangles.{Shape, size, level}
use Rattle.mesh_names.specs.Forests.{Has}
use Rattle.mesh_names.specs.Chains.{chain_of}
use Rattle.mesh_names.specs.Partners.{Across, Tells, partner}
use Rattle.mesh_names.proofs.Pairs.{partners_pair}
use Rattle.table_words.specs.Entries.{HasEntry}
use Rattle.table_words.specs.NameWords.{name_code}
use Rattle.table_state.specs.Lists.{IsClosed}
use Rattle.mesh_table.specs.Sights.{setup_at}
use Rattle.mesh_table.specs.declared.rule.Site.{Site}
use Rattle.patch_walk.proofs.Names.{child_named}
use Rattle.compat_check.specs.Meshes.{shape_of, across_in}
use Rattle.patch_walk.proofs.Patches.{chain_parent, chain_partner, target_partner}
use Rattle.patch_walk.proofs.Patches.{partner_of}

-- m is in the chain of the name's parent
abbrev pub Below : Shape → Across → Name → Name → Type 0
Below mesh across n m = (b : Bool) × (w : List Bool) × (n.1 ≡ b ∷ w) × Has (chain_of mesh across (n.0, w)) m

module _ (mesh : Shape) (across : Across) (tells : Tells mesh across) (n : Name) (root : n.0 < size mesh) where
  pub below_chain : (m : Name) → Below mesh across n m → Has (chain_of mesh across n) m
  below_chain m p = subst (λ (v : List Bool). Has (chain_of mesh across (n.0, v)) m) (sym p.2) (chain_parent mesh across tells n.0 p.0 p.1 root m p.3)

  module _ (o : Name) (is : Some o ≡ option_map (λ (a : Name × Bool). a.0) (partner across n.0 n.1)) where
    pub other_of : (o.0 < size mesh) × (level mesh o ≡ level mesh n)
    other_of = let g = partner_of (partner across n.0 n.1) o is in let p = partners_pair mesh across tells n o g.0 root g.1 in (p.rooted, p.level)

    pub below_other : (m : Name) → Below mesh across o m → Has (chain_of mesh across n) m
    below_other m p = let g = partner_of (partner across n.0 n.1) o is in
        chain_partner mesh across tells n o.0 p.0 p.1 g.0 root other_of.0 (g.1 ∙ ap (λ (v : List Bool). Some ((o.0, v), g.0)) p.2) m p.3

pub parent_level : (mesh : Shape) (n p : Name) (b : Bool) → n ≡ (p.0, b ∷ p.1) → level mesh n ≡ level mesh p + 1
parent_level mesh n p b e = let l : level mesh n ≡ level mesh (p.0, b ∷ p.1) = ap (level mesh) e in omega arith

module _ (k : Site) (target : List ℕ) (closed : IsClosed (setup_at k) (HasEntry target)) (n : Name) where
  pub target_up : (p : Name) (b : Bool) → n ≡ (p.0, b ∷ p.1) → p.0 < size (shape_of k.mesh.now) → level (shape_of k.mesh.now) n < 24 → HasEntry target (name_code n) → HasEntry target (name_code p)
  target_up p b e root low has = let l = parent_level (shape_of k.mesh.now) n p b e in closed.parents (name_code p) b (subst (HasEntry target) (ap name_code e ∙ sym (child_named (shape_of k.mesh.now) p b (omega arith) (omega arith) root)) has)

  pub target_other : Tells (shape_of k.mesh.now) (across_in k.mesh.now) → (o : Name) → n.0 < size (shape_of k.mesh.now) → level (shape_of k.mesh.now) n < 24 → Some o ≡ option_map (λ (a : Name × Bool). a.0) (partner (across_in k.mesh.now) n.0 n.1) → HasEntry target (name_code n) → HasEntry target (name_code o)
  target_other tells o root low is has = let g = partner_of (partner (across_in k.mesh.now) n.0 n.1) o is in target_partner k tells target closed n o g.0 root low g.1 has
