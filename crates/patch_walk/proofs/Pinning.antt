-- How far a reader's walk to a name comes, over two calls.
use Rattle.std.proofs.Common.{◌≡◌, ℕ, ◌<◌, Bool, List, [], ◌∷◌, ◌++◌, length, Option, Some, None, IfNone, IfSome, MatchOption, false, refl, sym, ap, ◌∙◌, subst}
use Rattle.mesh_names.specs.Names.{Name}
use Rattle.table_words.specs.declared.layout.Layout.{Layout}
use Rattle.table_words.specs.NameWords.{name_code}
use Rattle.table_words.specs.Setup.{Setup}
use Rattle.mesh_table.specs.Sights.{Sight}
use Rattle.patch_walk.specs.declared.places.Found.{Found}
use Rattle.patch_walk.specs.Looks.{Noted, NotedAt}
use Rattle.patch_walk.specs.Pinned.{IsReachedAt}

-- the end of a walk for a whole name
pub block_at : (s : Setup) (pool : ℕ) (r : Option (ℕ × Bool)) (v : Sight) (q k : ℕ) → IfNone r (Noted v q k false) → IfSome r (λ p. (p.0 < pool) × NotedAt s v q k p.0 p.1) → MatchOption r (Noted v q k false) (λ p. (◌≡◌ {A = List Bool} [] []) × (p.0 < pool) × NotedAt s v q k p.0 p.1)
block_at s pool None v q k a b = a
block_at s pool (Some p) v q k a b = (refl, b.0, b.1)

pub reached_up_at : (l : Layout) (s : Setup) (v : Sight) (q : ℕ) (n p : Name) (side : Bool) (r : Found) → n ≡ (p.0, side ∷ p.1) → r.block ≡ None → IsReachedAt l s v q p r → IsReachedAt l s v q n r
reached_up_at l s v q n p side r e none t = subst (λ (m : Name). IsReachedAt l s v q m r) (sym e) (record {
  left = side ∷ t.left;
  prefix = t.prefix;
  parts = ap (λ (w : List Bool). side ∷ w) t.parts;
  depth = t.depth;
  place = t.place;
  block = subst (λ (b : Option (ℕ × Bool)). MatchOption b (Noted v q (name_code (p.0, t.prefix)) false) (λ y. (◌≡◌ {A = List Bool} (side ∷ t.left) []) × (y.0 < l.pool) × NotedAt s v q (name_code (p.0, t.prefix)) y.0 y.1)) (sym none)
      (subst (λ (b : Option (ℕ × Bool)). MatchOption b (Noted v q (name_code (p.0, t.prefix)) false) (λ y. (t.left ≡ []) × (y.0 < l.pool) × NotedAt s v q (name_code (p.0, t.prefix)) y.0 y.1)) none t.block);
})

pub reached_whole_at : (l : Layout) (s : Setup) (v : Sight) (q : ℕ) (n : Name) (r : Found) (b : ℕ) (t : Bool) → r.block ≡ Some (b, t) → IsReachedAt l s v q n r → (b < l.pool) × NotedAt s v q (name_code n) b t × (length n.1 ≡ r.depth)
reached_whole_at l s v q n r b t is h =
    let k = subst (λ (o : Option (ℕ × Bool)). MatchOption o (Noted v q (name_code (n.0, h.prefix)) false) (λ y. (h.left ≡ []) × (y.0 < l.pool) × NotedAt s v q (name_code (n.0, h.prefix)) y.0 y.1)) is h.block in
    let same : n.1 ≡ h.prefix = h.parts ∙ ap (λ (w : List Bool). w ++ h.prefix) k.0 in
    (k.1, subst (λ (w : List Bool). NotedAt s v q (name_code (n.0, w)) b t) (sym same) k.2, ap length same ∙ h.depth)
