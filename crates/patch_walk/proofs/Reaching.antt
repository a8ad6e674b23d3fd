-- How far a walk to a name comes, over two calls.
use Rattle.std.proofs.Common.{◌≡◌, ℕ, suc, ◌+◌, ◌<◌, Bool, List, [], ◌∷◌, ◌++◌, length, Option, Some, None, IfNone, IfSome, MatchOption, refl, sym, ap, ◌∙◌, subst, arith}
use Rattle.mesh_names.specs.Names.{Name}
use Rattle.table_words.specs.Entries.{HasEntry}
use Rattle.table_words.specs.declared.layout.Layout.{Layout}
use Rattle.table_words.specs.NameWords.{name_code}
use Rattle.table_words.specs.Setup.{Setup}
use Rattle.mesh_table.specs.Saw.{Saw, SawEnd, SawBisected}
use Rattle.mesh_table.specs.Sights.{Sight}
use Rattle.patch_walk.specs.declared.places.Found.{Found}
use Rattle.patch_walk.specs.Reached.{IsAlive, IsReached}
use Rattle.patch_walk.specs.Tops.{EndedIn, ParentKnown}
use Rattle.patch_walk.specs.Wiser.{KnowsBisected}
use Rattle.patch_walk.proofs.Climbing.{Later, ended_one}

-- what a walk adds to the account
pub visit_news : (r : Option (ℕ × Bool)) (v w : Sight) (k : ℕ) → IfNone r (w.saw ≡ SawEnd k ∷ v.saw) → IfSome r (λ p. w.saw ≡ SawBisected k ∷ v.saw) → Later v w
visit_news None v w k e f = (SawEnd k ∷ [], e)
visit_news (Some p) v w k e f = (SawBisected k ∷ [], f)

-- the end of a walk for a whole name
pub block_of : (s : Setup) (pool : ℕ) (r : Option (ℕ × Bool)) (u v w : Sight) (n : Name) → Later u v → IfNone r (w.saw ≡ SawEnd (name_code n) ∷ v.saw) → IfNone r (HasEntry w.work.absent (name_code n)) → IfSome r (λ p. (p.0 < pool) × KnowsBisected s w (name_code n) p.0 p.1)
    → MatchOption r (EndedIn u w n × HasEntry w.work.absent (name_code n)) (λ p. (◌≡◌ {A = List Bool} [] []) × (p.0 < pool) × KnowsBisected s w (name_code n) p.0 p.1)
block_of s pool None u v w n l e a k = (ended_one u v w n l e, a)
block_of s pool (Some p) u v w n l e a k = (refl, k.0, k.1)

-- a walk that ended above a name's parent, or at it, ended above the name
pub reached_up : (l : Layout) (s : Setup) (u v : Sight) (n p : Name) (side : Bool) (r : Found) → n ≡ (p.0, side ∷ p.1) → r.block ≡ None → IsReached l s u v p r → IsReached l s u v n r
reached_up l s u v n p side r e none t = subst (λ (m : Name). IsReached l s u v m r) (sym e) (record {
  left = side ∷ t.left;
  prefix = t.prefix;
  parts = ap (λ (q : List Bool). side ∷ q) t.parts;
  depth = t.depth;
  place = t.place;
  found = t.found;
  parent = t.parent;
  block = subst (λ (b : Option (ℕ × Bool)). MatchOption b (EndedIn u v (p.0, t.prefix) × HasEntry v.work.absent (name_code (p.0, t.prefix))) (λ q. (◌≡◌ {A = List Bool} (side ∷ t.left) []) × (q.0 < l.pool) × KnowsBisected s v (name_code (p.0, t.prefix)) q.0 q.1)) (sym none)
      (subst (λ (b : Option (ℕ × Bool)). MatchOption b (EndedIn u v (p.0, t.prefix) × HasEntry v.work.absent (name_code (p.0, t.prefix))) (λ q. (t.left ≡ []) × (q.0 < l.pool) × KnowsBisected s v (name_code (p.0, t.prefix)) q.0 q.1)) none t.block);
})

-- a walk that found a block came to the whole name
pub reached_whole : (l : Layout) (s : Setup) (u v : Sight) (n : Name) (r : Found) (b : ℕ) (t : Bool) → r.block ≡ Some (b, t) → IsReached l s u v n r → (b < l.pool) × KnowsBisected s v (name_code n) b t × (length n.1 ≡ r.depth)
reached_whole l s u v n r b t is h =
    let k = subst (λ (q : Option (ℕ × Bool)). MatchOption q (EndedIn u v (n.0, h.prefix) × HasEntry v.work.absent (name_code (n.0, h.prefix))) (λ q. (h.left ≡ []) × (q.0 < l.pool) × KnowsBisected s v (name_code (n.0, h.prefix)) q.0 q.1)) is h.block in
    let same : n.1 ≡ h.prefix = h.parts ∙ ap (λ (q : List Bool). q ++ h.prefix) k.0 in
    (k.1, subst (λ (q : List Bool). KnowsBisected s v (name_code (n.0, q)) b t) (sym same) k.2, ap length same ∙ h.depth)

-- no parent of a macro element, and the parent of a child
pub no_parent : (v : Sight) (n : Name) → n.1 ≡ [] → ParentKnown v n
no_parent v n e b w h = absurd (not (sym e ∙ h))
  where
    not : ◌≡◌ {A = List Bool} [] (b ∷ w) → ⊥
    not q = cc

pub one_parent : (v : Sight) (n p : Name) (side : Bool) → n ≡ (p.0, side ∷ p.1) → HasEntry v.work.known (name_code p) → ParentKnown v n
one_parent v n p side e k = subst (ParentKnown v) (sym e) (λ b w h. subst (λ (q : List Bool). HasEntry v.work.known (name_code (p.0, q))) (tail_one side b p.1 w h) k)
  where
    tail_one : (x y : Bool) (a w : List Bool) → ◌≡◌ {A = List Bool} (x ∷ a) (y ∷ w) → a ≡ w
    tail_one x y a w f = cc

pub deeper : (n p : Name) (side : Bool) (d : ℕ) → n ≡ (p.0, side ∷ p.1) → length p.1 ≡ d → length n.1 ≡ d + 1
deeper n p side d e l = let up : suc (length p.1) ≡ d + 1 = (let q = l in omega arith) in ap (λ (m : Name). length m.1) e ∙ up

-- whether the name is bisected
pub alive_of : (l : Layout) (s : Setup) (u v : Sight) (n : Name) (r : Found) (o : Option (ℕ × Bool)) → r.block ≡ o → IsReached l s u v n r → MatchOption o ((left prefix : List Bool) × (n.1 ≡ left ++ prefix) × EndedIn u v (n.0, prefix)) (λ p. HasEntry v.work.known (name_code n))
alive_of l s u v n r None e h =
    let k = subst (λ (q : Option (ℕ × Bool)). MatchOption q (EndedIn u v (n.0, h.prefix) × HasEntry v.work.absent (name_code (n.0, h.prefix))) (λ q. (h.left ≡ []) × (q.0 < l.pool) × KnowsBisected s v (name_code (n.0, h.prefix)) q.0 q.1)) e h.block in
    (h.left, h.prefix, h.parts, k.0)
alive_of l s u v n r (Some p) e h = (reached_whole l s u v n r p.0 p.1 e h).1.0
