-- Tops of chains, over two calls.
use Rattle.std.proofs.Common.{◌≡◌, Bool, List, ◌∷◌, Option, Some, None, option_map, inl, refl, sym, ap, ◌∙◌}
use Rattle.mesh_names.specs.Names.{Name}
use Rattle.mesh_names.specs.Partners.{Across}
use Rattle.table_words.specs.NameWords.{name_code}
use Rattle.mesh_table.specs.Sights.{Sight}
use Rattle.std.proofs.Common.{◌++◌}
use Rattle.std.proofs.lemmas.List.{append_assoc}
use Rattle.table_words.proofs.Entries.{entry_left, entry_right}
use Rattle.mesh_table.specs.Saw.{Saw, SawEnd}
use Rattle.patch_walk.specs.Tops.{IsTop, EndedIn}

abbrev pub Later : Sight → Sight → Type 0
Later u v = (news : List Saw) × (v.saw ≡ news ++ u.saw)

pub later_more : (u v w : Sight) → Later u v → Later v w → Later u w
later_more u v w p q = (q.0 ++ p.0, q.1 ∙ ap (λ (l : List Saw). q.0 ++ l) p.1 ∙ sym (append_assoc q.0 p.0 u.saw))

pub later_one : (u v w : Sight) (e : Saw) → Later u v → w.saw ≡ e ∷ v.saw → Later u w
later_one u v w e p h = (e ∷ p.0, h ∙ ap (λ (l : List Saw). e ∷ l) p.1)

pub top_after : (across : Across) (P Q : Name → Type 0) (u v w : Sight) (m : Name) → ((n : Name) → P n → Q n) → Later u v → IsTop across P v w m → IsTop across Q u w m
top_after across P Q u v w m on p t = record {
  needed = on m t.needed;
  ended = (t.ended.0 ++ p.0, t.ended.1 ∙ ap (λ (l : List Saw). t.ended.0 ++ l) p.1 ∙ sym (append_assoc t.ended.0 p.0 u.saw), entry_left {A = Saw} t.ended.0 p.0 (SawEnd (name_code m)) t.ended.2);
  parent = t.parent;
  partner_parent = t.partner_parent;
}

pub no_partner : (p : Option (Name × Bool)) (o : Name) (t : Bool) → ◌≡◌ {A = Option Name} None (option_map (λ (a : Name × Bool). a.0) p) → p ≡ Some (o, t) → ⊥
no_partner p o t e h = not (e ∙ ap (λ (a : Option (Name × Bool)). option_map (λ (b : Name × Bool). b.0) a) h)
  where
    not : ◌≡◌ {A = Option Name} None (Some o) → ⊥
    not e = cc

pub same_partner : (p : Option (Name × Bool)) (m o : Name) (t : Bool) → Some m ≡ option_map (λ (a : Name × Bool). a.0) p → p ≡ Some (o, t) → m ≡ o
same_partner p m o t e h = one m o (e ∙ ap (λ (a : Option (Name × Bool)). option_map (λ (b : Name × Bool). b.0) a) h)
  where
    one : (x y : Name) → ◌≡◌ {A = Option Name} (Some x) (Some y) → x ≡ y
    one x y e = cc

pub ended_one : (u v w : Sight) (m : Name) → Later u v → w.saw ≡ SawEnd (name_code m) ∷ v.saw → EndedIn u w m
ended_one u v w m p h = (SawEnd (name_code m) ∷ p.0, h ∙ ap (λ (l : List Saw). SawEnd (name_code m) ∷ l) p.1, inl refl)

pub ended_more : (u v w : Sight) (m : Name) → EndedIn u v m → Later v w → EndedIn u w m
ended_more u v w m p q = (q.0 ++ p.0, q.1 ∙ ap (λ (l : List Saw). q.0 ++ l) p.1 ∙ sym (append_assoc q.0 p.0 u.saw), entry_right {A = Saw} q.0 p.0 (SawEnd (name_code m)) p.2)
