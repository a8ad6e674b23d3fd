-- The words of a block that was filled for a patch.
use Rattle.std.proofs.Common.{◌∙◌, subst, ◌≡◌, ℕ, ◌+◌, ◌*◌, ◌<◌, Bool, true, false, refl, sym, arith, inl, inr}
use Rattle.table_words.specs.Claims.{Drawn, claim}
use Rattle.table_words.specs.Entries.{HasEntry, Noted}
use Rattle.table_words.specs.Places.{member_of, child_place}
use Rattle.table_words.specs.Setup.{Setup}
use Rattle.table_words.specs.Views.{Worker}
use Rattle.table_words.specs.Words.{Node, node}
use Rattle.table_state.specs.Ghosts.{Placed, stands}
use Rattle.mesh_table.specs.Sights.{Sight}
use Rattle.mesh_table.specs.Told.{MayLink, noted_head, noted_history, noted_died, noted_name, noted_children}

-- the words of the block but the HISTORY words, and the contents of the members' LINK words
abbrev pub named : Sight → ℕ → ℕ → ℕ → ℕ → Sight
named v e b code mate = noted_children (noted_name (noted_name (noted_died v b 0) (member_of b false) code) (member_of b true) mate) e b

-- the view after all is filled
abbrev pub filled : Sight → ℕ → ℕ → ℕ → ℕ → Node → Node → Sight
filled v e x b code l l' = noted_history (noted_history (noted_head (named v e b code 0) x l) (member_of b false) l') (member_of b true) (node 0 0)

abbrev pub filled_pair : Sight → ℕ → ℕ → ℕ → ℕ → ℕ → ℕ → Node → Node → Node → Node → Sight
filled_pair v e x y b code mate l l' r r' = noted_history (noted_head (noted_history (noted_head (named v e b code mate) x l) (member_of b false) l') y r) (member_of b true) r'

sides : (b : ℕ) → member_of b true ≡ member_of b false → ⊥
sides b d = omega arith

pub may_link : (s : Setup) (v : Sight) (x b code : ℕ) (l l' : Node) → l' ≡ l → v.kind ≡ Worker → HasEntry v.claims (claim x 0 (Drawn b)) → HasEntry v.work.found (x, code) → s.leads code ≡ true → s.mate code ≡ 0 → ((c : ℕ) → c < 4 → x ≡ s.elements + 4 * b + c → ⊥)
    → MayLink s (filled v s.elements x b code l l') x 0 b code
may_link s v x b code l l' same works drew found leads mate apart = record {
  works = works;
  drew = drew;
  died = inl (refl, refl);
  first = inr (sides b, inl (refl, refl));
  second = inl (refl, sym mate);
  leads = leads;
  children = child;
  olds = old;
  found = found;
  mates = inl (refl, mate);
}
  where
    e : ℕ
    e = s.elements

    child : (t c : Bool) → Noted (filled v s.elements x b code l l').owned.head (child_place s.elements b t c) (node 0 0)
    child true true = inr ((λ d. apart 3 (omega arith) (omega arith)), inl (omega arith, refl))
    child true false = inr ((λ d. apart 2 (omega arith) (omega arith)), inr ((λ d. omega arith), inl (omega arith, refl)))
    child false true = inr ((λ d. apart 1 (omega arith) (omega arith)), inr ((λ d. omega arith), inr ((λ d. omega arith), inl (omega arith, refl))))
    child false false = inr ((λ d. apart 0 (omega arith) (omega arith)), inr ((λ d. omega arith), inr ((λ d. omega arith), inr ((λ d. omega arith), inl (omega arith, refl)))))

    old : (t : Bool) (y : ℕ) → stands (Placed x 0) t ≡ y + 1 → (a : Node) × Noted (filled v s.elements x b code l l').owned.head y a × Noted (filled v s.elements x b code l l').owned.history (member_of b t) a
    old true y d = absurd (omega arith)
    old false y d = (l, inl (omega arith, refl), inr (sides b, inl (refl, same)))

pub may_link_pair : (s : Setup) (v : Sight) (x y b code mate : ℕ) (l l' r r' : Node) → l' ≡ l → r' ≡ r → (x ≡ y → ⊥) → v.kind ≡ Worker → HasEntry v.claims (claim x (y + 1) (Drawn b)) → HasEntry v.work.found (x, code) → HasEntry v.work.found (y, mate) → s.leads code ≡ true → s.mate code ≡ mate
    → ((i : ℕ) × (mate ≡ i + 1)) → ((c : ℕ) → c < 4 → x ≡ s.elements + 4 * b + c → ⊥) → ((c : ℕ) → c < 4 → y ≡ s.elements + 4 * b + c → ⊥) → MayLink s (filled_pair v s.elements x y b code mate l l' r r') x (y + 1) b code
may_link_pair s v x y b code mate l l' r r' same same' two works drew found found' leads mates some apart apart' = record {
  works = works;
  drew = drew;
  died = inl (refl, refl);
  first = inr (sides b, inl (refl, refl));
  second = inl (refl, sym mates);
  leads = leads;
  children = child;
  olds = old;
  found = found;
  mates = inr (y, some.0, refl, mates ∙ some.1, subst (λ (a : ℕ). HasEntry v.work.found (y, a)) some.1 found');
}
  where
    e : ℕ
    e = s.elements

    child : (t c : Bool) → Noted (filled_pair v s.elements x y b code mate l l' r r').owned.head (child_place s.elements b t c) (node 0 0)
    child true true = inr ((λ d. apart' 3 (omega arith) (omega arith)), inr ((λ d. apart 3 (omega arith) (omega arith)), inl (omega arith, refl)))
    child true false = inr ((λ d. apart' 2 (omega arith) (omega arith)), inr ((λ d. apart 2 (omega arith) (omega arith)), inr ((λ d. omega arith), inl (omega arith, refl))))
    child false true = inr ((λ d. apart' 1 (omega arith) (omega arith)), inr ((λ d. apart 1 (omega arith) (omega arith)), inr ((λ d. omega arith), inr ((λ d. omega arith), inl (omega arith, refl)))))
    child false false = inr ((λ d. apart' 0 (omega arith) (omega arith)), inr ((λ d. apart 0 (omega arith) (omega arith)), inr ((λ d. omega arith), inr ((λ d. omega arith), inr ((λ d. omega arith), inl (omega arith, refl))))))

    old : (t : Bool) (z : ℕ) → stands (Placed x (y + 1)) t ≡ z + 1 → (a : Node) × Noted (filled_pair v s.elements x y b code mate l l' r r').owned.head z a × Noted (filled_pair v s.elements x y b code mate l l' r r').owned.history (member_of b t) a
    old true z d = (r, inl (omega arith, refl), inl (refl, same'))
    old false z d = (l, inr ((λ f. two (omega arith)), inl (omega arith, refl)), inr (sides b, inl (refl, same)))
