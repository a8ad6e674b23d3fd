-- Elements that hang together by rules.
use Rattle.std.proofs.Common.{ℕ, List, [], ◌∷◌, refl, sym, subst, inl, inr, ⊎_elim}
use Rattle.compat_check.specs.Parts.{Rule, Touches, IsPath, Hangs}

pub touches_back : (rules : List Rule) (x y : ℕ) → Touches rules x y → Touches rules y x
touches_back [] x y h = absurd h
touches_back (rule ∷ rules) x y h = ⊎_elim (λ p. inr (inl p)) (λ k. ⊎_elim (λ p. inl p) (λ p. inr (inr (touches_back rules x y p))) k) h

pub hangs_self : (rules : List Rule) (x : ℕ) → Hangs rules x x
hangs_self rules x = ([], refl)

pub hangs_step : (rules : List Rule) (x q y : ℕ) → Touches rules x q → Hangs rules q y → Hangs rules x y
hangs_step rules x q y t h = (q ∷ h.0, (t, h.1))

hangs_along : (rules : List Rule) (qs : List ℕ) (x y z : ℕ) → IsPath rules x qs y → Hangs rules y z → Hangs rules x z
hangs_along rules [] x y z p h = subst (λ (w : ℕ). Hangs rules w z) (sym p) h
hangs_along rules (q ∷ qs) x y z p h = hangs_step rules x q z p.0 (hangs_along rules qs q y z p.1 h)

pub hangs_trans : (rules : List Rule) (x y z : ℕ) → Hangs rules x y → Hangs rules y z → Hangs rules x z
hangs_trans rules x y z h k = hangs_along rules h.0 x y z h.1 k

path_back : (rules : List Rule) (qs : List ℕ) (x y : ℕ) → IsPath rules x qs y → Hangs rules y x
path_back rules [] x y p = subst (λ (w : ℕ). Hangs rules y w) (sym p) (hangs_self rules y)
path_back rules (q ∷ qs) x y p = hangs_trans rules y q x (path_back rules qs q y p.1) (hangs_step rules q x x (touches_back rules x q p.0) (hangs_self rules x))

pub hangs_back : (rules : List Rule) (x y : ℕ) → Hangs rules x y → Hangs rules y x
hangs_back rules x y h = path_back rules h.0 x y h.1

-- what one list of rules touches, another does
path_in : (rules others : List Rule) → ((x y : ℕ) → Touches rules x y → Touches others x y) → (qs : List ℕ) (x y : ℕ) → IsPath rules x qs y → IsPath others x qs y
path_in rules others more [] x y p = p
path_in rules others more (q ∷ qs) x y p = (more x q p.0, path_in rules others more qs q y p.1)

pub hangs_in : (rules others : List Rule) → ((x y : ℕ) → Touches rules x y → Touches others x y) → (x y : ℕ) → Hangs rules x y → Hangs others x y
hangs_in rules others more x y h = (h.0, path_in rules others more h.0 x y h.1)

pub hangs_more : (rule : Rule) (rules : List Rule) (x y : ℕ) → Hangs rules x y → Hangs (rule ∷ rules) x y
hangs_more rule rules x y h = hangs_in rules (rule ∷ rules) (λ a b t. inr (inr t)) x y h
