-- What the owner knows in the run that frees a child's block.
use Rattle.std.proofs.Common.{◌≡◌, ℕ, ◌+◌, ◌/◌, ◌<◌, ◌≤◌, ◌==◌, Bool, true, false, List, [], ◌∷◌, ◌⊎◌, refl, sym, ap, ◌∙◌, subst, inl, inr, ⊎_elim, arith, eqb-true}
use Rattle.table_words.specs.Entries.{HasEntry, Noted}
use Rattle.table_words.specs.Places.{member_of}
use Rattle.table_words.specs.Views.{Plan, Owned, Views}
use Rattle.table_words.specs.Words.{Node, node}
use Rattle.table_state.specs.Ghosts.{Placed, stands}
use Rattle.table_state.specs.Lists.{IsTarget, IsListed, IsMember}
use Rattle.table_runs.specs.PatchWords.{name0, name1}
use Rattle.table_runs.specs.SquareTwice.{pair_setup}
use Rattle.table_runs.specs.ChildWords.{child_name, at_child}
use Rattle.table_runs.specs.SquareFreed.{LooksAt}
use Rattle.table_runs.proofs.SquareLists.{both}
use Rattle.table_runs.proofs.SquareNotes.{lt03}
use Rattle.table_runs.proofs.ChildNotes.{child_names, child_closed}

pub lt13 : 1 < 3
lt13 = omega arith

-- round 3 needs nothing
abbrev pub keep_plan : Plan
keep_plan = record { needs = []; target = child_names; retire = [] }

pub keep_aim : IsTarget pair_setup (HasEntry child_names) keep_plan
keep_aim = record { closed = child_closed; olds = λ n h. h; needs = λ n h. absurd h; least = λ other c o k n h. o n h }

abbrev pub child_open : List ℕ
child_open = pair_setup.child child_name false ∷ pair_setup.child child_name true ∷ []

pub child_kids : (c : Bool) → HasEntry child_open (pair_setup.child child_name c)
child_kids true = inr (inl refl)
child_kids false = inl refl

-- the child's patch has one member
pub single : (i : ℕ) → pair_setup.mate child_name ≡ i + 1 → (c : Bool) → HasEntry child_open (pair_setup.child (i + 1) c)
single i e c = let z : 0 ≡ i + 1 = e in absurd (omega arith)

pub child_newly : (i : ℕ) → HasEntry (child_name ∷ child_open) i → HasEntry child_open i ⊎ IsMember pair_setup child_name i
child_newly i (inl e) = inr (inl e)
child_newly i (inr h) = inl h

is_child : (n : ℕ) → IsListed pair_setup (child_name ∷ []) n → n ≡ child_name
is_child n (k, inl e, inl f) = f ∙ e
is_child n (k, inl e, inr t) = let z : 0 ≡ t.0 + 1 = sym (ap pair_setup.mate e) ∙ t.1 in absurd (omega arith)
is_child n (k, inr h, m) = absurd h

pub child_listed : (n : ℕ) → IsListed pair_setup (child_name ∷ []) n → HasEntry (child_name ∷ child_open) n
child_listed n h = inl (is_child n h)

pub both_keep : (n : ℕ) → HasEntry both n → HasEntry child_names n × (IsListed pair_setup (child_name ∷ []) n → ⊥)
both_keep n (inl e) = (inl e, λ h. let z : ◌≡◌ {A = ℕ} name0 child_name = sym e ∙ is_child n h in absurd (omega arith))
both_keep n (inr (inl e)) = (inr (inl e), λ h. let z : ◌≡◌ {A = ℕ} name1 child_name = sym e ∙ is_child n h in absurd (omega arith))
both_keep n (inr (inr f)) = absurd f

pub only_both : (n : ℕ) → HasEntry child_names n → (IsListed pair_setup (child_name ∷ []) n → ⊥) → HasEntry both n
only_both n (inl e) o = inl e
only_both n (inr (inl e)) o = inr (inl e)
only_both n (inr (inr (inl e))) o = absurd (o (child_name, inl refl, inl e))
only_both n (inr (inr (inr f))) o = absurd f

abbrev all_placed : List (ℕ × ℕ × ℕ)
all_placed = (1, at_child, 0) ∷ (1, at_child, 0) ∷ (0, 0, 2) ∷ (0, 0, 2) ∷ []

abbrev pub root_placed : List (ℕ × ℕ × ℕ)
root_placed = (0, 0, 2) ∷ (0, 0, 2) ∷ []

abbrev stamped_heads : List (ℕ × Node)
stamped_heads = (at_child, node 2 3) ∷ (at_child, node 2 0) ∷ []

abbrev IsStamped : ℕ → ℕ → Type 0
IsStamped x b = (l : Node) × Noted stamped_heads x l × ((l.block ≡ b + 1 → ⊥) ⊎ (0 < l.died))

pub child_stamped : (b : ℕ) → HasEntry (1 ∷ []) b → (x : ℕ) × (m : ℕ) × HasEntry all_placed (b, x, m) × IsStamped x b × ((y : ℕ) → m ≡ y + 1 → IsStamped y b)
child_stamped b (inr h) = absurd h
child_stamped b (inl e) = (at_child, 0, inl (ap (λ (i : ℕ). (i, at_child, 0)) e), (node 2 3, inl (refl, refl), inr lt03), λ y f. absurd (omega arith))

-- the block that is freed
abbrev pub is_one : ℕ → Bool
is_one c = c == 1

one_is : (c : ℕ) → c ≡ 1 → is_one c ≡ true
one_is c e = ap is_one e

abbrev pub frees_child : Views → Views
frees_child v = record v { ruling = record v.ruling { hand = 1 ∷ []; rolled_back = []; kept = []; placed = root_placed } }

abbrev cut_heads : List (ℕ × Node)
cut_heads = (at_child, node 0 0) ∷ stamped_heads

abbrev Clean : ℕ → Type 0
Clean x = ((l : Node) × Noted cut_heads x l × ((c : ℕ) → l.block ≡ c + 1 → is_one c ≡ false))
    × ((b y m : ℕ) (t : Bool) → HasEntry all_placed (b, y, m) → stands (Placed y m) t ≡ x + 1 → (is_one b ≡ true) ⊎ ((l : Node) × Noted ((2, node 0 0) ∷ []) (member_of b t) l × ((c : ℕ) → l.block ≡ c + 1 → is_one c ≡ false)))

-- no block but the child's stands at its place
far : (a : ℕ × ℕ × ℕ) (t : Bool) → ◌≡◌ {A = ℕ × ℕ × ℕ} a (0, 0, 2) → stands (Placed a.1 a.2) t ≡ 3 → ⊥
far a true e st = let z : ◌≡◌ {A = ℕ} 2 3 = sym (ap (λ (i : ℕ × ℕ × ℕ). i.2) e) ∙ st in omega arith
far a false e st = let z : ◌≡◌ {A = ℕ} 1 3 = sym (ap (λ (i : ℕ × ℕ × ℕ). i.1 + 1) e) ∙ st in omega arith

elsewhere : (b y m : ℕ) (t : Bool) → HasEntry all_placed (b, y, m) → stands (Placed y m) t ≡ at_child + 1 → b ≡ 1
elsewhere b y m t (inl e) st = ap (λ (a : ℕ × ℕ × ℕ). a.0) e
elsewhere b y m t (inr (inl e)) st = ap (λ (a : ℕ × ℕ × ℕ). a.0) e
elsewhere b y m t (inr (inr (inl e))) st = absurd (far (b, y, m) t e st)
elsewhere b y m t (inr (inr (inr (inl e)))) st = absurd (far (b, y, m) t e st)
elsewhere b y m t (inr (inr (inr (inr f)))) st = absurd f

clean_child : Clean at_child
clean_child = ((node 0 0, inl (refl, refl), λ c e. absurd (omega arith)), λ b y m t h st. inl (one_is b (elsewhere b y m t h st)))

clean_places : (t : Bool) (x : ℕ) → stands (Placed at_child 0) t ≡ x + 1 → Clean x
clean_places true x e = let z : 0 ≡ x + 1 = e in absurd (omega arith)
clean_places false x e = let z : 3 ≡ x + 1 = e in subst Clean (let k : ◌≡◌ {A = ℕ} at_child x = omega arith in k) clean_child

pub child_gone : (c : ℕ) → is_one c ≡ true → (HasEntry {A = ℕ} [] c × ((◌≡◌ {A = ℕ} 0 0) ⊎ ((q : ℕ) → q < 3 → HasEntry {A = ℕ} [] q)) × (false ≡ true))
    ⊎ ((e y m : ℕ) × Noted ((1, 3) ∷ []) c e × (0 < e) × (e ≤ 3) × ((◌≡◌ {A = ℕ} 0 0) ⊎ ((q : ℕ) → q < e → HasEntry {A = ℕ} [] q)) × HasEntry all_placed (c, y, m) × ((t : Bool) (x : ℕ) → stands (Placed y m) t ≡ x + 1 → Clean x))
child_gone c h = let e : c ≡ 1 = eqb-true c 1 h in inr (3, at_child, 0, inl (sym e, refl), lt03, omega arith, inl refl, inl (ap (λ (i : ℕ). (i, at_child, 0)) e), clean_places)

pub hand_one : (c : ℕ) → (HasEntry (1 ∷ []) c → HasEntry {A = ℕ} [] c ⊎ (is_one c ≡ true)) × (HasEntry {A = ℕ} [] c ⊎ (is_one c ≡ true) → HasEntry (1 ∷ []) c)
hand_one c = ((λ h. ⊎_elim (λ e. inr (one_is c e)) (λ f. absurd f) h), λ h. ⊎_elim (λ f. absurd f) (λ e. inl (eqb-true c 1 e)) h)

pub kept_one : (c : ℕ) → (HasEntry {A = ℕ} [] c → HasEntry (1 ∷ []) c × (is_one c ≡ false)) × (HasEntry (1 ∷ []) c → HasEntry {A = ℕ} [] c ⊎ (is_one c ≡ true))
kept_one c = ((λ h. absurd h), λ h. ⊎_elim (λ e. inr (one_is c e)) (λ f. absurd f) h)

stays : (a : ℕ × ℕ × ℕ) → ◌≡◌ {A = ℕ × ℕ × ℕ} a (0, 0, 2) → is_one a.0 ≡ false
stays a e = ap (λ (i : ℕ × ℕ × ℕ). is_one i.0) e

pub root_left : (a : ℕ × ℕ × ℕ) → (HasEntry root_placed a → HasEntry all_placed a × (is_one a.0 ≡ false)) × (HasEntry all_placed a → HasEntry root_placed a ⊎ (is_one a.0 ≡ true))
root_left a = (keep, drop)
  where
    keep : HasEntry root_placed a → HasEntry all_placed a × (is_one a.0 ≡ false)
    keep (inl e) = (inr (inr (inl e)), stays a e)
    keep (inr (inl e)) = (inr (inr (inr (inl e))), stays a e)
    keep (inr (inr f)) = absurd f

    drop : HasEntry all_placed a → HasEntry root_placed a ⊎ (is_one a.0 ≡ true)
    drop (inl e) = inr (ap (λ (i : ℕ × ℕ × ℕ). is_one i.0) e)
    drop (inr (inl e)) = inr (ap (λ (i : ℕ × ℕ × ℕ). is_one i.0) e)
    drop (inr (inr h)) = inl h

-- what the owner owns then
abbrev pub child_owned : Owned
child_owned = record { head = cut_heads; history = (2, node 0 0) ∷ []; born = []; died = (1, 3) ∷ []; name = []; row = [] }

pub looks_at_child : LooksAt child_owned at_child 1
looks_at_child = (heads, histories, dieds, (λ c k h. absurd h), (λ i k h. absurd h), λ i k h. h)
  where
    heads : (y : ℕ) (l : Node) → HasEntry {A = ℕ × Node} cut_heads (y, l) → y ≡ at_child
    heads y l (inl e) = ap (λ (a : ℕ × Node). a.0) e
    heads y l (inr (inl e)) = ap (λ (a : ℕ × Node). a.0) e
    heads y l (inr (inr (inl e))) = ap (λ (a : ℕ × Node). a.0) e
    heads y l (inr (inr (inr f))) = absurd f

    histories : (i : ℕ) (l : Node) → HasEntry {A = ℕ × Node} ((2, node 0 0) ∷ []) (i, l) → i / 2 ≡ 1
    histories i l (inl e) = ap (λ (a : ℕ × Node). a.0 / 2) e
    histories i l (inr f) = absurd f

    dieds : (c k : ℕ) → HasEntry {A = ℕ × ℕ} ((1, 3) ∷ []) (c, k) → c ≡ 1
    dieds c k (inl e) = ap (λ (a : ℕ × ℕ). a.0) e
    dieds c k (inr f) = absurd f
