-- Words are led past retired blocks, one after the other.
use Rattle.std.proofs.Common.{◌≡◌, ◌≢◌, ℕ, ◌+◌, ◌<◌, ◌≤◌, Bool, true, false, List, length, ◌⊎◌, inl, inr, ⊎_elim, refl, sym, ap, ◌∙◌, subst, arith}
use mathlib.Core.Logic.{dite}
use native.Mathlib.Decide.{ℕ_discrete}
use Rattle.table_words.specs.declared.layout.Layout.{Layout}
use Rattle.table_words.specs.declared.layout.ElemAt.{ElemAt}
use Rattle.table_words.specs.Entries.{HasEntry, Noted}
use Rattle.table_words.specs.Layout.{IsElemAt}
use Rattle.table_words.specs.Places.{member_of, place_at, place_number}
use Rattle.table_words.specs.Words.{Node, node}
use Rattle.table_words.proofs.PlaceNumbers.{places_numbered}
use Rattle.table_state.specs.Ghosts.{Placed, chained, stands}
use Rattle.table_state.proofs.FoundAgain.{one_more}
use Rattle.mesh_table.specs.Sights.{Sight}
use Rattle.mesh_table.specs.Rounds.{DrainedTo, MayCutLink, MayCutHistory}
use Rattle.mesh_table.specs.Told.{noted_head, noted_history}
use Rattle.table_rounds.specs.declared.patch.Patch.{Patch}
use Rattle.table_rounds.specs.Patches.{StandsAt, nth, spot}
use Rattle.table_rounds.specs.Versions.{IsRooted, NotesMore, LeadsTo, NamesLiving, TwoPlaces}
use Rattle.table_rounds.specs.Sweeps.{ArePlaced, MaySweep, LedHead, LedOlder, HeadClear, OldClear, PlaceClear, StillClear}

-- what a word with a retired round names
pub names_retired : (pool : ℕ) (u : Sight) (x : ℕ) (l : Node) (b : ℕ) → LeadsTo pool u x l → 0 < l.died → l.block ≡ b + 1 → (b < pool) × StandsAt u b x × (HasEntry u.ruling.rolled_back b → ⊥) × Noted u.owned.died b l.died × HasEntry u.ruling.kept b × (l.died ≤ u.ruling.finished)
names_retired pool u x l b (inl e) d q = let z = ap (λ (k : Node). k.died) e in absurd (omega arith)
names_retired pool u x l b (inr t) d q = let same : t.0 ≡ b = one_more t.0 b (sym t.1 ∙ q) in
    subst (λ (c : ℕ). (c < pool) × StandsAt u c x × (HasEntry u.ruling.rolled_back c → ⊥) × Noted u.owned.died c l.died × HasEntry u.ruling.kept c × (l.died ≤ u.ruling.finished)) same (t.2, t.3, t.4, t.5, (t.6 d).0, (t.6 d).1)

-- and one without, where it names a block
pub names_living : (pool : ℕ) (u : Sight) (x : ℕ) (l : Node) (b : ℕ) → LeadsTo pool u x l → l.died ≡ 0 → l.block ≡ b + 1 → (b < pool) × StandsAt u b x × (HasEntry u.ruling.rolled_back b → ⊥) × (HasEntry u.ruling.kept b → ⊥)
names_living pool u x l b (inl e) d q = let z = ap (λ (k : Node). k.block) e in absurd (omega arith)
names_living pool u x l b (inr t) d q = let same : t.0 ≡ b = one_more t.0 b (sym t.1 ∙ q) in
    subst (λ (c : ℕ). (c < pool) × StandsAt u c x × (HasEntry u.ruling.rolled_back c → ⊥) × (HasEntry u.ruling.kept c → ⊥)) same (t.2, t.3, t.4, t.7 d)

pub names_some : (pool : ℕ) (u : Sight) (x : ℕ) (l : Node) → LeadsTo pool u x l → 0 < l.died → 0 < l.block
names_some pool u x l (inl e) d = let z = ap (λ (k : Node). k.died) e in absurd (omega arith)
names_some pool u x l (inr t) d = let z = t.1 in omega arith

-- the side of a block that stands at a place
pub side_fits : (l : Layout) (v : Sight) (places : List Patch) (b : ℕ) (at : ElemAt) (second : Bool) → ArePlaced l v places → IsElemAt l at → StandsAt v b (place_number l at) → (second ≡ false → (nth places b).first ≡ at) → (second ≡ true → (nth places b).first ≢ at)
    → (y m : ℕ) × HasEntry v.ruling.placed (b, y, m) × (stands (Placed y m) second ≡ place_number l at + 1)
side_fits l v places b at false known ok st one two =
    let k = known b st.0 st.1 st.3 in
    let y : place_number l (nth places b).first ≡ st.0 = ap (λ (a : ℕ × ℕ × ℕ). a.1) k.1 in
    (st.0, st.1, st.3, ap (λ (n : ℕ). n + 1) (sym y ∙ ap (place_number l) (one refl)))
side_fits l v places b at true known ok st one two = by st.2 st.4
  where
    by : (t : Bool) → chained (Placed st.0 st.1) t ≡ place_number l at + 1 → (y m : ℕ) × HasEntry v.ruling.placed (b, y, m) × (stands (Placed y m) true ≡ place_number l at + 1)
    by true e = (st.0, st.1, st.3, e)
    by false e =
        let k = known b st.0 st.1 st.3 in
        let y : place_number l (nth places b).first ≡ st.0 = ap (λ (a : ℕ × ℕ × ℕ). a.1) k.1 in
        let same : st.0 ≡ place_number l at = one_more st.0 (place_number l at) e in
        absurd (two refl (sym ((places_numbered l).0 (nth places b).first k.2.1).1 ∙ ap (place_at l) (y ∙ same) ∙ ((places_numbered l).0 at ok).1))

-- a sweep goes on where only what the owner owns has changed
pub may_on : (l : Layout) (u v : Sight) (places : List Patch) → v ≡ record u { owned = v.owned } → MaySweep l u places → MaySweep l v places
may_on l u v places same may = subst (λ (z : Sight). MaySweep l z places) (sym same) record { rules = may.rules; rests = may.rests; drained = may.drained; placed = may.placed }

pub rooted_on : (e : ℕ) (u v : Sight) (x : ℕ) → v ≡ record u { owned = v.owned } → IsRooted e u x → IsRooted e v x
rooted_on e u v x same root = subst (λ (z : Sight). IsRooted e z x) (sym same) root

-- LINK words
pub head_begins : (pool x : ℕ) (l : Node) (u v : Sight) → NotesMore u v → Noted v.owned.head x l → LeadsTo pool v x l → NamesLiving v x l → TwoPlaces v → LedHead pool u v x l
head_begins pool x l u v more at leads living two = record { same = more.same; heads = λ y k o h. more.heads y k h; histories = more.histories; dieds = more.dieds; head = at; leads = leads; living = living; two = two }

pub head_here : (pool x : ℕ) (l : Node) (u v : Sight) → LedHead pool u v x l → LedHead pool v v x l
head_here pool x l u v led = record { same = refl; heads = λ y k o h. h; histories = λ y k h. h; dieds = λ b n h. h; head = led.head; leads = led.leads; living = led.living; two = led.two }

pub head_goes : (pool x : ℕ) (l k : Node) (u v w : Sight) → LedHead pool u v x l → LedHead pool v w x k → LedHead pool u w x k
head_goes pool x l k u v w a b = record {
  same = b.same ∙ (λ t. record (a.same t) { owned = w.owned });
  heads = λ y i o h. b.heads y i o (a.heads y i o h);
  histories = λ y i h. b.histories y i (a.histories y i h);
  dieds = λ c n h. b.dieds c n (a.dieds c n h);
  head = b.head;
  leads = b.leads;
  living = b.living;
  two = b.two;
}

module _ (lay : Layout) (u v : Sight) (places : List Patch) (may : MaySweep lay u places) (x b : ℕ) (t : Bool) (l k : Node) (more : NotesMore u v) (leads : LeadsTo lay.pool v x k) (older : Noted v.owned.history (member_of b t) k)
    (stood : (y m : ℕ) × HasEntry u.ruling.placed (b, y, m) × (stands (Placed y m) t ≡ x + 1)) (dead : 0 < l.died) (named : l.block ≡ b + 1) (was : LeadsTo lay.pool u x l) where
  is : l ≡ node (b + 1) l.died
  is q = node (named q) l.died

  dies : Noted v.owned.died b l.died
  dies = more.dieds b l.died (names_retired lay.pool u x l b was dead named).3

  calm : (v.kind ≡ u.kind) × (v.ruling ≡ u.ruling)
  calm = (ap (λ (z : Sight). z.kind) more.same, ap (λ (z : Sight). z.ruling) more.same)

  honest : HasEntry v.ruling.rolled_back b → ⊥
  honest h = (names_retired lay.pool u x l b was dead named).2 (subst (λ (z : Sight). HasEntry z.ruling.rolled_back b) more.same h)

  drains : DrainedTo v l.died
  drains = subst (λ (z : Sight). DrainedTo z l.died) (sym more.same) (may.drained l.died (names_retired lay.pool u x l b was dead named).5)

  stays_placed : (a : ℕ × ℕ × ℕ) → HasEntry u.ruling.placed a → HasEntry v.ruling.placed a
  stays_placed a h = subst (λ (z : Sight). HasEntry z.ruling.placed a) (sym more.same) h

  pub may_cut_head : Noted u.owned.head x l → MayCutLink v x b t k
  may_cut_head at = record {
    rules = calm.0 ∙ may.rules;
    rests = ap (λ (z : Sight). z.ruling.phase) more.same ∙ may.rests;
    died = l.died;
    first = stood.0;
    second = stood.1;
    head = subst (Noted v.owned.head x) is (more.heads x l at);
    dead = dies;
    next = older;
    some_ = dead;
    drained = drains;
    placed = stays_placed (b, stood.0, stood.1) stood.2;
    fair = honest;
    at = stood.3;
  }

  pub head_cut : (w : Sight) → w ≡ noted_head v x k → NamesLiving u x l → TwoPlaces u → LedHead lay.pool u w x k
  head_cut w e living two = subst (λ (z : Sight). LedHead lay.pool u z x k) (sym e) record {
    same = λ q. record (more.same q) { owned = (noted_head v x k).owned };
    heads = λ y i o h. inr ((λ q. o (sym q)), more.heads y i h);
    histories = more.histories;
    dieds = more.dieds;
    head = inl (refl, refl);
    leads = leads;
    living = λ c y m s h st. ⊎_elim (λ a. inl (subst (λ (z : Sight). HasEntry z.ruling.kept c) (sym more.same) a))
        (λ a. ⊎_elim (λ i. inr (inl (subst (λ (z : Sight). HasEntry z.ruling.rolled_back c) (sym more.same) i))) (λ i. let z = i.1 in absurd (omega arith)) a)
        (living c y m s (subst (λ (z : Sight). HasEntry z.ruling.placed (c, y, m)) more.same h) st);
    two = λ c y m z s i h. two c y m z s i (subst (λ (a : Sight). HasEntry a.ruling.placed (c, y, m)) more.same h);
  }

  pub may_cut_older : (a : ℕ) (s : Bool) → ((y m : ℕ) × HasEntry u.ruling.placed (a, y, m) × (stands (Placed y m) s ≡ x + 1)) → Noted u.owned.history (member_of a s) l → MayCutHistory v a s x b t k
  may_cut_older a s from at = record {
    rules = calm.0 ∙ may.rules;
    rests = ap (λ (z : Sight). z.ruling.phase) more.same ∙ may.rests;
    died = l.died;
    first = stood.0;
    second = stood.1;
    from_first = from.0;
    from_second = from.1;
    word = subst (Noted v.owned.history (member_of a s)) is (more.histories (member_of a s) l at);
    dead = dies;
    next = older;
    some_ = dead;
    drained = drains;
    from = stays_placed (a, from.0, from.1) from.2;
    stood = from.3;
    placed = stays_placed (b, stood.0, stood.1) stood.2;
    fair = honest;
    at = stood.3;
  }

  pub older_cut : (a : ℕ) (s : Bool) (w : Sight) → w ≡ noted_history v (member_of a s) k → (k ≡ node 0 0) ⊎ (0 < k.died) → LedOlder lay.pool u w x a s k
  older_cut a s w e retired = subst (λ (z : Sight). LedOlder lay.pool u z x a s k) (sym e) record {
    same = λ q. record (more.same q) { owned = (noted_history v (member_of a s) k).owned };
    heads = more.heads;
    histories = λ y i o h. inr ((λ q. o (sym q)), more.histories y i h);
    dieds = more.dieds;
    history = inl (refl, refl);
    leads = leads;
    retired = retired;
  }

-- HISTORY words
pub older_begins : (pool x b : ℕ) (t : Bool) (l : Node) (u v : Sight) → NotesMore u v → Noted v.owned.history (member_of b t) l → LeadsTo pool v x l → (l ≡ node 0 0) ⊎ (0 < l.died) → LedOlder pool u v x b t l
older_begins pool x b t l u v more at leads retired = record { same = more.same; heads = more.heads; histories = λ y k o h. more.histories y k h; dieds = more.dieds; history = at; leads = leads; retired = retired }

pub older_here : (pool x b : ℕ) (t : Bool) (l : Node) (u v : Sight) → LedOlder pool u v x b t l → LedOlder pool v v x b t l
older_here pool x b t l u v led = record { same = refl; heads = λ y k h. h; histories = λ y k o h. h; dieds = λ c n h. h; history = led.history; leads = led.leads; retired = led.retired }

pub older_goes : (pool x b : ℕ) (t : Bool) (l k : Node) (u v w : Sight) → LedOlder pool u v x b t l → LedOlder pool v w x b t k → LedOlder pool u w x b t k
older_goes pool x b t l k u v w a c = record {
  same = c.same ∙ (λ q. record (a.same q) { owned = w.owned });
  heads = λ y i h. c.heads y i (a.heads y i h);
  histories = λ y i o h. c.histories y i o (a.histories y i o h);
  dieds = λ i n h. c.dieds i n (a.dieds i n h);
  history = c.history;
  leads = c.leads;
  retired = c.retired;
}

-- what is clear stays so
clear_over : (u v : Sight) (l : Node) → v ≡ record u { owned = v.owned } → ((c : ℕ) → l.block ≡ c + 1 → (HasEntry u.ruling.kept c → ⊥) × (HasEntry u.ruling.rolled_back c → ⊥)) → (c : ℕ) → l.block ≡ c + 1 → (HasEntry v.ruling.kept c → ⊥) × (HasEntry v.ruling.rolled_back c → ⊥)
clear_over u v l same f c e = let t = f c e in ((λ h. t.0 (subst (λ (z : Sight). HasEntry z.ruling.kept c) same h)), λ h. t.1 (subst (λ (z : Sight). HasEntry z.ruling.rolled_back c) same h))

module _ (pool : ℕ) (u v : Sight) (x b : ℕ) (t : Bool) (l : Node) (led : LedOlder pool u v x b t l) (none : l.died ≡ 0) where
  empty : l ≡ node 0 0
  empty = ⊎_elim (λ e. e) (λ d. absurd (omega arith)) led.retired

  pub older_clear : OldClear v b t
  older_clear = subst (Noted v.owned.history (member_of b t)) empty led.history

  pub older_still : StillClear u v
  older_still = record {
    same = led.same;
    heads = λ y (k, at, fine). (k, led.heads y k at, clear_over u v k led.same fine);
    olds = λ a s h. dite (ℕ_discrete (member_of a s) (member_of b t)) (λ e. subst (λ (z : ℕ). Noted v.owned.history z (node 0 0)) (sym e) older_clear) (λ o. led.histories (member_of a s) (node 0 0) o h);
    dieds = led.dieds;
  }

module _ (pool : ℕ) (u v : Sight) (x : ℕ) (l : Node) (led : LedHead pool u v x l) (none : l.died ≡ 0) where
  pub head_clear : HeadClear v x
  head_clear = (l, led.head, λ c e. let t = names_living pool v x l c led.leads none e in (t.3, t.2))

  pub head_still : StillClear u v
  head_still = record {
    same = led.same;
    heads = λ y (k, at, fine). dite (ℕ_discrete y x) (λ e. subst (HeadClear v) (sym e) head_clear) (λ o. (k, led.heads y k o at, clear_over u v k led.same fine));
    olds = λ a s h. led.histories (member_of a s) (node 0 0) h;
    dieds = led.dieds;
  }

  -- where it names no block
  pub place_empty : l.block ≡ 0 → PlaceClear v x
  place_empty zero_ = (head_clear, λ c y m s h st. ⊎_elim inl (λ a. ⊎_elim (λ i. inr (inl i)) (λ i. let z = i.0 in absurd (omega arith)) a) (led.living c y m s h st))

  -- or one whose HISTORY word is clear
  pub place_clear : (lay : Layout) (places : List Patch) (w : Sight) (b : ℕ) (t : Bool) → ArePlaced lay v places → l.block ≡ b + 1 → ((y m : ℕ) × HasEntry v.ruling.placed (b, y, m) × (stands (Placed y m) t ≡ x + 1)) → StillClear v w → OldClear w b t → PlaceClear w x
  place_clear lay places w b t known named stood still old = (
    still.heads x head_clear,
    λ c y m s h st.
        let at : HasEntry v.ruling.placed (c, y, m) = subst (λ (z : Sight). HasEntry z.ruling.placed (c, y, m)) still.same h in
        ⊎_elim (λ a. inl (subst (λ (z : Sight). HasEntry z.ruling.kept c) (sym still.same) a))
        (λ a. ⊎_elim (λ i. inr (inl (subst (λ (z : Sight). HasEntry z.ruling.rolled_back c) (sym still.same) i)))
        (λ i. inr (inr (
        let same : b ≡ c = one_more b c (sym named ∙ i.0) in
        let here : HasEntry v.ruling.placed (b, y, m) = subst (λ (z : ℕ). HasEntry v.ruling.placed (z, y, m)) (sym same) at in
        let one = (known b y m here).1 in
        let other = (known b stood.0 stood.1 stood.2).1 in
        let y_is : stood.0 ≡ y = ap (λ (z : ℕ × ℕ × ℕ). z.1) (sym other ∙ one) in
        let m_is : stood.1 ≡ m = ap (λ (z : ℕ × ℕ × ℕ). z.2) (sym other ∙ one) in
        let st2 : stands (Placed y m) t ≡ x + 1 = subst (λ (z : ℕ × ℕ). stands (Placed z.0 z.1) t ≡ x + 1) (λ q. (y_is q, m_is q)) stood.3 in
        let side : t ≡ s = led.two b y m x t s here st2 st in
        subst (λ (z : ℕ × Bool). OldClear w z.0 z.1) (λ q. (same q, side q)) old))) a)
        (led.living c y m s at st),
  )

pub still_none : (u : Sight) → StillClear u u
still_none u = record { same = refl; heads = λ x h. h; olds = λ b t h. h; dieds = λ b n h. h }

pub still_more : (u v : Sight) → NotesMore u v → StillClear u v
still_more u v more = record { same = more.same; heads = λ y (k, at, fine). (k, more.heads y k at, clear_over u v k more.same fine); olds = λ a s h. more.histories (member_of a s) (node 0 0) h; dieds = more.dieds }

pub still_on : (u v w : Sight) → StillClear u v → StillClear v w → StillClear u w
still_on u v w a b = record {
  same = b.same ∙ (λ t. record (a.same t) { owned = w.owned });
  heads = λ x h. b.heads x (a.heads x h);
  olds = λ c t h. b.olds c t (a.olds c t h);
  dieds = λ c n h. b.dieds c n (a.dieds c n h);
}

-- a place that is clear stays so
pub place_on : (u v : Sight) (x : ℕ) → StillClear u v → PlaceClear u x → PlaceClear v x
place_on u v x still p = (
  still.heads x p.0,
  λ b y m t h st. ⊎_elim (λ a. inl (subst (λ (z : Sight). HasEntry z.ruling.kept b) (sym still.same) a))
      (λ a. ⊎_elim (λ i. inr (inl (subst (λ (z : Sight). HasEntry z.ruling.rolled_back b) (sym still.same) i))) (λ i. inr (inr (still.olds b t i))) a)
      (p.1 b y m t (subst (λ (z : Sight). HasEntry z.ruling.placed (b, y, m)) still.same h) st),
)
