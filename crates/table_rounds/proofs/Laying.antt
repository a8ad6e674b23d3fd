-- One more row is laid.
use Rattle.std.proofs.Common.{◌≡◌, ◌≢◌, ℕ, ◌+◌, ◌-◌, ◌<◌, ◌≤◌, List, [], ◌∷◌, ◌⊎◌, inl, inr, ⊎_elim, length, slice_index, refl, sym, ap, ◌∙◌, subst, arith}
use mathlib.Core.Logic.{dite}
use native.Mathlib.Decide.{ℕ_discrete, dec_lt}
use Rattle.table_words.specs.Entries.{HasEntry, Noted}
use Rattle.mesh_table.specs.Sights.{Sight}
use Rattle.mesh_table.specs.Rounds.{MayOpen, IsLaidIn, taken}
use Rattle.table_rounds.specs.Rows.{laid, InLaid, IsShut, RowsLaid, IsHand, StockTo}

-- what was noted last is one
noted_one : (xs : List (ℕ × ℕ)) (i a b : ℕ) → Noted xs i a → Noted xs i b → a ≡ b
noted_one [] i a b p q = absurd p
noted_one (x ∷ xs) i a b p q = ⊎_elim (λ s. ⊎_elim (λ t. sym s.1 ∙ t.1) (λ t. absurd (t.0 s.0)) q) (λ s. ⊎_elim (λ t. absurd (s.0 t.0)) (λ t. noted_one xs i a b s.1 t.1) q) p

module _ (v : Sight) (r b : ℕ) where
  row_on : (i c : ℕ) → i ≢ r → Noted v.owned.row i c → Noted (laid v r b).owned.row i c
  row_on i c o h = inr ((λ e. o (sym e)), h)

  row_back : (i c : ℕ) → i ≢ r → Noted (laid v r b).owned.row i c → Noted v.owned.row i c
  row_back i c o h = ⊎_elim (λ t. absurd (o (sym t.0))) (λ t. t.1) h

  row_here : (i c : ℕ) → i ≡ r → Noted (laid v r b).owned.row i c → c ≡ b
  row_here i c e h = ⊎_elim (λ t. sym t.1) (λ t. absurd (t.0 (sym e))) h

  born_on : (c : ℕ) → Noted v.owned.born c 0 → Noted (laid v r b).owned.born c 0
  born_on c h = dite (ℕ_discrete b c) (λ e. inl (e, refl)) (λ o. inr (o, h))

  pub lays_more : (hand : List ℕ) (n n' a a' rows e e' : ℕ) → RowsLaid v hand n a rows e → HasEntry v.ruling.hand b → (InLaid a rows e r → ⊥) → ((i : ℕ) → InLaid a' rows e' i → InLaid a rows e i ⊎ (i ≡ r)) → ((i : ℕ) → InLaid a rows e i ⊎ (i ≡ r) → InLaid a' rows e' i)
      → ((i : ℕ) → InLaid a rows e i → Noted v.owned.row i b → ⊥) → ((k : ℕ) → n ≤ k → k < length hand → (n' ≤ k) ⊎ (slice_index hand k ≡ b)) → ((k : ℕ) → n' ≤ k → k < length hand → (n ≤ k) × (slice_index hand k ≢ b)) → RowsLaid (laid v r b) hand n' a' rows e'
  lays_more hand n n' a a' rows e e' so held out back on new waits fresh =
      let far : (i : ℕ) → InLaid a rows e i → i ≢ r = λ i l q. out (subst (InLaid a rows e) q l) in record {
        each = λ i l. ⊎_elim
            (λ q. let t = so.each i q in (t.0, row_on i t.0 (far i q) t.1, t.2, born_on t.0 t.3))
            (λ q. (b, inl (sym q, refl), held, inl (refl, refl))) (back i l);
        once = λ i j c l m p q. ⊎_elim
            (λ x. ⊎_elim (λ y. so.once i j c x y (row_back i c (far i x) p) (row_back j c (far j y) q))
            (λ y. absurd (new i x (subst (λ (z : ℕ). Noted v.owned.row i z) (row_here j c y q) (row_back i c (far i x) p)))) (back j m))
            (λ x. ⊎_elim (λ y. absurd (new j y (subst (λ (z : ℕ). Noted v.owned.row j z) (row_here i c x p) (row_back j c (far j y) q)))) (λ y. x ∙ sym y) (back j m)) (back i l);
        wait = λ c h. ⊎_elim (λ t. inl (t.0, on t.0 (inl t.1), row_on t.0 c (far t.0 t.1) t.2))
            (λ t. ⊎_elim (λ q. inr (t.0, q, t.2, t.3)) (λ q. inl (r, on r (inr refl), inl (refl, sym q ∙ sym t.3))) (waits t.0 t.1 t.2)) (so.wait c h);
        fresh = λ k i p l m h. let f = fresh k p l in ⊎_elim (λ q. so.fresh k i f.0 l q (row_back i (slice_index hand k) (far i q) h)) (λ q. f.1 (row_here i (slice_index hand k) q h)) (back i m);
      }

-- nothing is laid yet
pub lays_none : (v : Sight) (pool : ℕ) (hand : List ℕ) (rows : ℕ) → IsHand v pool hand → RowsLaid v hand 0 0 rows rows
lays_none v pool hand rows is =
    let none : (i : ℕ) → InLaid 0 rows rows i → ⊥ = λ i l. ⊎_elim (λ a. absurd (omega arith)) (λ a. let x = a.0 in let y = a.1 in absurd (omega arith)) l in record {
      each = λ i l. absurd (none i l);
      once = λ i j c l m p q. absurd (none i l);
      wait = λ b h. let t = is.all b h in inr (t.0, omega arith, t.1, t.2);
      fresh = λ k i p l m h. none i m;
    }

pub lays_nothing : (v : Sight) (pool : ℕ) (hand : List ℕ) (low rows : ℕ) → IsHand v pool hand → RowsLaid v hand 0 (0 - (0 - low)) rows (rows + (0 - low))
lays_nothing v pool hand low rows is = let a : 0 ≡ 0 - (0 - low) = omega arith in let e : rows ≡ rows + (0 - low) = omega arith in
    subst (λ (x : ℕ × ℕ). RowsLaid v hand 0 x.0 rows x.1) (λ t. (a t, e t)) (lays_none v pool hand rows is)

-- the next block of the list
module _ (v : Sight) (pool : ℕ) (hand : List ℕ) (is : IsHand v pool hand) (low rows n : ℕ) (few : low ≤ rows) (room : n < length hand) (so : RowsLaid v hand n (n - (n - low)) rows (rows + (n - low))) where
  next_fits : (r : ℕ) → ((n < low) × (r ≡ n)) ⊎ ((low ≤ n) × (r ≡ rows + (n - low))) → RowsLaid (laid v r (slice_index hand n)) hand (n + 1) (n + 1 - (n + 1 - low)) rows (rows + (n + 1 - low))
  next_fits r which = lays_more v r (slice_index hand n) hand n (n + 1) (n - (n - low)) (n + 1 - (n + 1 - low)) rows (rows + (n - low)) (rows + (n + 1 - low)) so (is.held n room).0
      (λ l. ⊎_elim (λ w. let x = w.0 in let y = w.1 in ⊎_elim (λ a. absurd (omega arith)) (λ a. let p = a.0 in let q = a.1 in absurd (omega arith)) l) (λ w. let x = w.0 in let y = w.1 in ⊎_elim (λ a. absurd (omega arith)) (λ a. let p = a.0 in let q = a.1 in absurd (omega arith)) l) which)
      (λ i l. dite (ℕ_discrete i r) inr (λ o. inl (⊎_elim (λ w. let x = w.0 in let y = w.1 in ⊎_elim (λ a. inl (omega arith)) (λ a. let p = a.0 in let q = a.1 in absurd (omega arith)) l) (λ w. let x = w.0 in let y = w.1 in ⊎_elim (λ a. inl (omega arith)) (λ a. let p = a.0 in let q = a.1 in inr (omega arith, omega arith)) l) which)))
      (λ i l. ⊎_elim (λ w. let x = w.0 in let y = w.1 in ⊎_elim (λ t. ⊎_elim (λ a. inl (omega arith)) (λ a. let p = a.0 in let q = a.1 in absurd (omega arith)) t) (λ e. inl (omega arith)) l) (λ w. let x = w.0 in let y = w.1 in ⊎_elim (λ t. ⊎_elim (λ a. inl (omega arith)) (λ a. let p = a.0 in let q = a.1 in inr (omega arith, omega arith)) t) (λ e. inr (omega arith, omega arith)) l) which)
      (λ i l h. so.fresh n i (omega arith) room l h)
      (λ k p l. dite (ℕ_discrete k n) (λ e. inr (ap (slice_index hand) e)) (λ o. inl (omega arith)))
      (λ k p l. (omega arith, λ e. let same = is.once k n l room e in absurd (omega arith)))

  pub lays_next : (r : ℕ) → ((n < low) × (r ≡ n)) ⊎ ((low ≤ n) × (r ≡ rows + (n - low))) → (v' : Sight) → v' ≡ laid v r (slice_index hand n) → RowsLaid v' hand (n + 1) (n + 1 - (n + 1 - low)) rows (rows + (n + 1 - low))
  lays_next r which v' e = subst (λ (z : Sight). RowsLaid z hand (n + 1) (n + 1 - (n + 1 - low)) rows (rows + (n + 1 - low))) (sym e) (next_fits r which)

-- a block of the stock
module _ (v : Sight) (hand : List ℕ) (n a rows b i : ℕ) (all : length hand ≤ n) (inside : a < rows) (past : a < i) (so : RowsLaid v hand n a rows rows) (new : HasEntry v.ruling.hand b → ⊥) where
  abbrev u : Sight
  u = taken v i b

  below : (j : ℕ) → InLaid a rows rows j → j < a
  below j l = ⊎_elim (λ z. z) (λ t. let p = t.0 in let q = t.1 in absurd (omega arith)) l

  parts : (j : ℕ) → InLaid (a + 1) rows rows j → (j < a) ⊎ (j ≡ a)
  parts j l = dite (ℕ_discrete j a) inr (λ o. inl (⊎_elim (λ z. omega arith) (λ t. let p = t.0 in let q = t.1 in absurd (omega arith)) l))

  on : (j c : ℕ) → j < a → Noted v.owned.row j c → Noted (laid u a b).owned.row j c
  on j c l h = inr ((λ (e : a ≡ j). absurd (omega arith)), inr ((λ (e : i ≡ j). absurd (omega arith)), h))

  back : (j c : ℕ) → j < a → Noted (laid u a b).owned.row j c → Noted v.owned.row j c
  back j c l h = ⊎_elim (λ t. let e = t.0 in absurd (omega arith)) (λ t. ⊎_elim (λ y. let e = y.0 in absurd (omega arith)) (λ y. y.1) t.1) h

  here : (j c : ℕ) → j ≡ a → Noted (laid u a b).owned.row j c → c ≡ b
  here j c e h = ⊎_elim (λ t. sym t.1) (λ t. absurd (t.0 (sym e))) h

  none : (j : ℕ) → j < a → Noted v.owned.row j b → ⊥
  none j l h = let t = so.each j (inl l) in new (subst (λ (z : ℕ). HasEntry v.ruling.hand z) (noted_one v.owned.row j t.0 b t.1 h) t.2)

  -- with the block in the hand it is the one that waits
  lays_taken : RowsLaid (laid u a b) hand n (a + 1) rows rows
  lays_taken = record {
    each = λ j l. ⊎_elim (λ q. let t = so.each j (inl q) in (t.0, on j t.0 q t.1, inr t.2, dite (ℕ_discrete b t.0) (λ e. inl (e, refl)) (λ o. inr (o, t.3)))) (λ q. (b, inl (sym q, refl), inl refl, inl (refl, refl))) (parts j l);
    once = λ j k c l m p q. ⊎_elim
        (λ x. ⊎_elim (λ y. so.once j k c (inl x) (inl y) (back j c x p) (back k c y q)) (λ y. absurd (none j x (subst (λ (z : ℕ). Noted v.owned.row j z) (here k c y q) (back j c x p)))) (parts k m))
        (λ x. ⊎_elim (λ y. absurd (none k y (subst (λ (z : ℕ). Noted v.owned.row k z) (here j c x p) (back k c y q)))) (λ y. x ∙ sym y) (parts k m)) (parts j l);
    wait = λ c h. ⊎_elim (λ e. inl (a, inl (omega arith), inl (refl, sym e)))
        (λ h2. ⊎_elim (λ t. inl (t.0, inl (let z = below t.0 t.1 in omega arith), on t.0 c (below t.0 t.1) t.2)) (λ t. let x = t.1 in let y = t.2 in absurd (omega arith)) (so.wait c h2)) h;
    fresh = λ k j p l m h. absurd (omega arith);
  }

  pub lays_stock : (v' : Sight) → v' ≡ laid u a b → RowsLaid v' hand n (a + 1) rows rows
  lays_stock v' e = subst (λ (z : Sight). RowsLaid z hand n (a + 1) rows rows) (sym e) lays_taken

-- FREE may become the number of rows
module _ (v : Sight) (hand : List ℕ) (drawn high : ℕ) (shut : IsShut v drawn high) where
  -- where the rows below `low` are laid, and the stock is behind them
  pub opens_low : (n a rows low k : ℕ) → RowsLaid v hand n a rows rows → length hand ≤ n → low ≤ drawn → (low < high → (low ≡ drawn) × (a ≡ low) × (k ≡ high)) → (high ≤ low → k ≡ a) → a ≤ low → a ≤ rows → high ≤ rows → (drawn < high → low ≡ drawn) → MayOpen v k
  opens_low n a rows low k so all ld some_ none al ar hr dl =
      let is_low = shut.low in let is_high = shut.high in
      let laid_is : (i : ℕ) → InLaid a rows rows i → i < a = λ i l. ⊎_elim (λ z. z) (λ t. let p = t.0 in let q = t.1 in absurd (omega arith)) l in
      let ak : a ≤ k = elim (dec_lt low high) [ yes y ↦ let t = some_ y in let x = t.1 in let z = t.2 in omega arith | no o ↦ let x = none (omega arith) in omega arith ] in record {
        rules = shut.rules;
        rests = shut.rests;
        shut = shut.shut;
        begun = shut.begun;
        below = λ l. let e = dl (omega arith) in let t = some_ (omega arith) in let x = t.2 in omega arith;
        rows = λ i l. elim (dec_lt i a) [
          | yes y ↦ let t = so.each i (inl y) in inr (t.0, (l, inl (omega arith), t.1), t.2, t.3)
          | no o ↦ elim (dec_lt low high) [
            | yes y ↦ let t = some_ y in let x = t.0 in let z = t.1 in let w = t.2 in inl (omega arith, omega arith)
            | no p ↦ let x = none (omega arith) in absurd (omega arith)
          ]
        ];
        once = λ i j b p q.
            let inside : (i : ℕ) → i < k → (i < v.ruling.low) ⊎ (v.ruling.high ≤ i) → i < a = λ i l other. elim (dec_lt low high) [
              | yes y ↦ let t = some_ y in let x = t.0 in let z = t.1 in let w = t.2 in ⊎_elim (λ c. omega arith) (λ c. absurd (omega arith)) other
              | no o ↦ let x = none (omega arith) in omega arith
            ] in
            so.once i j b (inl (inside i p.0 p.1)) (inl (inside j q.0 q.1)) p.2 q.2;
        all = λ b h. ⊎_elim (λ t. let l = laid_is t.0 t.1 in (t.0, (omega arith, inl (omega arith), t.2))) (λ t. let x = t.1 in let y = t.2 in absurd (omega arith)) (so.wait b h);
      }

  -- where all rows below `low` are laid, and further ones behind the stock
  pub opens_high : (low e : ℕ) → RowsLaid v hand (length hand) low high e → low ≤ drawn → low ≤ high → (drawn < high → low ≡ drawn) → (low < high → low ≡ drawn) → high ≤ e → MayOpen v e
  opens_high low e so ld lh dl ll he =
      let is_low = shut.low in let is_high = shut.high in record {
        rules = shut.rules;
        rests = shut.rests;
        shut = shut.shut;
        begun = shut.begun;
        below = λ l. omega arith;
        rows = λ i l. elim (dec_lt i low) [
          | yes y ↦ let t = so.each i (inl y) in inr (t.0, (l, inl (omega arith), t.1), t.2, t.3)
          | no o ↦ elim (dec_lt i high) [
            | yes y ↦ let x = ll (omega arith) in inl (omega arith, omega arith)
            | no p ↦ let t = so.each i (inr (omega arith, l)) in inr (t.0, (l, inr (omega arith), t.1), t.2, t.3)
          ]
        ];
        once = λ i j b p q.
            let inside : (i : ℕ) → i < e → (i < v.ruling.low) ⊎ (v.ruling.high ≤ i) → InLaid low high e i = λ i l other. elim (dec_lt i high) [
              | yes y ↦ inl (⊎_elim (λ c. elim (dec_lt low high) [ yes z ↦ let x = ll z in omega arith | no z ↦ omega arith ]) (λ c. absurd (omega arith)) other)
              | no o ↦ inr (omega arith, l)
            ] in
            so.once i j b (inside i p.0 p.1) (inside j q.0 q.1) p.2 q.2;
        all = λ b h. ⊎_elim (λ t. (t.0, ⊎_elim (λ x. (omega arith, inl (omega arith), t.2)) (λ x. let y = x.0 in (x.1, inr (omega arith), t.2)) t.1)) (λ t. let x = t.1 in let y = t.2 in absurd (omega arith)) (so.wait b h);
      }

-- one more row is filled from the stock
pub stock_goes : (u v v' : Sight) (hand : List ℕ) (low rows next high counter b : ℕ) → StockTo u v hand low rows next high counter → low < high → counter < low → (HasEntry v.ruling.hand b → ⊥) → v' ≡ laid (taken v (high - 1) b) next b → StockTo u v' hand low rows (next + 1) (high - 1) (counter + 1)
stock_goes u v v' hand low rows next high counter b so more room new e =
    let a = so.ends.0 in let d = so.ends.2 in let x = so.ends.3 more in record {
      same = e ∙ (λ t. record (so.same t) { owned = (laid (taken v (high - 1) b) next b).owned; ruling = record (so.same t).ruling { hand = b ∷ v.ruling.hand; high = high - 1 } }) ∙ sym (ap (λ (z : Sight). record u { owned = z.owned; ruling = record u.ruling { hand = z.ruling.hand; high = z.ruling.high } }) e);
      high = ap (λ (z : Sight). z.ruling.high) e;
      laid = lays_stock v hand (length hand) next rows b (high - 1) (omega arith) (omega arith) (omega arith) so.laid new v' e;
      ends = (omega arith, omega arith, omega arith, λ l. omega arith);
    }

-- there is no stock left
pub stock_stays : (u v : Sight) (hand : List ℕ) (low rows next high counter : ℕ) → StockTo u v hand low rows next high counter → (low < high → ⊥) → StockTo u v hand low rows next high (counter + 1)
stock_stays u v hand low rows next high counter so none = record { same = so.same; high = so.high; laid = so.laid; ends = (so.ends.0, so.ends.1, so.ends.2, λ l. absurd (none l)) }

pub still_shut : (u v : Sight) (drawn rows top : ℕ) → IsShut u drawn rows → v ≡ record u { owned = v.owned; ruling = record u.ruling { hand = v.ruling.hand; high = v.ruling.high } } → v.ruling.high ≡ top → IsShut v drawn top
still_shut u v drawn rows top shut same high = record {
  rules = ap (λ (z : Sight). z.kind) same ∙ shut.rules;
  rests = ap (λ (z : Sight). z.ruling.phase) same ∙ shut.rests;
  home = ap (λ (z : Sight). z.ruling.workers) same ∙ shut.home;
  shut = ap (λ (z : Sight). z.ruling.free) same ∙ shut.shut;
  begun = ap (λ (z : Sight). z.ruling.cursor) same ∙ shut.begun;
  low = ap (λ (z : Sight). z.ruling.low) same ∙ shut.low;
  high = high;
}
