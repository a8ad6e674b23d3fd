-- What a seat learns of a word that it loads.
use Rattle.table_words.specs.Claims.{Living, claim}
use Rattle.std.proofs.Common.{◌≡◌, inl, inr, ℕ, ◌+◌, ◌<◌, ◌≤◌, ◌∷◌, refl, sym, ap, ◌∙◌, subst, ⊎_elim, arith, true}
use Rattle.table_words.specs.Setup.{Setup}
use Rattle.table_words.specs.Functions.{update}
use Rattle.table_words.specs.Words.{Words}
use Rattle.table_words.specs.Views.{Views, Owned, Ruling, Reader, FirstHalf}
use Rattle.table_words.specs.Entries.{HasEntry, Noted}
use native.Mathlib.Decide.{dec_lt}
use Rattle.table_words.specs.Sums.{one_where}
use Rattle.table_words.proofs.Functions.{update_cases}
use Rattle.table_words.proofs.Sums.{one_if, summand}
use Rattle.table_state.specs.Ghosts.{Free, Placed, Ghost}
use Rattle.table_state.specs.Owned.{OwnedRule}
use Rattle.table_state.specs.Owner.{FreeRule, OwnerRule, StockRule, NoteRule}
use Rattle.table_state.specs.Rule.{Rule}

module _ (s : Setup) (w : Words) (n : ℕ) (v : Views) (g : Ghost) (r : Rule s w n v g) where
  learns_owned : (j : ℕ) (u : Owned) → OwnedRule s.elements v.ruling.workers w.head w.history w.born w.died w.name w.row g.stage j u → Rule s w n (record v { owned = update v.owned j u }) g
  learns_owned j u ok = record { names_apart = r.names_apart; claims = r.claims; labels = r.labels; chains = r.chains; names = r.names; pins = r.pins; works = r.works; walks = r.walks; owned = update_cases (λ i x. OwnedRule s.elements v.ruling.workers w.head w.history w.born w.died w.name w.row g.stage i x) v.owned j u ok (λ i _. r.owned i); goes = r.goes; rules = r.rules; stock = r.stock; note = r.note; retired = r.retired; plan = r.plan; history = r.history; drawn = r.drawn; draws = r.draws; crew = r.crew; inside = r.inside; named = r.named; once = r.once; holders = r.holders; hand = r.hand; grows = r.grows; retireds = r.retireds; frees = r.frees; known = r.known; kept = r.kept; early = r.early }

  -- words of which a seat is sure while it guards them
  pub loads_head : (j x : ℕ) → Rule s w n (record v { owned = update v.owned j (record (v.owned j) { head = (x, w.head x) ∷ (v.owned j).head }) }) g
  loads_head j x = let i = r.owned j in learns_owned j (record (v.owned j) { head = (x, w.head x) ∷ (v.owned j).head }) record {
    head_is = λ z l f h. ⊎_elim (λ t. ap w.head (sym t.0) ∙ t.1) (λ t. i.head_is z l t.1 h) f;
    history_is = i.history_is;
    born_is = i.born_is;
    died_is = i.died_is;
    name_is = i.name_is;
    row_is = i.row_is;
  }

  pub loads_history : (j x : ℕ) → Rule s w n (record v { owned = update v.owned j (record (v.owned j) { history = (x, w.history x) ∷ (v.owned j).history }) }) g
  loads_history j x = let i = r.owned j in learns_owned j (record (v.owned j) { history = (x, w.history x) ∷ (v.owned j).history }) record {
    head_is = i.head_is;
    history_is = λ b t l f h. ⊎_elim (λ q. ap w.history (sym q.0) ∙ q.1) (λ q. i.history_is b t l q.1 h) f;
    born_is = i.born_is;
    died_is = i.died_is;
    name_is = i.name_is;
    row_is = i.row_is;
  }

  pub loads_born : (j x : ℕ) → Rule s w n (record v { owned = update v.owned j (record (v.owned j) { born = (x, w.born x) ∷ (v.owned j).born }) }) g
  loads_born j x = let i = r.owned j in learns_owned j (record (v.owned j) { born = (x, w.born x) ∷ (v.owned j).born }) record {
    head_is = i.head_is;
    history_is = i.history_is;
    born_is = λ b k f a h. ⊎_elim (λ t. ap w.born (sym t.0) ∙ t.1) (λ t. i.born_is b k t.1 a h) f;
    died_is = i.died_is;
    name_is = i.name_is;
    row_is = i.row_is;
  }

  pub loads_died : (j x : ℕ) → Rule s w n (record v { owned = update v.owned j (record (v.owned j) { died = (x, w.died x) ∷ (v.owned j).died }) }) g
  loads_died j x = let i = r.owned j in learns_owned j (record (v.owned j) { died = (x, w.died x) ∷ (v.owned j).died }) record {
    head_is = i.head_is;
    history_is = i.history_is;
    born_is = i.born_is;
    died_is = λ b k f h. ⊎_elim (λ t. ap w.died (sym t.0) ∙ t.1) (λ t. i.died_is b k t.1 h) f;
    name_is = i.name_is;
    row_is = i.row_is;
  }

  pub loads_name : (j x : ℕ) → Rule s w n (record v { owned = update v.owned j (record (v.owned j) { name = (x, w.name x) ∷ (v.owned j).name }) }) g
  loads_name j x = let i = r.owned j in learns_owned j (record (v.owned j) { name = (x, w.name x) ∷ (v.owned j).name }) record {
    head_is = i.head_is;
    history_is = i.history_is;
    born_is = i.born_is;
    died_is = i.died_is;
    name_is = λ b t k f h. ⊎_elim (λ q. ap w.name (sym q.0) ∙ q.1) (λ q. i.name_is b t k q.1 h) f;
    row_is = i.row_is;
  }

  pub loads_row : (j x : ℕ) → Rule s w n (record v { owned = update v.owned j (record (v.owned j) { row = (x, w.row x) ∷ (v.owned j).row }) }) g
  loads_row j x = let i = r.owned j in learns_owned j (record (v.owned j) { row = (x, w.row x) ∷ (v.owned j).row }) record {
    head_is = i.head_is;
    history_is = i.history_is;
    born_is = i.born_is;
    died_is = i.died_is;
    name_is = i.name_is;
    row_is = λ a b f e h. ⊎_elim (λ t. ap w.row (sym t.0) ∙ t.1) (λ t. i.row_is a b t.1 e h) f;
  }

  -- what the owner learns
  learns : (u : Ruling) → OwnerRule s.passes w.round w.released g.pins n v.kind u → StockRule w.round w.cursor w.free g.pins u → NoteRule w.round w.taken g.life v.read (record v.ruling { placed = u.placed; seen = u.seen; quiet = u.quiet }) → ((b : ℕ) → HasEntry u.hand b → g.life b ≡ Free) → u.phase ≡ v.ruling.phase → u.workers ≡ v.ruling.workers → ((b : ℕ) → HasEntry u.hand b → b < s.pool) → FreeRule s.pool w.cursor w.free w.row w.born g.life u.hand v.ruling.low u.high → ((a : ℕ × ℕ × ℕ) → HasEntry v.ruling.placed a → HasEntry u.placed a)
      → Rule s w n (record v { ruling = record v.ruling { drained = u.drained; hand = u.hand; cursor = u.cursor; free = u.free; high = u.high; placed = u.placed; seen = u.seen; quiet = u.quiet } }) g
  learns u rules stock note hand a b hand_in frees more = record {
    names_apart = r.names_apart;
    claims = r.claims;
    labels = r.labels;
    chains = r.chains;
    names = r.names;
    pins = r.pins;
    works = r.works;
    walks = r.walks;
    owned = r.owned;
    goes = r.goes;
    rules = record { owner = r.rules.owner; one = r.rules.one; workers = r.rules.workers; readers = r.rules.readers; few_readers = r.rules.few_readers; halves = r.rules.halves; drained = rules.drained };
    stock = record { finished = r.stock.finished; cursor_is = λ k e. let t = stock.cursor_is k e in ((λ f. t.0 (a ∙ f)), t.1); free_is = stock.free_is; left = r.stock.left };
    note = record { rolled_back = note.rolled_back; all = note.all; placed = note.placed; seen = note.seen; quiet = note.quiet };
    retired = r.retired;
    plan = r.plan;
    history = r.history;
    drawn = r.drawn;
    draws = r.draws;
    crew = r.crew;
    inside = record { few = r.inside.few; rows = r.inside.rows; blocks = r.inside.blocks; stand_in = r.inside.stand_in; seconds = r.inside.seconds; hand_in = hand_in; retired_in = r.inside.retired_in };
    named = r.named;
    once = r.once;
    holders = r.holders;
    hand = hand;
    grows = r.grows;
    retireds = r.retireds;
    frees = frees;
    known = record { noted = λ c y k e. ⊎_elim (λ h. inl (more (c, y, k) h)) inr (r.known.noted c y k e); rolled_back = λ c y k e. more (c, y, k) (r.known.rolled_back c y k e); loose = r.known.loose };
    kept = r.kept;
    early = r.early;
  }

  same_note : NoteRule w.round w.taken g.life v.read (record v.ruling { placed = v.ruling.placed; seen = v.ruling.seen; quiet = v.ruling.quiet })
  same_note = record { rolled_back = r.note.rolled_back; all = r.note.all; placed = r.note.placed; seen = r.note.seen; quiet = r.note.quiet }

  -- RELEASED of a round that was left shows that each of its pins was given back
  pub notes_drained : (q k : ℕ) → HasEntry v.ruling.left (q, k) → w.released q ≡ k → Rule s w n (record v { ruling = record v.ruling { drained = q ∷ v.ruling.drained } }) g
  notes_drained q k h e = let t = r.stock.left q k h in learns (record v.ruling { drained = q ∷ v.ruling.drained })
      record { owner = r.rules.owner; one = r.rules.one; workers = r.rules.workers; readers = r.rules.readers; few_readers = r.rules.few_readers; halves = r.rules.halves; drained = λ i m. ⊎_elim (λ z. (subst (λ (x : ℕ). x < w.round) (sym z) t.0, ap w.released z ∙ e ∙ sym t.1 ∙ ap g.pins (sym z))) (r.rules.drained i) m }
      record { finished = r.stock.finished; cursor_is = r.stock.cursor_is; free_is = r.stock.free_is; left = r.stock.left } same_note r.hand refl refl r.inside.hand_in r.frees (λ _ h. h)

  -- CURSOR, but in the first half
  pub loads_cursor : (v.ruling.phase ≡ FirstHalf → ⊥) → Rule s w n (record v { ruling = record v.ruling { cursor = w.cursor + 1 } }) g
  loads_cursor o = learns (record v.ruling { cursor = w.cursor + 1 })
      record { owner = r.rules.owner; one = r.rules.one; workers = r.rules.workers; readers = r.rules.readers; few_readers = r.rules.few_readers; halves = r.rules.halves; drained = r.rules.drained }
      record { finished = r.stock.finished; cursor_is = λ k e. (o, omega arith); free_is = r.stock.free_is; left = r.stock.left } same_note r.hand refl refl r.inside.hand_in r.frees (λ _ h. h)

  pub loads_free : Rule s w n (record v { ruling = record v.ruling { free = w.free + 1 } }) g
  loads_free = learns (record v.ruling { free = w.free + 1 })
      record { owner = r.rules.owner; one = r.rules.one; workers = r.rules.workers; readers = r.rules.readers; few_readers = r.rules.few_readers; halves = r.rules.halves; drained = r.rules.drained }
      record { finished = r.stock.finished; cursor_is = r.stock.cursor_is; free_is = λ k e. omega arith; left = r.stock.left } same_note r.hand refl refl r.inside.hand_in r.frees (λ _ h. h)

  -- the last row of the stock names a free block
  pub notes_free : (i b : ℕ) → v.ruling.workers ≡ 0 → v.ruling.low ≤ i → v.ruling.high ≡ i + 1 → Noted (v.owned 0).row i b → Rule s w n (record v { ruling = record v.ruling { hand = b ∷ v.ruling.hand; high = i } }) g
  notes_free i b home l e f = let is : w.row i ≡ b = (r.owned 0).row_is i b f refl home in let t = r.frees.stocked i l (omega arith) in let t2 = t.2 in let shut = r.frees.shut (omega arith) in learns (record v.ruling { hand = b ∷ v.ruling.hand; high = i })
      record { owner = r.rules.owner; one = r.rules.one; workers = r.rules.workers; readers = r.rules.readers; few_readers = r.rules.few_readers; halves = r.rules.halves; drained = r.rules.drained }
      record { finished = r.stock.finished; cursor_is = r.stock.cursor_is; free_is = r.stock.free_is; left = r.stock.left } same_note
      (λ a h. ⊎_elim (λ q. ap g.life (q ∙ sym is) ∙ t.0) (r.hand a) h) refl refl (λ a h. ⊎_elim (λ q. omega arith) (r.inside.hand_in a) h)
      record {
        all = λ c k u. ⊎_elim (λ h. inl (inr h)) (λ q. ⊎_elim (λ q. inr (inl q)) (λ q. let q2 = q.2 in elim (dec_lt q.0 i) [ yes m ↦ inr (inr (q.0, q.1, m, q.3)) | no o ↦ inl (inl (sym q.3 ∙ ap w.row (let z : q.0 ≡ i = omega arith in z) ∙ is)) ]) q) (r.frees.all c k u);
        hand_rows = λ c h q. let q2 = q.2 in absurd (omega arith);
        hand_stock = λ c h q. let q2 = q.2 in ⊎_elim (λ z. let y = r.frees.once q.0 i q.1 (omega arith) l (omega arith) (q.3 ∙ z ∙ sym is) in omega arith) (λ h. r.frees.hand_stock c h (q.0, q.1, omega arith, q.3)) h;
        stocked = λ k a m. r.frees.stocked k a (omega arith);
        once = λ k c a m o p. r.frees.once k c a (omega arith) o (omega arith);
        shut = λ m. shut;
      } (λ _ h. h)

  found_released : Rule s w n (record v { ruling = record v.ruling { seen = w.released w.round + 1 } }) g
  found_released = learns (record v.ruling { seen = w.released w.round + 1 })
      record { owner = r.rules.owner; one = r.rules.one; workers = r.rules.workers; readers = r.rules.readers; few_readers = r.rules.few_readers; halves = r.rules.halves; drained = r.rules.drained }
      record { finished = r.stock.finished; cursor_is = r.stock.cursor_is; free_is = r.stock.free_is; left = r.stock.left }
      record {
        rolled_back = r.note.rolled_back;
        all = r.note.all;
        placed = r.note.placed;
        seen = λ x e. let c = r.pins.count w.round in let t = r.pins.now in let q : x ≡ w.released w.round = omega arith in (w.taken, omega arith, omega arith, λ f j b p h m. out j p (omega arith));
        quiet = r.note.quiet;
      } r.hand refl refl r.inside.hand_in r.frees (λ _ h. h)
    where
      -- where each pin was given back none is out
      out : (j : ℕ) → (v.read j).pin ≡ w.round + 1 → w.taken ≡ w.released w.round → ⊥
      out j p e = let c = r.pins.count w.round in let t = r.pins.now in elim (dec_lt j n) [
        | yes l ↦ let o = one_if (v.read j).pin (w.round + 1) p in let m = summand n (λ i. one_where (v.read i).pin (w.round + 1)) j l in omega arith
        | no o ↦ let z = r.pins.few j (omega arith) in let q = (r.pins.readers j (λ (t : v.kind j ≡ Reader). absurd (cc))).0 in omega arith
      ]

  -- RELEASED of the last finished round is loaded first
  pub finds_released : Rule s w n (record v { ruling = record v.ruling { seen = w.released v.ruling.finished + 1 } }) g
  finds_released = subst (λ (q : ℕ). Rule s w n (record v { ruling = record v.ruling { seen = w.released q + 1 } }) g) (sym r.stock.finished) found_released

  -- and ROUND after it: where it shows as many pins, no pass with a pin has gone to the blocks that were rolled back
  pub finds_quiet : v.ruling.seen ≡ w.taken + 1 → Rule s w n (record v { ruling = record v.ruling { quiet = true } }) g
  finds_quiet e = let t = r.note.seen w.taken e in let t1 = t.1 in let t2 = t.2 in learns (record v.ruling { quiet = true })
      record { owner = r.rules.owner; one = r.rules.one; workers = r.rules.workers; readers = r.rules.readers; few_readers = r.rules.few_readers; halves = r.rules.halves; drained = r.rules.drained }
      record { finished = r.stock.finished; cursor_is = r.stock.cursor_is; free_is = r.stock.free_is; left = r.stock.left }
      record { rolled_back = r.note.rolled_back; all = r.note.all; placed = r.note.placed; seen = r.note.seen; quiet = λ _. t.3 (omega arith) } r.hand refl refl r.inside.hand_in r.frees (λ _ h. h)

  -- the owner's claim on a published block shows the block's places
  pub notes_placed : (b x m : ℕ) → HasEntry (v.claims 0) (claim x m (Living b)) → Rule s w n (record v { ruling = record v.ruling { placed = (b, x, m) ∷ v.ruling.placed } }) g
  notes_placed b x m h = learns (record v.ruling { placed = (b, x, m) ∷ v.ruling.placed })
      record { owner = r.rules.owner; one = r.rules.one; workers = r.rules.workers; readers = r.rules.readers; few_readers = r.rules.few_readers; halves = r.rules.halves; drained = r.rules.drained }
      record { finished = r.stock.finished; cursor_is = r.stock.cursor_is; free_is = r.stock.free_is; left = r.stock.left }
      record {
        rolled_back = r.note.rolled_back;
        all = r.note.all;
        placed = λ c y k e. ⊎_elim (λ q. let z0 : c ≡ b = ap (λ (z : ℕ × ℕ × ℕ). z.0) q in let z1 : y ≡ x = ap (λ (z : ℕ × ℕ × ℕ). z.1) q in let z2 : k ≡ m = ap (λ (z : ℕ × ℕ × ℕ). z.2) q in
            inl (ap g.life z0 ∙ (r.claims.shape x 0 m (Living b) (r.claims.held 0 x m (Living b) h)).0 ∙ (λ t. Placed (sym z1 t) (sym z2 t)))) (r.note.placed c y k) e;
        seen = r.note.seen;
        quiet = r.note.quiet;
      } r.hand refl refl r.inside.hand_in r.frees (λ _ h. inr h)
