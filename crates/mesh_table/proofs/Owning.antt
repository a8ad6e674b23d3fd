-- A step of the owner, whose seat is the first.
use Rattle.std.proofs.Common.{◌≡◌, ℕ, ◌<◌, length, get_or, set, sym, ap, ◌∙◌, subst, length-set}
use lib.Seq.{set-get_or}
use Rattle.atomic_table.specs.Table.{Allows}
use Rattle.table_words.specs.Functions.{update}
use Rattle.table_words.specs.Views.{Owner, Views}
use Rattle.table_words.specs.Words.{Words, words_at}
use Rattle.table_words.proofs.Functions.{update_same, part_set, part_kept}
use Rattle.table_state.specs.Rule.{Lawful}
use Rattle.table_steps.specs.States.{State, state}
use Rattle.table_steps.specs.Steps.{Step}
use Rattle.table_steps.proofs.StepsKeep.{steps_keep}
use Rattle.mesh_table.specs.declared.rule.Site.{Site}
use Rattle.mesh_table.specs.Sights.{Sight, seat_at, views_of, setup_at}
use Rattle.mesh_table.specs.Holds.{Holds, Sat}
use Rattle.mesh_table.proofs.Bridge.{St, after, allows, set_seat}
use Rattle.mesh_table.proofs.Seats.{first_seat}

-- the views by parts, where the owner's changes
module _ (f : ℕ → Sight) (v : Sight) (same_kind : v.kind ≡ (f 0).kind) (same_read : v.read ≡ (f 0).read) where
  ruled : (update f 0 v 0).ruling ≡ v.ruling
  ruled = ap (λ (x : Sight). x.ruling) (update_same f 0 v)

  pub in_ruling : v.claims ≡ (f 0).claims → v.work ≡ (f 0).work → v.owned ≡ (f 0).owned → views_of (update f 0 v) ≡ record (views_of f) { ruling = v.ruling }
  in_ruling b d c t = record {
    kind = part_kept (λ (x : Sight). x.kind) f 0 v same_kind t;
    claims = part_kept (λ (x : Sight). x.claims) f 0 v b t;
    work = part_kept (λ (x : Sight). x.work) f 0 v d t;
    owned = part_kept (λ (x : Sight). x.owned) f 0 v c t;
    read = part_kept (λ (x : Sight). x.read) f 0 v same_read t;
    ruling = ruled t;
  }

  pub in_claims_ruling : v.work ≡ (f 0).work → v.owned ≡ (f 0).owned → views_of (update f 0 v) ≡ record (views_of f) { claims = update (views_of f).claims 0 v.claims; ruling = v.ruling }
  in_claims_ruling d c t = record {
    kind = part_kept (λ (x : Sight). x.kind) f 0 v same_kind t;
    claims = part_set (λ (x : Sight). x.claims) f 0 v t;
    work = part_kept (λ (x : Sight). x.work) f 0 v d t;
    owned = part_kept (λ (x : Sight). x.owned) f 0 v c t;
    read = part_kept (λ (x : Sight). x.read) f 0 v same_read t;
    ruling = ruled t;
  }

  pub in_owned_ruling : v.claims ≡ (f 0).claims → v.work ≡ (f 0).work → views_of (update f 0 v) ≡ record (views_of f) { owned = update (views_of f).owned 0 v.owned; ruling = v.ruling }
  in_owned_ruling b d t = record {
    kind = part_kept (λ (x : Sight). x.kind) f 0 v same_kind t;
    claims = part_kept (λ (x : Sight). x.claims) f 0 v b t;
    work = part_kept (λ (x : Sight). x.work) f 0 v d t;
    owned = part_set (λ (x : Sight). x.owned) f 0 v t;
    read = part_kept (λ (x : Sight). x.read) f 0 v same_read t;
    ruling = ruled t;
  }

  pub in_claims_owned_ruling : v.work ≡ (f 0).work → views_of (update f 0 v) ≡ record (views_of f) { claims = update (views_of f).claims 0 v.claims; owned = update (views_of f).owned 0 v.owned; ruling = v.ruling }
  in_claims_owned_ruling d t = record {
    kind = part_kept (λ (x : Sight). x.kind) f 0 v same_kind t;
    claims = part_set (λ (x : Sight). x.claims) f 0 v t;
    work = part_kept (λ (x : Sight). x.work) f 0 v d t;
    owned = part_set (λ (x : Sight). x.owned) f 0 v t;
    read = part_kept (λ (x : Sight). x.read) f 0 v same_read t;
    ruling = ruled t;
  }

module _ (k : Site) where
  -- the state of the pure rule
  abbrev pub pure_at : St k → State
  pure_at s = state (words_at k.layout s.words) (length s.views) (views_of (seat_at s.views))

  -- the table after a write whose words and views are lawful
  lawfully : (s : St k) (h : Holds k s) (i n id : ℕ) (v : Sight) (w' : Words) (v' : Views) → id < length s.views → words_at k.layout (set s.words i n) ≡ w' → views_of (update (seat_at s.views) id v) ≡ v' → Lawful (setup_at k) w' (length s.views) v' → Holds k (after k s i n id v)
  lawfully s h i n id v w' v' l ew ev fine = record {
    size_is = length-set s.words i n ∙ h.size_is;
    lawful = subst (λ (x : Words × ℕ × Views). Lawful (setup_at k) x.0 x.1 x.2) (λ t. (sym ew t, sym (length-set s.views id v) t, (sym ev ∙ ap views_of (sym (set_seat s.views id v l))) t)) fine;
  }

  module _ (id i : ℕ) (me : Sat) (rules : me.0.kind ≡ Owner) where
    -- what a step of the owner owes: from the state in which the first seat's view is me.0, words and views that are lawful
    pub owner_acts : (slots : ℕ) (g : ℕ → ℕ) (then : ℕ → Sat → Type 0)
        → ((s : St k) → Holds k s → seat_at s.views 0 ≡ me.0 → get_or s.words i 0 < 18446744073709551616
        → (u : Sight) × (w' : Words) × (v' : Views) × (words_at k.layout (set s.words i (g (get_or s.words i 0))) ≡ w') × (views_of (update (seat_at s.views) 0 u) ≡ v') × Lawful (setup_at k) w' (length s.views) v' × then (get_or s.words i 0) (u, me.1))
        → Allows (Holds k) slots id me i g then
    owner_acts slots g then body = allows k slots id i g me then (λ s h l same small.
        let zero_ = first_seat k id s h me.0 same rules in
        let same0 : seat_at s.views 0 ≡ me.0 = ap (seat_at s.views) (sym zero_) ∙ same in
        let b = body s h same0 small in
        (b.0, lawfully s h i (g (get_or s.words i 0)) id b.0 b.1 b.2 l b.3 (ap (λ (j : ℕ). views_of (update (seat_at s.views) j b.0)) zero_ ∙ b.4) b.5, b.6))

    -- a step of the pure rule is lawful
    pub by_step : (s : St k) → Holds k s → (w' : Words) (v' : Views) → Step (setup_at k) (pure_at s) (state w' (length s.views) v') → Lawful (setup_at k) w' (length s.views) v'
    by_step s h w' v' step = steps_keep (setup_at k) (pure_at s) (state w' (length s.views) v') step h.lawful

    -- a load changes no word
    pub kept_words : (s : St k) → words_at k.layout (set s.words i (get_or s.words i 0)) ≡ words_at k.layout s.words
    kept_words s = ap (words_at k.layout) (set-get_or s.words i 0)
