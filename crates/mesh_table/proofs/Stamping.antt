-- The owner's store of a retired round into a LINK word, which keeps the claim bit.
use Rattle.std.proofs.Common.{◌≡◌, ℕ, ◌+◌, ◌%◌, ◌<◌, Bool, true, false, Some, length, refl, sym, ap, ◌∙◌, subst, ⊎_elim, arith}
use Rattle.atomic_table.specs.Table.{Allows}
use Rattle.mesh_names.specs.Names.{digit}
use Rattle.table_words.specs.Claims.{claim}
use Rattle.table_words.specs.Entries.{HasEntry}
use Rattle.table_words.specs.Functions.{update}
use Rattle.table_words.specs.Layout.{LinkOf, address}
use Rattle.table_words.specs.Links.{link_word}
use Rattle.table_words.specs.Places.{place_at, place_count}
use Rattle.table_words.specs.Setup.{Setup}
use Rattle.table_words.specs.Views.{Views, FirstHalf, SecondHalf}
use Rattle.table_words.specs.Words.{Words, node, node_of, words_at}
use Rattle.table_words.proofs.LinkWords.{nodes_read}
use Rattle.table_state.specs.Ghosts.{Stage, Open, Held, Ghost}
use Rattle.table_state.specs.Claims.{bit_of}
use Rattle.table_state.specs.Rule.{Rule}
use Rattle.table_state.proofs.Across.{some_worker}
use Rattle.table_steps.specs.Steps.{ByStampStep}
use Rattle.mesh_table.specs.declared.rule.Site.{Site}
use Rattle.mesh_table.specs.Sights.{Sight, seat_at, views_of, setup_at}
use Rattle.mesh_table.specs.Holds.{Holds, Sat}
use Rattle.mesh_table.specs.Passes.{IsClaimed, MayStamp}
use Rattle.mesh_table.specs.Told.{moved, noted_head}
use Rattle.mesh_table.proofs.Bridge.{stepped, allows, in_owned}
use Rattle.mesh_table.proofs.Claiming.{set_link, update_again}
use Rattle.mesh_table.proofs.Seats.{first_seat}

-- while no worker's pass is out, a place's claim bit is set exactly where the owner has its claim
owner_bit : (s : Setup) (w : Words) (n : ℕ) (v : Views) (g : Ghost) → Rule s w n v g → v.ruling.workers ≡ 0 → (u : Sight) → u.claims ≡ v.claims 0 → (x : ℕ) (bit : Bool) → IsClaimed u x bit → w.claimed x ≡ digit bit
owner_bit s w n v g r home u same x true c = r.claims.bits x ∙ ap bit_of (r.claims.held 0 x c.0 c.1 (subst (λ cs. HasEntry cs (claim x c.0 c.1)) same c.2))
owner_bit s w n v g r home u same x false c = r.claims.bits x ∙ by (g.stage x) refl
  where
    by : (q : Stage) → g.stage x ≡ q → bit_of q ≡ 0
    by Open e = refl
    by (Held j m p) e = ⊎_elim
        (λ z. absurd (c m p (subst (λ cs. HasEntry cs (claim x m p)) (sym same) (subst (λ (i : ℕ). HasEntry (v.claims i) (claim x m p)) z (r.claims.holds j x m p e)))))
        (λ k. let a = some_worker s w n v g r j k in absurd (omega arith)) (r.holders x j m p e)

module _ (k : Site) (id i x b d : ℕ) (bit : Bool) where
  pub stamps : (me : Sat) (n : ℕ) → i ≡ address k.layout (LinkOf (place_at k.layout x)) → x < place_count k.layout → b + 1 < 2097152 → d < 65536 → me.0.ruling.finished + 1 ≡ d → MayStamp me.0 x b bit → n ≡ link_word record { claimed = bit; block = Some b; died = d } → (slots : ℕ)
      → Allows (Holds k) slots id me i (λ _. n) (λ _. moved (λ _ v. noted_head v x (node (b + 1) d)) me n)
  stamps me n ei room small low now may spelled slots = allows k slots id i (λ _. n) me (λ _. moved (λ _ v. noted_head v x (node (b + 1) d)) me n) (λ s h l same _.
      let f = seat_at s.views in
      let w = words_at k.layout s.words in
      let r = h.lawful.1 in
      let zero_ = first_seat k id s h me.0 same may.rules in
      let same0 : f 0 ≡ me.0 = ap f (sym zero_) ∙ same in
      let can : MayStamp (f 0) x b bit = subst (λ (y : Sight). MayStamp y x b bit) (sym same0) may in
      let fin : (f 0).ruling.finished + 1 ≡ d = ap (λ (y : Sight). y.ruling.finished + 1) same0 ∙ now in
      let phase = can.closed in
      let home = r.rules.halves (λ (e : (f 0).ruling.phase ≡ FirstHalf). cc) (λ (e : (f 0).ruling.phase ≡ SecondHalf). cc) in
      let is = owner_bit (setup_at k) w (length s.views) (views_of f) h.lawful.0 r home (f 0) refl x bit can.claimed in
      let bit_is : n % 2 ≡ digit bit = low_bit bit b d n spelled in
      let node_is : node_of n ≡ node (b + 1) d = ap node_of spelled ∙ nodes_read record { claimed = bit; block = Some b; died = d } (omega arith, low) in
      let u = noted_head (f 0) x (node (b + 1) ((f 0).ruling.finished + 1)) in (
        u,
        stepped k s h i n id u (record w { head = update w.head x (node (b + 1) ((f 0).ruling.finished + 1)) }) _ l
            (set_link k s h i x ei room n ∙ (λ t. record w { claimed = update_again w.claimed x (n % 2) (bit_is ∙ sym is) t; head = update w.head x ((node_is ∙ ap (node (b + 1)) (sym fin)) t) }))
            (ap (λ (j : ℕ). views_of (update f j u)) zero_ ∙ in_owned f 0 u refl refl refl refl refl)
            (ByStampStep (can.closed, x, b, can.first, can.second, can.side, can.placed, can.fair, can.at, can.head, can.died, refl)),
        (refl, λ t. noted_head (same0 t) x (node (b + 1) (fin t))),
      ))
    where
      low_bit : (c : Bool) (b d n : ℕ) → n ≡ link_word record { claimed = c; block = Some b; died = d } → n % 2 ≡ digit c
      low_bit true b d n e = omega arith
      low_bit false b d n e = omega arith
