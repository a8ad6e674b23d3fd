-- Links and publication.
use Rattle.std.proofs.Common.{◌≡◌, ℕ, zero, suc, ◌+◌, ◌*◌, ◌/◌, ◌%◌, ◌<◌, true, false, List, ◌++◌, ◌⊎◌, set, refl, sym, ap, ◌∙◌, subst, arith, inl, inr, ⊎_elim, Some}
use Rattle.atomic_table.specs.Table.{Allows}
use Rattle.table_words.specs.Claims.{Drawn, Half, Whole}
use Rattle.table_words.specs.Functions.{update}
use Rattle.table_words.specs.Layout.{OfBlock, Born, LinkOf, address}
use Rattle.table_words.specs.Links.{link_word}
use Rattle.table_words.specs.Places.{place_at, place_count}
use Rattle.table_words.specs.Words.{node, node_of, words_at}
use Rattle.table_words.proofs.Entries.{entry_of_both}
use Rattle.table_words.proofs.Writes.{writes_update}
use Rattle.table_state.specs.Claims.{bit_of}
use Rattle.table_steps.specs.Steps.{ByLinkFirst, ByLinkSecond, ByPublishStep}
use Rattle.mesh_table.specs.declared.rule.Site.{Site}
use Rattle.mesh_table.specs.Sights.{Sight, seat_at, setup_at}
use Rattle.mesh_table.specs.Holds.{Holds, Sat}
use Rattle.mesh_table.specs.Told.{MayLink, MayLinkOn, MayPublish, by_link, come, moved, published}
use Rattle.mesh_table.proofs.Bridge.{stepped, allows, in_claims, in_claims_work}
use Rattle.mesh_table.proofs.Claiming.{set_link, update_again}

-- the word that names a block and has no retired round
pub named : (b c n : ℕ) → b + 1 < 2097152 → c < 2 → n ≡ c + 2 * (b + 1) + 4194304 * 0 → (n % 2 ≡ c) × (node_of n ≡ node (b + 1) 0)
named b c n small bit e =
    let one : n / 2 % 2097152 ≡ b + 1 = omega arith in
    let two : n / 4194304 % 65536 ≡ 0 = omega arith in
    (omega arith, λ t. node (one t) (two t))

linked : (m b : ℕ) → (by_link m b ≡ Half b) ⊎ ((by_link m b ≡ Whole b) × (m ≡ 0))
linked zero b = inr (refl, refl)
linked (suc m) b = inl refl

module _ (k : Site) (id i x : ℕ) where
  pub links_first : (m b code : ℕ) (me : Sat) (n : ℕ) → i ≡ address k.layout (LinkOf (place_at k.layout x)) → x < place_count k.layout → b + 1 < 2097152 → MayLink (setup_at k) me.0 x m b code → n ≡ link_word record { claimed = true; block = Some b; died = 0 } → (slots : ℕ)
      → Allows (Holds k) slots id me i (λ _. n) (λ _. moved (λ _ v. come v x (by_link m b)) me n)
  links_first m b code me n ei room small may spelled slots = allows k slots id i (λ _. n) me (λ _. moved (λ _ v. come v x (by_link m b)) me n) (λ s h l same _.
      let f = seat_at s.views in
      let w = words_at k.layout s.words in
      let u = come (f id) x (by_link m b) in
      let can : MayLink (setup_at k) (f id) x m b code = subst (λ (y : Sight). MayLink (setup_at k) y x m b code) (sym same) may in
      let r = h.lawful.1 in
      let parts = named b 1 n small (omega arith) (omega arith) in
      let bit : w.claimed x ≡ 1 = r.claims.bits x ∙ ap bit_of (r.claims.held id x m (Drawn b) can.drew) in (
        u,
        stepped k s h i n id u (record w { head = update w.head x (node (b + 1) 0) }) _ l
            (set_link k s h i x ei room n ∙ (λ t. record w { claimed = update_again w.claimed x (n % 2) (parts.0 ∙ sym bit) t; head = update w.head x (parts.1 t) }))
            (in_claims f id u refl refl refl refl refl)
            (ByLinkFirst (id, x, m, b, code, can.drew, can.works, can.died, can.first, can.second, can.leads, can.children, can.olds, can.found, can.mates, by_link m b, linked m b, refl)),
        (refl, ap (λ (y : Sight). come y x (by_link m b)) same),
      ))

module _ (k : Site) (id i x y : ℕ) where
  pub links_second : (b : ℕ) (me : Sat) (n : ℕ) → i ≡ address k.layout (LinkOf (place_at k.layout y)) → y < place_count k.layout → b + 1 < 2097152 → MayLinkOn me.0 x y b → n ≡ link_word record { claimed = false; block = Some b; died = 0 } → (slots : ℕ)
      → Allows (Holds k) slots id me i (λ _. n) (λ _. moved (λ _ v. come v x (Whole b)) me n)
  links_second b me n ei room small may spelled slots = allows k slots id i (λ _. n) me (λ _. moved (λ _ v. come v x (Whole b)) me n) (λ s h l same _.
      let f = seat_at s.views in
      let w = words_at k.layout s.words in
      let u = come (f id) x (Whole b) in
      let can : MayLinkOn (f id) x y b = subst (λ (a : Sight). MayLinkOn a x y b) (sym same) may in
      let r = h.lawful.1 in
      let parts = named b 0 n small (omega arith) (omega arith) in
      let bit : w.claimed y ≡ 0 = r.claims.bits y ∙ ap bit_of (r.claims.mates x id y (Half b) (r.claims.held id x (y + 1) (Half b) can.half)).0 in (
        u,
        stepped k s h i n id u (record w { head = update w.head y (node (b + 1) 0) }) _ l
            (set_link k s h i y ei room n ∙ (λ t. record w { claimed = update_again w.claimed y (n % 2) (parts.0 ∙ sym bit) t; head = update w.head y (parts.1 t) }))
            (in_claims f id u refl refl refl refl refl)
            (ByLinkSecond (id, x, y, b, can.old.0, can.half, can.works, can.old.1, can.old.2, refl)),
        (refl, ap (λ (a : Sight). come a x (Whole b)) same),
      ))

module _ (k : Site) (id i x m b : ℕ) where
  pub publishes : (me : Sat) (names : List ℕ) (n : ℕ) → i ≡ address k.layout (OfBlock b Born) → b < k.layout.pool → me.0.work.round ≡ n → MayPublish me.0 x m b names → (slots : ℕ) → Allows (Holds k) slots id me i (λ _. n) (moved (λ _ v. published v x b names) me)
  publishes me names n ei room now may slots = allows k slots id i (λ _. n) me (moved (λ _ v. published v x b names) me) (λ s h l same _.
      let f = seat_at s.views in
      let w = words_at k.layout s.words in
      let u = published (f id) x b names in
      let can : MayPublish (f id) x m b names = subst (λ (a : Sight). MayPublish a x m b names) (sym same) may in
      let round : n ≡ (f id).work.round = sym now ∙ sym (ap (λ (a : Sight). a.work.round) same) in (
        u,
        stepped k s h i n id u (record w { born = update w.born b (f id).work.round }) _ l
            (ap (λ (j : ℕ). words_at k.layout (set s.words j n)) ei ∙ (writes_update k.layout s.words n h.size_is).born b room ∙ (λ t. record w { born = update w.born b (round t) }))
            (in_claims_work f id u refl refl refl refl)
            (ByPublishStep (id, x, m, b, can.whole, can.works, names ++ (f id).work.known, (λ a e. ⊎_elim (λ c. inr (can.named a c)) (λ c. inl c) (entry_of_both names (f id).work.known a e)), refl)),
        (refl, ap (λ (a : Sight). published a x b names) same),
      ))
