-- A round begins for the names that it needs: its target is the least forest.
use Rattle.std.proofs.Common.{◌≡◌, ℕ, zero, suc, ◌+◌, ◌-◌, ◌<◌, ◌≤◌, List, [], ◌∷◌, map, length, get_or, slice_index_or, refl, sym, ap, ◌∙◌, subst, arith, inl, inr, ⊎_elim}
use Rattle.std.specs.FinSet.{from_list, items}
use Rattle.std.specs.List.{All}
use Rattle.std.proofs.lemmas.List.Elements.{All-head, All-tail}
use Rattle.atomic_table.specs.Table.{Allows}
use Rattle.compat_check.specs.Meshes.{across_in, shape_of}
use Rattle.mesh_names.specs.Names.{Name, depth}
use Rattle.mesh_names.specs.Triangles.{Shape, size, level}
use Rattle.mesh_names.specs.Forests.{Names, Has, IsForest, Conforms}
use Rattle.mesh_names.specs.LeastForest.{CanHold, IsLeast, least_forest}
use Rattle.mesh_names.specs.Partners.{Tells}
use Rattle.mesh_names.proofs.Closing.{least_by_levels}
use Rattle.mesh_names.proofs.Sets.{In, has-in, in-has, has-item, item-has}
use Rattle.table_words.specs.Entries.{HasEntry, EntryAt}
use Rattle.table_words.specs.NameWords.{name_code, name_in}
use Rattle.table_words.specs.Words.{words_at}
use Rattle.table_words.proofs.NameCodes.{code_back}
use Rattle.table_state.specs.Lists.{Holds as Bisects, IsClosed, IsTarget}
use Rattle.table_reading.specs.RoundForests.{AreCodes}
use Rattle.table_reading.proofs.RoundForests.{kept_forests, least_is_target}
use Rattle.mesh_table.specs.declared.rule.Site.{Site}
use Rattle.mesh_table.specs.Sights.{Sight, seat_at, views_of, setup_at}
use Rattle.mesh_table.specs.Holds.{Holds, Sat}
use Rattle.mesh_table.specs.Passes.{MayBegin, begun}
use Rattle.mesh_table.specs.Crews.{MayBeginFor, CanBisect, names_spelled, codes_of, last_forest, plan_for, begins_told}
use Rattle.mesh_table.proofs.Bridge.{St, allows}
use Rattle.mesh_table.proofs.Seats.{first_seat, begins_state}

entry_of : (xs : List (List ℕ)) (i : ℕ) → i < length xs → EntryAt xs i (slice_index_or xs i [])
entry_of [] i l = absurd (omega arith)
entry_of (x ∷ xs) zero l = refl
entry_of (x ∷ xs) (suc i) l = entry_of xs i (omega arith)

coded_in : (ns : List Name) (n : Name) → In n ns → HasEntry (map name_code ns) (name_code n)
coded_in [] n h = absurd h
coded_in (m ∷ ns) n h = ⊎_elim (λ e. inl (ap name_code e)) (λ o. inr (coded_in ns n o)) h

of_coded : (ns : List Name) (k : ℕ) → HasEntry (map name_code ns) k → (n : Name) × In n ns × (k ≡ name_code n)
of_coded [] k h = absurd h
of_coded (m ∷ ns) k h = ⊎_elim (λ e. (m, inl refl, e)) (λ o. let t = of_coded ns k o in (t.0, inr t.1, t.2)) h

spelled_in : (ks : List ℕ) (n : Name) → In n (map (λ k. name_in (k - 1)) ks) → (k : ℕ) × HasEntry ks k × (n ≡ name_in (k - 1))
spelled_in [] n h = absurd h
spelled_in (k ∷ ks) n h = ⊎_elim (λ e. (k, inl refl, e)) (λ o. let t = spelled_in ks n o in (t.0, inr t.1, t.2)) h

in_spelled : (ks : List ℕ) (k : ℕ) → HasEntry ks k → In (name_in (k - 1)) (map (λ k. name_in (k - 1)) ks)
in_spelled [] k h = absurd h
in_spelled (j ∷ ks) k h = ⊎_elim (λ e. inl (ap (λ (i : ℕ). name_in (i - 1)) e)) (λ o. inr (in_spelled ks k o)) h

module _ (mesh : Shape) where
  shallow_codes : (names : Names) → ((n : Name) → Has names n → level mesh n ≤ 23) → AreCodes names (HasEntry (codes_of names))
  shallow_codes names low = record {
    low = λ n h. let l = low n h in omega arith;
    codes = λ n h. coded_in (items names) n (has-item names n h);
    names_of = λ k h. let t = of_coded (items names) k h in (t.0, item-has names t.0 t.1, t.2);
  }

  list_codes : (ns : List Name) → CanHold mesh (from_list ns) → AreCodes (from_list ns) (HasEntry (map name_code ns))
  list_codes ns can = record {
    low = λ n h. let l = can.shallow n h in omega arith;
    codes = λ n h. coded_in ns n (has-in n ns h);
    names_of = λ k h. let t = of_coded ns k h in (t.0, in-has t.0 ns t.1, t.2);
  }

  module _ (ks : List ℕ) (members : Names) (codes : AreCodes members (HasEntry ks)) (forest : IsForest mesh members) where
    -- what is spelled is a member
    spelled_member : (n : Name) → Has (names_spelled ks) n → Has members n
    spelled_member n h =
        let t = spelled_in ks n (has-in n (map (λ k. name_in (k - 1)) ks) h) in
        let m = codes.names_of t.0 t.1 in
        subst (Has members) (sym (t.2 ∙ ap (λ (i : ℕ). name_in (i - 1)) m.2 ∙ code_back m.0 (codes.low m.0 m.1))) m.1

    member_spelled : (n : Name) → Has members n → Has (names_spelled ks) n
    member_spelled n h = subst (Has (names_spelled ks)) (code_back n (codes.low n h)) (in-has _ (map (λ k. name_in (k - 1)) ks) (in_spelled ks (name_code n) (codes.codes n h)))

    spelled_codes : AreCodes (names_spelled ks) (HasEntry ks)
    spelled_codes = record {
      low = λ n h. codes.low n (spelled_member n h);
      codes = λ n h. codes.codes n (spelled_member n h);
      names_of = λ k h. let t = codes.names_of k h in (t.0, member_spelled t.0 t.1, t.2);
    }

    spelled_can : CanHold mesh (names_spelled ks)
    spelled_can = record {
      rooted = λ n h. forest.rooted n (spelled_member n h);
      shallow = λ n h. forest.shallow n (spelled_member n h);
    }

can_in : (mesh : Shape) (ns : List Name) → All (CanBisect mesh) ns → (n : Name) → In n ns → CanBisect mesh n
can_in mesh [] all n h = absurd h
can_in mesh (m ∷ ns) all n h = ⊎_elim (λ e. subst (CanBisect mesh) (sym e) (All-head (CanBisect mesh) m ns all)) (λ o. can_in mesh ns (All-tail (CanBisect mesh) m ns all) n o) h

can_hold : (mesh : Shape) (ns : List Name) → All (CanBisect mesh) ns → CanHold mesh (from_list ns)
can_hold mesh ns all = record {
  rooted = λ n h. (can_in mesh ns all n (has-in n ns h)).0;
  shallow = λ n h. let l = (can_in mesh ns all n (has-in n ns h)).1 in omega arith;
}

module _ (k : Site) (tells : Tells (shape_of k.mesh.now) (across_in k.mesh.now)) where
  aims : (s : St k) (h : Holds k s) (v : Sight) → seat_at s.views 0 ≡ v → (needs : List Name) → CanHold (shape_of k.mesh.now) (from_list needs)
      → EntryAt v.ruling.history v.ruling.finished (last_forest v) × IsTarget (setup_at k) (HasEntry (last_forest v)) (plan_for (shape_of k.mesh.now) (across_in k.mesh.now) v needs)
  aims s h v same needs can =
      let mesh = shape_of k.mesh.now in
      let across = across_in k.mesh.now in
      let f = seat_at s.views in
      let w = words_at k.layout s.words in
      let r = h.lawful.1 in
      let fin : v.ruling.finished ≡ w.round = ap (λ (x : Sight). x.ruling.finished) (sym same) ∙ r.stock.finished in
      let many : length v.ruling.history ≡ w.round + 1 = ap (λ (x : Sight). length x.ruling.history) (sym same) ∙ r.history.rounds in
      let last : EntryAt v.ruling.history v.ruling.finished (last_forest v) = entry_of v.ruling.history v.ruling.finished (omega arith) in
      let at : EntryAt (f 0).ruling.history w.round (last_forest v) = subst (λ (x : ℕ). EntryAt (f 0).ruling.history x (last_forest v)) fin (subst (λ (x : Sight). EntryAt x.ruling.history v.ruling.finished (last_forest v)) (sym same) last) in
      let there = r.history.forests w.round (last_forest v) at in
      let kept = kept_forests mesh across k.layout k.passes tells w (length s.views) (views_of f) h.lawful w.round (inl refl) in
      let codes : AreCodes kept.0 (HasEntry (last_forest v)) = record {
        low = kept.1.low;
        codes = λ n i. (there (name_code n)).1 (kept.1.codes n i);
        names_of = λ i e. kept.1.names_of i ((there i).0 e);
      } in
      let old = names_spelled (last_forest v) in
      let least = least_by_levels mesh across tells old (from_list needs) (spelled_can mesh (last_forest v) kept.0 codes kept.2) can in (
        last,
        least_is_target mesh across k.layout k.passes tells old (from_list needs) (least_forest mesh across old (from_list needs)) least (last_forest v) (plan_for mesh across v needs)
            (spelled_codes mesh (last_forest v) kept.0 codes kept.2) (list_codes mesh needs can) (shallow_codes mesh (least_forest mesh across old (from_list needs)) least.forest.shallow),
      )

  module _ (id i : ℕ) (me : Sat) (needs : List Name) (may : MayBeginFor (setup_at k) (shape_of k.mesh.now) me.0 needs) where
    pub begins_for : (slots : ℕ) → Allows (Holds k) slots id me i (λ n. n) (begins_told (setup_at k) (shape_of k.mesh.now) (across_in k.mesh.now) needs me)
    begins_for slots = allows k slots id i (λ n. n) me (begins_told (setup_at k) (shape_of k.mesh.now) (across_in k.mesh.now) needs me) (λ s h l same small.
        let zero_ = first_seat k id s h me.0 same may.rules in
        let same0 : seat_at s.views 0 ≡ me.0 = ap (seat_at s.views) (sym zero_) ∙ same in
        let a = aims s h me.0 same0 needs (can_hold (shape_of k.mesh.now) needs may.can) in
        let plan = plan_for (shape_of k.mesh.now) (across_in k.mesh.now) me.0 needs in
        let begin : MayBegin (setup_at k) me.0 plan = record { rules = may.rules; names = last_forest me.0; last = a.0; target = a.1; room = may.room; rests = may.rests; cursor = may.cursor } in
        let b = begins_state k id i me plan begin s h l same in
        (b.0, b.1, (refl, b.2, a.1.closed, a.1.needs)))
