-- The swap of ROUND by which a closed round is finished.
use Rattle.std.proofs.Common.{◌≡◌, ℕ, ◌+◌, ◌*◌, ◌/◌, ◌%◌, List, [], ◌∷◌, ◌++◌, get_or, set, refl, sym, ap, ◌∙◌, subst, arith, false}
use Rattle.atomic_table.specs.Table.{Allows}
use Rattle.table_words.specs.Functions.{update}
use Rattle.table_words.specs.Views.{Resting}
use Rattle.table_words.specs.Words.{words_at}
use Rattle.table_words.proofs.Writes.{writes_update}
use Rattle.table_state.specs.Fresh.{idle}
use Rattle.table_steps.specs.Steps.{ByAdvanceStep}
use Rattle.mesh_table.specs.declared.rule.Site.{Site}
use Rattle.mesh_table.specs.Sights.{Sight, seat_at, views_of, setup_at}
use Rattle.mesh_table.specs.Holds.{Holds, Sat}
use Rattle.mesh_table.specs.Passes.{MayAdvance, advanced}
use Rattle.mesh_table.specs.Told.{moved}
use Rattle.mesh_table.proofs.Bridge.{stepped, allows}
use Rattle.mesh_table.proofs.Seats.{first_seat, in_owner}

module _ (k : Site) (id : ℕ) where
  pub advances : (i next : ℕ) (me : Sat) (forest : List ℕ) → i ≡ 1 → next ≡ (me.0.ruling.finished + 1) * 4294967296 → MayAdvance (setup_at k) me.0 forest → (slots : ℕ) → Allows (Holds k) slots id me i (λ _. next) (moved (λ n v. advanced v forest (n % 4294967296)) me)
  advances i next me forest ei en may slots = allows k slots id i (λ _. next) me (moved (λ n v. advanced v forest (n % 4294967296)) me) (λ s h l same _.
      let f = seat_at s.views in
      let w = words_at k.layout s.words in
      let n = get_or s.words i 0 in
      let zero_ = first_seat k id s h me.0 same may.rules in
      let same0 : f 0 ≡ me.0 = ap f (sym zero_) ∙ same in
      let can : MayAdvance (setup_at k) (f 0) forest = subst (λ (x : Sight). MayAdvance (setup_at k) x forest) (sym same0) may in
      let here : get_or s.words 1 0 ≡ n = ap (λ (j : ℕ). get_or s.words j 0) (sym ei) in
      let taken : w.taken ≡ n % 4294967296 = ap (λ (a : ℕ). a % 4294967296) here in
      let known : (f 0).ruling.finished ≡ w.round = h.lawful.1.stock.finished in
      let fin : (f 0).ruling.finished ≡ me.0.ruling.finished = ap (λ (x : Sight). x.ruling.finished) same0 in
      let round : w.round ≡ me.0.ruling.finished = sym known ∙ fin in
      let up : next / 4294967296 ≡ w.round + 1 = omega arith in
      let none : next % 4294967296 ≡ 0 = omega arith in
      let u : Sight = record (f 0) { work = idle; ruling = record (f 0).ruling { phase = Resting; finished = (f 0).ruling.finished + 1; early = (f 0).ruling.readers; history = (f 0).ruling.history ++ forest ∷ []; left = (w.round, w.taken) ∷ (f 0).ruling.left; retired = []; kept = ((f 0).work.retired ++ (f 0).ruling.retired) ++ (f 0).ruling.kept; seen = 0; quiet = false } } in (
        u,
        stepped k s h i next id u (record w { round = w.round + 1; taken = 0 }) _ l
            (ap (λ (j : ℕ). words_at k.layout (set s.words j next)) ei ∙ (writes_update k.layout s.words next h.size_is).round ∙ (λ t. record w { round = up t; taken = none t }))
            (ap (λ (j : ℕ). views_of (update f j u)) zero_ ∙ in_owner f u refl refl refl refl)
            (ByAdvanceStep (forest, can.of, can.all, can.closed, can.none, can.stamped, refl)),
        (refl, λ t. record (same0 t) { work = idle; ruling = record (same0 t).ruling { phase = Resting; finished = (same0 t).ruling.finished + 1; early = (same0 t).ruling.readers; history = (same0 t).ruling.history ++ forest ∷ []; left = (round t, taken t) ∷ (same0 t).ruling.left; retired = []; kept = ((same0 t).work.retired ++ (same0 t).ruling.retired) ++ (same0 t).ruling.kept; seen = 0; quiet = false } }),
      ))
