-- A round that is closed, swept and stamped may be finished.
use Rattle.std.proofs.Common.{◌≡◌, ℕ, ◌+◌, ◌<◌, List, [], ◌∷◌, ◌++◌, length, refl, sym, ap, ◌∙◌, subst}
use Rattle.table_words.specs.declared.layout.Layout.{Layout}
use Rattle.table_words.specs.Entries.{HasEntry}
use Rattle.table_words.specs.Setup.{Setup}
use Rattle.table_words.specs.Views.{Plan}
use Rattle.mesh_table.specs.Sights.{Sight}
use Rattle.mesh_table.specs.Passes.{MayAdvance, IsStampedIn}
use Rattle.mesh_table.specs.Rounds.{MayClose, closed}
use Rattle.mesh_table.specs.Told.{mate_number}
use Rattle.table_rounds.specs.declared.patch.Patch.{Patch}
use Rattle.table_rounds.specs.Patches.{nth, spot, first_of, IsLeft, WereRetired, StampedTo, Swept}

pub may_finish : (l : Layout) (s : Setup) (u v w : Sight) (claims ps : List Patch) (forest : List ℕ) → MayClose s u → Swept l (closed u) v claims → StampedTo l v w ps (length ps) → WereRetired l u ps → IsLeft s u.ruling.plan forest → MayAdvance s w forest
may_finish l s u v w claims ps forest may swept stamped were left =
    let rest : w ≡ record (closed u) { claims = []; owned = w.owned; ruling = record (closed u).ruling { placed = v.ruling.placed } } = stamped.same ∙ (λ t. record (swept.same t) { owned = w.owned }) in
    let plan : u.ruling.plan ≡ w.ruling.plan = sym (ap (λ (z : Sight). z.ruling.plan) rest) in
    let gone : w.work.retired ++ w.ruling.retired ≡ u.work.retired ++ u.ruling.retired = ap (λ (z : Sight). z.work.retired ++ z.ruling.retired) rest in
    let fine = subst (λ (p : Plan). IsLeft s p forest) plan left in record {
      rules = ap (λ (z : Sight). z.kind) rest ∙ may.rules;
      of = fine.0;
      all = fine.1;
      closed = ap (λ (z : Sight). z.ruling.phase) rest;
      none = ap (λ (z : Sight). z.claims) rest;
      stamped = λ b h.
          let t = were.all b (subst (λ (xs : List ℕ). HasEntry xs b) gone h) in
          let k = t.0 in
          let at : HasEntry w.ruling.placed (spot l (nth ps k)) = subst (λ (z : Sight). HasEntry z.ruling.placed (spot l (nth ps k))) (sym rest) (swept.more (spot l (nth ps k)) (were.right k t.1).1) in
          let is = stamped.stamped k t.1 in
          subst (λ (c : ℕ). (x : ℕ) × (m : ℕ) × HasEntry w.ruling.placed (c, x, m) × IsStampedIn w x c × ((y : ℕ) → m ≡ y + 1 → IsStampedIn w y c)) (sym t.2) (first_of l ps k, mate_number l (nth ps k).second, at, is.0, is.1);
    }
