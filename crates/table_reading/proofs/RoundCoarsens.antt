-- The target less the listed patches is the forest after coarsening steps.
use Rattle.std.proofs.Common.{◌≡◌, ℕ, ◌+◌, ◌-◌, ◌≤◌, true, List, [], ◌∷◌, refl, sym, ap, ◌∙◌, subst, inl, inr, ⊎_elim, arith}
use Rattle.std.specs.Prelude.{Some}
use Rattle.mesh_names.specs.Names.{Name, depth}
use Rattle.mesh_names.specs.Triangles.{Shape}
use Rattle.mesh_names.specs.Forests.{Has, IsForest}
use Rattle.mesh_names.specs.Partners.{Across, Tells, InPatch, partner}
use Rattle.mesh_names.specs.Patches.{owns}
use Rattle.mesh_names.specs.Coarsening.{MarkedForest, after_step, after_steps}
use Rattle.mesh_names.proofs.Steps.{was_there, stays_there}
use Rattle.table_words.specs.declared.layout.Layout.{Layout}
use Rattle.table_words.specs.Entries.{HasEntry}
use Rattle.table_words.specs.NameWords.{name_code, name_in}
use Rattle.table_words.specs.Setup.{Setup, setup_of}
use Rattle.table_words.specs.Views.{Plan}
use Rattle.table_words.proofs.CodedNames.{code_one, mate_is, partner_low}
use Rattle.table_words.proofs.NameCodes.{code_back}
use Rattle.table_state.specs.Lists.{IsListed}
use Rattle.table_reading.specs.RoundForests.{AreCodes, HistoryCoarsens}
use Rattle.table_reading.proofs.RoundForests.{mate_of}

module _ (across : Across) where
  -- what the steps leave was there, and is of none of their patches
  gone : (steps : List Name) (m : MarkedForest) (n : Name) → Has (after_steps across steps m).forest n → Has m.forest n × ((q : Name) → HasEntry steps q → InPatch across q n → ⊥)
  gone [] m n h = (h, λ q f. absurd f)
  gone (p ∷ ps) m n h = let t = gone ps (after_step across p m) n h in let u = was_there across m p n t.0 in (u.0, λ q e i. ⊎_elim (λ f. u.1 (subst (λ (y : Name). InPatch across y n) f i)) (λ f. t.1 q f i) e)

  left : (steps : List Name) (m : MarkedForest) (n : Name) → Has m.forest n → ((q : Name) → HasEntry steps q → InPatch across q n → ⊥) → Has (after_steps across steps m).forest n
  left [] m n h o = h
  left (p ∷ ps) m n h o = left ps (after_step across p m) n (stays_there across m p n h (o p (inl refl))) (λ q e. o q (inr e))

module _ (mesh : Shape) (across : Across) (l : Layout) (passes : ℕ) (tells : Tells mesh across) (m : MarkedForest) (steps : List Name) (p : Plan) (forest : IsForest mesh m.forest) (own : (q : Name) → HasEntry steps q → Has m.forest q × (owns across q ≡ true))
    (codes : AreCodes m.forest (HasEntry p.target)) (to : (q : Name) → HasEntry steps q → HasEntry p.retire (name_code q)) (from : (k : ℕ) → HasEntry p.retire k → (q : Name) × HasEntry steps q × (k ≡ name_code q)) where
  abbrev s : Setup
  s = setup_of mesh across l passes

  listed_is : (n : Name) → depth n ≤ 24 → IsListed s p.retire (name_code n) → (q : Name) × HasEntry steps q × InPatch across q n
  listed_is n low (k, h, e) = let t = from k h in let deep = codes.low t.0 (own t.0 t.1).0 in (
    t.0,
    t.1,
    ⊎_elim
        (λ f. inl (code_one n t.0 low deep (f ∙ t.2)))
        (λ f. let a = mate_is mesh across tells k f.0 f.1 in let back : name_in (k - 1) ≡ t.0 = ap (λ (i : ℕ). name_in (i - 1)) t.2 ∙ code_back t.0 deep in
        let same = code_one a.2.0 n (partner_low mesh across tells k a.0 a.2.0 a.2.1 a.2.2) low (a.2.3 ∙ sym f.2) in
        inr (a.2.1, ap (λ (y : Name). partner across y.0 y.1) (sym back) ∙ a.2.2 ∙ ap (λ (y : Name). Some (y, a.2.1)) same)) e,
  )

  is_listed : (q n : Name) → HasEntry steps q → InPatch across q n → IsListed s p.retire (name_code n)
  is_listed q n h (inl e) = (name_code q, to q h, inl (ap name_code e))
  is_listed q n h (inr e) = let more : name_code n ≡ (name_code n - 1) + 1 = omega arith in let o = own q h in
      (name_code q, to q h, inr (name_code n - 1, mate_of mesh across l passes tells q n e.0 (forest.rooted q o.0) (let low = forest.shallow q o.0 in omega arith) o.1 e.1 ∙ more, more))

  coarsens : (names : List ℕ) → ((i : ℕ) → HasEntry names i → HasEntry p.target i × (IsListed s p.retire i → ⊥)) → ((i : ℕ) → HasEntry p.target i → (IsListed s p.retire i → ⊥) → HasEntry names i) → AreCodes (after_steps across steps m).forest (HasEntry names)
  coarsens names of all = record {
    low = λ n h. codes.low n (gone across steps m n h).0;
    codes = λ n h. let t = gone across steps m n h in all (name_code n) (codes.codes n t.0) (λ k. let u = listed_is n (codes.low n t.0) k in t.1 u.0 u.1 u.2);
    names_of = λ k h. let t = of k h in let u = codes.names_of k t.0 in (u.0, left across steps m u.0 u.1 (λ q e i. t.1 (subst (IsListed s p.retire) (sym u.2) (is_listed q u.0 e i))), u.2);
  }

pub history_coarsens : HistoryCoarsens
history_coarsens mesh across l passes tells m steps p forest own codes to from = coarsens mesh across l passes tells m steps p forest own codes to from
