-- Calls of a pass for names, one after the other.
use Rattle.std.proofs.Common.{◌≡◌, ℕ, ◌+◌, ◌<◌, Bool, true, false, List, [], ◌∷◌, ◌++◌, Option, None, Some, length, take, get_or, length-append, refl, sym, ap, ◌∙◌, subst, inl, inr, ◌⊎◌, true≢false}
use Rattle.std.specs.Prelude.{Ok, Err, IfOk, IfErr}
use Rattle.std.proofs.lemmas.List.{take_more}
use Rattle.patch_walk.proofs.Learning.{works_more}
use Rattle.mesh_names.specs.Chains.{chain_of}
use Rattle.mesh_names.specs.Forests.{Has}
use Rattle.mesh_names.specs.Names.{Name}
use Rattle.mesh_names.specs.Partners.{Across}
use Rattle.mesh_names.specs.Triangles.{Shape}
use Rattle.table_words.specs.Entries.{HasEntry}
use Rattle.table_words.specs.NameWords.{name_code}
use Rattle.table_words.specs.Setup.{Setup}
use Rattle.table_words.specs.Views.{Plan}
use Rattle.table_state.specs.Lists.{IsClosed}
use Rattle.mesh_table.specs.Lost.{AllLiving}
use Rattle.mesh_table.specs.Sights.{Sight}
use Rattle.patch_walk.specs.Works.{Works}
use Rattle.patch_claims.specs.Needs.{Refused}
use Rattle.patch_claims.specs.Refined.{IsRefined}
use Rattle.patch_claims.specs.declared.needs.ClaimRefusal.TheVariants.{Deferred, Full}
use Rattle.patch_claims.specs.declared.patch.Spot.{Spot}
use Rattle.patch_claims.specs.declared.refine.Done.TheVariants.{Published, Already}
use Rattle.table_passes.specs.Kept.{failed_in}
use Rattle.table_passes.specs.Answers.{Answer, IsAimed, CanRefine, IsAnswer, is_full, HasAnswered, Ran, IsWorked}

module _ (mesh : Shape) (x : Across) (u v : Sight) (n : Name) where
  -- the answer, by its case
  pub answer_is : (a : Answer) → IfOk a (IsRefined u v (name_code n)) → IfErr a (Refused x (Has (chain_of mesh x n)) u v) → IsAnswer mesh x u v n a
  answer_is (Ok d) o e = o
  answer_is (Err r) o e = e

  pub living_of : (a : Answer) → IsAnswer mesh x u v n a → is_full a ≡ false → AllLiving v.claims
  living_of (Ok (Published k)) h f = h.2
  living_of (Ok Already) h f = h.1
  living_of (Err (Deferred owner word)) h f = h.2
  living_of (Err (Full drawn free spot)) h f = absurd (true≢false f)

-- the last of the answers says that there were no free blocks left
pub full_is : (a : Answer) → is_full a ≡ true → (drawn free : ℕ) × (spot : Spot) × (a ≡ Err (Full drawn free spot))
full_is (Ok d) f = absurd (true≢false (sym f))
full_is (Err (Deferred owner word)) f = absurd (true≢false (sym f))
full_is (Err (Full drawn free spot)) f = (drawn, free, spot, refl)

pub can_still : (s : Setup) (u v : Sight) → CanRefine s u → Works u v → AllLiving v.claims → CanRefine s v
can_still s u v can works living = record {
  works = works.kind ∙ can.works;
  half = works.half ∙ can.half;
  closed = subst (λ (p : Plan). IsClosed s (HasEntry p.target)) (sym works.plan) can.closed;
  living = living;
}

pub aimed_still : (mesh : Shape) (u v : Sight) (n : Name) → IsAimed mesh u.work.plan.target n → Works u v → IsAimed mesh v.work.plan.target n
aimed_still mesh u v n aimed works = subst (λ (p : Plan). IsAimed mesh p.target n) (sym works.plan) aimed

module _ (mesh : Shape) (x : Across) where
  pub ran_more : (u : Sight) (names : List Name) (answers : List Answer) (v w : Sight) (n : Name) (a : Answer) → Ran mesh x u names answers v
      → HasAnswered mesh x v w n a → Ran mesh x u (names ++ n ∷ []) (answers ++ a ∷ []) w
  ran_more u [] [] v w n a r h = (w, subst (λ (y : Sight). HasAnswered mesh x y w n a) r h, refl)
  ran_more u [] (b ∷ answers) v w n a r h = absurd r
  ran_more u (m ∷ names) [] v w n a r h = absurd r
  ran_more u (m ∷ names) (b ∷ answers) v w n a r h = (r.0, r.1, ran_more r.0 names answers v w n a r.2 h)

  module _ (u v w : Sight) (names : List Name) (i : ℕ) (d : Name) (answers more : List Answer) (a : Answer) (l : i < length names) (count : length answers ≡ i) (works : Works u v)
      (ran : Ran mesh x u (take i names) answers v) (has : HasAnswered mesh x v w (get_or names i d) a) (grew : more ≡ answers ++ a ∷ []) where
    pub ran_next : Ran mesh x u (take (i + 1) names) more w
    ran_next = subst (λ (t : List Name × List Answer). Ran mesh x u t.0 t.1 w) (λ j. (sym (take_more names i d l) j, sym grew j)) (ran_more u (take i names) answers v w (get_or names i d) a ran has)

    pub more_count : length more ≡ i + 1
    more_count = ap length grew ∙ length-append answers (a ∷ []) ∙ ap (λ (k : ℕ). k + 1) count

    pub works_next : Works u w
    works_next = works_more works has.works

    pub worked_full : is_full a ≡ true → IsWorked mesh x u w names more
    worked_full f = let t = full_is a f in record {
      works = works_next;
      ran = subst (λ (k : ℕ). Ran mesh x u (take k names) more w) (sym more_count) ran_next;
      ends = inr (answers, t.0, t.1, t.2, grew ∙ ap (λ (b : Answer). answers ++ b ∷ []) t.3);
    }

-- the claim of a call that found no block is noted
pub full_failed : (a : Answer) → is_full a ≡ true → failed_in a ≡ None → ⊥
full_failed (Ok done) e f = absurd (true≢false (sym e))
full_failed (Err (Deferred owner word)) e f = absurd (true≢false (sym e))
full_failed (Err (Full drawn free spot)) e f = cc
