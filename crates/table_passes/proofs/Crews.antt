-- Lists of passes, made and joined.
use Rattle.std.proofs.Common.{◌≡◌, ℕ, zero, suc, ◌+◌, ◌<◌, List, [], ◌∷◌, ◌++◌, Bool, false, map, length, drop, slice_index_or, refl, sym, ap, ◌∙◌, subst, inl, inr, arith, All}
use Rattle.std.proofs.lemmas.List.{map-append}
use Rattle.std.proofs.lemmas.List.Elements.{All-nil, All-cons, All-head, All-tail}
use Rattle.mesh_names.specs.Names.{Name}
use Rattle.mesh_names.specs.Triangles.{Shape}
use Rattle.table_words.specs.Entries.{HasEntry}
use Rattle.table_words.specs.NameWords.{name_code}
use Rattle.mesh_table.specs.Crews.{CanBisect}
use Rattle.table_passes.specs.Answers.{IsAimed}
use Rattle.table_words.specs.Views.{Phase, Kind}
use Rattle.mesh_table.specs.Passes.{joined, left_by_split, made_worker}
use Rattle.mesh_table.specs.Sights.{Sight}
use Rattle.table_passes.specs.Crew.{left_by, joined_all}

-- what passes are made from stays while they are made
pub left_makes : (n : ℕ) (v : Sight) (number : ℕ) → made_worker (left_by n v) number ≡ made_worker v number
left_makes zero v number = refl
left_makes (suc n) v number = left_makes n v number

pub left_kind : (n : ℕ) (v : Sight) → (left_by n v).kind ≡ v.kind
left_kind zero v = refl
left_kind (suc n) v = left_kind n v

pub left_phase : (n : ℕ) (v : Sight) → (left_by n v).ruling.phase ≡ v.ruling.phase
left_phase zero v = refl
left_phase (suc n) v = left_phase n v

pub left_finished : (n : ℕ) (v : Sight) → (left_by n v).ruling.finished ≡ v.ruling.finished
left_finished zero v = refl
left_finished (suc n) v = left_finished n v

pub left_lone : (n : ℕ) (v : Sight) → v.ruling.lone ≡ false → (left_by n v).ruling.lone ≡ false
left_lone zero v e = e
left_lone (suc n) v e = refl

-- the last pass of a list is joined first
pub joined_last : (v : Sight) (ws : List Sight) (w : Sight) → joined_all v (ws ++ w ∷ []) ≡ joined_all (joined v w) ws
joined_last v [] w = refl
joined_last v (y ∷ ws) w = ap (λ (a : Sight). joined a y) (joined_last v ws w)

pub joined_step : {A : Type 0} (f : A → Sight) (v : Sight) (more fewer : List A) (x : A) → more ≡ fewer ++ x ∷ [] → joined_all (joined v (f x)) (map f fewer) ≡ joined_all v (map f more)
joined_step f v more fewer x e = sym (joined_last v (map f fewer) (f x)) ∙ ap (joined_all v) (sym (map-append f fewer (x ∷ [])) ∙ ap (map f) (sym e))

-- the names that a round needs are of its target
code_at : (names : List Name) (k : ℕ) (d : Name) → k < length names → HasEntry (map name_code names) (name_code (slice_index_or names k d))
code_at [] k d l = absurd (omega arith)
code_at (n ∷ names) zero d l = inl refl
code_at (n ∷ names) (suc k) d l = inr (code_at names k d (omega arith))

pub aimed_all : (mesh : Shape) (target needs : List ℕ) (names : List Name) → All (CanBisect mesh) names → needs ≡ map name_code names → ((i : ℕ) → HasEntry needs i → HasEntry target i) → All (IsAimed mesh target) names
aimed_all mesh target needs names can e aims k d l = (can k d l, aims (name_code (slice_index_or names k d)) (subst (λ (codes : List ℕ). HasEntry codes (name_code (slice_index_or names k d))) (sym e) (code_at names k d l)))

-- what holds of all items of one list holds of those of another that show the same
pub all_shown : {A B C : Type 0} (f : A → C) (g : B → C) (P : C → Type 0) (xs : List A) (ys : List B) → map f xs ≡ map g ys → All (λ y. P (g y)) ys → All (λ x. P (f x)) xs
all_shown {C = C} f g P [] ys e all = All-nil (λ x. P (f x))
all_shown {C = C} f g P (x ∷ xs) [] e all = absurd (cc)
all_shown {C = C} f g P (x ∷ xs) (y ∷ ys) e all =
    let head : f x ≡ g y = ap (λ (zs : List C). slice_index_or zs 0 (f x)) e in
    let tail : map f xs ≡ map g ys = ap (λ (zs : List C). drop 1 zs) e in
    All-cons (λ x. P (f x)) x xs (subst P (sym head) (All-head (λ y. P (g y)) y ys all)) (all_shown f g P xs ys tail (All-tail (λ y. P (g y)) y ys all))

pub left_more : (n : ℕ) (v : Sight) → left_by (n + 1) v ≡ left_by_split (left_by n v)
left_more n v = let same : n + 1 ≡ suc n = omega arith in ap (λ (k : ℕ). left_by k v) same
