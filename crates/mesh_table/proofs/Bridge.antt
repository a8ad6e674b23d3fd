-- From a step of the pure rule to one of the real table.
use Rattle.std.proofs.Common.{◌≡◌, ℕ, zero, suc, ◌<◌, cond, Bool, List, [], ◌∷◌, length, get_or, set, sym, ap, ◌∙◌, subst, arith, get_or-set_other, get_or-set_same, lt-ltb, length-set}
use mathlib.Core.Logic.{dite}
use mathlib.Core.Option.{some, some-injective, some-ne-none}
use mathlib.Core.Path.{fun_ext}
use native.Mathlib.Decide.{ℕ_discrete}
use lib.ListN.{get_elem?}
use lib.Seq.{set-get_or}
use Rattle.atomic_table.specs.Table.{State, keeps, Allows}
use Rattle.table_words.specs.declared.layout.Layout.{Layout}
use Rattle.table_words.specs.Claims.{Claim}
use Rattle.table_words.specs.Functions.{update}
use Rattle.table_words.specs.Layout.{TableWord, content}
use Rattle.table_words.specs.Views.{Views, Work, Owned, Read, Ruling, Kind}
use Rattle.table_words.specs.Words.{Words, contents, words_at}
use Rattle.table_words.proofs.Functions.{update_at, update_other, part_set, part_kept}
use Rattle.table_state.specs.Rule.{Lawful}
use Rattle.table_steps.specs.States.{state}
use Rattle.table_steps.specs.Steps.{Step}
use Rattle.table_steps.proofs.StepsKeep.{steps_keep}
use Rattle.mesh_table.specs.declared.rule.Site.{Site}
use Rattle.mesh_table.specs.Sights.{Sight, nobody, seat_at, views_of, setup_at}
use Rattle.mesh_table.specs.Holds.{Holds, Sat}

-- a word of a numbered kind is what the words have of it
pub contents_at : (l : Layout) (words : List ℕ) (n : ℕ) (f : ℕ → TableWord) (i : ℕ) → i < n → contents l words n f i ≡ content l words (f i)
contents_at l words n f i h = ap (λ (t : Bool). cond t (content l words (f i)) 0) (lt-ltb i n h)

-- a seat's view, by its number
pub seat_of : (vs : List Sight) (j : ℕ) (v : Sight) → get_elem? vs j ≡ some v → (seat_at vs j ≡ v) × (j < length vs)
seat_of [] j v e = absurd (some-ne-none v (sym e))
seat_of (x ∷ xs) zero v e = (some-injective x v e, omega arith)
seat_of (x ∷ xs) (suc j) v e = let t = seat_of xs j v e in let l = t.1 in (t.0, omega arith)

pub set_seat : (vs : List Sight) (j : ℕ) (v : Sight) → j < length vs → seat_at (set vs j v) ≡ update (seat_at vs) j v
set_seat vs j v h = fun_ext {f = seat_at (set vs j v)} {g = update (seat_at vs) j v} (λ (i : ℕ). dite (ℕ_discrete i j)
    (λ e. ap (λ k. get_or (set vs j v) k nobody) e ∙ get_or-set_same vs j v nobody h ∙ sym (update_at (seat_at vs) j i v e))
    (λ ne. get_or-set_other vs j i v nobody ne ∙ sym (update_other (seat_at vs) j i v ne)))

-- the parts of the views, where one view changes
module _ (f : ℕ → Sight) (j : ℕ) (v : Sight) where
  pub views_are : (kind' : ℕ → Kind) (claims' : ℕ → List Claim) (work' : ℕ → Work) (sure' : ℕ → Owned) (read' : ℕ → Read) (ruling' : Ruling) → ◌≡◌ {A = ℕ → Kind} (λ i. (update f j v i).kind) kind' → ◌≡◌ {A = ℕ → List Claim} (λ i. (update f j v i).claims) claims' → ◌≡◌ {A = ℕ → Work} (λ i. (update f j v i).work) work'
      → ◌≡◌ {A = ℕ → Owned} (λ i. (update f j v i).owned) sure' → ◌≡◌ {A = ℕ → Read} (λ i. (update f j v i).read) read' → (update f j v 0).ruling ≡ ruling' → views_of (update f j v) ≡ record { kind = kind'; claims = claims'; work = work'; owned = sure'; read = read'; ruling = ruling' }
  views_are kind' claims' work' sure' read' ruling' a b c d e h t = record { kind = a t; claims = b t; work = c t; owned = d t; read = e t; ruling = h t }

  module _ (same_kind : v.kind ≡ (f j).kind) (same_ruling : v.ruling ≡ (f j).ruling) where
    kinds : ◌≡◌ {A = ℕ → Kind} (λ i. (update f j v i).kind) (λ i. (f i).kind)
    kinds = part_kept (λ (x : Sight). x.kind) f j v same_kind

    ruled : (update f j v 0).ruling ≡ (f 0).ruling
    ruled = let e = part_kept (λ (x : Sight). x.ruling) f j v same_ruling in λ t. e t 0

    claims_set : ◌≡◌ {A = ℕ → List Claim} (λ i. (update f j v i).claims) (update (λ i. (f i).claims) j v.claims)
    claims_set = part_set (λ (x : Sight). x.claims) f j v

    work_set : ◌≡◌ {A = ℕ → Work} (λ i. (update f j v i).work) (update (λ i. (f i).work) j v.work)
    work_set = part_set (λ (x : Sight). x.work) f j v

    owned_set : ◌≡◌ {A = ℕ → Owned} (λ i. (update f j v i).owned) (update (λ i. (f i).owned) j v.owned)
    owned_set = part_set (λ (x : Sight). x.owned) f j v

    read_set : ◌≡◌ {A = ℕ → Read} (λ i. (update f j v i).read) (update (λ i. (f i).read) j v.read)
    read_set = part_set (λ (x : Sight). x.read) f j v

    claims_kept : v.claims ≡ (f j).claims → ◌≡◌ {A = ℕ → List Claim} (λ i. (update f j v i).claims) (λ i. (f i).claims)
    claims_kept = part_kept (λ (x : Sight). x.claims) f j v

    work_kept : v.work ≡ (f j).work → ◌≡◌ {A = ℕ → Work} (λ i. (update f j v i).work) (λ i. (f i).work)
    work_kept = part_kept (λ (x : Sight). x.work) f j v

    owned_kept : v.owned ≡ (f j).owned → ◌≡◌ {A = ℕ → Owned} (λ i. (update f j v i).owned) (λ i. (f i).owned)
    owned_kept = part_kept (λ (x : Sight). x.owned) f j v

    read_kept : v.read ≡ (f j).read → ◌≡◌ {A = ℕ → Read} (λ i. (update f j v i).read) (λ i. (f i).read)
    read_kept = part_kept (λ (x : Sight). x.read) f j v

    pub in_work : v.claims ≡ (f j).claims → v.owned ≡ (f j).owned → v.read ≡ (f j).read → views_of (update f j v) ≡ record (views_of f) { work = update (views_of f).work j v.work }
    in_work a b c t = record { kind = kinds t; claims = claims_kept a t; work = work_set t; owned = owned_kept b t; read = read_kept c t; ruling = ruled t }

    pub in_owned : v.claims ≡ (f j).claims → v.work ≡ (f j).work → v.read ≡ (f j).read → views_of (update f j v) ≡ record (views_of f) { owned = update (views_of f).owned j v.owned }
    in_owned a b c t = record { kind = kinds t; claims = claims_kept a t; work = work_kept b t; owned = owned_set t; read = read_kept c t; ruling = ruled t }

    pub in_read : v.claims ≡ (f j).claims → v.work ≡ (f j).work → v.owned ≡ (f j).owned → views_of (update f j v) ≡ record (views_of f) { read = update (views_of f).read j v.read }
    in_read a b c t = record { kind = kinds t; claims = claims_kept a t; work = work_kept b t; owned = owned_kept c t; read = read_set t; ruling = ruled t }

    pub in_claims : v.work ≡ (f j).work → v.owned ≡ (f j).owned → v.read ≡ (f j).read → views_of (update f j v) ≡ record (views_of f) { claims = update (views_of f).claims j v.claims }
    in_claims a b c t = record { kind = kinds t; claims = claims_set t; work = work_kept a t; owned = owned_kept b t; read = read_kept c t; ruling = ruled t }

    pub in_claims_owned : v.work ≡ (f j).work → v.read ≡ (f j).read → views_of (update f j v) ≡ record (views_of f) { claims = update (views_of f).claims j v.claims; owned = update (views_of f).owned j v.owned }
    in_claims_owned a c t = record { kind = kinds t; claims = claims_set t; work = work_kept a t; owned = owned_set t; read = read_kept c t; ruling = ruled t }

    pub in_claims_work : v.owned ≡ (f j).owned → v.read ≡ (f j).read → views_of (update f j v) ≡ record (views_of f) { claims = update (views_of f).claims j v.claims; work = update (views_of f).work j v.work }
    in_claims_work a c t = record { kind = kinds t; claims = claims_set t; work = work_set t; owned = owned_kept a t; read = read_kept c t; ruling = ruled t }

    pub in_none : v.claims ≡ (f j).claims → v.work ≡ (f j).work → v.owned ≡ (f j).owned → v.read ≡ (f j).read → views_of (update f j v) ≡ views_of f
    in_none a b c d t = record { kind = kinds t; claims = claims_kept a t; work = work_kept b t; owned = owned_kept c t; read = read_kept d t; ruling = ruled t }

    pub in_all : v.read ≡ (f j).read → views_of (update f j v) ≡ record (views_of f) { claims = update (views_of f).claims j v.claims; work = update (views_of f).work j v.work; owned = update (views_of f).owned j v.owned }
    in_all c t = record { kind = kinds t; claims = claims_set t; work = work_set t; owned = owned_set t; read = read_kept c t; ruling = ruled t }

module _ (k : Site) where
  abbrev pub St : Type 0
  St = State (Unit {0}) Sight

  -- the table after a write of a word and of a view
  abbrev pub after : St → ℕ → ℕ → ℕ → Sight → St
  after s i n id v = record { words = set s.words i n; homes = s.homes; views = set s.views id v }

  -- lawful words and views that are those of the table after the write
  pub held : (s : St) (h : Holds k s) (i n id : ℕ) (v : Sight) (w' : Words) (v' : Views) → id < length s.views → words_at k.layout (set s.words i n) ≡ w' → views_of (update (seat_at s.views) id v) ≡ v' → Lawful (setup_at k) w' (length s.views) v' → Holds k (after s i n id v)
  held s h i n id v w' v' l ew ev lawful = record {
    size_is = length-set s.words i n ∙ h.size_is;
    lawful = subst (λ (x : Words × ℕ × Views). Lawful (setup_at k) x.0 x.1 x.2) (λ t. (sym ew t, sym (length-set s.views id v) t, (sym ev ∙ ap views_of (sym (set_seat s.views id v l))) t)) lawful;
  }

  -- a step of the pure rule whose words and views are those of the table after the write
  pub stepped : (s : St) (h : Holds k s) (i n id : ℕ) (v : Sight) (w' : Words) (v' : Views) → id < length s.views → words_at k.layout (set s.words i n) ≡ w' → views_of (update (seat_at s.views) id v) ≡ v'
      → Step (setup_at k) (state (words_at k.layout s.words) (length s.views) (views_of (seat_at s.views))) (state w' (length s.views) v') → Holds k (after s i n id v)
  stepped s h i n id v w' v' l ew ev step = record {
    size_is = length-set s.words i n ∙ h.size_is;
    lawful = subst (λ (x : Words × ℕ × Views). Lawful (setup_at k) x.0 x.1 x.2) (λ t. (sym ew t, sym (length-set s.views id v) t, (sym ev ∙ ap views_of (sym (set_seat s.views id v l))) t))
        (steps_keep (setup_at k) (state (words_at k.layout s.words) (length s.views) (views_of (seat_at s.views))) (state w' (length s.views) v') step h.lawful);
  }

  -- a word is as it was, and the views but for what the seat saw
  pub seen : (s : St) (h : Holds k s) (i n id : ℕ) (v : Sight) → id < length s.views → n ≡ get_or s.words i 0 → views_of (update (seat_at s.views) id v) ≡ views_of (seat_at s.views) → Holds k (after s i n id v)
  seen s h i n id v l en ev = held s h i n id v (words_at k.layout s.words) (views_of (seat_at s.views)) l (ap (words_at k.layout) (ap (λ (m : ℕ). set s.words i m) en ∙ set-get_or s.words i 0)) ev h.lawful

  -- nothing changes
  pub unmoved : (s : St) (h : Holds k s) (i n id : ℕ) (v : Sight) → id < length s.views → n ≡ get_or s.words i 0 → v ≡ seat_at s.views id → Holds k (after s i n id v)
  unmoved s h i n id v l en ev = subst (λ (x : List ℕ × List Sight). Holds k record { words = x.0; homes = s.homes; views = x.1 })
      (λ t. (sym (ap (λ (m : ℕ). set s.words i m) en ∙ set-get_or s.words i 0) t, sym (ap (λ (u : Sight). set s.views id u) ev ∙ set-get_or s.views id nobody) t)) h

  -- what a call owes, from the state in which the seat's view is me.0
  pub allows : (slots id i : ℕ) (g : ℕ → ℕ) (me : Sat) (then : ℕ → Sat → Type 0)
      → ((s : St) → Holds k s → id < length s.views → seat_at s.views id ≡ me.0 → get_or s.words i 0 < 18446744073709551616 → (w : Sight) × Holds k (after s i (g (get_or s.words i 0)) id w) × then (get_or s.words i 0) (w, me.1))
      → Allows (Holds k) slots id me i g then
  allows slots id i g me then body s h _ at small = let t = seat_of s.views id me.0 at in let b = body s h t.1 t.0 small in (b.0, keeps, tt, b.1, b.2)
