-- What a pass keeps, what its account says, and refusals, over two calls.
use Rattle.std.proofs.Common.{◌≡◌, ℕ, suc, ◌+◌, ◌*◌, ◌^◌, ◌<◌, ◌≤◌, List, [], ◌∷◌, ◌++◌, refl, sym, ap, ◌∙◌, arith, inl, inr, Bool, true, false}
use Rattle.std.proofs.Math.Pow.{pow_mono}
use Rattle.std.proofs.lemmas.List.{append_assoc}
use Rattle.mesh_names.specs.Names.{Name}
use Rattle.mesh_names.specs.Partners.{Across}
use Rattle.mesh_table.specs.Saw.{Saw, SawClaim, SawDraw, SawFree, SawEnd, SawBisected, SawBirth, SawHad, SawDied, SawRetire}
use Rattle.mesh_table.specs.Sights.{Sight}
use Rattle.mesh_table.specs.Told.{arrived}
use Rattle.patch_walk.specs.Wiser.{Wiser, KnowsBisected}
use Rattle.table_words.specs.Entries.{HasEntry}
use Rattle.table_words.specs.NameWords.{name_code}
use Rattle.table_words.specs.Places.{child_place}
use Rattle.table_words.specs.Setup.{Setup}
use Rattle.patch_claims.specs.declared.needs.ClaimRefusal.{ClaimRefusal}
use Rattle.patch_claims.specs.declared.needs.ClaimRefusal.TheVariants.{Deferred, Full}
use Rattle.patch_claims.specs.Accounts.{births}
use Rattle.patch_claims.specs.Needs.{HasPublished, Refused}
use Rattle.patch_walk.specs.Works.{Works}

none_more : (n : ℕ) → n ≡ 0 + n
none_more n = omega arith

one_more : (a b c : ℕ) → a ≡ b + c → suc a ≡ suc b + c
one_more a b c e = omega arith

pub births_both : (xs ys : List Saw) → births (xs ++ ys) ≡ births xs + births ys
births_both [] ys = none_more (births ys)
births_both (SawClaim x n ∷ es) ys = births_both es ys
births_both (SawDraw i ∷ es) ys = births_both es ys
births_both (SawFree n ∷ es) ys = births_both es ys
births_both (SawEnd k ∷ es) ys = births_both es ys
births_both (SawBisected k ∷ es) ys = births_both es ys
births_both (SawHad k ∷ es) ys = births_both es ys
births_both (SawDied b n ∷ es) ys = births_both es ys
births_both (SawRetire b n ∷ es) ys = births_both es ys
births_both (SawBirth b ∷ es) ys = one_more (births (es ++ ys)) (births es) (births ys) (births_both es ys)

pub published_more : (u v w : Sight) (a b : ℕ) → HasPublished u v a → HasPublished v w b → HasPublished u w (a + b)
published_more u v w a b p q = (q.0 ++ p.0, q.1 ∙ ap (λ (l : List Saw). q.0 ++ l) p.1 ∙ sym (append_assoc q.0 p.0 u.saw), (let e = births_both q.0 p.0 in let f = p.2 in let g = q.2 in omega arith))

pub refused_after : (across : Across) (P Q : Name → Type 0) (u v w : Sight) (e : ClaimRefusal) (a : ℕ) → ((m : Name) → P m → Q m) → HasPublished u v a → Refused across P v w e → Refused across Q u w e
refused_after across P Q u v w (Deferred owner n) a on p r =
    let m = r.1 in let x = m.3 in let s = x.3 in
    (r.0, (m.0, on m.0 m.1, m.2, (x.0, x.1, x.2, (s.0 ++ p.0, s.1 ∙ ap (λ (l : List Saw). SawEnd (name_code m.0) ∷ SawClaim x.0 n ∷ l) (ap (λ (l : List Saw). s.0 ++ l) p.1 ∙ sym (append_assoc s.0 p.0 u.saw))))), r.2)
refused_after across P Q u v w (Full drawn free spot) a on p r =
    let x = r.1 in let s = x.2 in
    (r.0, (x.0, x.1, (s.0 ++ p.0, s.1 ∙ ap (λ (l : List Saw). SawFree free ∷ SawDraw drawn ∷ SawClaim x.0 x.1 ∷ l) (ap (λ (l : List Saw). s.0 ++ l) p.1 ∙ sym (append_assoc s.0 p.0 u.saw))), x.3))

-- a pass that has come to its own block knows the name as bisected
pub arrived_knows : (s : Setup) (z k b : ℕ) (t : Bool) (v : Sight) → KnowsBisected s (arrived s z k b t v) k b t
arrived_knows s z k b t v = (inl refl, by)
  where
    by : (u : Bool) → HasEntry (arrived s z k b t v).work.found (child_place s.elements b t u, s.child k u)
    by false = inl refl
    by true = inr (inl refl)

-- an account goes on by the end of a walk
pub published_seen : (u v w : Sight) (a k : ℕ) → HasPublished u v a → w.saw ≡ SawBisected k ∷ v.saw → HasPublished u w a
published_seen u v w a k p e = (SawBisected k ∷ p.0, e ∙ ap (λ (l : List Saw). SawBisected k ∷ l) p.1, p.2)

pub published_ended : (u v w : Sight) (a k : ℕ) → HasPublished u v a → w.saw ≡ SawEnd k ∷ v.saw → HasPublished u w a
published_ended u v w a k p e = (SawEnd k ∷ p.0, e ∙ ap (λ (l : List Saw). SawEnd k ∷ l) p.1, p.2)

-- how many blocks are published at most
pub few_more : (l a : ℕ) → a < 2 ^ l → a < 2 ^ (l + 1)
few_more l a h = let e : 2 ^ l ≤ 2 ^ (l + 1) = pow_mono (omega arith) in omega arith

twice : (l : ℕ) → 2 ^ suc l ≡ 2 * 2 ^ l
twice l = omega arith

double : (l : ℕ) → 2 ^ (l + 1) ≡ 2 * 2 ^ l
double l = let up : l + 1 ≡ suc l = omega arith in ap (λ (n : ℕ). 2 ^ n) up ∙ twice l

sum_one : (p q a c : ℕ) → q ≡ 2 * p → a < p → c ≤ 1 → a + c < q
sum_one p q a c e h g = omega arith

sum_both : (p q a b c : ℕ) → q ≡ 2 * p → a < p → b < p → c ≤ 1 → a + b + c < q
sum_both p q a b c e h g i = omega arith

sum_fit : (p a b c : ℕ) → p ≤ 16777216 → a < p → b < p → c ≤ 1 → a + b + c < 4294967296
sum_fit p a b c e h g i = omega arith

pub few_one : (l a c : ℕ) → a < 2 ^ l → c ≤ 1 → a + c < 2 ^ (l + 1)
few_one l a c h g = sum_one (2 ^ l) (2 ^ (l + 1)) a c (double l) h g

pub few_both : (l a b c : ℕ) → a < 2 ^ l → b < 2 ^ l → c ≤ 1 → a + b + c < 2 ^ (l + 1)
few_both l a b c h g i = sum_both (2 ^ l) (2 ^ (l + 1)) a b c (double l) h g i

pub few_fit : (l a b c : ℕ) → l < 24 → a < 2 ^ l → b < 2 ^ l → c ≤ 1 → a + b + c < 4294967296
few_fit l a b c k h g i = sum_fit (2 ^ l) a b c (pow_mono {i = l} {j = 24} (omega arith)) h g i
