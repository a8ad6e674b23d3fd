-- The names of a mesh are apart as codes.
use Rattle.std.proofs.Common.{◌≡◌, ℕ, ◌+◌, ◌-◌, ◌*◌, ◌<◌, ◌≤◌, Bool, true, false, cond, eqb, ltb, ◌&&◌, List, [], ◌∷◌, Option, Some, None, option_map, ◌⊎◌, ⊎_elim, inl, inr, refl, sym, ap, ◌∙◌, subst, arith, eqb-true, ltb-true}
use Rattle.std.specs.Ordering.{is_lt, ordering_reverse}
use Rattle.std.specs.declared.cmp.Ordering.{Ordering}
use Rattle.std.specs.declared.cmp.Ordering.TheVariants.{Less, Equal, Greater}
use Rattle.mesh_names.specs.Names.{Name, digit, depth, name_cmp}
use Rattle.mesh_names.specs.Triangles.{Shape, size, level}
use Rattle.mesh_names.specs.Partners.{Across, Tells, partner}
use Rattle.mesh_names.specs.Patches.{is_first, owns}
use Rattle.mesh_names.proofs.Pairs.{partners_pair}
use Rattle.mesh_names.specs.Order.{name_cmp_total}
use Rattle.table_words.specs.NameWords.{name_code, name_word, name_in}
use Rattle.table_words.specs.Setup.{is_code, child_code, owner_code, partner_code, CodesApart}
use Rattle.table_words.proofs.NameCodes.{few_bits, code_back}

pub both : (a b : Bool) → (a && b) ≡ true → (a ≡ true) × (b ≡ true)
both true b e = (refl, e)
both false b e = absurd (not e)
  where
    not : false ≡ true → ⊥
    not e = cc

pub both_true : (a b : Bool) → a ≡ true → b ≡ true → (a && b) ≡ true
both_true true b e f = f
both_true false b e f = absurd (not e)
  where
    not : false ≡ true → ⊥
    not e = cc

-- a code of at most 24 letters tells its name
pub code_one : (n m : Name) → depth n ≤ 24 → depth m ≤ 24 → name_code n ≡ name_code m → n ≡ m
code_one n m h g e = sym (code_back n h) ∙ ap (λ (k : ℕ). name_in (k - 1)) e ∙ code_back m g

module _ (mesh : Shape) where
  -- what it says of a number to be a code
  pub of_code : (k : ℕ) → is_code mesh k ≡ true → (name_code (name_in (k - 1)) ≡ k) × (level mesh (name_in (k - 1)) < 24) × ((name_in (k - 1)).0 < size mesh)
  of_code k e =
      let a = both (eqb (name_code (name_in (k - 1))) k && ltb (level mesh (name_in (k - 1))) 24) (ltb (name_in (k - 1)).0 (size mesh)) e in
      let b = both (eqb (name_code (name_in (k - 1))) k) (ltb (level mesh (name_in (k - 1))) 24) a.0 in
      (eqb-true (name_code (name_in (k - 1))) k b.0, ltb-true (level mesh (name_in (k - 1))) 24 b.1, ltb-true (name_in (k - 1)).0 (size mesh) a.1)

  abbrev pub far : ℕ → Bool → ℕ
  far k c = 1 + 31 * 16777216 + (2 * k + digit c) * 536870912

  -- a child's code is that of a child's name, or no code at all
  pub child_is : (k : ℕ) (c : Bool) → ((is_code mesh k ≡ true) × (child_code mesh k c ≡ name_code ((name_in (k - 1)).0, c ∷ (name_in (k - 1)).1))) ⊎ (child_code mesh k c ≡ far k c)
  child_is k c = by (is_code mesh k) refl
    where
      by : (t : Bool) → is_code mesh k ≡ t → ((is_code mesh k ≡ true) × (child_code mesh k c ≡ name_code ((name_in (k - 1)).0, c ∷ (name_in (k - 1)).1))) ⊎ (child_code mesh k c ≡ far k c)
      by true e = inl (e, ap (λ (t : Bool). cond t (name_code ((name_in (k - 1)).0, c ∷ (name_in (k - 1)).1)) (far k c)) e)
      by false e = inr (ap (λ (t : Bool). cond t (name_code ((name_in (k - 1)).0, c ∷ (name_in (k - 1)).1)) (far k c)) e)

  far_one : (n m : ℕ) (c d : Bool) → far n c ≡ far m d → (n ≡ m) × (c ≡ d)
  far_one n m true true e = (omega arith, refl)
  far_one n m false false e = (omega arith, refl)
  far_one n m true false e = absurd (omega arith)
  far_one n m false true e = absurd (omega arith)

  -- no name of at most 24 letters has such a code
  pub far_not : (n : Name) (k : ℕ) (c : Bool) → depth n ≤ 24 → name_code n ≡ far k c → ⊥
  far_not n k c h e = let b = few_bits n h in omega arith

  pub child_low : (k : ℕ) (c : Bool) → is_code mesh k ≡ true → depth ((name_in (k - 1)).0, c ∷ (name_in (k - 1)).1) ≤ 24
  child_low k c e = let l = (of_code k e).1 in omega arith

  one : (n m : ℕ) (c d : Bool) → child_code mesh n c ≡ child_code mesh m d → (n ≡ m) × (c ≡ d)
  one n m c d e = ⊎_elim
      (λ a. ⊎_elim
      (λ b. let t = code_one _ _ (child_low n c a.0) (child_low m d b.0) (sym a.1 ∙ e ∙ b.1) in let u = parts _ _ _ _ _ _ t in
      (sym (of_code n a.0).0 ∙ ap name_code (λ i. (u.0 i, u.2 i)) ∙ (of_code m b.0).0, u.1))
      (λ b. absurd (far_not ((name_in (n - 1)).0, c ∷ (name_in (n - 1)).1) m d (child_low n c a.0) (sym a.1 ∙ e ∙ b)))
      (child_is m d))
      (λ a. ⊎_elim
      (λ b. absurd (far_not ((name_in (m - 1)).0, d ∷ (name_in (m - 1)).1) n c (child_low m d b.0) (sym b.1 ∙ sym e ∙ a)))
      (λ b. far_one n m c d (sym a ∙ e ∙ b))
      (child_is m d))
      (child_is n c)
    where
      parts : (r s : ℕ) (c d : Bool) (v w : List Bool) → ◌≡◌ {A = Name} (r, c ∷ v) (s, d ∷ w) → (r ≡ s) × (c ≡ d) × (v ≡ w)
      parts r s c d v w e = let t = tail (c ∷ v) (d ∷ w) (ap (λ (n : Name). n.1) e) in (ap (λ (n : Name). n.0) e, t.0, t.1)
        where
          tail : (x y : List Bool) → ◌≡◌ {A = List Bool} (c ∷ v) (d ∷ w) → (c ≡ d) × (v ≡ w)
          tail x y e = (cc, cc)

  top_not : (i k : ℕ) (c : Bool) → name_code (i, []) ≡ child_code mesh k c → ⊥
  top_not i k c e = ⊎_elim
      (λ a. clash _ _ _ _ (code_one (i, []) _ (omega arith) (child_low k c a.0) (e ∙ a.1)))
      (λ a. far_not (i, []) k c (omega arith) (e ∙ a))
      (child_is k c)
    where
      clash : (r s : ℕ) (c : Bool) (w : List Bool) → ◌≡◌ {A = Name} (r, []) (s, c ∷ w) → ⊥
      clash r s c w e = not (ap (λ (n : Name). n.1) e)
        where
          not : ◌≡◌ {A = List Bool} [] (c ∷ w) → ⊥
          not e = cc

  module _ (across : Across) (tells : Tells mesh across) where
    abbrev pub mate : ℕ → ℕ
    mate k = cond (owner_code mesh across k) (partner_code across k) 0

    -- a name with a mate owns its patch, and the mate is its partner
    pub mate_is : (k p : ℕ) → mate k ≡ p + 1 → (is_code mesh k ≡ true) × (owns across (name_in (k - 1)) ≡ true) × ((m : Name) × (t : Bool) × (partner across (name_in (k - 1)).0 (name_in (k - 1)).1 ≡ Some (m, t)) × (name_code m ≡ p + 1))
    mate_is k p e = by (owner_code mesh across k) refl
      where
        some : (o : Option (Name × Bool)) → name_word (option_map (λ (m : Name × Bool). m.0) o) ≡ p + 1 → (m : Name) × (t : Bool) × (o ≡ Some (m, t)) × (name_code m ≡ p + 1)
        some None e = absurd (omega arith)
        some (Some m) e = (m.0, m.1, refl, e)

        by : (t : Bool) → owner_code mesh across k ≡ t → (is_code mesh k ≡ true) × (owns across (name_in (k - 1)) ≡ true) × ((m : Name) × (t : Bool) × (partner across (name_in (k - 1)).0 (name_in (k - 1)).1 ≡ Some (m, t)) × (name_code m ≡ p + 1))
        by true f = let a = both (is_code mesh k) (owns across (name_in (k - 1))) f in (a.0, a.1, some (partner across (name_in (k - 1)).0 (name_in (k - 1)).1) (sym (ap (λ (t : Bool). cond t (partner_code across k) 0) f) ∙ e))
        by false f = let z : 0 ≡ p + 1 = sym (ap (λ (t : Bool). cond t (partner_code across k) 0) f) ∙ e in absurd (omega arith)

    -- a partner's code is that of a name of the same level
    pub partner_low : (k : ℕ) → is_code mesh k ≡ true → (m : Name) (t : Bool) → partner across (name_in (k - 1)).0 (name_in (k - 1)).1 ≡ Some (m, t) → depth m ≤ 24
    partner_low k c m t e = let o = of_code k c in let p = (partners_pair mesh across tells (name_in (k - 1)) m t o.2 e).level in let l = o.1 in omega arith

    mates : (n m k : ℕ) → mate n ≡ k + 1 → mate m ≡ k + 1 → n ≡ m
    mates n m k e f =
        let a = mate_is n k e in let b = mate_is m k f in
        let same : a.2.0 ≡ b.2.0 = code_one a.2.0 b.2.0 (partner_low n a.0 a.2.0 a.2.1 a.2.2) (partner_low m b.0 b.2.0 b.2.1 b.2.2) (a.2.3 ∙ sym b.2.3) in
        let p = (partners_pair mesh across tells (name_in (n - 1)) a.2.0 a.2.1 (of_code n a.0).2 a.2.2).back in
        let q = (partners_pair mesh across tells (name_in (m - 1)) b.2.0 b.2.1 (of_code m b.0).2 b.2.2).back in
        let u = some_one _ _ (sym p.1 ∙ ap (λ (y : Name). partner across y.0 y.1) same ∙ q.1) in
        sym (of_code n a.0).0 ∙ ap name_code u ∙ (of_code m b.0).0
      where
        some_one : {s t : Bool} (n m : Name) → ◌≡◌ {A = Option (Name × Bool)} (Some (n, s)) (Some (m, t)) → n ≡ m
        some_one n m e = ap (λ (y : Name × Bool). y.0) (inside _ _ e)
          where
            inside : (a b : Name × Bool) → Some a ≡ Some b → a ≡ b
            inside a b e = cc

    asymmetric : (n m : Name) → is_lt (name_cmp n m) ≡ true → is_lt (name_cmp m n) ≡ true → ⊥
    asymmetric n m h g = by (name_cmp n m) h (subst (λ (o : Ordering). is_lt o ≡ true) (name_cmp_total.antisymm m n) g)
      where
        by : (o : Ordering) → is_lt o ≡ true → is_lt (ordering_reverse o) ≡ true → ⊥
        by Less h g = not g
          where
            not : false ≡ true → ⊥
            not e = cc
        by Equal h g = not h
          where
            not : false ≡ true → ⊥
            not e = cc
        by Greater h g = not h
          where
            not : false ≡ true → ⊥
            not e = cc

    leader_not : (n m k : ℕ) → mate n ≡ k + 1 → owner_code mesh across m ≡ true → m ≡ k + 1 → ⊥
    leader_not n m k e f g = by (owner_code mesh across m) refl
      where
        by : (t : Bool) → owner_code mesh across m ≡ t → ⊥
        by false h = let z : false ≡ true = sym h ∙ f in absurd (cc)
        by true h =
            let a = mate_is n k e in let b = both (is_code mesh m) (owns across (name_in (m - 1))) h in
            let p = partners_pair mesh across tells (name_in (n - 1)) a.2.0 a.2.1 (of_code n a.0).2 a.2.2 in
            let name : name_in (m - 1) ≡ a.2.0 = ap (λ (i : ℕ). name_in (i - 1)) (g ∙ sym a.2.3) ∙ code_back a.2.0 (partner_low n a.0 a.2.0 a.2.1 a.2.2) in
            asymmetric (name_in (n - 1)) a.2.0
            (sym (ap (is_first (name_in (n - 1))) a.2.2) ∙ a.1)
            (sym (ap (is_first a.2.0) p.back.1) ∙ ap (owns across) (sym name) ∙ b.1)

    none_leads : owner_code mesh across 0 ≡ true → ⊥
    none_leads e = let z : false ≡ true = e in cc

pub codes_apart : CodesApart
codes_apart mesh across l passes tells = record {
  top_one = λ i j e. let t = code_one (i, []) (j, []) (omega arith) (omega arith) e in ap (λ (n : Name). n.0) t;
  child_one = one mesh;
  top_child = top_not mesh;
  mates_lead = λ n k e. let a = mate_is mesh across tells n k e in both_true (is_code mesh n) (owns across (name_in (n - 1))) a.0 a.1;
  mate_one = mates mesh across tells;
  mate_leads = leader_not mesh across tells;
  leads_some = none_leads mesh across tells;
}
