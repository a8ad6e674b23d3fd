-- Patches of names, as codes; what a closed list of codes has; and chains.
use Rattle.std.proofs.Common.{◌≡◌, ℕ, ◌+◌, ◌-◌, ◌<◌, ◌≤◌, Bool, true, false, cond, eqb, ltb, ◌&&◌, List, ◌∷◌, Option, Some, None, option_map, refl, sym, ap, ◌∙◌, subst, arith, eq-eqb, lt-ltb}
use Rattle.std.specs.Ordering.{is_lt, ordering_reverse}
use Rattle.mesh_names.specs.Names.{Name, digit, depth, name_cmp}
use Rattle.mesh_names.specs.Triangles.{Shape, size, level}
use Rattle.mesh_names.specs.Forests.{Has, Within}
use Rattle.mesh_names.specs.Chains.{chain_of}
use Rattle.mesh_names.specs.Partners.{Across, Tells, partner}
use Rattle.mesh_names.specs.Patches.{is_first, owns, patch_of, patch_by}
use Rattle.mesh_names.specs.declared.patch.PatchName.{PatchName}
use Rattle.mesh_names.proofs.Chains.{chains_stand}
use Rattle.mesh_names.proofs.Pairs.{partners_pair}
use Rattle.table_words.specs.Entries.{HasEntry}
use Rattle.table_words.specs.NameWords.{name_code, name_in, name_word}
use Rattle.table_words.specs.Setup.{is_code, owner_code, partner_code}
use Rattle.table_words.proofs.NameCodes.{code_back}
use Rattle.table_words.proofs.CodedNames.{both_true}
use Rattle.table_state.specs.Lists.{IsClosed}
use Rattle.mesh_table.specs.Sights.{setup_at}
use Rattle.mesh_table.specs.declared.rule.Site.{Site}
use Rattle.patch_walk.proofs.Names.{child_named}
use Rattle.std.specs.declared.cmp.Ordering.{Ordering}
use Rattle.std.specs.declared.cmp.Ordering.TheVariants.{Less, Equal, Greater}
use Rattle.mesh_names.specs.Order.{name_cmp_total, name_cmp-same}
use Rattle.compat_check.specs.Meshes.{shape_of, across_in}

after_or_same : (r : Ordering) → is_lt r ≡ false → (r ≡ Equal → ⊥) → is_lt (ordering_reverse r) ≡ true
after_or_same Less h o = absurd (cc)
after_or_same Equal h o = absurd (o refl)
after_or_same Greater h o = refl

-- of two names one comes before the other
before_if_not_after : (m n : Name) → is_lt (name_cmp n m) ≡ false → (m ≡ n → ⊥) → is_lt (name_cmp m n) ≡ true
before_if_not_after m n h other = ap is_lt (name_cmp_total.antisymm m n) ∙ after_or_same (name_cmp n m) h (λ e. other (sym (name_cmp-same n m e)))

module _ (mesh : Shape) (across : Across) (tells : Tells mesh across) where
  module _ (n : Name) (root : n.0 < size mesh) (low : level mesh n < 24) where
    shallow : depth n ≤ 24
    shallow = omega arith

    back : name_in (name_code n - 1) ≡ n
    back = code_back n shallow

    coded : is_code mesh (name_code n) ≡ true
    coded =
        let one : eqb (name_code (name_in (name_code n - 1))) (name_code n) ≡ true = eq-eqb (name_code (name_in (name_code n - 1))) (name_code n) (ap name_code back) in
        let two : ltb (level mesh (name_in (name_code n - 1))) 24 ≡ true = ap (λ (m : Name). ltb (level mesh m) 24) back ∙ lt-ltb (level mesh n) 24 low in
        let three : ltb (name_in (name_code n - 1)).0 (size mesh) ≡ true = ap (λ (m : Name). ltb m.0 (size mesh)) back ∙ lt-ltb n.0 (size mesh) root in
        both_true (eqb (name_code (name_in (name_code n - 1))) (name_code n) && ltb (level mesh (name_in (name_code n - 1))) 24) (ltb (name_in (name_code n - 1)).0 (size mesh))
        (both_true (eqb (name_code (name_in (name_code n - 1))) (name_code n)) (ltb (level mesh (name_in (name_code n - 1))) 24) one two) three

    -- a name that owns its patch, as a code
    pub owns_code : owns across n ≡ true → owner_code mesh across (name_code n) ≡ true
    owns_code o = both_true (is_code mesh (name_code n)) (owns across (name_in (name_code n - 1))) coded (ap (owns across) back ∙ o)

    pub mate_code : owns across n ≡ true → cond (owner_code mesh across (name_code n)) (partner_code across (name_code n)) 0 ≡ name_word (option_map (λ (m : Name × Bool). m.0) (partner across n.0 n.1))
    mate_code o = ap (λ (t : Bool). cond t (partner_code across (name_code n)) 0) (owns_code o) ∙ ap (λ (m : Name). name_word (option_map (λ (a : Name × Bool). a.0) (partner across m.0 m.1))) back

  -- a name without a partner owns its patch
  pub owns_alone : (n : Name) → partner across n.0 n.1 ≡ None → owns across n ≡ true
  owns_alone n e = ap (is_first n) e

  pub owns_first : (n m : Name) (t : Bool) → partner across n.0 n.1 ≡ Some (m, t) → is_lt (name_cmp n m) ≡ true → owns across n ≡ true
  owns_first n m t e l = ap (is_first n) e ∙ l

  pub patch_alone : (n : Name) → partner across n.0 n.1 ≡ None → (patch_of across n).first ≡ n
  patch_alone n e = ap (λ (o : Option (Name × Bool)). (patch_by n o).first) e

  pub patch_first : (n m : Name) (t : Bool) → partner across n.0 n.1 ≡ Some (m, t) → is_lt (name_cmp n m) ≡ true → (patch_of across n).first ≡ n
  patch_first n m t e l = ap (λ (o : Option (Name × Bool)). (patch_by n o).first) e ∙ ap (λ (a : Bool). (cond {A = PatchName} a (record { first = n; second = Some m }) (record { first = m; second = Some n })).first) l

  pub patch_second : (n m : Name) (t : Bool) → partner across n.0 n.1 ≡ Some (m, t) → is_lt (name_cmp n m) ≡ false → (patch_of across n).first ≡ m
  patch_second n m t e l = ap (λ (o : Option (Name × Bool)). (patch_by n o).first) e ∙ ap (λ (a : Bool). (cond {A = PatchName} a (record { first = n; second = Some m }) (record { first = m; second = Some n })).first) l

  -- of two partners one comes before the other
  pub other_before : (n m : Name) (t : Bool) → n.0 < size mesh → partner across n.0 n.1 ≡ Some (m, t) → is_lt (name_cmp n m) ≡ false → is_lt (name_cmp m n) ≡ true
  other_before n m t root e l = before_if_not_after m n l (partners_pair mesh across tells n m t root e).other

  module _ (n : Name) (root : n.0 < size mesh) where
    pub chain_self : Has (chain_of mesh across n) n
    chain_self = (chains_stand mesh across tells n root).chain.closed.holds

  -- the chains of the parent and of the partner's parent lie in the chain of a name
  pub chain_parent : (r : ℕ) (b : Bool) (w : List Bool) → r < size mesh → Within (chain_of mesh across (r, w)) (chain_of mesh across (r, b ∷ w))
  chain_parent r b w root = let c = (chains_stand mesh across tells (r, b ∷ w) root).chain.closed in
      (chains_stand mesh across tells (r, w) root).chain.least (chain_of mesh across (r, b ∷ w)) (record { holds = c.parents r b w c.holds; parents = c.parents; partner_parents = c.partner_parents })

  pub chain_partner : (n : Name) (s : ℕ) (b : Bool) (w : List Bool) (t : Bool) → n.0 < size mesh → s < size mesh → partner across n.0 n.1 ≡ Some ((s, b ∷ w), t) → Within (chain_of mesh across (s, w)) (chain_of mesh across n)
  chain_partner n s b w t root inside e = let c = (chains_stand mesh across tells n root).chain.closed in
      (chains_stand mesh across tells (s, w) inside).chain.least (chain_of mesh across n) (record { holds = c.partner_parents n s b w t c.holds e; parents = c.parents; partner_parents = c.partner_parents })

-- a closed list of codes has the parent of a name, and its partner
module _ (k : Site) (tells : Tells (shape_of k.mesh.now) (across_in k.mesh.now)) (target : List ℕ) (closed : IsClosed (setup_at k) (HasEntry target)) where
  abbrev mesh : Shape
  mesh = shape_of k.mesh.now

  abbrev across : Across
  across = across_in k.mesh.now

  pub target_parent : (r : ℕ) (b : Bool) (w : List Bool) → r < size mesh → level mesh (r, b ∷ w) < 24 → HasEntry target (name_code (r, b ∷ w)) → HasEntry target (name_code (r, w))
  target_parent r b w root low has = closed.parents (name_code (r, w)) b (subst (HasEntry target) (sym (child_named mesh (r, w) b (omega arith) (omega arith) root)) has)

  pub target_partner : (n m : Name) (t : Bool) → n.0 < size mesh → level mesh n < 24 → partner across n.0 n.1 ≡ Some (m, t) → HasEntry target (name_code n) → HasEntry target (name_code m)
  target_partner n m t root low e has = by (is_lt (name_cmp n m)) refl
    where
      by : (a : Bool) → is_lt (name_cmp n m) ≡ a → HasEntry target (name_code m)
      by true l =
          let i : name_code m ≡ (name_code m - 1) + 1 = omega arith in
          subst (HasEntry target) (sym i) (closed.seconds (name_code n) (name_code m - 1) (mate_code mesh across tells n root low (owns_first mesh across tells n m t e l) ∙ ap (λ (o : Option (Name × Bool)). name_word (option_map (λ (a : Name × Bool). a.0) o)) e ∙ i) has)
      by false l =
          let p = partners_pair mesh across tells n m t root e in
          let lv : level mesh m ≡ level mesh n = p.level in
          let i : name_code n ≡ (name_code n - 1) + 1 = omega arith in
          closed.firsts (name_code m) (name_code n - 1) (mate_code mesh across tells m p.rooted (omega arith) (owns_first mesh across tells m n p.back.0 p.back.1 (other_before mesh across tells n m t root e l)) ∙ ap (λ (o : Option (Name × Bool)). name_word (option_map (λ (a : Name × Bool). a.0) o)) p.back.1 ∙ i) (subst (HasEntry target) i has)

-- what of an option of a pair is given
pub partner_of : (o : Option (Name × Bool)) (m : Name) → Some m ≡ option_map (λ (a : Name × Bool). a.0) o → (t : Bool) × (o ≡ Some (m, t))
partner_of None m e = absurd (cc)
partner_of (Some a) m e = (a.1, ap (λ (y : Name). Some (y, a.1)) (one a.0 m (sym e)))
  where
    one : (x y : Name) → ◌≡◌ {A = Option Name} (Some x) (Some y) → x ≡ y
    one x y e = cc
