-- Lists of names and forests: what is closed over codes is a conforming forest over names, and back.
use Rattle.std.proofs.Common.{◌≡◌, ℕ, ◌+◌, ◌-◌, ◌*◌, ◌<◌, ◌≤◌, Bool, true, false, cond, eqb, ltb, ◌&&◌, List, [], ◌∷◌, Option, Some, option_map, ◌⊎◌, refl, sym, ap, ◌∙◌, subst, inl, inr, ⊎_elim, arith, eq-eqb, lt-ltb, ltb-true, eqb-true}
use Rattle.std.specs.FinSet.{contains, retain, insert, empty, contains-empty}
use Rattle.std.specs.Ordering.{is_lt, ordering_reverse}
use Rattle.std.specs.declared.cmp.Ordering.{Ordering}
use Rattle.std.specs.declared.cmp.Ordering.TheVariants.{Less, Equal, Greater}
use Rattle.mesh_names.specs.Names.{Name, digit, depth, name_cmp}
use Rattle.mesh_names.specs.Order.{name_cmp_total, name_cmp-same}
use Rattle.mesh_names.specs.Triangles.{Shape, size, level}
use Rattle.mesh_names.specs.Forests.{Names, Has, IsForest, Conforms}
use Rattle.mesh_names.specs.Conformity.{HoldsPartners}
use Rattle.mesh_names.specs.LeastForest.{IsLeast}
use Rattle.mesh_names.specs.Partners.{Across, Tells, partner}
use Rattle.mesh_names.specs.Patches.{is_first, owns}
use Rattle.mesh_names.proofs.Inserting.{has-insert, new-insert, insert-either}
use Rattle.mesh_names.proofs.Booleans.{retained}
use Rattle.mesh_names.proofs.Conforming.{conforms_by_partners}
use Rattle.mesh_names.proofs.Pairs.{partners_pair}
use Rattle.table_words.specs.declared.layout.Layout.{Layout}
use Rattle.table_words.specs.Entries.{HasEntry, EntryAt}
use Rattle.table_words.specs.NameWords.{name_code, name_word, name_in}
use Rattle.table_words.specs.Places.{member_of}
use Rattle.table_words.specs.Setup.{Setup, is_code, child_code, owner_code, partner_code, setup_of}
use Rattle.table_words.specs.Views.{Plan, Views, FirstHalf, order}
use Rattle.table_words.specs.Words.{Words}
use Rattle.table_words.proofs.CodedNames.{both, both_true, code_one, of_code, child_is, far_not, child_low, mate_is, partner_low}
use Rattle.table_words.proofs.NameCodes.{code_back}
use Rattle.table_state.specs.Ghosts.{Life, Placed, chained, Ghost}
use Rattle.table_state.specs.Bisections.{MayRead}
use Rattle.table_state.specs.Lists.{Holds, IsClosed, IsTarget}
use Rattle.table_reading.specs.RoundForests.{AreCodes, BisectedCoded, KeptForests, LeastIsTarget, ReadsForests, LeastWhenNeeded}
use Rattle.table_state.specs.Rule.{Rule}
use Rattle.table_state.proofs.FoundAgain.{placed}
use Rattle.table_state.proofs.Lists.{bisected_closed, entry_at}

module _ (mesh : Shape) (across : Across) (l : Layout) (passes : ℕ) (tells : Tells mesh across) where
  abbrev s : Setup
  s = setup_of mesh across l passes

  -- a name of the mesh that can be bisected has a code
  coded : (n : Name) → n.0 < size mesh → level mesh n < 24 → is_code mesh (name_code n) ≡ true
  coded n root low = let back = code_back n (omega arith) in both_true _ _
      (both_true _ _ (eq-eqb _ _ (ap name_code back)) (ap (λ (m : Name). ltb (level mesh m) 24) back ∙ lt-ltb (level mesh n) 24 low))
      (ap (λ (m : Name). ltb m.0 (size mesh)) back ∙ lt-ltb n.0 (size mesh) root)

  pub child_of : (n : Name) (c : Bool) → n.0 < size mesh → level mesh n < 24 → child_code mesh (name_code n) c ≡ name_code (n.0, c ∷ n.1)
  child_of n c root low = let back = code_back n (omega arith) in ⊎_elim (λ t. t.1 ∙ ap (λ (m : Name). name_code (m.0, c ∷ m.1)) back)
      (λ t. ap (λ (b : Bool). cond b (name_code ((name_in (name_code n - 1)).0, c ∷ (name_in (name_code n - 1)).1)) (1 + 31 * 16777216 + (2 * name_code n + digit c) * 536870912)) (coded n root low) ∙ ap (λ (m : Name). name_code (m.0, c ∷ m.1)) back)
      (child_is mesh (name_code n) c)

  -- the second member of a patch that the name owns
  pub mate_of : (n m : Name) (t : Bool) → n.0 < size mesh → level mesh n < 24 → owns across n ≡ true → partner across n.0 n.1 ≡ Some (m, t) → s.mate (name_code n) ≡ name_code m
  mate_of n m t root low own e = let back = code_back n (omega arith) in
      ap (λ (b : Bool). cond b (partner_code across (name_code n)) 0) (both_true _ _ (coded n root low) (ap (owns across) back ∙ own))
      ∙ ap (λ (i : Name). name_word (option_map (λ (j : Name × Bool). j.0) (partner across i.0 i.1))) back ∙ ap (λ (o : Option (Name × Bool)). name_word (option_map (λ (j : Name × Bool). j.0) o)) e

  -- of two partners one owns their patch
  one_owns : (n m : Name) (t u : Bool) → (m ≡ n → ⊥) → partner across n.0 n.1 ≡ Some (m, t) → partner across m.0 m.1 ≡ Some (n, u) → (owns across n ≡ true) ⊎ (owns across m ≡ true)
  one_owns n m t u other e f = by (name_cmp n m) refl
    where
      by : (o : Ordering) → name_cmp n m ≡ o → (owns across n ≡ true) ⊎ (owns across m ≡ true)
      by Less h = inl (ap (is_first n) e ∙ ap is_lt h)
      by Equal h = absurd (other (sym (name_cmp-same n m h)))
      by Greater h = inr (ap (is_first m) f ∙ ap is_lt (name_cmp_total.antisymm m n ∙ ap ordering_reverse h))

  module _ (members : Names) (Coded : ℕ → Type 0) (codes : AreCodes members Coded) where
    -- the name of a code
    back_to : (n : Name) → depth n ≤ 24 → Coded (name_code n) → Has members n
    back_to n low c = let t = codes.names_of (name_code n) c in subst (Has members) (code_one t.0 n (codes.low t.0 t.1) low (sym t.2)) t.1

    -- a conforming forest is closed over codes
    pub forest_closed : IsForest mesh members → HoldsPartners across members → IsClosed s Coded
    forest_closed forest partners = record {
      parents = λ k c h. let t = codes.names_of (s.child k c) h in ⊎_elim
          (λ a. let o = of_code mesh k a.0 in let same = code_one _ t.0 (child_low mesh k c a.0) (codes.low t.0 t.1) (sym a.1 ∙ t.2) in
          subst Coded o.0 (codes.codes (name_in (k - 1)) (forest.closed (name_in (k - 1)).0 c (name_in (k - 1)).1 (subst (Has members) (sym same) t.1))))
          (λ a. absurd (far_not mesh t.0 k c (codes.low t.0 t.1) (sym t.2 ∙ a))) (child_is mesh k c);
      seconds = λ k p e h. let a = mate_is mesh across tells k p e in let t = codes.names_of k h in let same : t.0 ≡ name_in (k - 1) = sym (code_back t.0 (codes.low t.0 t.1)) ∙ ap (λ (i : ℕ). name_in (i - 1)) (sym t.2) in
          subst Coded a.2.3 (codes.codes a.2.0 (partners (name_in (k - 1)).0 (name_in (k - 1)).1 a.2.0 a.2.1 (subst (Has members) same t.1) a.2.2));
      firsts = λ k p e h. let a = mate_is mesh across tells k p e in let t = codes.names_of (p + 1) h in let o = of_code mesh k a.0 in
          let same = code_one t.0 a.2.0 (codes.low t.0 t.1) (partner_low mesh across tells k a.0 a.2.0 a.2.1 a.2.2) (sym t.2 ∙ sym a.2.3) in
          let pair = (partners_pair mesh across tells (name_in (k - 1)) a.2.0 a.2.1 o.2 a.2.2).back in
          subst Coded o.0 (codes.codes (name_in (k - 1)) (partners a.2.0.0 a.2.0.1 (name_in (k - 1)) pair.0 (subst (Has members) same t.1) pair.1));
    }

    -- what is closed over codes is a conforming forest
    module _ (valid : (k : ℕ) → Coded k → is_code mesh k ≡ true) (closed : IsClosed s Coded) where
      of_name : (n : Name) → Has members n → (n.0 < size mesh) × (level mesh n < 24)
      of_name n h = let o = of_code mesh (name_code n) (valid (name_code n) (codes.codes n h)) in subst (λ (m : Name). (m.0 < size mesh) × (level mesh m < 24)) (code_back n (codes.low n h)) (o.2, o.1)

      pub closed_forest : IsForest mesh members
      closed_forest = record {
        rooted = λ n h. (of_name n h).0;
        shallow = λ n h. let a = (of_name n h).1 in omega arith;
        closed = λ r b u h. let a = of_name (r, b ∷ u) h in let low = a.1 in back_to (r, u) (omega arith) (closed.parents (name_code (r, u)) b (subst Coded (sym (child_of (r, u) b a.0 (omega arith))) (codes.codes (r, b ∷ u) h)));
      }

      pub closed_partners : HoldsPartners across members
      closed_partners r u m t h e = let n : Name = (r, u) in let a = of_name (r, u) h in let p = partners_pair mesh across tells (r, u) m t a.0 e in let low = a.1 in let same = p.level in
          back_to m (omega arith) (⊎_elim
          (λ o. at (r, u) m (mate_of (r, u) m t a.0 a.1 o e) (codes.codes (r, u) h))
          (λ o. from (r, u) m (mate_of m (r, u) p.back.0 p.rooted (omega arith) o p.back.1) (codes.codes (r, u) h))
          (one_owns (r, u) m t p.back.0 p.other e p.back.1))
        where
          at : (n m : Name) → s.mate (name_code n) ≡ name_code m → Coded (name_code n) → Coded (name_code m)
          at n m e h = let more : name_code m ≡ (name_code m - 1) + 1 = omega arith in subst Coded (sym more) (closed.seconds (name_code n) (name_code m - 1) (e ∙ more) h)

          from : (n m : Name) → s.mate (name_code m) ≡ name_code n → Coded (name_code n) → Coded (name_code m)
          from n m e h = let more : name_code n ≡ (name_code n - 1) + 1 = omega arith in closed.firsts (name_code m) (name_code n - 1) (e ∙ more) (subst Coded more h)

      pub closed_conforms : Conforms mesh members
      closed_conforms = (conforms_by_partners mesh across tells members closed_forest).1 closed_partners

  -- the names of a set of which the codes are in a function
  module _ (new : Names) (target : List ℕ) (ct : AreCodes new (HasEntry target)) (forest : IsForest mesh new) (conforms : Conforms mesh new) (other : ℕ → ℕ) (c : IsClosed s (Holds other)) where
    abbrev part : Names
    part = retain new (λ n. ltb 0 (other (name_code n)))

    abbrev InBoth : ℕ → Type 0
    InBoth k = HasEntry target k × Holds other k

    holds_of : (k : ℕ) → 0 < k → (b : ℕ) × (k ≡ b + 1)
    holds_of k l = (k - 1, omega arith)

    of_part : (n : Name) → Has part n → Has new n × Holds other (name_code n)
    of_part n h = let a = both (contains new n) (ltb 0 (other (name_code n))) (sym (retained new (λ m. ltb 0 (other (name_code m))) n) ∙ h) in (a.0, holds_of (other (name_code n)) (ltb-true 0 (other (name_code n)) a.1))

    in_part : (n : Name) → Has new n → Holds other (name_code n) → Has part n
    in_part n h k = retained new (λ m. ltb 0 (other (name_code m))) n ∙ both_true _ _ h (lt-ltb 0 (other (name_code n)) (let e = k.1 in omega arith))

    part_codes : AreCodes part InBoth
    part_codes = record {
      low = λ n h. ct.low n (of_part n h).0;
      codes = λ n h. let t = of_part n h in (ct.codes n t.0, t.1);
      names_of = λ k h. let t = ct.names_of k h.0 in (t.0, in_part t.0 t.1 (subst (Holds other) t.2 h.1), t.2);
    }

    part_valid : (k : ℕ) → InBoth k → is_code mesh k ≡ true
    part_valid k h = let t = ct.names_of k h.0 in subst (λ (i : ℕ). is_code mesh i ≡ true) (sym t.2) (coded t.0 (forest.rooted t.0 t.1) (let l = forest.shallow t.0 t.1 in omega arith))

    part_closed : IsClosed s InBoth
    part_closed = let f = forest_closed new (HasEntry target) ct forest ((conforms_by_partners mesh across tells new forest).0 conforms) in record {
      parents = λ k b h. (f.parents k b h.0, c.parents k b h.1);
      seconds = λ k p e h. (f.seconds k p e h.0, c.seconds k p e h.1);
      firsts = λ k p e h. (f.firsts k p e h.0, c.firsts k p e h.1);
    }

    pub part_forest : IsForest mesh part × Conforms mesh part
    part_forest = (closed_forest part InBoth part_codes part_valid part_closed, closed_conforms part InBoth part_codes part_valid part_closed)

  is_target : (old needs new : Names) → IsLeast mesh old needs new → (names : List ℕ) (p : Plan) → AreCodes old (HasEntry names) → AreCodes needs (HasEntry p.needs) → AreCodes new (HasEntry p.target) → IsTarget s (HasEntry names) p
  is_target old needs new least names p co cn ct = record {
    closed = forest_closed new (HasEntry p.target) ct least.forest ((conforms_by_partners mesh across tells new least.forest).0 least.conforms);
    olds = λ k h. let t = co.names_of k h in subst (HasEntry p.target) (sym t.2) (ct.codes t.0 (least.holds_old t.0 t.1));
    needs = λ k h. let t = cn.names_of k h in subst (HasEntry p.target) (sym t.2) (ct.codes t.0 (least.holds_needs t.0 t.1));
    least = λ other c o e k h. let t = ct.names_of k h in let f = part_forest new p.target ct least.forest least.conforms other c in
        subst (Holds other) (sym t.2) (of_part new p.target ct least.forest least.conforms other c t.0 (least.least (part new p.target ct least.forest least.conforms other c) f.0 f.1
        (λ m q. in_part new p.target ct least.forest least.conforms other c m (least.holds_old m q) (o (name_code m) (co.codes m q)))
        (λ m q. in_part new p.target ct least.forest least.conforms other c m (least.holds_needs m q) (e (name_code m) (cn.codes m q))) t.0 t.1)).1;
  }

  -- a forest's names by their codes, as a function
  module _ (members : Names) (forest : IsForest mesh members) (conforms : Conforms mesh members) where
    abbrev pub held : ℕ → ℕ
    held k = digit (contains members (name_in (k - 1)) && eqb (name_code (name_in (k - 1))) k)

    digit_holds : (b : Bool) (a : ℕ) → digit b ≡ a + 1 → b ≡ true
    digit_holds true a e = refl
    digit_holds false a e = absurd (omega arith)

    pub of_held : (k : ℕ) → Holds held k → Has members (name_in (k - 1)) × (name_code (name_in (k - 1)) ≡ k)
    of_held k h = let a = both (contains members (name_in (k - 1))) (eqb (name_code (name_in (k - 1))) k) (digit_holds _ h.0 h.1) in (a.0, eqb-true _ _ a.1)

    pub held_codes : AreCodes members (Holds held)
    held_codes = record {
      low = λ n h. let l = forest.shallow n h in omega arith;
      codes = λ n h. let l = forest.shallow n h in let back = code_back n (omega arith) in (0, ap digit (both_true _ _ (subst (Has members) (sym back) h) (eq-eqb _ _ (ap name_code back))));
      names_of = λ k h. let t = of_held k h in (name_in (k - 1), t.0, sym t.1);
    }

    pub held_closed : IsClosed s (Holds held)
    held_closed = forest_closed members (Holds held) held_codes forest ((conforms_by_partners mesh across tells members forest).0 conforms)

  module _ (w : Words) (n : ℕ) (v : Views) (g : Ghost) (r : Rule s w n v g) where
    digit_one : (b : Bool) → digit b ≡ 1 → b ≡ true
    digit_one true e = refl
    digit_one false e = absurd (omega arith)

    leads_code : (k : ℕ) → s.leads k ≡ true → is_code mesh k ≡ true
    leads_code k e = (both (is_code mesh k) (owns across (name_in (k - 1))) e).0

    -- a bisected name is one of the mesh
    pub bisected_code : (q : ℕ) → MayRead w.round v.ruling.phase v.read q → (k : ℕ) → Holds (g.who q) k → is_code mesh k ≡ true
    bisected_code q may k h = let f = (r.names.fits q may).found k h.0 h.1 in let p = placed (g.life h.0) f.0 f.1 f.3 in let a = r.names.patch h.0 p.0 p.1 p.2 in by f.0 f.2 (ap (λ (l : Life). chained l f.0) (sym p.2) ∙ f.3) a.0 a.1
      where
        by : (t : Bool) → w.name (member_of h.0 t) ≡ k → (let f = (r.names.fits q may).found k h.0 h.1 in let p = placed (g.life h.0) f.0 f.1 f.3 in chained (Placed p.0 p.1) t ≡ f.1 + 1) → s.leads (w.name (member_of h.0 false)) ≡ true → w.name (member_of h.0 true) ≡ s.mate (w.name (member_of h.0 false)) → is_code mesh k ≡ true
        by false e c lead second = subst (λ (i : ℕ). is_code mesh i ≡ true) e (leads_code _ lead)
        by true e c lead second = let f = (r.names.fits q may).found k h.0 h.1 in let p = placed (g.life h.0) f.0 f.1 f.3 in let a = r.names.patch h.0 p.0 p.1 p.2 in ⊎_elim
            (λ z. let y : 0 ≡ f.1 + 1 = sym z.0 ∙ c in absurd (omega arith))
            (λ z. let t = mate_is mesh across tells (w.name (member_of h.0 false)) z.1 z.3 in let o = of_code mesh (w.name (member_of h.0 false)) t.0 in let q = partners_pair mesh across tells (name_in (w.name (member_of h.0 false) - 1)) t.2.0 t.2.1 o.2 t.2.2 in
            let same = q.level in let low = o.1 in subst (λ (i : ℕ). is_code mesh i ≡ true) (t.2.3 ∙ sym z.3 ∙ sym second ∙ e) (coded t.2.0 q.rooted (omega arith)))
            a.2

    pub reads : (q : ℕ) → MayRead w.round v.ruling.phase v.read q → (members : Names) → AreCodes members (Holds (g.who q)) → IsForest mesh members × Conforms mesh members
    reads q may members codes = let valid = bisected_code q may in let closed = bisected_closed s w n v g r q may in (closed_forest members (Holds (g.who q)) codes valid closed, closed_conforms members (Holds (g.who q)) codes valid closed)

    pub needed : v.ruling.phase ≡ FirstHalf → ((k : ℕ) → HasEntry v.ruling.plan.needs k → Holds (g.who (w.round + 1)) k)
        → (old needs new : Names) → AreCodes old (Holds (g.who w.round)) → AreCodes needs (HasEntry v.ruling.plan.needs) → AreCodes new (Holds (g.who (w.round + 1))) → IsLeast mesh old needs new
    needed one all old needs new co cn cw = let f = reads (w.round + 1) (inr (refl, omega (arith, ap order one))) new cw in record {
      forest = f.0;
      conforms = f.1;
      holds_old = λ m h. let k = co.codes m h in back_to new (Holds (g.who (w.round + 1))) cw m (co.low m h) (k.0, r.names.grows (name_code m) k.0 (omega (arith, ap order one)) k.1);
      holds_needs = λ m h. back_to new (Holds (g.who (w.round + 1))) cw m (cn.low m h) (all (name_code m) (cn.codes m h));
      least = λ other forest conforms olds asked m h.
          let t = (r.plan.aim (omega (arith, ap order one)) (omega (arith, ap order one))).least (held other forest conforms) (held_closed other forest conforms)
          (λ k o. let c = co.names_of k o in subst (Holds (held other forest conforms)) (sym c.2) ((held_codes other forest conforms).codes c.0 (olds c.0 c.1)))
          (λ k o. let c = cn.names_of k o in subst (Holds (held other forest conforms)) (sym c.2) ((held_codes other forest conforms).codes c.0 (asked c.0 c.1)))
          (name_code m) (r.plan.within (name_code m) (omega (arith, ap order one)) (omega (arith, ap order one)) (cw.codes m h)) in
          subst (Has other) (code_back m (cw.low m h)) (of_held other forest conforms (name_code m) t).0;
    }

pub least_is_target : LeastIsTarget
least_is_target mesh across l passes tells = is_target mesh across l passes tells

pub bisected_coded : BisectedCoded
bisected_coded mesh across l passes tells w n v (g, r) q may k h = let o = of_code mesh k (bisected_code mesh across l passes tells w n v g r q may k h) in let low = o.1 in (name_in (k - 1), o.2, o.1, omega arith, sym o.0)

pub reads_forests : ReadsForests
reads_forests mesh across l passes tells w n v (g, r) q may = reads mesh across l passes tells w n v g r q may

-- numbers that are codes of names are the codes of a set of names
pub coded_set : (list : List ℕ) → ((k : ℕ) → HasEntry list k → (n : Name) × (depth n ≤ 24) × (k ≡ name_code n)) → (members : Names) × AreCodes members (HasEntry list)
coded_set [] f = (
  empty,
  record {
    low = λ n h. absurd (none n h);
    codes = λ n h. absurd (none n h);
    names_of = λ k h. absurd h;
  },
)
  where
    no : false ≡ true → ⊥
    no e = cc

    none : (n : Name) → Has (empty {R = name_cmp}) n → ⊥
    none n h = no (sym (contains-empty name_cmp n) ∙ h)
coded_set (k ∷ ks) f =
    let rest = coded_set ks (λ i h. f i (inr h)) in let t = f k (inl refl) in (
      insert rest.0 t.0,
      record {
        low = λ n h. ⊎_elim (λ e. subst (λ (m : Name). depth m ≤ 24) (sym e) t.1) (λ o. rest.1.low n o) (insert-either rest.0 t.0 n h);
        codes = λ n h. ⊎_elim (λ e. inl (ap name_code e ∙ sym t.2)) (λ o. inr (rest.1.codes n o)) (insert-either rest.0 t.0 n h);
        names_of = λ i h. ⊎_elim (λ e. (t.0, new-insert rest.0 t.0, e ∙ t.2)) (λ o. let u = rest.1.names_of i o in (u.0, has-insert rest.0 t.0 u.0 u.1, u.2)) h;
      },
    )

pub kept_forests : KeptForests
kept_forests mesh across l passes tells w n v (g, r) q kept = let f = reads mesh across l passes tells w n v g r q (inl kept) set.0 all in (set.0, all, f.0, f.1)
  where
    past : q ≤ w.round
    past = ⊎_elim (λ e. omega arith) (λ t. r.pins.past t.0 q t.1) kept

    told : (names : List ℕ) × EntryAt v.ruling.history q names
    told = entry_at v.ruling.history q (let k = r.history.rounds in let p = past in omega arith)

    set : (members : Names) × AreCodes members (HasEntry told.0)
    set = coded_set told.0 (λ k h. let t = bisected_coded mesh across l passes tells w n v (g, r) q (inl kept) k ((r.history.forests q told.0 told.1 k).0 h) in (t.0, t.3, t.4))

    all : AreCodes set.0 (Holds (g.who q))
    all = record {
      low = set.1.low;
      codes = λ m h. (r.history.forests q told.0 told.1 (name_code m)).0 (set.1.codes m h);
      names_of = λ k h. set.1.names_of k ((r.history.forests q told.0 told.1 k).1 h);
    }

pub least_when_needed : LeastWhenNeeded
least_when_needed mesh across l passes tells w n v (g, r) = needed mesh across l passes tells w n v g r
