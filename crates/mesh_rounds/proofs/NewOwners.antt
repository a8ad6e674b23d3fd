-- The owners of the patches that a greater forest has more than a smaller one.
use Rattle.std.proofs.Common.{◌≡◌, ℕ, zero, suc, ◌<◌, ◌≤◌, arith, Bool, true, false, not, refl, sym, ap, ◌∙◌, subst, List, [], ◌++◌, filter, map, ⊎_elim, eq-eqb, eqb-true}
use Rattle.std.specs.Prelude.{◌==◌, Some}
use Rattle.std.specs.FinSet.{contains}
use Rattle.std.proofs.lemmas.List.{map-append}
use Rattle.mesh_names.specs.Names.{Name}
use Rattle.mesh_names.specs.Triangles.{Shape, level}
use Rattle.mesh_names.specs.Forests.{Names, Has, Within, IsForest, IsListOf}
use Rattle.mesh_names.specs.Partners.{Across, Tells, InPatch, partner}
use Rattle.mesh_names.specs.Patches.{owns, patch_of}
use Rattle.mesh_names.specs.Conformity.{HoldsPartners}
use Rattle.mesh_names.specs.declared.patch.PatchName.{PatchName}
use Rattle.mesh_names.proofs.Booleans.{and_both, and-both, not-true, not_true, true-not}
use Rattle.mesh_names.proofs.Sets.{In, both_sides, has-in, in-append, in-first, in-has, in-second}
use Rattle.mesh_names.proofs.Steps.{patch-back}
use Rattle.forest_plain.specs.Deltas.{new_owners, owns_new, patches_at, patches_below, patches_down}
use Rattle.mesh_rounds.proofs.NameLists.{Other, Turns, filter-in, in-filter, sorted-others, turns-append, turns-filter, turns-more}
use Rattle.mesh_rounds.proofs.PatchOwners.{owner-of}

-- ---- by level
abbrev pub at_level : Shape → ℕ → List Name → List Name
at_level mesh l ns = filter (λ n. level mesh n == l) ns

-- the names below a level, by level
abbrev pub rising : Shape → ℕ → List Name → List Name
rising mesh zero ns = []
rising mesh (suc l) ns = rising mesh l ns ++ at_level mesh l ns

-- the names below a level, from the greatest level down
abbrev pub falling : Shape → ℕ → List Name → List Name
falling mesh zero ns = []
falling mesh (suc l) ns = at_level mesh l ns ++ falling mesh l ns

pub below-rising : (mesh : Shape) (x : Across) (l : ℕ) (ns : List Name) → patches_below mesh x l ns ≡ map (patch_of x) (rising mesh l ns)
below-rising mesh x zero ns = refl
below-rising mesh x (suc l) ns = ap (λ (ps : List PatchName). ps ++ patches_at mesh x l ns) (below-rising mesh x l ns) ∙ sym (map-append (patch_of x) (rising mesh l ns) (at_level mesh l ns))

pub down-falling : (mesh : Shape) (x : Across) (l : ℕ) (ns : List Name) → patches_down mesh x l ns ≡ map (patch_of x) (falling mesh l ns)
down-falling mesh x zero ns = refl
down-falling mesh x (suc l) ns = ap (λ (ps : List PatchName). patches_at mesh x l ns ++ ps) (down-falling mesh x l ns) ∙ sym (map-append (patch_of x) (at_level mesh l ns) (falling mesh l ns))

-- m is another name than n, of no smaller level
pub record Rises (mesh : Shape) (n m : Name) : Type 0 where
  pub level : level mesh n ≤ level mesh m
  pub other : m ≡ n → ⊥

-- m is another name than n, of no greater level
pub record Falls (mesh : Shape) (n m : Name) : Type 0 where
  pub level : level mesh m ≤ level mesh n
  pub other : m ≡ n → ⊥

lower : (mesh : Shape) (l : ℕ) (q : Name) → level mesh q < suc l → (level mesh q == l) ≡ false → level mesh q < l
lower mesh l q h f =
    let apart : level mesh q ≡ l → ⊥ = λ same. both_sides (level mesh q == l) (eq-eqb (level mesh q) l same) f in
    omega (arith, h, apart)

module _ (mesh : Shape) where
  at-level : (l : ℕ) (ns : List Name) (q : Name) → In q (at_level mesh l ns) → In q ns × (level mesh q ≡ l)
  at-level l ns q i = let r = in-filter (λ n. level mesh n == l) q ns i in (r.0, eqb-true (level mesh q) l r.1)

  level-in : (l : ℕ) (ns : List Name) (q : Name) → In q ns → level mesh q ≡ l → In q (at_level mesh l ns)
  level-in l ns q i e = filter-in (λ n. level mesh n == l) q ns i (eq-eqb (level mesh q) l e)

  pub in-rising : (l : ℕ) (ns : List Name) (q : Name) → In q (rising mesh l ns) → In q ns × (level mesh q < l)
  in-rising zero ns q i = absurd i
  in-rising (suc l) ns q i = ⊎_elim
      (λ (a : In q (rising mesh l ns)). let r = in-rising l ns q a in (r.0, omega (arith, r.1)))
      (λ (b : In q (at_level mesh l ns)). let r = at-level l ns q b in (r.0, omega (arith, r.1)))
      (in-append q (rising mesh l ns) (at_level mesh l ns) i)

  pub in-falling : (l : ℕ) (ns : List Name) (q : Name) → In q (falling mesh l ns) → In q ns × (level mesh q < l)
  in-falling zero ns q i = absurd i
  in-falling (suc l) ns q i = ⊎_elim
      (λ (b : In q (at_level mesh l ns)). let r = at-level l ns q b in (r.0, omega (arith, r.1)))
      (λ (a : In q (falling mesh l ns)). let r = in-falling l ns q a in (r.0, omega (arith, r.1)))
      (in-append q (at_level mesh l ns) (falling mesh l ns) i)

  pub rising-in : (l : ℕ) (ns : List Name) (q : Name) → In q ns → level mesh q < l → In q (rising mesh l ns)
  rising-in zero ns q i h = absurd (omega (arith, h))
  rising-in (suc l) ns q i h = by (rising-in l ns q i) (level mesh q == l) refl
    where
      by : (level mesh q < l → In q (rising mesh l ns)) → (b : Bool) → (level mesh q == l) ≡ b → In q (rising mesh l ns ++ at_level mesh l ns)
      by rest true e = in-second q (rising mesh l ns) (at_level mesh l ns) (level-in l ns q i (eqb-true (level mesh q) l e))
      by rest false e = in-first q (rising mesh l ns) (at_level mesh l ns) (rest (lower mesh l q h e))

  pub falling-in : (l : ℕ) (ns : List Name) (q : Name) → In q ns → level mesh q < l → In q (falling mesh l ns)
  falling-in zero ns q i h = absurd (omega (arith, h))
  falling-in (suc l) ns q i h = by (falling-in l ns q i) (level mesh q == l) refl
    where
      by : (level mesh q < l → In q (falling mesh l ns)) → (b : Bool) → (level mesh q == l) ≡ b → In q (at_level mesh l ns ++ falling mesh l ns)
      by rest true e = in-first q (at_level mesh l ns) (falling mesh l ns) (level-in l ns q i (eqb-true (level mesh q) l e))
      by rest false e = in-second q (at_level mesh l ns) (falling mesh l ns) (rest (lower mesh l q h e))

  pub rising-turns : (l : ℕ) (ns : List Name) → Turns Other ns → Turns (Rises mesh) (rising mesh l ns)
  rising-turns zero ns h = tt
  rising-turns (suc l) ns h = turns-append (Rises mesh) (rising mesh l ns) (at_level mesh l ns) (rising-turns l ns h)
      (turns-more Other (Rises mesh) (at_level mesh l ns) (λ n m i j o. let a = (at-level l ns n i).1 in let b = (at-level l ns m j).1 in record { level = omega (arith, a, b); other = o }) (turns-filter Other (λ n. level mesh n == l) ns h))
      (λ m n i j. let a = (in-rising l ns m i).1 in let b = (at-level l ns n j).1 in record { level = omega (arith, a, b); other = λ e. let s = ap (level mesh) e in omega (arith, a, b, s) })

  pub falling-turns : (l : ℕ) (ns : List Name) → Turns Other ns → Turns (Falls mesh) (falling mesh l ns)
  falling-turns zero ns h = tt
  falling-turns (suc l) ns h = turns-append (Falls mesh) (at_level mesh l ns) (falling mesh l ns)
      (turns-more Other (Falls mesh) (at_level mesh l ns) (λ n m i j o. let a = (at-level l ns n i).1 in let b = (at-level l ns m j).1 in record { level = omega (arith, a, b); other = o }) (turns-filter Other (λ n. level mesh n == l) ns h))
      (falling-turns l ns h)
      (λ m n i j. let a = (at-level l ns m i).1 in let b = (in-falling l ns n j).1 in record { level = omega (arith, a, b); other = λ e. let s = ap (level mesh) e in omega (arith, a, b, s) })

-- ---- two forests
-- two forests that hold the partners of their members, one within the other
pub record Encloses (mesh : Shape) (x : Across) (more less : Names) : Type 0 where
  pub tells : Tells mesh x
  pub forest : IsForest mesh more
  pub holds : HoldsPartners x more
  pub less_forest : IsForest mesh less
  pub less_holds : HoldsPartners x less
  pub within : Within less more

-- the owner of a patch of the one that is none of the other
pub record IsNew (x : Across) (more less : Names) (n : Name) : Type 0 where
  pub inside : Has more n
  pub outside : contains less n ≡ false
  pub owns : owns x n ≡ true

module _ (mesh : Shape) (x : Across) (more less : Names) (two : Encloses mesh x more less) where
  pub has-patch : (n q : Name) → Has more n → InPatch x n q → Has more q
  has-patch n q h k = ⊎_elim (λ (e : q ≡ n). subst (Has more) (sym e) h) (λ (m : (t : Bool) × (partner x n.0 n.1 ≡ Some (q, t))). two.holds n.0 n.1 q m.0 h m.1) k

  less-patch : (n q : Name) → Has less n → InPatch x n q → Has less q
  less-patch n q h k = ⊎_elim (λ (e : q ≡ n). subst (Has less) (sym e) h) (λ (m : (t : Bool) × (partner x n.0 n.1 ≡ Some (q, t))). two.less_holds n.0 n.1 q m.0 h m.1) k

  -- the whole patch of a new owner is none of the smaller one
  pub patch-gone : (n q : Name) → IsNew x more less n → InPatch x n q → contains less q ≡ false
  patch-gone n q is k = not_true (contains less q) (λ h. both_sides (contains less n) (less-patch q n h (patch-back x mesh two.tells n q (two.forest.rooted n is.inside) k)) is.outside)

  module _ (list : List Name) (is : IsListOf more list) where
    abbrev pub owners : List Name
    owners = new_owners x less list

    pub new-owner : (n : Name) → In n owners → IsNew x more less n
    new-owner n i =
        let r = in-filter (owns_new x less) n list i in
        let b = and_both (not (contains less n)) (owns x n) r.1 in
        record {
          inside = subst (λ (s : Names). Has s n) is.all (in-has n list r.0);
          outside = true-not (contains less n) b.0;
          owns = b.1;
        }

    pub owners-apart : Turns Other owners
    owners-apart = turns-filter Other (owns_new x less) list (sorted-others list is.in_order)

    -- each name of the greater forest alone is in the patch of such an owner
    pub new-name : (q : Name) → Has more q → contains less q ≡ false → (n : Name) × In n owners × InPatch x n q
    new-name q h out =
        let o = owner-of mesh x two.tells q (two.forest.rooted q h) in
        let there = has-patch q o.owner h o.back in
        let free = not_true (contains less o.owner) (λ e. both_sides (contains less q) (less-patch o.owner q e o.holds) out) in
        (o.owner, filter-in (owns_new x less) o.owner list (has-in o.owner list (subst (λ (s : Names). Has s o.owner) (sym is.all) there)) (and-both (not (contains less o.owner)) (owns x o.owner) (not-true (contains less o.owner) free) o.owns), o.holds)
