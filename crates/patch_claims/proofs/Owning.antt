-- The claims that a pass may make, for a name and its partner.
use Rattle.std.proofs.Common.{◌≡◌, ℕ, ◌+◌, ◌-◌, ◌<◌, Bool, true, false, Option, Some, None, option_map, inl, inr, refl, sym, ap, ◌∙◌, subst, arith}
use Rattle.std.specs.Ordering.{is_lt}
use Rattle.mesh_names.specs.Names.{Name, name_cmp}
use Rattle.mesh_names.specs.Triangles.{Shape, size, level}
use Rattle.mesh_names.specs.Partners.{Across, Tells, partner}
use Rattle.mesh_names.specs.Patches.{patch_of}
use Rattle.mesh_names.proofs.Pairs.{partners_pair}
use Rattle.table_words.specs.Entries.{HasEntry}
use Rattle.table_words.specs.NameWords.{name_code, name_word}
use Rattle.table_words.specs.Views.{Worker}
use Rattle.table_words.proofs.CodedNames.{code_one}
use Rattle.mesh_table.specs.Sights.{Sight, setup_at}
use Rattle.mesh_table.specs.Told.{MayClaim}
use Rattle.mesh_table.specs.declared.rule.Site.{Site}
use Rattle.compat_check.specs.Meshes.{shape_of, across_in}
use Rattle.patch_walk.proofs.Patches.{mate_code, owns_code, owns_alone, owns_first, patch_alone, other_before}
use Rattle.patch_walk.proofs.Patches.{partner_of}

-- the patch of a name and its partner may be claimed, for the one that comes first
module _ (k : Site) (tells : Tells (shape_of k.mesh.now) (across_in k.mesh.now)) (v : Sight) (x y : ℕ) (n m : Name) (root : n.0 < size (shape_of k.mesh.now)) (low : level (shape_of k.mesh.now) n < 24) (is : Some m ≡ option_map (λ (a : Name × Bool). a.0) (partner (across_in k.mesh.now) n.0 n.1))
    (works : v.kind ≡ Worker) (found : HasEntry v.work.found (x, name_code n)) (found' : HasEntry v.work.found (y, name_code m)) (absent : HasEntry v.work.absent (name_code n)) where
  abbrev mesh : Shape
  mesh = shape_of k.mesh.now

  abbrev across : Across
  across = across_in k.mesh.now

  abbrev code : ℕ
  code = name_code n

  abbrev mate : ℕ
  mate = name_code m

  given : (t : Bool) × (partner across n.0 n.1 ≡ Some (m, t))
  given = partner_of (partner across n.0 n.1) m is

  pub rooted : m.0 < size mesh
  rooted = (partners_pair mesh across tells n m given.0 root given.1).rooted

  pub leveled : level mesh m ≡ level mesh n
  leveled = (partners_pair mesh across tells n m given.0 root given.1).level

  m_low : level mesh m < 24
  m_low = let l = leveled in omega arith

  pub two : name_code n ≡ name_code m → ⊥
  two same = let l = m_low in (partners_pair mesh across tells n m given.0 root given.1).other (code_one m n (omega arith) (omega arith) (sym same))

  pub mate_first : is_lt (name_cmp n m) ≡ true → (setup_at k).mate code ≡ mate
  mate_first l = mate_code mesh across tells n root low (owns_first mesh across tells n m given.0 given.1 l) ∙ ap (λ (o : Option (Name × Bool)). name_word (option_map (λ (a : Name × Bool). a.0) o)) given.1

  pub mate_second : is_lt (name_cmp n m) ≡ false → (setup_at k).mate mate ≡ code
  mate_second l = let p = partners_pair mesh across tells n m given.0 root given.1 in
      mate_code mesh across tells m rooted m_low (owns_first mesh across tells m n p.back.0 p.back.1 (other_before mesh across tells n m given.0 root given.1 l)) ∙ ap (λ (o : Option (Name × Bool)). name_word (option_map (λ (a : Name × Bool). a.0) o)) p.back.1

  pub may_first : is_lt (name_cmp n m) ≡ true → HasEntry v.work.plan.target code → MayClaim (setup_at k) v x (y + 1) code
  may_first l aimed = let i : mate ≡ (mate - 1) + 1 = omega arith in record {
    works = works;
    leads = owns_code mesh across tells n root low (owns_first mesh across tells n m given.0 given.1 l);
    absent = inl absent;
    aimed = aimed;
    found = found;
    mates = inr (y, mate - 1, refl, mate_first l ∙ i, subst (λ (a : ℕ). HasEntry v.work.found (y, a)) i found');
  }

  pub may_second : is_lt (name_cmp n m) ≡ false → HasEntry v.work.plan.target mate → MayClaim (setup_at k) v y (x + 1) mate
  may_second l aimed = let i : code ≡ (code - 1) + 1 = omega arith in let p = partners_pair mesh across tells n m given.0 root given.1 in record {
    works = works;
    leads = owns_code mesh across tells m rooted m_low (owns_first mesh across tells m n p.back.0 p.back.1 (other_before mesh across tells n m given.0 root given.1 l));
    absent = inr (code - 1, mate_second l ∙ i, subst (HasEntry v.work.absent) i absent);
    aimed = aimed;
    found = found';
    mates = inr (x, code - 1, refl, mate_second l ∙ i, subst (λ (a : ℕ). HasEntry v.work.found (x, a)) i found);
  }

-- and the patch of a name without a partner
pub may_alone : (k : Site) (tells : Tells (shape_of k.mesh.now) (across_in k.mesh.now)) (v : Sight) (x : ℕ) (n : Name) → n.0 < size (shape_of k.mesh.now) → level (shape_of k.mesh.now) n < 24 → None ≡ option_map (λ (a : Name × Bool). a.0) (partner (across_in k.mesh.now) n.0 n.1)
    → v.kind ≡ Worker → HasEntry v.work.found (x, name_code n) → HasEntry v.work.absent (name_code n) → HasEntry v.work.plan.target (name_code n) → MayClaim (setup_at k) v x 0 (name_code n) × ((patch_of (across_in k.mesh.now) n).first ≡ n)
may_alone k tells v x n root low is works found absent aimed =
    let e = none_of (partner (across_in k.mesh.now) n.0 n.1) is in
    let o = owns_alone (shape_of k.mesh.now) (across_in k.mesh.now) tells n e in (
      record {
        works = works;
        leads = owns_code (shape_of k.mesh.now) (across_in k.mesh.now) tells n root low o;
        absent = inl absent;
        aimed = aimed;
        found = found;
        mates = inl (refl, mate_code (shape_of k.mesh.now) (across_in k.mesh.now) tells n root low o ∙ ap (λ (a : Option (Name × Bool)). name_word (option_map (λ (b : Name × Bool). b.0) a)) e);
      },
      patch_alone (shape_of k.mesh.now) (across_in k.mesh.now) tells n e,
    )
  where
    none_of : (o : Option (Name × Bool)) → ◌≡◌ {A = Option Name} None (option_map (λ (a : Name × Bool). a.0) o) → o ≡ None
    none_of None e = refl
    none_of (Some a) e = absurd (cc)
