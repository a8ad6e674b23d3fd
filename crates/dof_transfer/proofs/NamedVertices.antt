-- Values of vertices by name.
use Rattle.std.proofs.Common.{◌≡◌, ◌≢◌, ℕ, ◌<◌, ℤ, pos, Bool, true, false, cond, List, [], ◌∷◌, refl, ap, sym, ◌∙◌, subst, Option, Some, None, unwrap_or, is_some, true≢false, ◌⊎◌, inl, inr, ⊎_elim}
use Rattle.std.specs.Prelude.{◌+ℤ◌, IfSome}
use Rattle.std.specs.List.{All}
use Rattle.std.proofs.lemmas.List.Elements.{All-head, All-tail}
use Rattle.std.specs.Ordering.{is_lt, ordering_reverse}
use Rattle.std.specs.declared.cmp.Ordering.{Ordering}
use Rattle.std.specs.declared.cmp.Ordering.TheVariants.{Less, Equal, Greater}
use Rattle.std.specs.FinSet.{contains, difference, from_list, union}
use Rattle.mesh_names.specs.Names.{Name, name_cmp}
use Rattle.mesh_names.specs.Order.{name_cmp_total}
use Rattle.mesh_names.specs.Triangles.{Vertex, Corner, Mid, before, middle, midpoint, size, triangle}
use Rattle.mesh_names.specs.Forests.{Names, Has}
use Rattle.mesh_names.specs.Partners.{PartnerIsOnly, PartnersPair, Tells, partner}
use Rattle.mesh_names.specs.Patches.{is_first, owns, vertex_of}
use Rattle.mesh_names.specs.declared.patch.PatchName.{PatchName}
use Rattle.mesh_names.specs.declared.patch.VertexKey.{VertexKey}
use Rattle.mesh_names.specs.declared.patch.VertexKey.TheVariants.{Macro, Patch}
use Rattle.mesh_names.proofs.Sets.{In, both_sides, in-append, in-first, in-has, in-second, is_or_not, union-left, union-right}
use Rattle.compat_check.specs.Meshes.{Mesh, across_in, shape_of}
use Rattle.dof_transfer.specs.Held.{all_given_back}
use Rattle.dof_transfer.specs.Exchanges.{all_members, floor_half, listed, members_of}
use Rattle.dof_transfer.specs.VertexValues.{AreMade, IsKeyOf, IsMade, IsVertexChange, VertexHeld, owners, value_at, worth}
use Rattle.dof_transfer.specs.VertexNames.{AreMakings, AreOfVertices, AreVertexValues, CanMake, HasAt, HasVertexValue, kept, made, IsOwned, IsTransition, IsVertexIn, StandsIn, VerticesHave}
use Rattle.dof_transfer.proofs.Exchanging.{Misses}
use Rattle.dof_transfer.proofs.NamedElements.{given-hit, given-miss, in-or-misses, less-has, less-member, not-in, took-else, took-here, with-either}

-- the laws of owners, and what the mesh tells
pub record Laws (mesh : Mesh) : Type 0 where
  pub only : PartnerIsOnly
  pub pairs : PartnersPair
  pub tells : Tells (shape_of mesh) (across_in mesh)

not_both : (r : Ordering) → is_lt r ≡ true → is_lt (ordering_reverse r) ≡ true → ⊥
not_both Less h g = true≢false (sym g)
not_both Equal h g = true≢false (sym h)
not_both Greater h g = true≢false (sym h)

-- of two partners only one is an owner
one_owner : (mesh : Mesh) → Laws mesh → (n m : Name) (t : Bool) → n.0 < size (shape_of mesh) → partner (across_in mesh) n.0 n.1 ≡ Some (m, t) → owns (across_in mesh) n ≡ true → owns (across_in mesh) m ≡ true → ⊥
one_owner mesh laws n m t low e first second =
    let back = (laws.pairs (shape_of mesh) (across_in mesh) laws.tells n m t low e).back in
    not_both (name_cmp n m) (sym (ap (is_first n) e) ∙ first) (ap is_lt (sym (name_cmp_total.antisymm m n)) ∙ sym (ap (is_first m) back.1) ∙ second)

owners_are_one : (mesh : Mesh) → Laws mesh → (n m : Name) → n.0 < size (shape_of mesh) → m.0 < size (shape_of mesh) → owns (across_in mesh) n ≡ true → owns (across_in mesh) m ≡ true → midpoint (triangle (shape_of mesh) n) ≡ midpoint (triangle (shape_of mesh) m) → n ≡ m
owners_are_one mesh laws n m low low' first second e =
    ⊎_elim (λ (s : (n.0 ≡ m.0) × (n.1 ≡ m.1)). λ i. (s.0 i, s.1 i))
    (λ (s : (t : Bool) × (partner (across_in mesh) n.0 n.1 ≡ Some (m, t))). absurd (one_owner mesh laws n m s.0 low s.1 first second))
    (laws.only (shape_of mesh) (across_in mesh) laws.tells n.0 m.0 n.1 m.1 low low' e)

-- a macro vertex is no middle
abbrev is_corner : Vertex → Bool
is_corner (Corner i) = true
is_corner (Mid a b) = false

abbrev corner_number : Vertex → ℕ
corner_number (Corner i) = i
corner_number (Mid a b) = 0

no_corner : (i : ℕ) (a b : Vertex) → Corner i ≡ middle a b → ⊥
no_corner i a b e = true≢false (ap is_corner e ∙ either (before b a)) where
  either : (c : Bool) → is_corner (cond c (Mid b a) (Mid a b)) ≡ false
  either true = refl
  either false = refl

-- a vertex has one key
pub key-one : (mesh : Mesh) → Laws mesh → (v : Vertex) (j k : VertexKey) → IsKeyOf mesh j v → IsKeyOf mesh k v → j ≡ k
key-one mesh laws v (Macro i) (Macro j) a b = ap (λ (w : Vertex). Macro (corner_number w)) (a.is ∙ sym b.is)
key-one mesh laws v (Macro i) (Patch m) a b = absurd (no_corner i (triangle (shape_of mesh) m).0 (triangle (shape_of mesh) m).1 (a.is ∙ sym b.is))
key-one mesh laws v (Patch n) (Macro j) a b = absurd (no_corner j (triangle (shape_of mesh) n).0 (triangle (shape_of mesh) n).1 (b.is ∙ sym a.is))
key-one mesh laws v (Patch n) (Patch m) a b = ap Patch (owners_are_one mesh laws n m a.of_mesh b.of_mesh a.only b.only (a.is ∙ sym b.is))

-- the value of a vertex of the forest, by any of its keys
worth-of : (mesh : Mesh) → Laws mesh → (members : Names) (held : VertexHeld) (is : Vertex → ℤ → Type 0) (v : Vertex) (key : VertexKey) → VerticesHave mesh members held is → IsKeyOf mesh key v → StandsIn mesh members v → is v (worth held key)
worth-of mesh laws members held is v key has names stands =
    let r = has.vertices stands.key stands.inside in
    let same : stands.key ≡ key = key-one mesh laws v stands.key key stands.names names in
    let told : worth held key ≡ r.0 = ap (worth held) (sym same) ∙ ap (λ (o : Option ℤ). unwrap_or o (pos 0)) r.1 in
    subst (λ (x : ℤ). is v x) (sym told) (subst (λ (w : Vertex). is w r.0) stands.names.is r.2)

-- the owner is the only one of a patch's members that owns one
only-owner : (mesh : Mesh) (p : PatchName) (n : Name) → IsOwned mesh p → owns (across_in mesh) n ≡ true → In n (members_of p) → n ≡ p.first
only-owner mesh p n owned own i = ⊎_elim
    (λ (e : n ≡ p.first). e)
    (λ (j : In n (listed p.second)). absurd (by p.second owned.other j))
    i where
      by : (o : Option Name) → IfSome o (λ m. owns (across_in mesh) m ≡ false) → In n (listed o) → ⊥
      by None h j = j
      by (Some m) h j = ⊎_elim (λ (e : n ≡ m). both_sides (owns (across_in mesh) n) own (ap (owns (across_in mesh)) e ∙ h)) (λ (k : ⊥). k) j

module _ (mesh : Mesh) (laws : Laws mesh) (old : VertexHeld) (begin : Names) (start : AreOfVertices mesh begin old) where
  -- a midpoint that is no vertex of the forest had no value
  had-none : (n : Name) → n.0 < size (shape_of mesh) → owns (across_in mesh) n ≡ true → contains begin n ≡ false → (z : ℤ) → HasAt mesh old (midpoint (triangle (shape_of mesh) n)) z → ⊥
  had-none n low own out z has =
      let same : has.key ≡ Patch n = key-one mesh laws (midpoint (triangle (shape_of mesh) n)) has.key (Patch n) has.names (record { only = own; of_mesh = low; is = refl }) in
      true≢false (sym (ap is_some (sym (ap (value_at old) same) ∙ has.is)) ∙ ap is_some (start.none (Patch n) (λ h. both_sides (contains begin n) h.0 out)))

  made-values : (members : Names) (mid new : VertexHeld) (p : PatchName) → ((n : Name) → Has begin n → Has members n) → CanMake mesh members p → IsMade mesh mid p new → VerticesHave mesh members mid (HasVertexValue mesh old) → VerticesHave mesh (union members (from_list (members_of p))) new (HasVertexValue mesh old)
  made-values members mid new p holds can is has = record {
    vertices = one;
    none = nothing;
  } where
    here : value_at new (Patch p.first) ≡ Some (floor_half (worth mid is.first +ℤ worth mid is.second))
    here = ap (λ (h : VertexHeld). value_at h (Patch p.first)) is.is ∙ took-here mid.patches p.first p.first (floor_half (worth mid is.first +ℤ worth mid is.second)) refl

    else : (n : Name) → n ≢ p.first → value_at new (Patch n) ≡ value_at mid (Patch n)
    else n other = ap (λ (h : VertexHeld). value_at h (Patch n)) is.is ∙ took-else mid.patches p.first n (floor_half (worth mid is.first +ℤ worth mid is.second)) other

    macro : (i : ℕ) → value_at new (Macro i) ≡ value_at mid (Macro i)
    macro i = ap (λ (h : VertexHeld). value_at h (Macro i)) is.is

    newly : HasVertexValue mesh old (midpoint (triangle (shape_of mesh) p.first)) (floor_half (worth mid is.first +ℤ worth mid is.second))
    newly = made (triangle (shape_of mesh) p.first).0 (triangle (shape_of mesh) p.first).1 (worth mid is.first) (worth mid is.second)
        (had-none p.first can.owned.rooted can.owned.owner (out (is_or_not (contains begin p.first))))
        (worth-of mesh laws members mid (HasVertexValue mesh old) (triangle (shape_of mesh) p.first).0 is.first has is.first_is can.first)
        (worth-of mesh laws members mid (HasVertexValue mesh old) (triangle (shape_of mesh) p.first).1 is.second has is.second_is can.second) where
          out : (Has begin p.first) ⊎ (contains begin p.first ≡ false) → contains begin p.first ≡ false
          out (inl h) = absurd (both_sides (contains members p.first) (holds p.first h) can.fresh)
          out (inr f) = f

    one : (key : VertexKey) → IsVertexIn mesh (union members (from_list (members_of p))) key → (x : ℤ) × (value_at new key ≡ Some x) × HasVertexValue mesh old (vertex_of (shape_of mesh) key) x
    one (Macro i) inside = let r = has.vertices (Macro i) inside in (r.0, macro i ∙ r.1, r.2)
    one (Patch n) inside = ⊎_elim
        (λ (e : In n (p.first ∷ [])). ⊎_elim
        (λ (s : n ≡ p.first). subst (λ (m : Name). (x : ℤ) × (value_at new (Patch m) ≡ Some x) × HasVertexValue mesh old (vertex_of (shape_of mesh) (Patch m)) x) (sym s) (floor_half (worth mid is.first +ℤ worth mid is.second), here, newly))
        (λ (k : ⊥). absurd k) e)
        (λ (m : Misses n (p.first ∷ [])). ⊎_elim
        (λ (a : Has members n). let r = has.vertices (Patch n) (a, inside.1) in (r.0, else n m.0 ∙ r.1, r.2))
        (λ (i : In n (members_of p)). absurd (m.0 (only-owner mesh p n can.owned inside.1 i)))
        (with-either members (members_of p) n inside.0))
        (in-or-misses n (p.first ∷ []))

    nothing : (key : VertexKey) → (IsVertexIn mesh (union members (from_list (members_of p))) key → ⊥) → value_at new key ≡ None
    nothing (Macro i) never = macro i ∙ has.none (Macro i) never
    nothing (Patch n) never = ⊎_elim
        (λ (e : In n (p.first ∷ [])). ⊎_elim
        (λ (s : n ≡ p.first). absurd (never (union-right members (from_list (members_of p)) n (in-has n (members_of p) (inl s)), ap (owns (across_in mesh)) s ∙ can.owned.owner)))
        (λ (k : ⊥). absurd k) e)
        (λ (m : Misses n (p.first ∷ [])). else n m.0 ∙ has.none (Patch n) (λ h. never (union-left members (from_list (members_of p)) n h.0, h.1)))
        (in-or-misses n (p.first ∷ []))

  all-made-values : (ps : List PatchName) (members : Names) (mid new : VertexHeld) (after : Names) → ((n : Name) → Has begin n → Has members n) → AreMakings mesh members ps after → AreMade mesh mid ps new → VerticesHave mesh members mid (HasVertexValue mesh old) → VerticesHave mesh after new (HasVertexValue mesh old)
  all-made-values [] members mid new after holds makings is has = λ-swap where
    λ-swap : VerticesHave mesh after new (HasVertexValue mesh old)
    λ-swap = subst (λ (m : Names). VerticesHave mesh m new (HasVertexValue mesh old)) (sym makings) (subst (λ (h : VertexHeld). VerticesHave mesh members h (HasVertexValue mesh old)) (sym is) has)
  all-made-values (p ∷ ps) members mid new after holds makings is has =
      all-made-values ps (union members (from_list (members_of p))) is.0 new after
      (λ n h. union-left members (from_list (members_of p)) n (holds n h))
      makings.1 is.2
      (made-values members mid is.0 p holds makings.0 is.1 has)

-- an owner among all members is one of the owners
owner-in : (mesh : Mesh) (ps : List PatchName) (n : Name) → All (IsOwned mesh) ps → owns (across_in mesh) n ≡ true → In n (all_members ps) → In n (owners ps)
owner-in mesh [] n owned own i = i
owner-in mesh (p ∷ ps) n owned own i = ⊎_elim
    (λ (a : In n (members_of p)). inl (only-owner mesh p n (All-head (IsOwned mesh) p ps owned) own a))
    (λ (b : In n (all_members ps)). inr (owner-in mesh ps n (All-tail (IsOwned mesh) p ps owned) own b))
    (in-append n (members_of p) (all_members ps) i)

owner-member : (ps : List PatchName) (n : Name) → In n (owners ps) → In n (all_members ps)
owner-member [] n i = i
owner-member (p ∷ ps) n i = ⊎_elim
    (λ (e : n ≡ p.first). in-first n (members_of p) (all_members ps) (inl e))
    (λ (j : In n (owners ps)). in-second n (members_of p) (all_members ps) (owner-member ps n j))
    i

removed-values : (mesh : Mesh) (members : Names) (held : VertexHeld) (died : List PatchName) (is : Vertex → ℤ → Type 0) → All (IsOwned mesh) died → VerticesHave mesh members held is →
    VerticesHave mesh (difference members (from_list (all_members died))) (record { macros = held.macros; patches = all_given_back held.patches (owners died) }) is
removed-values mesh members held died is owned has = record { vertices = one; none = nothing } where
  gone : (n : Name) → owns (across_in mesh) n ≡ true → Misses n (all_members died) → Misses n (owners died)
  gone n own m = ⊎_elim (λ (i : In n (owners died)). absurd (not-in n (all_members died) m (owner-member died n i))) (λ (k : Misses n (owners died)). k) (in-or-misses n (owners died))

  one : (key : VertexKey) → IsVertexIn mesh (difference members (from_list (all_members died))) key → (x : ℤ) × (value_at (record { macros = held.macros; patches = all_given_back held.patches (owners died) }) key ≡ Some x) × is (vertex_of (shape_of mesh) key) x
  one (Macro i) inside = has.vertices (Macro i) inside
  one (Patch n) inside =
      let both = less-member members (all_members died) n inside.0 in
      let r = has.vertices (Patch n) (both.0, inside.1) in
      (r.0, given-miss held.patches (owners died) n (gone n inside.1 both.1) ∙ r.1, r.2)

  nothing : (key : VertexKey) → (IsVertexIn mesh (difference members (from_list (all_members died))) key → ⊥) → value_at (record { macros = held.macros; patches = all_given_back held.patches (owners died) }) key ≡ None
  nothing (Macro i) never = has.none (Macro i) never
  nothing (Patch n) never = ⊎_elim
      (λ (i : In n (owners died)). given-hit held.patches (owners died) n i)
      (λ (m : Misses n (owners died)). given-miss held.patches (owners died) n m ∙ has.none (Patch n) (λ h. never (less-has members (all_members died) n h.0 (apart n h.1 m), h.1)))
      (in-or-misses n (owners died)) where
        apart : (n : Name) → owns (across_in mesh) n ≡ true → Misses n (owners died) → Misses n (all_members died)
        apart n own m = ⊎_elim (λ (i : In n (all_members died)). absurd (not-in n (owners died) m (owner-in mesh died n owned own i))) (λ (k : Misses n (all_members died)). k) (in-or-misses n (all_members died))

-- before a round each vertex has its own value
own-values : (mesh : Mesh) (members : Names) (held : VertexHeld) → AreOfVertices mesh members held → ((key : VertexKey) → IsVertexIn mesh members key → IsKeyOf mesh key (vertex_of (shape_of mesh) key)) → VerticesHave mesh members held (HasVertexValue mesh held)
own-values mesh members held of named = record {
  vertices = λ key inside. let r = of.vertices key inside in (r.0, r.1, kept (vertex_of (shape_of mesh) key) r.0 (record { key = key; names = named key inside; is = r.1 }));
  none = of.none;
}

-- the values after a round are those of the names
pub vertex-values : (mesh : Mesh) → Laws mesh → (old new : VertexHeld) (born died : List PatchName) (before after : Names) → ((n : Name) → Has before n → n.0 < size (shape_of mesh)) → AreOfVertices mesh before old → IsTransition mesh before born died after → IsVertexChange mesh old born died new → AreVertexValues mesh after old new
vertex-values mesh laws old new born died before after rooted of transition change =
    let start = own-values mesh before old of (named before rooted) in
    let refined = all-made-values mesh laws old before of born before old change.made transition.refined (λ n h. h) transition.makings change.are_made start in
    subst (λ (m : Names). VerticesHave mesh m new (HasVertexValue mesh old)) (sym transition.is)
    (subst (λ (h : VertexHeld). VerticesHave mesh (difference transition.refined (from_list (all_members died))) h (HasVertexValue mesh old)) (sym change.is)
    (removed-values mesh transition.refined change.made died (HasVertexValue mesh old) transition.owned refined)) where
      named : (members : Names) → ((n : Name) → Has members n → n.0 < size (shape_of mesh)) → (key : VertexKey) → IsVertexIn mesh members key → IsKeyOf mesh key (vertex_of (shape_of mesh) key)
      named members low (Macro i) inside = record { only = tt; of_mesh = tt; is = refl }
      named members low (Patch n) inside = record { only = inside.1; of_mesh = low n inside.0; is = refl }
