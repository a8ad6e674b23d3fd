-- Values of vertices, under a renaming.
use Rattle.std.proofs.Common.{◌≡◌, ℕ, zero, suc, ◌<◌, Bool, true, refl, sym, ap, subst, ◌∙◌, List, [], ◌∷◌, length, arith, inl, inr, ⊎_elim}
use Rattle.std.specs.Prelude.{ℤ, pos, ◌+ℤ◌, ◌↔◌, Option, Some, None, slice_index_or}
use Rattle.std.specs.List.{AllZip}
use Rattle.mesh_names.specs.Names.{Name}
use Rattle.mesh_names.specs.Triangles.{Triangle, Vertex, Corner, IsCorner, middle, midpoint, size, triangle}
use Rattle.mesh_names.specs.Forests.{Names, Has, IsLeaf, Within}
use Rattle.mesh_names.specs.Partners.{partner}
use Rattle.mesh_names.specs.declared.patch.VertexKey.{VertexKey}
use Rattle.mesh_names.specs.declared.patch.VertexKey.TheVariants.{Macro, Patch}
use Rattle.mesh_names.specs.declared.rows.MarkRow.{MarkRow}
use Rattle.mesh_names.specs.declared.rows.Place.{Place}
use Rattle.mesh_names.specs.declared.rows.Place.TheVariants.{EveryLeaf, Elem, Corner as corner_of_leaf}
use Rattle.mesh_names.specs.Patches.{owns, vertex_of}
use Rattle.mesh_names.proofs.Levels.{middle-same, not_mid}
use Rattle.mesh_names.proofs.Neighbours.{none_some, some_inj}
use Rattle.mesh_names.proofs.Only.{partner_is_only}
use Rattle.mesh_names.proofs.Pairs.{partners_pair}
use Rattle.compat_check.specs.Meshes.{Mesh, across_in, shape_of}
use Rattle.dof_transfer.specs.Exchanges.{floor_half}
use Rattle.dof_transfer.specs.VertexNames.{AreOfVertices, AreVertexValues, HasAt, HasVertexValue, IsVertexIn, StandsIn, kept, made}
use Rattle.dof_transfer.specs.VertexValues.{IsKeyOf, VertexHeld, value_at}
use Rattle.mesh_rounds.specs.Setting.{AreVerticesSet, IsVertexAt, SetsVertexOf, TakesLast, corner_at}
use Rattle.mesh_rounds.specs.State.{State}
use Rattle.mesh_writer.specs.Numbering.{vertices}
use Rattle.written_meshes.specs.Continued.{IsGoingOn}
use Rattle.written_meshes.specs.ForestRenaming.{IsRenaming}
use Rattle.written_meshes.specs.Renaming.{AreWritten, renamed, renamed_vertex}
use Rattle.written_meshes.specs.RoundRenaming.{AreRowsFor, IsPlaceFor, IsRowFor}
use Rattle.written_meshes.specs.ValueRenaming.{ForestStandsFor}
use Rattle.written_meshes.proofs.FewerPatches.{owners}
use Rattle.written_meshes.proofs.Moved.{IsAt, corners-at, distinct, middle-moved, midpoint-moved, one_middle, triangle-moved}
use Rattle.written_meshes.proofs.OneValue.{one_value, stands_there}
use Rattle.written_meshes.proofs.ReadAgain.{are_written, from}
use Rattle.written_meshes.proofs.RenamedRounds.{leaf_back, leaf_from, leaf_to, rooted}
use Rattle.written_meshes.proofs.RenamedRows.{one_taken, taken_for}
use Rattle.written_meshes.proofs.Renaming.{written_is_renaming}
use Rattle.written_meshes.proofs.TextFacts.{vertex_count}
use Rattle.written_meshes.proofs.WrittenVertices.{vertex_at}

pub zip_at : {A B : Type 0} (R : A → B → Type 0) (xs : List A) (ys : List B) → AllZip R xs ys → (j : ℕ) (d : A) (c : B) → j < length xs → R (slice_index_or xs j d) (slice_index_or ys j c)
zip_at R [] [] a j d c h = absurd (omega (arith, h))
zip_at R [] (y ∷ ys) a j d c h = absurd a
zip_at R (x ∷ xs) [] a j d c h = absurd a
zip_at R (x ∷ xs) (y ∷ ys) a zero d c h = a.0
zip_at R (x ∷ xs) (y ∷ ys) a (suc j) d c h = zip_at R xs ys a.1 j d c (omega (arith, h))

-- what has a value now had one
had : (old set : VertexHeld) (key : VertexKey) (x : ℤ) → (value_at old key ≡ None → value_at set key ≡ None) → value_at set key ≡ Some x → (z : ℤ) × (value_at old key ≡ Some z)
had old set key x none e = by (value_at old key) refl
  where
    by : (o : Option ℤ) → value_at old key ≡ o → (z : ℤ) × (value_at old key ≡ Some z)
    by None h = absurd (none_some x (sym (none h) ∙ e))
    by (Some z) h = (z, h)

module _ (mesh other : Mesh) (state : State) (list : List Name) (first : State) (g : IsGoingOn mesh state list other first) where
  abbrev members : Names
  members = state.members

  abbrev count : ℕ
  count = length mesh.vertices

  abbrev written : List Vertex
  written = vertices (shape_of mesh) count list

  abbrev moved : Vertex → Vertex
  moved = renamed_vertex written

  pub are : AreWritten (shape_of mesh) (across_in mesh) count members list (shape_of other)
  are = are_written mesh other members list g.vertex_values g.element_values g.again

  pub ren : IsRenaming (shape_of mesh) (shape_of other) (across_in mesh) (across_in other) members (renamed list)
  ren = written_is_renaming (shape_of mesh) (across_in mesh) count members list (shape_of other) (from mesh other members list g.vertex_values g.element_values g.again)

  -- ---- vertices of the written mesh
  abbrev pub IsVertex : Vertex → Type 0
  IsVertex v = (k : ℕ) × IsAt (shape_of mesh) (shape_of other) (across_in mesh) count members list are k v

  abbrev pub Stand : VertexHeld → VertexHeld → Type 0
  Stand new old = (v : Vertex) → IsVertex v → (x : ℤ) → (HasAt other new v x ↔ HasAt mesh old (moved v) x)

  abbrev Renamed : Names → Names → Type 0
  Renamed new old = ForestStandsFor (shape_of mesh) (shape_of other) (across_in mesh) members (renamed list) new old

  pub counted : length other.vertices ≡ length written
  counted = ap length g.again.made.vertices ∙ vertex_count mesh members list g.vertex_values g.element_values g.again.text g.again.written

  own-moved : (n : Name) → n.0 < size (shape_of other) → owns (across_in other) n ≡ owns (across_in mesh) (renamed list n)
  own-moved n h = owners (shape_of mesh) (shape_of other) (across_in mesh) (across_in other) members (renamed list) ren n h

  mid-moved : (n : Name) → n.0 < size (shape_of other) → moved (midpoint (triangle (shape_of other) n)) ≡ midpoint (triangle (shape_of mesh) (renamed list n))
  mid-moved n h = midpoint-moved (shape_of mesh) (shape_of other) (across_in mesh) count members list are n h

  pair-moved : (a b : Vertex) → moved (middle a b) ≡ middle (moved a) (moved b)
  pair-moved a b = middle-moved (shape_of mesh) (shape_of other) (across_in mesh) count members list are a b

  inside : (n : Name) → n.0 < size (shape_of other) → (renamed list n).0 < size (shape_of mesh)
  inside n h = rooted (shape_of mesh) (shape_of other) (across_in mesh) (across_in other) members (renamed list) ren n h

  one_of : (v u : Vertex) → IsVertex v → IsVertex u → moved v ≡ moved u → v ≡ u
  one_of v u a b e = distinct (shape_of mesh) (shape_of other) (across_in mesh) count members list are a.0 b.0 v u a.1 b.1 e

  pub corner_is : (n : Name) → n.0 < size (shape_of other) → (j : ℕ) → IsVertex (corner_at (triangle (shape_of other) n) j)
  corner_is n h zero = (_, (corners-at (shape_of mesh) (shape_of other) (across_in mesh) count members list are n.0 n.1 h).0)
  corner_is n h (suc zero) = (_, (corners-at (shape_of mesh) (shape_of other) (across_in mesh) count members list are n.0 n.1 h).1)
  corner_is n h (suc (suc j)) = (_, (corners-at (shape_of mesh) (shape_of other) (across_in mesh) count members list are n.0 n.1 h).2)

  corner-moved : (n : Name) → n.0 < size (shape_of other) → (j : ℕ) → moved (corner_at (triangle (shape_of other) n) j) ≡ corner_at (triangle (shape_of mesh) (renamed list n)) j
  corner-moved n h zero = (triangle-moved (shape_of mesh) (shape_of other) (across_in mesh) count members list are n.0 n.1 h).0
  corner-moved n h (suc zero) = (triangle-moved (shape_of mesh) (shape_of other) (across_in mesh) count members list are n.0 n.1 h).1
  corner-moved n h (suc (suc j)) = (triangle-moved (shape_of mesh) (shape_of other) (across_in mesh) count members list are n.0 n.1 h).2

  number : (t : Triangle) (v : Vertex) → IsCorner v t → (j : ℕ) × (v ≡ corner_at t j)
  number t v c = ⊎_elim (λ e. (0, e)) (λ d. ⊎_elim (λ e. (1, e)) (λ e. (2, e)) d) c

  as_corner : (t : Triangle) (j : ℕ) → IsCorner (corner_at t j) t
  as_corner t zero = inl refl
  as_corner t (suc zero) = inr (inl refl)
  as_corner t (suc (suc j)) = inr (inr refl)

  pub corner_stands : (n : Name) → n.0 < size (shape_of other) → (v : Vertex) → IsCorner v (triangle (shape_of other) n) → IsVertex v
  corner_stands n h v c = let k = number (triangle (shape_of other) n) v c in subst IsVertex (sym k.1) (corner_is n h k.0)

  -- ---- keys
  pub in_members : (key : VertexKey) (x : ℤ) → value_at state.vertices key ≡ Some x → IsVertexIn mesh members key
  in_members key x e = stands_there mesh members state.vertices g.is_state.vertices.none key x e

  pub old_at : (j : ℕ) → j < length written → HasAt mesh state.vertices (vertex_at written j) (slice_index_or g.vertex_values j (pos 0))
  old_at j h = zip_at (HasAt mesh state.vertices) written g.vertex_values g.of_vertices j (Corner 0) (pos 0) h

  stays : (after : Names) → Within members after → (key : VertexKey) → IsVertexIn mesh members key → IsVertexIn mesh after key
  stays after w (Macro i) h = h
  stays after w (Patch n) h = (w n h.0, h.1)

  module _ (after new_after : Names) (f : Renamed new_after after) where
    key_to : (k : VertexKey) (v : Vertex) → IsKeyOf other k v → IsVertexIn other new_after k → StandsIn mesh after (moved v)
    key_to (Macro j) v names h =
        let c = counted in
        let a = old_at j (omega (arith, h, c)) in
        record { key = a.key; names = subst (IsKeyOf mesh a.key) (ap moved names.is) a.names; inside = stays after f.within a.key (in_members a.key (slice_index_or g.vertex_values j (pos 0)) a.is) }
    key_to (Patch n) v names h =
        let low = names.of_mesh in
        record {
          key = Patch (renamed list n);
          names = record { only = sym (own-moved n low) ∙ names.only; of_mesh = inside n low; is = sym (mid-moved n low) ∙ ap moved names.is };
          inside = (sym (f.stands.same n low) ∙ h.0, sym (own-moved n low) ∙ h.1);
        }

    patch_back : (v : Vertex) (n m : Name) → n.0 < size (shape_of other) → m.0 < size (shape_of other) → v ≡ midpoint (triangle (shape_of other) n) → midpoint (triangle (shape_of mesh) (renamed list m)) ≡ midpoint (triangle (shape_of mesh) (renamed list n)) → Has after (renamed list m) → owns (across_in mesh) (renamed list m) ≡ true → StandsIn other new_after v
    patch_back v n m hn hm e share has own = record {
      key = Patch m;
      names = record { only = own-moved m hm ∙ own; of_mesh = hm; is = one_middle (shape_of mesh) (shape_of other) (across_in mesh) count members list are m n hm hn share ∙ sym e };
      inside = (f.stands.same m hm ∙ has, own-moved m hm ∙ own);
    }

    mid_back : (v : Vertex) (n : Name) → n.0 < size (shape_of other) → v ≡ midpoint (triangle (shape_of other) n) → (k : VertexKey) → IsKeyOf mesh k (moved v) → IsVertexIn mesh after k → StandsIn other new_after v
    mid_back v n h e (Macro i) names is = let t = triangle (shape_of mesh) (renamed list n) in absurd (not_mid (shape_of mesh) i t.0 t.1 (names.is ∙ ap moved e ∙ mid-moved n h))
    mid_back v n h e (Patch q) names is =
        let share : midpoint (triangle (shape_of mesh) q) ≡ midpoint (triangle (shape_of mesh) (renamed list n)) = names.is ∙ ap moved e ∙ mid-moved n h in
        ⊎_elim
        (λ (p : (q.0 ≡ (renamed list n).0) × (q.1 ≡ (renamed list n).1)).
        let same : q ≡ renamed list n = λ i. (p.0 i, p.1 i) in
        patch_back v n n h h e refl (subst (Has after) same is.0) (subst (λ (m : Name). owns (across_in mesh) m ≡ true) same is.1))
        (λ (p : (t : Bool) × (partner (across_in mesh) q.0 q.1 ≡ Some (renamed list n, t))).
        let turn = (partners_pair (shape_of mesh) (across_in mesh) ren.tells q (renamed list n) p.0 names.of_mesh p.1).back in
        let b = ren.back n q turn.0 h turn.1 in
        let low = (partners_pair (shape_of other) (across_in other) ren.tells_other n b.0 b.1.0 h b.1.1).rooted in
        patch_back v n b.0 h low e (ap (λ (m : Name). midpoint (triangle (shape_of mesh) m)) b.1.2 ∙ share) (subst (Has after) (sym b.1.2) is.0) (subst (λ (m : Name). owns (across_in mesh) m ≡ true) (sym b.1.2) is.1))
        (partner_is_only (shape_of mesh) (across_in mesh) ren.tells q.0 (renamed list n).0 q.1 (renamed list n).1 names.of_mesh (inside n h) share)

    key_back : (v : Vertex) → IsVertex v → (k : VertexKey) → IsKeyOf mesh k (moved v) → IsVertexIn mesh after k → StandsIn other new_after v
    key_back v a k names is = ⊎_elim
        (λ (p : (j : ℕ) × (j < length written) × (v ≡ Corner j)).
        let c = counted in
        let low = p.1 in
        record { key = Macro p.0; names = record { only = tt; of_mesh = tt; is = sym p.2 }; inside = omega (arith, c, low) })
        (λ (p : (n : Name) × (n.0 < size (shape_of other)) × (length n.1 < a.0) × (v ≡ midpoint (triangle (shape_of other) n))). mid_back v p.0 p.1 p.3 k names is)
        a.1

    -- ---- places of rows
    abbrev Every : Vertex → Type 0
    Every v = IsVertexAt (shape_of other) new_after EveryLeaf v

    place_to : (p q : Place) (v : Vertex) → IsPlaceFor (shape_of other) (renamed list) p q → IsVertexAt (shape_of other) new_after p v → IsVertexAt (shape_of mesh) after q (moved v)
    place_to EveryLeaf EveryLeaf v is h =
        let low = h.1.rooted in
        let c = number (triangle (shape_of other) h.0) v h.2 in (
          renamed list h.0,
          leaf_to (shape_of mesh) (shape_of other) (across_in mesh) (across_in other) members (renamed list) ren after new_after f.forest f.partners f.within f.stands h.0 low h.1,
          subst (λ (u : Vertex). IsCorner u (triangle (shape_of mesh) (renamed list h.0))) (sym (ap moved c.1 ∙ corner-moved h.0 low c.0)) (as_corner (triangle (shape_of mesh) (renamed list h.0)) c.0),
        )
    place_to EveryLeaf (Elem n) v is h = absurd is
    place_to EveryLeaf (corner_of_leaf n k) v is h = absurd is
    place_to (Elem m) q v is h = absurd h
    place_to (corner_of_leaf m j) EveryLeaf v is h = absurd is
    place_to (corner_of_leaf m j) (Elem n) v is h = absurd is
    place_to (corner_of_leaf m j) (corner_of_leaf n k) v is h = ap moved h ∙ corner-moved m is.0.0 j ∙ (λ i. corner_at (triangle (shape_of mesh) (is.0.1 i)) (is.1 i))

    place_back : (p q : Place) (v : Vertex) → IsVertex v → IsPlaceFor (shape_of other) (renamed list) p q → IsVertexAt (shape_of mesh) after q (moved v) → IsVertexAt (shape_of other) new_after p v
    place_back EveryLeaf EveryLeaf v a is h =
        let n = leaf_from (shape_of mesh) (shape_of other) (across_in mesh) (across_in other) members (renamed list) ren after new_after f.forest f.partners f.within f.stands h.0 h.1 in
        let c = number (triangle (shape_of mesh) h.0) (moved v) h.2 in
        let same : v ≡ corner_at (triangle (shape_of other) n.0) c.0 = one_of v (corner_at (triangle (shape_of other) n.0) c.0) a (corner_is n.0 n.1 c.0) (c.1 ∙ (λ i. corner_at (triangle (shape_of mesh) (sym n.2 i)) c.0) ∙ sym (corner-moved n.0 n.1 c.0)) in (
          n.0,
          leaf_back (shape_of mesh) (shape_of other) (across_in mesh) (across_in other) members (renamed list) ren after new_after f.forest f.partners f.within f.stands n.0 n.1 (subst (IsLeaf (shape_of mesh) after) (sym n.2) h.1),
          subst (λ (u : Vertex). IsCorner u (triangle (shape_of other) n.0)) (sym same) (as_corner (triangle (shape_of other) n.0) c.0),
        )
    place_back EveryLeaf (Elem n) v a is h = absurd h
    place_back EveryLeaf (corner_of_leaf n k) v a is h = absurd is
    place_back (Elem m) EveryLeaf v a is h = absurd is
    place_back (Elem m) (Elem n) v a is h = absurd h
    place_back (Elem m) (corner_of_leaf n k) v a is h = absurd is
    place_back (corner_of_leaf m j) EveryLeaf v a is h = absurd is
    place_back (corner_of_leaf m j) (Elem n) v a is h = absurd h
    place_back (corner_of_leaf m j) (corner_of_leaf n k) v a is h = one_of v (corner_at (triangle (shape_of other) m) j) a (corner_is m is.0.0 j) (h ∙ (λ i. corner_at (triangle (shape_of mesh) (sym is.0.1 i)) (sym is.1 i)) ∙ sym (corner-moved m is.0.0 j))

    -- ---- values that rows set
    module _ (rows new_rows : List MarkRow) (rows_for : AreRowsFor (shape_of other) (renamed list) new_rows rows) (old set new_old new_set : VertexHeld) (of : AreOfVertices mesh after old) (new_of : AreOfVertices other new_after new_old)
        (there : AreVerticesSet mesh after rows old set) (here : AreVerticesSet other new_after new_rows new_old new_set) where
      set_alike : (v : Vertex) → IsVertex v → (z : ℤ) (a : HasAt other new_old v z) (b : HasAt mesh old (moved v) z) → value_at new_set a.key ≡ value_at set b.key
      set_alike v iv z a b =
          let p = here.values a.key (stands_there other new_after new_old new_of.none a.key z a.is) in
          let q = there.values b.key (stands_there mesh after old of.none b.key z b.is) in
          let p_here : TakesLast (SetsVertexOf (shape_of other) new_after v) new_rows (Some z) (value_at new_set a.key) = subst (λ (t : Vertex × Option ℤ). TakesLast (SetsVertexOf (shape_of other) new_after t.0) new_rows t.1 (value_at new_set a.key)) (λ i. (a.names.is i, a.is i)) p in
          let q_there : TakesLast (SetsVertexOf (shape_of mesh) after (moved v)) rows (Some z) (value_at set b.key) = subst (λ (t : Vertex × Option ℤ). TakesLast (SetsVertexOf (shape_of mesh) after t.0) rows t.1 (value_at set b.key)) (λ i. (b.names.is i, b.is i)) q in
          one_taken (SetsVertexOf (shape_of mesh) after (moved v)) rows (Some z) (value_at new_set a.key) (value_at set b.key)
          (taken_for (shape_of other) (renamed list) (SetsVertexOf (shape_of other) new_after v) (SetsVertexOf (shape_of mesh) after (moved v)) sets_back sets_to new_rows rows (Some z) (value_at new_set a.key) rows_for p_here) q_there
        where
          sets_to : (a b : MarkRow) → IsRowFor (shape_of other) (renamed list) a b → SetsVertexOf (shape_of other) new_after v a → SetsVertexOf (shape_of mesh) after (moved v) b
          sets_to a b r s = record { what = sym r.what ∙ s.what; place = place_to a.place b.place v r.place s.place }

          sets_back : (a b : MarkRow) → IsRowFor (shape_of other) (renamed list) a b → SetsVertexOf (shape_of mesh) after (moved v) b → SetsVertexOf (shape_of other) new_after v a
          sets_back a b r s = record { what = r.what ∙ s.what; place = place_back a.place b.place v iv r.place s.place }

      pub set_stand : Stand new_old old → Stand new_set set
      set_stand s v iv x = (
        (λ h.
            let z = had new_old new_set h.key x (here.none h.key) h.is in
            let a : HasAt other new_old v z.0 = record { key = h.key; names = h.names; is = z.1 } in
            let b = (s v iv z.0).0 a in
            record { key = b.key; names = b.names; is = sym (set_alike v iv z.0 a b) ∙ h.is }),
        (λ h.
            let z = had old set h.key x (there.none h.key) h.is in
            let b : HasAt mesh old (moved v) z.0 = record { key = h.key; names = h.names; is = z.1 } in
            let a = (s v iv z.0).1 b in
            record { key = a.key; names = a.names; is = set_alike v iv z.0 a b ∙ h.is }),
      )

    -- ---- values by name
    module _ (set new_set : VertexHeld) (s : Stand new_set set) where
      ends : (a b : Vertex) → IsVertex (middle a b) → IsVertex a × IsVertex b
      ends a b iv = ⊎_elim
          (λ (p : (j : ℕ) × (j < length written) × (middle a b ≡ Corner j)). absurd (not_mid (shape_of mesh) p.0 a b (sym p.2)))
          (λ (p : (n : Name) × (n.0 < size (shape_of other)) × (length n.1 < iv.0) × (middle a b ≡ midpoint (triangle (shape_of other) n))).
          let t = triangle (shape_of other) p.0 in
          let zero_is : IsVertex t.0 = corner_is p.0 p.1 0 in
          let one_is : IsVertex t.1 = corner_is p.0 p.1 1 in
          ⊎_elim
          (λ (e : (a ≡ t.0) × (b ≡ t.1)). (subst IsVertex (sym e.0) zero_is, subst IsVertex (sym e.1) one_is))
          (λ (e : (a ≡ t.1) × (b ≡ t.0)). (subst IsVertex (sym e.0) one_is, subst IsVertex (sym e.1) zero_is))
          (middle-same a b t.0 t.1 p.3))
          iv.1

      carry : (v : Vertex) (x : ℤ) → IsVertex v → HasVertexValue other new_set v x → HasVertexValue mesh set (moved v) x
      carry _ _ iv (kept v x h) = kept (moved v) x ((s v iv x).0 h)
      carry _ _ iv (made a b x y none ha hb) =
          let e = ends a b iv in
          subst (λ (w : Vertex). HasVertexValue mesh set w (floor_half (x +ℤ y))) (sym (pair-moved a b))
          (made (moved a) (moved b) x y (λ z h. none z ((s (middle a b) iv z).1 (subst (λ (w : Vertex). HasAt mesh set w z) (sym (pair-moved a b)) h))) (carry a x e.0 ha) (carry b y e.1 hb))

      pub name_stand : (end new_end : VertexHeld) → AreVertexValues mesh after set end → AreVertexValues other new_after new_set new_end → Stand new_end end
      name_stand end new_end there here v iv x = (
        (λ h.
            let i = stands_there other new_after new_end here.none h.key x h.is in
            let p = here.vertices h.key i in
            let t = key_to h.key v h.names i in
            let q = there.vertices t.key t.inside in
            let c = carry v p.0 iv (subst (λ (w : Vertex). HasVertexValue other new_set w p.0) h.names.is p.2) in
            record { key = t.key; names = t.names; is = q.1 ∙ ap Some (sym (one_value mesh ren.tells set (moved v) (vertex_of (shape_of mesh) t.key) p.0 q.0 (sym t.names.is) c q.2) ∙ some_inj p.0 x (sym p.1 ∙ h.is)) }),
        (λ h.
            let i = stands_there mesh after end there.none h.key x h.is in
            let p = there.vertices h.key i in
            let t = key_back v iv h.key h.names i in
            let q = here.vertices t.key t.inside in
            let c = carry v q.0 iv (subst (λ (w : Vertex). HasVertexValue other new_set w q.0) t.names.is q.2) in
            record { key = t.key; names = t.names; is = q.1 ∙ ap Some (one_value mesh ren.tells set (moved v) (vertex_of (shape_of mesh) h.key) q.0 p.0 (sym h.names.is) c p.2 ∙ some_inj p.0 x (sym p.1 ∙ h.is)) }),
      )
