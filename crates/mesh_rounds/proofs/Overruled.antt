-- Rows before the last one for every leaf do not count.
use Rattle.std.proofs.Common.{◌≡◌, ℕ, zero, suc, ◌+◌, ◌-◌, ◌<◌, ◌≤◌, List, [], ◌∷◌, take, drop, length, get_or, refl, ap, sym, ◌∙◌, subst, inl, inr, ⊎_elim, arith}
use Rattle.std.specs.Prelude.{IfSome, slice_index_or}
use Rattle.forest_plain.specs.Rounds.{named}
use Rattle.std.specs.List.{All}
use Rattle.std.proofs.lemmas.List.{get_or-drop, get_or-take, length-drop, length-take, take_all}
use Rattle.mesh_names.specs.Names.{Name}
use Rattle.mesh_names.specs.Triangles.{IsCorner, Shape, Vertex, triangle}
use Rattle.mesh_names.specs.declared.rows.MarkRow.{MarkRow}
use Rattle.mesh_names.specs.declared.rows.What.TheVariants.{Elem as element_value, Vert as vertex_value}
use Rattle.mesh_names.specs.declared.rows.Place.{Place}
use Rattle.mesh_names.specs.declared.rows.Place.TheVariants.{EveryLeaf, Elem, Corner}
use Rattle.mesh_rounds.specs.Setting.{corner_at}
use Rattle.mesh_rounds.specs.Taking.{IsAmong, IsCornerAmong, IsCornerAt, IsEvery, IsLeafAt, IsStart, MeansLeaf, MeansVertex, NamesAmong}

-- what a slice to the end has
pub rest-all : (rows : List MarkRow) (start : ℕ) → take (length rows - start) (drop start rows) ≡ drop start rows
rest-all rows start = take_all (length rows - start) (drop start rows) (fits (length-drop start rows)) where
  fits : length (drop start rows) ≡ length rows - start → length (drop start rows) ≤ length rows - start
  fits e = omega (arith, e)

-- nothing is meant before the rows that count
fewer : (start k : ℕ) (rows : List MarkRow) → k < length (take start rows) → k < start
fewer start k rows low = omega (arith, low, length-take start rows)

-- each row that counts is one of the rows
first-row : (rows : List MarkRow) (start : ℕ) (d : MarkRow) (P : MarkRow → Type 0) → start < length rows → All P (drop start rows) → P (get_or rows start d)
first-row rows start d P low all = subst P (get_or-drop start rows 0 d ∙ ap (λ (i : ℕ). get_or rows i d) (same start)) (all 0 d (some (length-drop start rows))) where
  same : (i : ℕ) → i + 0 ≡ i
  same i = omega arith

  some : length (drop start rows) ≡ length rows - start → 0 < length (drop start rows)
  some e = omega (arith, e, low)

pub leaves-overruled : (leaves : List Name) (rows : List MarkRow) (start : ℕ) (n : Name) → IsStart element_value rows start → All (λ row. IsEvery element_value row → IsAmong n leaves) rows → All (λ r. MeansLeaf leaves n r → ⊥) (drop start rows) → All (λ r. MeansLeaf leaves n r → ⊥) (take start rows)
leaves-overruled leaves rows start n begins every none k d low meant = ⊎_elim
    (λ (e : start ≡ 0). absurd (at_front e (fewer start k rows low)))
    (λ (s : (start < length rows) × ((row : MarkRow) → IsEvery element_value (slice_index_or rows start row))).
    first-row rows start d (λ r. MeansLeaf leaves n r → ⊥) s.0 none
    (record { what = (s.1 d).what_is; place = subst (λ (p : Place). IsLeafAt leaves p n) (sym (s.1 d).place) (every start d s.0 (s.1 d)) }))
    begins where
      at_front : start ≡ 0 → k < start → ⊥
      at_front e h = omega (arith, e, h)

-- a corner of a listed leaf
corner-among : (mesh : Shape) (leaves : List Name) (m : Name) (j : ℕ) (v : Vertex) → IsAmong m leaves → v ≡ corner_at (triangle mesh m) j → IsCornerAmong mesh leaves v
corner-among mesh [] m j v among is = elim among [ ]
corner-among mesh (n ∷ ns) m j v (inl e) is = inl (by j (is ∙ ap (λ (q : Name). corner_at (triangle mesh q) j) e)) where
  by : (i : ℕ) → v ≡ corner_at (triangle mesh n) i → IsCorner v (triangle mesh n)
  by zero h = inl h
  by (suc zero) h = inr (inl h)
  by (suc (suc i)) h = inr (inr h)
corner-among mesh (n ∷ ns) m j v (inr among) is = inr (corner-among mesh ns m j v among is)

pub vertices-overruled : (mesh : Shape) (leaves : List Name) (rows : List MarkRow) (start : ℕ) (v : Vertex) → IsStart vertex_value rows start → All (λ row. IsEvery vertex_value row → All (NamesAmong leaves) rows) rows → All (λ r. MeansVertex mesh leaves v r → ⊥) (drop start rows) → All (λ r. MeansVertex mesh leaves v r → ⊥) (take start rows)
vertices-overruled mesh leaves rows start v begins every none k d low meant = ⊎_elim
    (λ (e : start ≡ 0). absurd (at_front e (fewer start k rows low)))
    (λ (s : (start < length rows) × ((row : MarkRow) → IsEvery vertex_value (slice_index_or rows start row))).
    first-row rows start d (λ r. MeansVertex mesh leaves v r → ⊥) s.0 none
    (record { what = (s.1 d).what_is; place = subst (λ (p : Place). IsCornerAt mesh leaves p v) (sym (s.1 d).place) (among (every start d s.0 (s.1 d))) }))
    begins where
      at_front : start ≡ 0 → k < start → ⊥
      at_front e h = omega (arith, e, h)

      row : MarkRow
      row = get_or rows k d

      this : get_or (take start rows) k d ≡ row
      this = get_or-take start rows k d (fewer start k rows low)

      low_k : k < length rows
      low_k = omega (arith, low, length-take start rows)

      by : (p : Place) → row.place ≡ p → IsCornerAt mesh leaves p v → NamesAmong leaves row → row.what ≡ vertex_value → IsCornerAmong mesh leaves v
      by EveryLeaf e at names what = at
      by (Elem m) e at names what = elim at [ ]
      by (Corner m j) e at names what = corner-among mesh leaves m j v (subst (λ (q : Place). IfSome (named q) (λ n. IsAmong n leaves)) e (names what)) at

      among : All (NamesAmong leaves) rows → IsCornerAmong mesh leaves v
      among all = let m : MeansVertex mesh leaves v row = subst (MeansVertex mesh leaves v) this meant in by row.place refl m.place (all k d low_k) m.what
