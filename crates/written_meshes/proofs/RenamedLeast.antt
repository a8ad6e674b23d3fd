-- The least forest, under a renaming.
use Rattle.std.proofs.Common.{◌≡◌, ◌⊎◌, ℕ, ◌<◌, Bool, refl, sym, ap, subst, ◌∙◌, List, [], ◌∷◌, map, inl, inr, ⊎_elim}
use Rattle.std.specs.FinSet.{contains, retain, union, from_list, items}
use Rattle.mesh_names.specs.Names.{Name}
use Rattle.mesh_names.specs.Triangles.{Shape, size}
use Rattle.mesh_names.specs.Forests.{Names, Has, Within, IsForest}
use Rattle.mesh_names.specs.Conformity.{HoldsPartners}
use Rattle.mesh_names.specs.Partners.{Across, partner}
use Rattle.mesh_names.specs.LeastForest.{IsLeast}
use Rattle.mesh_names.specs.Coarsening.{child_at}
use Rattle.mesh_names.proofs.Booleans.{and_both, and-both, retained}
use Rattle.mesh_names.proofs.Sets.{In, both_ways, has-in, in-has, has-item, item-has, union-either, union-left, union-right}
use Rattle.mesh_names.proofs.Conforming.{conforms_by_partners}
use Rattle.written_meshes.specs.ForestRenaming.{IsRenaming, StandsFor, LeastStandsFor}

-- what a function gives for the names of a list
pub in-mapped : (f : Name → Name) (ks : List Name) (q : Name) → In q ks → In (f q) (map f ks)
in-mapped f [] q h = absurd h
in-mapped f (k ∷ ks) q h = ⊎_elim (λ (e : q ≡ k). inl (ap f e)) (λ (i : In q ks). inr (in-mapped f ks q i)) h

pub mapped-from : (f : Name → Name) (ks : List Name) (q : Name) → In q (map f ks) → (k : Name) × In k ks × (f k ≡ q)
mapped-from f [] q h = absurd h
mapped-from f (k ∷ ks) q h = ⊎_elim (λ (e : q ≡ f k). (k, inl refl, sym e)) (λ (i : In q (map f ks)). let r = mapped-from f ks q i in (r.0, inr r.1, r.2)) h

tail_of : {a b : Bool} {v w : List Bool} → a ∷ v ≡ b ∷ w → v ≡ w
tail_of e = cc

module _ (mesh other : Shape) (x y : Across) (members : Names) (rename : Name → Name) (r : IsRenaming mesh other x y members rename) where
  module _ (old needs least new_old new_needs new_least : Names) (within : Within members old) (olds : StandsFor other rename new_old old) (asked : StandsFor other rename new_needs needs) (is : IsLeast mesh old needs least) (new : IsLeast other new_old new_needs new_least) where
    least_holds : HoldsPartners x least
    least_holds = (conforms_by_partners mesh x r.tells least is.forest).0 is.conforms

    new_holds : HoldsPartners y new_least
    new_holds = (conforms_by_partners other y r.tells_other new_least new.forest).0 new.conforms

    -- ---- those of the new one that stand for members of the least one are all of it
    abbrev both : Names
    both = retain new_least (λ n. contains least (rename n))

    in_both : (n : Name) → Has new_least n → Has least (rename n) → Has both n
    in_both n a b = retained new_least (λ q. contains least (rename q)) n ∙ and-both (contains new_least n) (contains least (rename n)) a b

    from_both : (n : Name) → Has both n → Has new_least n × Has least (rename n)
    from_both n h = and_both (contains new_least n) (contains least (rename n)) (sym (retained new_least (λ q. contains least (rename q)) n) ∙ h)

    both_forest : IsForest other both
    both_forest = record {
      rooted = λ n h. new.forest.rooted n (from_both n h).0;
      shallow = λ n h. new.forest.shallow n (from_both n h).0;
      closed = λ j b w h. let f = from_both (j, b ∷ w) h in in_both (j, w) (new.forest.closed j b w f.0) (is.forest.closed (rename (j, w)).0 b (rename (j, w)).1 (subst (Has least) (r.children j b w) f.1));
    }

    both_holds : HoldsPartners y both
    both_holds j w m t h e =
        let f = from_both (j, w) h in
        let p = r.partners (j, w) m t (new.forest.rooted (j, w) f.0) e in
        in_both m (new_holds j w m t f.0 e) (least_holds (rename (j, w)).0 (rename (j, w)).1 (rename m) p.0 f.1 p.1)

    forward : (n : Name) → Has new_least n → Has least (rename n)
    forward n h = (from_both n (new.least both both_forest ((conforms_by_partners other y r.tells_other both both_forest).1 both_holds)
        (λ q k. in_both q (new.holds_old q k) (is.holds_old (rename q) (sym (olds.same q (olds.rooted q k)) ∙ k)))
        (λ q k. in_both q (new.holds_needs q k) (is.holds_needs (rename q) (sym (asked.same q (asked.rooted q k)) ∙ k)))
        n h)).1

    -- ---- the members, and what the new one stands for, are all of the least one
    abbrev meant : Names
    meant = union members (from_list (map rename (items new_least)))

    abbrev IsMeant : Name → Type 0
    IsMeant q = Has members q ⊎ ((k : Name) × Has new_least k × (rename k ≡ q))

    in_meant : (q : Name) → IsMeant q → Has meant q
    in_meant q m = ⊎_elim
        (λ h. union-left members (from_list (map rename (items new_least))) q h)
        (λ (k : (k : Name) × Has new_least k × (rename k ≡ q)). union-right members (from_list (map rename (items new_least))) q (in-has q (map rename (items new_least)) (subst (λ (z : Name). In z (map rename (items new_least))) k.2 (in-mapped rename (items new_least) k.0 (has-item new_least k.0 k.1)))))
        m

    from_meant : (q : Name) → Has meant q → IsMeant q
    from_meant q h = ⊎_elim
        (λ a. inl a)
        (λ b. let k = mapped-from rename (items new_least) q (has-in q (map rename (items new_least)) b) in inr (k.0, item-has new_least k.0 k.1, k.2))
        (union-either members (from_list (map rename (items new_least))) q h)

    abbrev part : Names
    part = retain least (contains meant)

    in_part : (q : Name) → Has least q → IsMeant q → Has part q
    in_part q a b = retained least (contains meant) q ∙ and-both (contains least q) (contains meant q) a (in_meant q b)

    from_part : (q : Name) → Has part q → Has least q × IsMeant q
    from_part q h = let f = and_both (contains least q) (contains meant q) (sym (retained least (contains meant) q) ∙ h) in (f.0, from_meant q f.1)

    above : (k : Name) → Has new_least k → (s : ℕ) (b : Bool) (w : List Bool) → rename k ≡ (s, b ∷ w) → IsMeant (s, w)
    above k has s b w e = by k.1 refl
      where
        by : (u : List Bool) → k.1 ≡ u → IsMeant (s, w)
        by [] z =
            let leaf = r.tops k.0 (new.forest.rooted k has) in
            let here : rename (k.0, []) ≡ (s, b ∷ w) = (λ i. rename (k.0, sym z i)) ∙ e in
            inl (subst (λ (root : ℕ). Has members (root, w)) (ap (λ (q : Name). q.0) here) (leaf.born b w (ap (λ (q : Name). q.1) here)))
        by (c ∷ v) z =
            let here : child_at (rename (k.0, v)) c ≡ (s, b ∷ w) = sym (r.children k.0 c v) ∙ (λ i. rename (k.0, sym z i)) ∙ e in
            let words : (rename (k.0, v)).1 ≡ w = tail_of (ap (λ (q : Name). q.1) here) in
            let roots : (rename (k.0, v)).0 ≡ s = ap (λ (q : Name). q.0) here in
            inr ((k.0, v), new.forest.closed k.0 c v (subst (λ (u : List Bool). Has new_least (k.0, u)) z has), (λ i. (roots i, words i)))

    part_forest : IsForest mesh part
    part_forest = record {
      rooted = λ n h. is.forest.rooted n (from_part n h).0;
      shallow = λ n h. is.forest.shallow n (from_part n h).0;
      closed = λ s b w h. let f = from_part (s, b ∷ w) h in in_part (s, w) (is.forest.closed s b w f.0) (⊎_elim
          (λ has. inl (r.forest.closed s b w has))
          (λ (k : (k : Name) × Has new_least k × (rename k ≡ (s, b ∷ w))). above k.0 k.1 s b w k.2)
          f.1);
    }

    part_holds : HoldsPartners x part
    part_holds s w m t h e = let f = from_part (s, w) h in in_part m (least_holds s w m t f.0 e) (⊎_elim
        (λ has. inl (r.holds s w m t has e))
        (λ (k : (k : Name) × Has new_least k × (rename k ≡ (s, w))).
        let back = r.back k.0 m t (new.forest.rooted k.0 k.1) ((λ i. partner x (k.2 i).0 (k.2 i).1) ∙ e) in
        inr (back.0, new_holds k.0.0 k.0.1 back.0 back.1.0 k.1 back.1.1, back.1.2))
        f.1)

    found : (old new_old : Names) → StandsFor other rename new_old old → ((n : Name) → Has new_old n → Has new_least n) → (q : Name) → Has old q → Has least q → IsMeant q
    found some new_some stands holds q h l = ⊎_elim
        (λ has. inl has)
        (λ (k : (k : Name) × (k.0 < size other) × (rename k ≡ q)). inr (k.0, holds k.0 (stands.same k.0 k.1 ∙ ap (contains some) k.2 ∙ h), k.2))
        (r.all q (is.forest.rooted q l))

    back : (n : Name) → n.0 < size other → Has least (rename n) → Has new_least n
    back n hn h =
        let l = is.least part part_forest ((conforms_by_partners mesh x r.tells part part_forest).1 part_holds)
        (λ q k. in_part q (is.holds_old q k) (found old new_old olds new.holds_old q k (is.holds_old q k)))
        (λ q k. in_part q (is.holds_needs q k) (found needs new_needs asked new.holds_needs q k (is.holds_needs q k)))
        (rename n) h in
        ⊎_elim
        (λ has. absurd (r.below n hn has))
        (λ (k : (k : Name) × Has new_least k × (rename k ≡ rename n)). subst (Has new_least) (r.one k.0 n (new.forest.rooted k.0 k.1) hn k.2) k.1)
        (from_part (rename n) l).1

    stands : StandsFor other rename new_least least
    stands = record {
      rooted = new.forest.rooted;
      same = λ n h. both_ways (contains new_least n) (contains least (rename n)) (forward n) (back n h);
    }

pub least_stands_for : LeastStandsFor
least_stands_for mesh other x y members rename r old needs least new_old new_needs new_least within olds asked is new = stands mesh other x y members rename r old needs least new_old new_needs new_least within olds asked is new
