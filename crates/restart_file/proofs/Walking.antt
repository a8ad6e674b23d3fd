-- A walk over a forest in preorder: its steps.
use Rattle.std.proofs.Common.{◌≡◌, ℕ, suc, ◌+◌, ◌<◌, Bool, true, false, refl, sym, ap, ◌∙◌, subst, List, [], ◌∷◌, ◌++◌, length, drop, get_or, drop-cons, true≢false, arith, inl, ⊎_elim, append_assoc}
use Rattle.std.specs.Prelude.{Option, Some, None, MatchBool, IfSome}
use Rattle.std.specs.declared.cmp.Ordering.TheVariants.{Less}
use Rattle.mesh_names.specs.Names.{Name, name_cmp, name_eq}
use Rattle.mesh_names.proofs.Sets.{In, in-append, in-has, tied-same, same-tied}
use Rattle.restart_file.specs.Kept.{ArePast}
use Rattle.restart_file.specs.Trees.{Tree, Leaf, Bisected, word, bisected}
use Rattle.restart_file.specs.Walks.{after, coming, words, bisected_all, IsLineDone}
use Rattle.restart_file.proofs.Orders.{down, down-last, sides_in_order, not_before}
use Rattle.restart_file.proofs.TreeMembers.{bisected_below}

-- m is at or below child 0 of an element, and q at or below its child 1
record Passes (m q : Name) : Type 0 where
  top : Name
  low : List Bool
  high : List Bool
  here : m ≡ down (false ∷ low) top
  there : q ≡ down (true ∷ high) top

deeper : (r : ℕ) (w : List Bool) (c : Bool) (q : Name) → Passes (r, w) q → Passes (r, c ∷ w) q
deeper r w c q h = record {
  top = h.top;
  low = h.low ++ c ∷ [];
  high = h.high;
  here = (λ k. ((h.here k).0, c ∷ (h.here k).1)) ∙ sym (down-last (false ∷ h.low) c h.top);
  there = h.there;
}

passes : (w : List Bool) (r : ℕ) (us : List Tree) (q : Name) → In q (bisected_all (after r w) us) → Passes (r, w) q
passes [] r us q i = absurd i
passes (false ∷ w) r [] q i = absurd i
passes (false ∷ w) r (u ∷ us) q i = ⊎_elim
    (λ (a : In q (bisected (r, true ∷ w) u)). let b = bisected_below u (r, true ∷ w) q a in record { top = (r, w); low = []; high = b.0; here = refl; there = b.1 })
    (λ (a : In q (bisected_all (after r w) us)). deeper r w false q (passes w r us q a))
    (in-append q (bisected (r, true ∷ w) u) (bisected_all (after r w) us) i)
passes (true ∷ w) r us q i = deeper r w true q (passes w r us q i)

-- what is still to come comes after the element
coming_after : (n q : Name) (us : List Tree) → In q (bisected_all (after n.0 n.1) us) → name_cmp n q ≡ Less
coming_after n q us i = let h = passes n.1 n.0 us q i in (λ k. name_cmp (h.here k) (h.there k)) ∙ sides_in_order h.low h.high h.top

-- ---- writing: where a walk stands
-- the trees to come are those that give the rest of the members up to later ones, and their words are what the text still lacks
pub record StandsAt (names rest later : List Name) (text target : List ℕ) : Type 0 where
  pub trees : List Tree
  pub each : length trees ≡ length names
  pub members_are : rest ≡ bisected_all names trees ++ later
  pub text_is : text ++ words trees ≡ target

pub starts : (n : Name) (t : Tree) (rest later : List Name) (text : List ℕ) → rest ≡ bisected n t ++ later → n.1 ≡ [] → StandsAt (coming (Some n)) rest later text (text ++ word t)
starts n t rest later text e top = record {
  trees = t ∷ [];
  each = ap (λ (w : List Bool). suc (length (after n.0 w))) (sym top);
  members_are = e ∙ ap (λ (l : List Name). l ++ later) (sym (nil (bisected n t)) ∙ ap (λ (w : List Bool). bisected n t ++ bisected_all (after n.0 w) []) (sym top));
  text_is = ap (λ (l : List ℕ). text ++ l) (nil (word t));
}
  where
    nil : {A : Type 0} (l : List A) → l ++ [] ≡ l
    nil [] = refl
    nil (x ∷ l) = ap (λ (k : List _). x ∷ k) (nil l)

module _ (n : Name) (rest later : List Name) (text target : List ℕ) where
  pub opens : ((q : Name) → In q later → n.0 < q.0) → StandsAt (coming (Some n)) rest later text target → (rests : List Name) → rest ≡ n ∷ rests → StandsAt (coming (Some (n.0, false ∷ n.1))) rests later (text ++ 49 ∷ []) target
  opens past s rests e = by s.trees s.each s.members_are s.text_is
    where
      beyond : (us : List Tree) → In n (bisected_all (after n.0 n.1) us ++ later) → ⊥
      beyond us i = ⊎_elim (λ a. not_before n (coming_after n n us a)) (λ b. let l : n.0 < n.0 = past n b in omega (arith, l)) (in-append n (bisected_all (after n.0 n.1) us) later i)

      by : (ts : List Tree) → length ts ≡ suc (length (after n.0 n.1)) → rest ≡ bisected_all (n ∷ after n.0 n.1) ts ++ later → text ++ words ts ≡ target → StandsAt (coming (Some (n.0, false ∷ n.1))) rests later (text ++ 49 ∷ []) target
      by [] l m x = absurd (omega (arith, l))
      by (Leaf ∷ us) l m x = absurd (beyond us (subst (λ (k : List Name). In n k) (sym e ∙ m) (inl refl)))
      by (Bisected a b ∷ us) l m x =
          let c : Name = (n.0, false ∷ n.1) in let d : Name = (n.0, true ∷ n.1) in
          record {
            trees = a ∷ b ∷ us;
            each = ap suc l;
            members_are = tail (sym e ∙ m) ∙ ap (λ (k : List Name). k ++ later) (append_assoc (bisected c a) (bisected d b) (bisected_all (after n.0 n.1) us));
            text_is = append_assoc text (49 ∷ []) (words (a ∷ b ∷ us)) ∙ ap (λ (k : List ℕ). text ++ 49 ∷ k) (sym (append_assoc (word a) (word b) (words us))) ∙ x;
          }
        where
          tail : {y : Name} {xs ys : List Name} → y ∷ xs ≡ y ∷ ys → xs ≡ ys
          tail e = cc

  pub closes : StandsAt (coming (Some n)) rest later text target → ((rests : List Name) → rest ≡ n ∷ rests → ⊥) → (next : Option Name) → coming next ≡ after n.0 n.1 → StandsAt (coming next) rest later (text ++ 48 ∷ []) target
  closes s wrong next e = by s.trees s.each s.members_are s.text_is
    where
      by : (ts : List Tree) → length ts ≡ suc (length (after n.0 n.1)) → rest ≡ bisected_all (n ∷ after n.0 n.1) ts ++ later → text ++ words ts ≡ target → StandsAt (coming next) rest later (text ++ 48 ∷ []) target
      by [] l m x = absurd (omega (arith, l))
      by (Bisected a b ∷ us) l m x = absurd (wrong _ m)
      by (Leaf ∷ us) l m x = record {
        trees = us;
        each = less l ∙ ap length (sym e);
        members_are = m ∙ ap (λ (k : List Name). bisected_all k us ++ later) (sym e);
        text_is = append_assoc text (48 ∷ []) (words us) ∙ x;
      }
        where
          less : {i j : ℕ} → suc i ≡ suc j → i ≡ j
          less h = omega arith

-- the same, at what a loop has
pub opened : (at : Option Name) (n c : Name) (root : ℕ) (rest rests later : List Name) (text next target : List ℕ) → at ≡ Some n → n.0 ≡ root → ArePast root later → StandsAt (coming at) rest later text target →
    rest ≡ n ∷ rests → c ≡ (n.0, false ∷ n.1) → next ≡ text ++ 49 ∷ [] → StandsAt (coming (Some c)) rests later next target
opened at n c root rest rests later text next target ea er past s e ec ex =
    let s2 : StandsAt (coming (Some n)) rest later text target = subst (λ (o : Option Name). StandsAt (coming o) rest later text target) ea s in
    let s3 = opens n rest later text target (λ q i. subst (λ (r : ℕ). r < q.0) (sym er) (past q (in-has q later i))) s2 rests e in
    subst (λ (m : Name). StandsAt (coming (Some m)) rests later next target) (sym ec) (subst (λ (x : List ℕ). StandsAt (coming (Some (n.0, false ∷ n.1))) rests later x target) (sym ex) s3)

pub closed : (at next_at : Option Name) (n : Name) (rest later : List Name) (text next target : List ℕ) → at ≡ Some n → StandsAt (coming at) rest later text target →
    ((rests : List Name) → rest ≡ n ∷ rests → ⊥) → coming next_at ≡ after n.0 n.1 → next ≡ text ++ 48 ∷ [] → StandsAt (coming next_at) rest later next target
closed at next_at n rest later text next target ea s wrong e ex =
    let s2 : StandsAt (coming (Some n)) rest later text target = subst (λ (o : Option Name). StandsAt (coming o) rest later text target) ea s in
    subst (λ (x : List ℕ). StandsAt (coming next_at) rest later x target) (sym ex) (closes n rest later text target s2 wrong next_at e)

pub begun : (n : Name) (root : ℕ) (t : Tree) (rest later : List Name) (text : List ℕ) → n ≡ (root, []) → rest ≡ bisected (root, []) t ++ later → StandsAt (coming (Some n)) rest later text (text ++ word t)
begun n root t rest later text e h = subst (λ (m : Name). StandsAt (coming (Some m)) rest later text (text ++ word t)) (sym e) (starts (root, []) t rest later text h refl)

-- at the end of the walk
pub done : (at : Option Name) (t : Tree) (rest later : List Name) (old text new : List ℕ) → at ≡ None → StandsAt (coming at) rest later text (old ++ word t) → new ≡ text ++ 10 ∷ [] → IsLineDone t later old new rest
done at t rest later old text new ea s ex = by s.trees (s.each ∙ ap (λ (o : Option Name). length (coming o)) ea) (s.members_are ∙ ap (λ (o : Option Name). bisected_all (coming o) s.trees ++ later) ea) s.text_is
  where
    nil : (l : List ℕ) → l ++ [] ≡ l
    nil [] = refl
    nil (x ∷ l) = ap (λ (k : List ℕ). x ∷ k) (nil l)

    by : (ts : List Tree) → length ts ≡ 0 → rest ≡ later → text ++ words ts ≡ old ++ word t → IsLineDone t later old new rest
    by [] l m x = record { written = ex ∙ ap (λ (k : List ℕ). k ++ 10 ∷ []) (sym (nil text) ∙ x) ∙ append_assoc old (word t) (10 ∷ []); left_are = m }
    by (u ∷ us) l m x = absurd (omega (arith, l))

-- what stands at a place of a list, and what follows it
pub at_place : (xs : List Name) (i : ℕ) (d : Name) → i < length xs → d ≡ get_or xs i d → drop i xs ≡ d ∷ drop (i + 1) xs
at_place xs i d h e = drop-cons xs i d h ∙ (λ k. sym e k ∷ drop (one k) xs)
  where
    one : suc i ≡ i + 1
    one = omega arith

heads : (d n : Name) (xs ys : List Name) → d ∷ xs ≡ n ∷ ys → d ≡ n
heads d n xs ys e = cc

pub item_is : (xs ys : List Name) (i : ℕ) (d n : Name) → i < length xs → drop i xs ≡ n ∷ ys → get_or xs i d ≡ n
item_is xs ys i d n h e = heads (get_or xs i d) n (drop (suc i) xs) ys (sym (drop-cons xs i d h) ∙ e)

pub tells_next : (xs : List Name) (i : ℕ) (d n : Name) (b : Bool) → i < length xs → d ≡ get_or xs i d → b ≡ name_eq d n → MatchBool b (drop i xs ≡ n ∷ drop (i + 1) xs) ((rest : List Name) → drop i xs ≡ n ∷ rest → ⊥)
tells_next xs i d n true h e eb = at_place xs i d h e ∙ ap (λ (m : Name). m ∷ drop (i + 1) xs) (tied-same d n (sym eb))
tells_next xs i d n false h e eb = λ rest q. true≢false (sym (same-tied d n (heads d n (drop (i + 1) xs) rest (sym (at_place xs i d h e) ∙ q))) ∙ sym eb)

-- roots along a walk
pub some_root : (at : Option Name) (n : Name) (root : ℕ) → at ≡ Some n → IfSome at (λ m. m.0 ≡ root) → n.0 ≡ root
some_root at n root e h = subst (λ (o : Option Name). IfSome o (λ m. m.0 ≡ root)) e h

pub next_root : (c n : Name) (root : ℕ) → c ≡ (n.0, false ∷ n.1) → n.0 ≡ root → c.0 ≡ root
next_root c n root e h = ap (λ (m : Name). m.0) e ∙ h

pub after_root : (at : Option Name) (n : Name) (root : ℕ) → n.0 ≡ root → IfSome at (λ m. m.0 ≡ n.0) → IfSome at (λ m. m.0 ≡ root)
after_root None n root e h = tt
after_root (Some m) n root e h = h ∙ e
