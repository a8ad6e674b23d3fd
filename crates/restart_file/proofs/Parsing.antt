-- Words are read byte by byte.
use Rattle.std.proofs.Common.{◌≡◌, ◌⊎◌, ℕ, zero, suc, ◌+◌, ◌-◌, ◌<◌, ◌≤◌, Bool, true, false, refl, sym, ap, ◌∙◌, subst, List, [], ◌∷◌, ◌++◌, length, arith, inl, inr, ⊎_elim, append_assoc}
use Rattle.std.specs.Prelude.{Option, Some, None, MatchBool}
use Rattle.mesh_names.specs.Names.{Name}
use Rattle.mesh_names.specs.Triangles.{level}
use Rattle.mesh_names.proofs.Sets.{In, in-append, in-second, has-in, in-has}
use Rattle.compat_check.specs.Meshes.{Mesh, shape_of}
use Rattle.restart_file.specs.Trees.{Tree, Leaf, Bisected, word, bisected}
use Rattle.restart_file.specs.Walks.{after, coming, words, bisected_all, AreWords, HasWords, HasByte}
use Rattle.restart_file.specs.Refusals.{AreLow, HasLine, HasNoLine, HasDeepLine}
use Rattle.restart_file.specs.Lines.{IsLineRead, IsLineRefusal, MatchDeep}
use Rattle.restart_file.specs.declared.refusal.RestartRefusal.{RestartRefusal}
use Rattle.restart_file.specs.declared.refusal.RestartRefusal.TheVariants.{BadHead, MacroShort, Macro, Check, BadWord, TooDeep, LeftOver, NotConforming, Memory}

pub tails : (x y : ℕ) (xs ys : List ℕ) → x ∷ xs ≡ y ∷ ys → xs ≡ ys
tails x y xs ys e = cc

pub heads : (x y : ℕ) (xs ys : List ℕ) → x ∷ xs ≡ y ∷ ys → x ≡ y
heads x y xs ys e = cc

-- ---- one byte of the words to come
-- `1`: the first tree is bisected, and the trees of both children are to come
pub record Opened (count : ℕ) (bytes : List ℕ) (trees : List Tree) (rest : List ℕ) : Type 0 where
  pub first : Tree
  pub second : Tree
  pub others : List Tree
  pub trees_are : trees ≡ Bisected first second ∷ others
  pub words : AreWords (suc (suc count)) bytes (first ∷ second ∷ others) rest

pub open_words : (k : ℕ) (bs cs : List ℕ) (ts : List Tree) (rest : List ℕ) → bs ≡ 49 ∷ cs → AreWords (suc k) bs ts rest → Opened k cs ts rest
open_words k bs cs [] rest e w = absurd (omega (arith, w.each))
open_words k bs cs (Leaf ∷ us) rest e w = let q : 49 ≡ 48 = heads 49 48 cs (words us ++ 10 ∷ rest) (sym e ∙ w.bytes_are) in absurd (omega (arith, q))
open_words k bs cs (Bisected a b ∷ us) rest e w = record {
  first = a;
  second = b;
  others = us;
  trees_are = refl;
  words = record {
    each = ap suc w.each;
    bytes_are = tails 49 49 cs ((word a ++ word b) ++ words us ++ 10 ∷ rest) (sym e ∙ w.bytes_are) ∙ ap (λ (l : List ℕ). l ++ 10 ∷ rest) (append_assoc (word a) (word b) (words us));
  };
}

pub record Reopened (count : ℕ) (bytes : List ℕ) (trees : List Tree) (rest : List ℕ) : Type 0 where
  pub first : Tree
  pub second : Tree
  pub others : List Tree
  pub trees_are : trees ≡ first ∷ second ∷ others
  pub words : AreWords (suc count) bytes (Bisected first second ∷ others) rest

pub reopen_words : (k : ℕ) (bs cs : List ℕ) (ts : List Tree) (rest : List ℕ) → bs ≡ 49 ∷ cs → AreWords (suc (suc k)) cs ts rest → Reopened k bs ts rest
reopen_words k bs cs [] rest e w = absurd (omega (arith, w.each))
reopen_words k bs cs (a ∷ []) rest e w = absurd (omega (arith, w.each))
reopen_words k bs cs (a ∷ b ∷ us) rest e w = record {
  first = a;
  second = b;
  others = us;
  trees_are = refl;
  words = record {
    each = less w.each;
    bytes_are = e ∙ ap (λ (l : List ℕ). 49 ∷ l) (w.bytes_are ∙ ap (λ (l : List ℕ). l ++ 10 ∷ rest) (sym (append_assoc (word a) (word b) (words us))));
  };
}
  where
    less : {i j : ℕ} → suc i ≡ suc j → i ≡ j
    less h = omega arith

-- `0`: the first tree is a leaf
pub record Closed (count : ℕ) (bytes : List ℕ) (trees : List Tree) (rest : List ℕ) : Type 0 where
  pub others : List Tree
  pub trees_are : trees ≡ Leaf ∷ others
  pub words : AreWords count bytes others rest

pub close_words : (k : ℕ) (bs cs : List ℕ) (ts : List Tree) (rest : List ℕ) → bs ≡ 48 ∷ cs → AreWords (suc k) bs ts rest → Closed k cs ts rest
close_words k bs cs [] rest e w = absurd (omega (arith, w.each))
close_words k bs cs (Bisected a b ∷ us) rest e w = let q : 48 ≡ 49 = heads 48 49 cs ((word a ++ word b) ++ words us ++ 10 ∷ rest) (sym e ∙ w.bytes_are) in absurd (omega (arith, q))
close_words k bs cs (Leaf ∷ us) rest e w = record { others = us; trees_are = refl; words = record { each = less w.each; bytes_are = tails 48 48 cs (words us ++ 10 ∷ rest) (sym e ∙ w.bytes_are) } }
  where
    less : {i j : ℕ} → suc i ≡ suc j → i ≡ j
    less h = omega arith

pub reclose_words : (k : ℕ) (bs cs : List ℕ) (ts : List Tree) (rest : List ℕ) → bs ≡ 48 ∷ cs → AreWords k cs ts rest → AreWords (suc k) bs (Leaf ∷ ts) rest
reclose_words k bs cs ts rest e w = record { each = ap suc w.each; bytes_are = e ∙ ap (λ (l : List ℕ). 48 ∷ l) w.bytes_are }

-- a word begins with one of the two
pub begins_word : (k : ℕ) (bs : List ℕ) (ts : List Tree) (rest : List ℕ) → AreWords (suc k) bs ts rest → HasByte 49 bs ⊎ HasByte 48 bs
begins_word k bs [] rest w = absurd (omega (arith, w.each))
begins_word k bs (Leaf ∷ us) rest w = inr (words us ++ 10 ∷ rest, w.bytes_are)
begins_word k bs (Bisected a b ∷ us) rest w = inl ((word a ++ word b) ++ words us ++ 10 ∷ rest, w.bytes_are)

-- where no word is to come, the newline comes next
pub ends_words : (bs : List ℕ) (ts : List Tree) (rest : List ℕ) → AreWords 0 bs ts rest → (ts ≡ []) × (bs ≡ 10 ∷ rest)
ends_words bs [] rest w = (refl, w.bytes_are)
ends_words bs (t ∷ ts) rest w = absurd (omega (arith, w.each))

-- ---- the same, for so many words
pub more_words : (k : ℕ) (bs cs : List ℕ) → bs ≡ 49 ∷ cs → HasWords (suc k) bs → HasWords (suc (suc k)) cs
more_words k bs cs e h = let o = open_words k bs cs h.0 h.1 e h.2 in (o.first ∷ o.second ∷ o.others, h.1, o.words)

pub more_back : (k : ℕ) (bs cs : List ℕ) → bs ≡ 49 ∷ cs → HasWords (suc (suc k)) cs → HasWords (suc k) bs
more_back k bs cs e h = let o = reopen_words k bs cs h.0 h.1 e h.2 in (Bisected o.first o.second ∷ o.others, h.1, o.words)

pub fewer_words : (k : ℕ) (bs cs : List ℕ) → bs ≡ 48 ∷ cs → HasWords (suc k) bs → HasWords k cs
fewer_words k bs cs e h = let o = close_words k bs cs h.0 h.1 e h.2 in (o.others, h.1, o.words)

pub fewer_back : (k : ℕ) (bs cs : List ℕ) → bs ≡ 48 ∷ cs → HasWords k cs → HasWords (suc k) bs
fewer_back k bs cs e h = (Leaf ∷ h.0, h.1, reclose_words k bs cs h.0 h.1 e h.2)

pub none_words : (k : ℕ) (bs : List ℕ) → (HasByte 49 bs → ⊥) → (HasByte 48 bs → ⊥) → HasWords (suc k) bs → ⊥
none_words k bs f g h = ⊎_elim (λ a. f a) (λ b. g b) (begins_word k bs h.0 h.1 h.2)

pub no_words : (bs cs : List ℕ) → bs ≡ 10 ∷ cs → HasWords 0 bs
no_words bs cs e = ([], cs, record { each = refl; bytes_are = e })

pub no_newline : (bs : List ℕ) → (HasByte 10 bs → ⊥) → HasWords 0 bs → ⊥
no_newline bs f h = f (h.1, (ends_words bs h.0 h.1 h.2).1)

-- ---- the line of an element
nil : {A : Type 0} (l : List A) → l ++ [] ≡ l
nil [] = refl
nil (x ∷ l) = ap (λ (k : List _). x ∷ k) (nil l)

-- where a walk stands in a line that begins with `line`: the members found since then, and what the words to come make of them
pub record IsReading (mesh : Mesh) (root : ℕ) (line : List ℕ) (old found names : List Name) (bytes : List ℕ) : Type 0 where
  pub mine : List Name
  pub found_are : found ≡ old ++ mine
  pub low : AreLow mesh mine
  pub sound : (us : List Tree) (rest : List ℕ) → AreWords (length names) bytes us rest → (t : Tree) × HasLine line t rest × (mine ++ bisected_all names us ≡ bisected (root, []) t)
  pub complete : (t : Tree) (rest : List ℕ) → HasLine line t rest → HasWords (length names) bytes

pub reads : (mesh : Mesh) (root : ℕ) (line : List ℕ) (old : List Name) (n : Name) → n ≡ (root, []) → IsReading mesh root line old old (coming (Some n)) line
reads mesh root line old n e = subst (λ (m : Name). IsReading mesh root line old old (coming (Some m)) line) (sym e) (record {
  mine = [];
  found_are = sym (nil old);
  low = λ q h. absurd (has-in q [] h);
  sound = λ us rest w. one us rest w.each w.bytes_are;
  complete = λ t rest h. (t ∷ [], rest, record { each = refl; bytes_are = h ∙ ap (λ (l : List ℕ). l ++ 10 ∷ rest) (sym (nil (word t))) });
})
  where
    one : (us : List Tree) (rest : List ℕ) → length us ≡ 1 → line ≡ words us ++ 10 ∷ rest → (t : Tree) × HasLine line t rest × ([] ++ bisected_all ((root, []) ∷ []) us ≡ bisected (root, []) t)
    one [] rest l b = absurd (omega (arith, l))
    one (u ∷ []) rest l b = (u, b ∙ ap (λ (k : List ℕ). k ++ 10 ∷ rest) (nil (word u)), nil (bisected (root, []) u))
    one (u ∷ v ∷ us) rest l b = absurd (omega (arith, l))

module _ (mesh : Mesh) (root : ℕ) (line : List ℕ) (old found : List Name) (at : Option Name) (bytes : List ℕ) (is : IsReading mesh root line old found (coming at) bytes) where
  module _ (n : Name) (here : at ≡ Some n) where
    at_name : IsReading mesh root line old found (coming (Some n)) bytes
    at_name = subst (λ (o : Option Name). IsReading mesh root line old found (coming o) bytes) here is

    pub read_open : (cs : List ℕ) → bytes ≡ 49 ∷ cs → level (shape_of mesh) n ≤ 23 → (more : List Name) → more ≡ found ++ n ∷ [] → (c : Name) → c ≡ (n.0, false ∷ n.1) → IsReading mesh root line old more (coming (Some c)) cs
    read_open cs e low more em c ec = subst (λ (m : Name). IsReading mesh root line old more (coming (Some m)) cs) (sym ec) (record {
      mine = at_name.mine ++ n ∷ [];
      found_are = em ∙ ap (λ (l : List Name). l ++ n ∷ []) at_name.found_are ∙ append_assoc old at_name.mine (n ∷ []);
      low = λ q h. ⊎_elim (λ (a : In q at_name.mine). at_name.low q (in-has q at_name.mine a)) (λ b. ⊎_elim (λ (x : q ≡ n). subst (λ (m : Name). level (shape_of mesh) m ≤ 23) (sym x) low) (λ f. absurd f) b) (in-append q at_name.mine (n ∷ []) (has-in q (at_name.mine ++ n ∷ []) h));
      sound = λ us rest w.
          let o = reopen_words (length (after n.0 n.1)) bytes cs us rest e w in
          let s = at_name.sound (Bisected o.first o.second ∷ o.others) rest o.words in
          (s.0, s.1, ap (λ (ts : List Tree). (at_name.mine ++ n ∷ []) ++ bisected_all ((n.0, false ∷ n.1) ∷ (n.0, true ∷ n.1) ∷ after n.0 n.1) ts) o.trees_are ∙ joined o.first o.second o.others ∙ s.2);
      complete = λ t rest h. more_words (length (after n.0 n.1)) bytes cs e (at_name.complete t rest h);
    })
      where
        joined : (a b : Tree) (us : List Tree) → (at_name.mine ++ n ∷ []) ++ bisected_all ((n.0, false ∷ n.1) ∷ (n.0, true ∷ n.1) ∷ after n.0 n.1) (a ∷ b ∷ us) ≡ at_name.mine ++ bisected_all (n ∷ after n.0 n.1) (Bisected a b ∷ us)
        joined a b us =
            let x = bisected (n.0, false ∷ n.1) a in let y = bisected (n.0, true ∷ n.1) b in let z = bisected_all (after n.0 n.1) us in
            append_assoc at_name.mine (n ∷ []) (x ++ (y ++ z)) ∙ ap (λ (l : List Name). at_name.mine ++ n ∷ l) (sym (append_assoc x y z))

    pub read_close : (cs : List ℕ) → bytes ≡ 48 ∷ cs → (next : Option Name) → coming next ≡ after n.0 n.1 → IsReading mesh root line old found (coming next) cs
    read_close cs e next en = subst (λ (ns : List Name). IsReading mesh root line old found ns cs) (sym en) (record {
      mine = at_name.mine;
      found_are = at_name.found_are;
      low = at_name.low;
      sound = λ us rest w. at_name.sound (Leaf ∷ us) rest (reclose_words (length (after n.0 n.1)) bytes cs us rest e w);
      complete = λ t rest h. fewer_words (length (after n.0 n.1)) bytes cs e (at_name.complete t rest h);
    })

    pub read_none : (HasByte 49 bytes → ⊥) → (HasByte 48 bytes → ⊥) → HasNoLine line
    read_none f g t rest h = none_words (length (after n.0 n.1)) bytes f g (at_name.complete t rest h)

    pub read_bad : (HasWords (length (coming (Some n))) bytes → ⊥) → HasNoLine line
    read_bad f t rest h = f (at_name.complete t rest h)

    pub read_deep : (cs : List ℕ) → bytes ≡ 49 ∷ cs → 23 < level (shape_of mesh) n → HasWords (length (coming (Some n))) bytes → HasDeepLine mesh root line
    read_deep cs e deep w =
        let o = open_words (length (after n.0 n.1)) bytes cs w.0 w.1 e w.2 in
        let s = at_name.sound w.0 w.1 w.2 in
        let i : In n (at_name.mine ++ bisected_all (n ∷ after n.0 n.1) w.0) = in-second n at_name.mine (bisected_all (n ∷ after n.0 n.1) w.0) (subst (λ (ts : List Tree). In n (bisected_all (n ∷ after n.0 n.1) ts)) (sym o.trees_are) (inl refl)) in
        record { tree = s.0; rest = w.1; line = s.1; member = n; is_member = in-has n (bisected (root, []) s.0) (subst (λ (l : List Name). In n l) s.2 i); deep = deep }

  module _ (here : at ≡ None) where
    at_end : IsReading mesh root line old found [] bytes
    at_end = subst (λ (o : Option Name). IsReading mesh root line old found (coming o) bytes) here is

    pub read_end : (cs : List ℕ) → bytes ≡ 10 ∷ cs → IsLineRead mesh root line cs old found
    read_end cs e =
        let s = at_end.sound [] cs (record { each = refl; bytes_are = e }) in
        let all : at_end.mine ≡ bisected (root, []) s.0 = sym (nil at_end.mine) ∙ s.2 in
        record { tree = s.0; line = s.1; added = at_end.found_are ∙ ap (λ (l : List Name). old ++ l) all; low = subst (λ (l : List Name). AreLow mesh l) all at_end.low }

    pub read_no_newline : (HasByte 10 bytes → ⊥) → HasNoLine line
    read_no_newline f t rest h = no_newline bytes f (at_end.complete t rest h)

-- ---- steps at a count above 0
pub step_more : (k : ℕ) (bs cs : List ℕ) → 0 < k → bs ≡ 49 ∷ cs → (HasWords k bs → HasWords (k + 1) cs) × (HasWords (k + 1) cs → HasWords k bs)
step_more zero bs cs h e = absurd (omega (arith, h))
step_more (suc k) bs cs h e = let q : suc (suc k) ≡ suc k + 1 = omega arith in (λ w. subst (λ (n : ℕ). HasWords n cs) q (more_words k bs cs e w), λ w. more_back k bs cs e (subst (λ (n : ℕ). HasWords n cs) (sym q) w))

pub step_fewer : (k : ℕ) (bs cs : List ℕ) → 0 < k → bs ≡ 48 ∷ cs → (HasWords k bs → HasWords (k - 1) cs) × (HasWords (k - 1) cs → HasWords k bs)
step_fewer zero bs cs h e = absurd (omega (arith, h))
step_fewer (suc k) bs cs h e = let q : k ≡ suc k - 1 = omega arith in (λ w. subst (λ (n : ℕ). HasWords n cs) q (fewer_words k bs cs e w), λ w. fewer_back k bs cs e (subst (λ (n : ℕ). HasWords n cs) (sym q) w))

pub step_none : (k : ℕ) (bs : List ℕ) → 0 < k → (HasByte 49 bs → ⊥) → (HasByte 48 bs → ⊥) → HasWords k bs → ⊥
step_none zero bs h f g = absurd (omega (arith, h))
step_none (suc k) bs h f g = none_words k bs f g

-- at the end of the words
pub last_words : (k j : ℕ) (first bs cs : List ℕ) (b : Bool) → k ≤ 0 → (HasWords k bs → HasWords j first) → (HasWords j first → HasWords k bs) → MatchBool b (bs ≡ 10 ∷ cs) (HasByte 10 bs → ⊥) → MatchBool b (HasWords j first) (HasWords j first → ⊥)
last_words k j first bs cs true h back on m = let q : 0 ≡ k = omega (arith, h) in back (subst (λ (n : ℕ). HasWords n bs) q (no_words bs cs m))
last_words k j first bs cs false h back on m = let q : k ≡ 0 = omega (arith, h) in λ w. no_newline bs m (subst (λ (n : ℕ). HasWords n bs) q (on w))

-- the refusal of a deep word
pub deep_or_bad : (mesh : Mesh) (root : ℕ) (line : List ℕ) (old found : List Name) (at : Option Name) (bytes cs : List ℕ) (n : Name) (r : RestartRefusal) → IsReading mesh root line old found (coming at) bytes → at ≡ Some n → n.0 ≡ root → bytes ≡ 49 ∷ cs → 23 < level (shape_of mesh) n →
    MatchDeep n.0 (HasWords (length (coming (Some n))) bytes) r → IsLineRefusal mesh root line r
deep_or_bad mesh root line old found at bytes cs n (BadWord e) is here er eb deep m = (m.0 ∙ er, read_bad mesh root line old found at bytes is n here m.1)
deep_or_bad mesh root line old found at bytes cs n (TooDeep e) is here er eb deep m = (m.0 ∙ er, read_deep mesh root line old found at bytes is n here cs eb deep m.1)
deep_or_bad mesh root line old found at bytes cs n BadHead is here er eb deep m = absurd m
deep_or_bad mesh root line old found at bytes cs n (MacroShort w f) is here er eb deep m = absurd m
deep_or_bad mesh root line old found at bytes cs n (Macro x) is here er eb deep m = absurd m
deep_or_bad mesh root line old found at bytes cs n (Check x) is here er eb deep m = absurd m
deep_or_bad mesh root line old found at bytes cs n LeftOver is here er eb deep m = absurd m
deep_or_bad mesh root line old found at bytes cs n (NotConforming x) is here er eb deep m = absurd m
deep_or_bad mesh root line old found at bytes cs n Memory is here er eb deep m = absurd m
