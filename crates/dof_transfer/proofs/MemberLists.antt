-- What a round's patches need, and their members in a list.
use Rattle.std.proofs.Common.{◌≡◌, ◌≢◌, ℕ, ◌+◌, ◌<◌, List, [], ◌∷◌, ◌++◌, take, length, get_or, refl, ap, sym, ◌∙◌, Option, Some, None}
use Rattle.std.specs.Prelude.{IfSome}
use Rattle.std.specs.List.{All}
use Rattle.std.specs.FinSet.{from_list, union}
use Rattle.std.proofs.lemmas.List.{append_assoc, take_more}
use Rattle.std.proofs.lemmas.List.Elements.{All-cons, All-head, All-nil, All-tail}
use Rattle.mesh_names.specs.Names.{Name, depth}
use Rattle.mesh_names.specs.Triangles.{Shape}
use Rattle.mesh_names.specs.Forests.{Names}
use Rattle.mesh_names.specs.declared.patch.PatchName.{PatchName}
use Rattle.dof_transfer.specs.Held.{Held, AreSized}
use Rattle.dof_transfer.specs.Exchanges.{IsPair, all_bisected, all_members, bisected, listed, members_of}
use Rattle.dof_transfer.specs.Changes.{AreBisections}
use Rattle.dof_transfer.proofs.Sizes.{AllDeep, sized-bisected}

members-append : (ps qs : List PatchName) → all_members (ps ++ qs) ≡ all_members ps ++ all_members qs
members-append [] qs = refl
members-append (p ∷ ps) qs = ap (λ (l : List Name). members_of p ++ l) (members-append ps qs) ∙ sym (append_assoc (members_of p) (all_members ps) (all_members qs))

append-nil : (ns : List Name) → ns ++ [] ≡ ns
append-nil [] = refl
append-nil (n ∷ ns) = ap (λ (l : List Name). n ∷ l) (append-nil ns)

-- one patch more
pub members-next : (ps : List PatchName) (i : ℕ) (p : PatchName) → i < length ps → p ≡ get_or ps i p → all_members (take (i + 1) ps) ≡ all_members (take i ps) ++ members_of p
members-next ps i p within is =
    ap all_members (take_more ps i p within ∙ ap (λ (q : PatchName). take i ps ++ q ∷ []) (sym is))
    ∙ members-append (take i ps) (p ∷ [])
    ∙ ap (λ (l : List Name). all_members (take i ps) ++ l) (append-nil (members_of p))

-- patches that can be bisected are of one or two elements
pub bisections-pairs : (mesh : Shape) (ps : List PatchName) (members after : Names) → AreBisections mesh members ps after → All IsPair ps
bisections-pairs mesh [] members after is = All-nil IsPair
bisections-pairs mesh (p ∷ ps) members after is = All-cons IsPair p ps is.0.pair (bisections-pairs mesh ps (union members (from_list (members_of p))) after is.1)

pub pair-deep : (p : PatchName) → IsPair p → AllDeep (members_of p)
pair-deep p pair = (pair.first, by p.second pair.second) where
  by : (o : Option Name) → IfSome o (λ m. (depth m < 24) × (m ≢ p.first)) → AllDeep (listed o)
  by None h = tt
  by (Some m) h = (h.0, tt)

pub pairs-deep : (ps : List PatchName) → All IsPair ps → All (λ n. depth n < 24) (all_members ps)
pairs-deep [] pairs = All-nil (λ (n : Name). depth n < 24)
pairs-deep (p ∷ ps) pairs = all-before (members_of p) (all_members ps) (pair-deep p (All-head IsPair p ps pairs)) (pairs-deep ps (All-tail IsPair p ps pairs)) where
  all-before : (ms ns : List Name) → AllDeep ms → All (λ n. depth n < 24) ns → All (λ n. depth n < 24) (ms ++ ns)
  all-before [] ns h all = all
  all-before (m ∷ ms) ns h all = All-cons (λ n. depth n < 24) m (ms ++ ns) h.0 (all-before ms ns h.1 all)

-- what is true of all members is true of those of each patch
pub all-by-patch : (P : Name → Type 0) (ps : List PatchName) → All P (all_members ps) → All (λ p. All P (members_of p)) ps
all-by-patch P [] all = All-nil (λ (p : PatchName). All P (members_of p))
all-by-patch P (p ∷ ps) all = All-cons (λ q. All P (members_of q)) p ps (first (members_of p) (all_members ps) all) (all-by-patch P ps (rest (members_of p) (all_members ps) all)) where
  first : (ms ns : List Name) → All P (ms ++ ns) → All P ms
  first [] ns h = All-nil P
  first (m ∷ ms) ns h = All-cons P m ms (All-head P m (ms ++ ns) h) (first ms ns (All-tail P m (ms ++ ns) h))

  rest : (ms ns : List Name) → All P (ms ++ ns) → All P ns
  rest [] ns h = h
  rest (m ∷ ms) ns h = rest ms ns (All-tail P m (ms ++ ns) h)

pub sized-all-bisected : (held : Held) (ps : List PatchName) → All IsPair ps → AreSized held → AreSized (all_bisected held ps)
sized-all-bisected held [] pairs sized = sized
sized-all-bisected held (p ∷ ps) pairs sized = sized-all-bisected (bisected held p) ps (All-tail IsPair p ps pairs) (sized-bisected held p (pair-deep p (All-head IsPair p ps pairs)) sized)
