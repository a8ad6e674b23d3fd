-- Sets beside sets: the members of a forest with those that a round adds, and without those that it takes away.
use Rattle.std.proofs.Common.{◌≡◌, Bool, true, false, not, ◌&&◌, ◌||◌, refl, sym, ap, ◌∙◌, subst, ⊎_elim, List, slice_index_or}
use Rattle.std.specs.Prelude.{All, Result, Ok, Err, OnErr, OnOk}
use Rattle.std.specs.FinSet.{contains, insert, remove, union, difference, empty, contains-empty, contains-remove, contains-union, contains-difference}
use Rattle.std.specs.Ordering.{eq_by_cmp}
use Rattle.mesh_names.specs.Names.{Name, name_cmp}
use Rattle.mesh_names.specs.Triangles.{Shape}
use Rattle.mesh_names.specs.Order.{name_cmp_total}
use Rattle.mesh_names.specs.Forests.{Names, Has, IsForest, IsInMesh, IsListOf, Within}
use Rattle.mesh_names.proofs.Booleans.{and_both, and-both, not-true, not_true}
use Rattle.mesh_names.proofs.Inserting.{has-insert, insert-either}
use Rattle.mesh_names.proofs.Sets.{both_sides, in-has, item-in, tied-same, union-either, union-left, union-right, within-both}
use Rattle.forest_plain.proofs.Refining.{member_in}
use Rattle.forest_tree.specs.Apart.{IsApart}
use Rattle.forest_tree.proofs.HeldSets.{difference-insert, difference-none, union-none}

pub none-apart : (old fresh : Names) → fresh ≡ empty → IsApart old fresh
none-apart old fresh e n h = absurd (both_sides (contains (empty {R = name_cmp}) n) (ap (λ (s : Names). contains s n) (sym e) ∙ h) (contains-empty name_cmp n))

pub none-within : (gone all : Names) → gone ≡ empty → Within gone all
none-within gone all e n h = absurd (both_sides (contains (empty {R = name_cmp}) n) (ap (λ (s : Names). contains s n) (sym e) ∙ h) (contains-empty name_cmp n))

pub union-empty : (s t : Names) → t ≡ empty → union s t ≡ s
union-empty s t e = ap (union s) e ∙ sym (union-none s)

pub difference-empty : (s t : Names) → t ≡ empty → difference s t ≡ s
difference-empty s t e = ap (difference s) e ∙ sym (difference-none s)

-- one of either
pub in-either : (s t : Names) (n : Name) (a b c : Bool) → a ≡ contains s n → b ≡ contains t n → c ≡ (a || b) → c ≡ contains (union s t) n
in-either s t n a b c p q r = r ∙ (λ i. p i || q i) ∙ sym (contains-union name_cmp_total s t n)

-- ---- a name that is added
pub added-known : (s t : Names) (n : Name) → contains s n ≡ true → union s t ≡ insert (union s t) n
added-known s t n h = within-both (union s t) (insert (union s t) n)
    (λ q i. has-insert (union s t) n q i)
    (λ q i. ⊎_elim (λ (e : q ≡ n). subst (λ (y : Name). Has (union s t) y) (sym e) (union-left s t n h)) (λ (j : Has (union s t) q). j) (insert-either (union s t) n q i))

pub is-known : (s t : Names) (n : Name) → contains s n ≡ true → false ≡ not (contains (union s t) n)
is-known s t n h = ap not (sym (union-left s t n h))

pub is-new : (s t : Names) (n : Name) (b : Bool) → contains s n ≡ false → b ≡ not (contains t n) → b ≡ not (contains (union s t) n)
is-new s t n b h e = e ∙ ap not (sym (contains-union name_cmp_total s t n ∙ ap (λ (c : Bool). c || contains t n) h))

pub apart-insert : (s t u : Names) (n : Name) → contains s n ≡ false → IsApart s t → u ≡ insert t n → IsApart s u
apart-insert s t u n out apart e q h = ⊎_elim
    (λ (p : q ≡ n). ap (λ (y : Name). contains s y) p ∙ out)
    (λ (k : Has t q). apart q k)
    (insert-either t n q (subst (λ (v : Names). Has v q) e h))

-- ---- a name that is taken away
pub taken-away : (s t u : Names) (n : Name) → u ≡ insert t n → difference s u ≡ remove (difference s t) n
taken-away s t u n e = ap (difference s) e ∙ sym (difference-insert s t n)

-- ---- look-ups
pub in-first-of : (s t : Names) (n : Name) → contains s n ≡ true → true ≡ contains (union s t) n
in-first-of s t n h = sym (union-left s t n h)

pub in-second-of : (s t : Names) (n : Name) (b : Bool) → contains s n ≡ false → b ≡ contains t n → b ≡ contains (union s t) n
in-second-of s t n b h e = e ∙ sym (contains-union name_cmp_total s t n ∙ ap (λ (c : Bool). c || contains t n) h)

pub gone-out : (s t : Names) (n : Name) → contains t n ≡ true → false ≡ contains (difference s t) n
gone-out s t n h = sym (contains-difference name_cmp_total s t n ∙ ap (λ (c : Bool). contains s n && not c) h ∙ none (contains s n))
  where
    none : (a : Bool) → (a && false) ≡ false
    none true = refl
    none false = refl

pub still-in : (s t : Names) (n : Name) (b : Bool) → contains t n ≡ false → b ≡ contains s n → b ≡ contains (difference s t) n
still-in s t n b h e = e ∙ sym (contains-difference name_cmp_total s t n ∙ ap (λ (c : Bool). contains s n && not c) h ∙ all (contains s n))
  where
    all : (a : Bool) → (a && true) ≡ a
    all true = refl
    all false = refl

-- a name that is out already
pub away-already : (s : Names) (n : Name) → contains s n ≡ false → s ≡ remove s n
away-already s n h = within-both s (remove s n)
    (λ q i. contains-remove name_cmp_total s n q ∙ and-both (not (eq_by_cmp name_cmp q n)) (contains s q) (not-true (eq_by_cmp name_cmp q n) (not_true (eq_by_cmp name_cmp q n) (λ e. both_sides (contains s n) (ap (λ (y : Name). contains s y) (sym (tied-same q n e)) ∙ i) h))) i)
    (λ q i. (and_both (not (eq_by_cmp name_cmp q n)) (contains s q) (sym (contains-remove name_cmp_total s n q) ∙ i)).1)

pub within-insert : (s t u : Names) (n : Name) → Has s n → Within t s → u ≡ insert t n → Within u s
within-insert s t u n h w e q i = ⊎_elim
    (λ (p : q ≡ n). subst (λ (y : Name). Has s y) (sym p) h)
    (λ (k : Has t q). w q k)
    (insert-either t n q (subst (λ (v : Names). Has v q) e i))

pub of-difference : (s t : Names) (n : Name) → Has (difference s t) n → Has s n
of-difference s t n h = (and_both (contains s n) (not (contains t n)) (sym (contains-difference name_cmp_total s t n) ∙ h)).0

pub empty-union : (s t : Names) → s ≡ empty → union s t ≡ t
empty-union s t e = within-both (union s t) t
    (λ q i. ⊎_elim (λ (a : Has s q). absurd (both_sides (contains (empty {R = name_cmp}) q) (ap (λ (u : Names). contains u q) (sym e) ∙ a) (contains-empty name_cmp q))) (λ (b : Has t q). b) (union-either s t q i))
    (λ q i. union-right s t q i)

-- the names of a list lie in the mesh
pub listed-in-mesh : (mesh : Shape) (all part : Names) (list : List Name) → IsForest mesh all → Within part all → IsListOf part list → All (IsInMesh mesh) list
listed-in-mesh mesh all part list forest within is i d h =
    let n = slice_index_or list i d in
    member_in mesh all forest n (within n (subst (λ (s : Names). Has s n) is.all (in-has n list (item-in list i d h))))

-- ---- an insertion that may fail
pub within-tried : {E : Type 0} (s t u : Names) (n : Name) (r : Result Bool E) → Has s n → Within t s → OnOk r (u ≡ insert t n) → OnErr r (u ≡ t) → Within u s
within-tried s t u n (Ok b) h w e f = within-insert s t u n h w e
within-tried s t u n (Err b) h w e f = λ q i. w q (subst (λ (v : Names). Has v q) f i)

pub apart-tried : {E : Type 0} (s t u : Names) (n : Name) (r : Result Bool E) → contains s n ≡ false → IsApart s t → OnOk r (u ≡ insert t n) → OnErr r (u ≡ t) → IsApart s u
apart-tried s t u n (Ok b) h w e f = apart-insert s t u n h w e
apart-tried s t u n (Err b) h w e f = λ q i. w q (subst (λ (v : Names). Has v q) f i)

-- of names that are out of the old set, those in the new one are those in both together
pub out-of-both : (old fresh list : Names) (n : Name) → ((m : Name) → Has list m → contains old m ≡ false) → (contains list n && not (contains fresh n)) ≡ (contains list n && not (contains (union old fresh) n))
out-of-both old fresh list n out = by (contains list n) refl
  where
    by : (b : Bool) → contains list n ≡ b → (b && not (contains fresh n)) ≡ (b && not (contains (union old fresh) n))
    by true h = ap not (in-second-of old fresh n (contains fresh n) (out n h) refl)
    by false h = refl
