-- Finding has one outcome.
use Rattle.std.proofs.Common.{◌≡◌, ℕ, ℤ, refl, sym, ap, ◌∙◌, subst, List, [], ◌∷◌, ⊎_elim, inl, inr, arith}
use Rattle.std.specs.Prelude.{Option, Some, None, Result, Ok, Err}
use Rattle.std.specs.List.{AllZip}
use Rattle.mesh_io.specs.Shelves.{Files}
use Rattle.mesh_names.specs.Names.{Name}
use Rattle.compat_check.specs.Meshes.{Mesh}
use Rattle.compat_check.specs.Points.{Point}
use Rattle.dof_transfer.proofs.NamedVertices.{Laws}
use Rattle.mark_file.specs.Meaning.{Round}
use Rattle.locate_point.specs.Locating.{IsPlace}
use Rattle.locate_point.specs.PlaceTexts.{IsPlacesText, places_text}
use Rattle.locate_point.proofs.Places.{places_are_one}
use Rattle.mesh_rounds.specs.State.{State}
use Rattle.mesh_rounds.specs.Texts.{AreLeaves}
use Rattle.mesh_rounds.proofs.Relabelled.{relabelled}
use Rattle.adapt_words.specs.Finding.{FindWords}
use Rattle.adapt_words.specs.Numbers.{Word}
use Rattle.adapt_cli.specs.FaultTexts.{End, Fault}
use Rattle.adapt_cli.specs.Finding.{AcceptsPoints, FindsTo, LoadsPoints, RefusesPoints, points_line}
use Rattle.adapt_cli.specs.InputFiles.{AcceptsMacro, AcceptsMarks, RefusesMacro, RefusesMarks}
use Rattle.adapt_cli.specs.Loads.{Loads}
use Rattle.adapt_cli.specs.OneOutcome.{OneFinding}
use Rattle.adapt_cli.specs.Outcome.{LoadsMarks}
use Rattle.adapt_cli.specs.Rounds.{last_state}
use Rattle.adapt_cli.proofs.OneLead.{some_is}
use Rattle.adapt_cli.proofs.OneRun.{err_is, firsts-same, leads-same, macro-or-refused, marks-or-refused, no_end, ok_is, one-macro-line, one-marks-line, texts-same}
use Rattle.adapt_cli.proofs.OneSoak.{same-leaves}
use Rattle.adapt_cli.proofs.SameMeshes.{AreAlike, alike, owners-of}

-- a file leads to one end, where what goes on from it does, by two continuations
two-loads : {A : Type 0} (name : Word) (status : ℕ) (refuses : List ℕ → List ℕ → Type 0) (accepts : List ℕ → A → Type 0) (next other : A → Files → End → Type 0) (files : Files) (a b : End) →
    ((bytes x y : List ℕ) → refuses bytes x → refuses bytes y → x ≡ y) → ((bytes : List ℕ) (r : A) (line : List ℕ) → accepts bytes r → refuses bytes line → ⊥) →
    ((bytes : List ℕ) (r s : A) → accepts bytes r → accepts bytes s → next r files a → other s files b → a ≡ b) →
    Loads name status refuses accepts next files a → Loads name status refuses accepts other files b → a ≡ b
two-loads {A} name status refuses accepts next other files a b lines both on x y = ⊎_elim
    (λ (p : (line : List ℕ) × refuses x.0 line × (a ≡ Err (status, line))). ⊎_elim
    (λ (q : (line : List ℕ) × refuses y.0 line × (b ≡ Err (status, line))).
    let line : p.0 ≡ q.0 = lines x.0 p.0 q.0 p.1 (subst (λ (z : List ℕ). refuses z q.0) (sym bytes) q.1) in
    p.2 ∙ (λ i. Err (status, line i)) ∙ sym q.2)
    (λ (q : (read : A) × accepts y.0 read × other read files b). absurd (both y.0 q.0 p.0 q.1 (subst (λ (z : List ℕ). refuses z p.0) bytes p.1)))
    y.2)
    (λ (p : (read : A) × accepts x.0 read × next read files a). ⊎_elim
    (λ (q : (line : List ℕ) × refuses y.0 line × (b ≡ Err (status, line))). absurd (both x.0 p.0 q.0 p.1 (subst (λ (z : List ℕ). refuses z q.0) (sym bytes) q.1)))
    (λ (q : (read : A) × accepts y.0 read × other read files b). on x.0 p.0 q.0 p.1 (subst (λ (z : List ℕ). accepts z q.0) (sym bytes) q.1) p.2 q.2)
    y.2)
    x.2
  where
    bytes : x.0 ≡ y.0
    bytes = some_is (sym x.1 ∙ y.1)

-- ---- the points file
one-points-line : (bytes a b : List ℕ) → RefusesPoints bytes a → RefusesPoints bytes b → a ≡ b
one-points-line bytes a b (inl x) (inl y) = x.told ∙ sym y.told
one-points-line bytes a b (inl x) (inr y) = absurd (let long = x.long in let short = y.0 in omega (arith, long, short))
one-points-line bytes a b (inr x) (inl y) = absurd (let long = y.long in let short = x.0 in omega (arith, long, short))
one-points-line bytes a b (inr x) (inr y) = some_is (sym x.3 ∙ ap points_line (err_is x.2 y.2) ∙ y.3)

points-or-refused : (bytes : List ℕ) (points : List Point) (line : List ℕ) → AcceptsPoints bytes points → RefusesPoints bytes line → ⊥
points-or-refused bytes points line x (inl long) = let short = x.0 in let over = long.long in omega (arith, short, over)
points-or-refused bytes points line x (inr none) = no_end x.1 none.2

-- ---- places
place-as : (mesh : Mesh) (from to : List (List ℤ)) (list : List Name) (p : Point) (o : Option Name) → IsPlace (relabelled mesh from) list p o → IsPlace (relabelled mesh to) list p o
place-as mesh from to list p None h = h
place-as mesh from to list p (Some n) h = h

places-as : (mesh : Mesh) (from to : List (List ℤ)) (list : List Name) (ps : List Point) (os : List (Option Name)) → AllZip (IsPlace (relabelled mesh from) list) ps os → AllZip (IsPlace (relabelled mesh to) list) ps os
places-as mesh from to list [] [] h = h
places-as mesh from to list [] (o ∷ os) h = h
places-as mesh from to list (p ∷ ps) [] h = h
places-as mesh from to list (p ∷ ps) (o ∷ os) h = (place-as mesh from to list p o h.0, places-as mesh from to list ps os h.1)

one-place : (mesh : Mesh) (list : List Name) (ps : List Point) (os qs : List (Option Name)) → AllZip (IsPlace mesh list) ps os → AllZip (IsPlace mesh list) ps qs → os ≡ qs
one-place mesh list [] [] [] x y = refl
one-place mesh list [] [] (q ∷ qs) x y = absurd y
one-place mesh list [] (o ∷ os) qs x y = absurd x
one-place mesh list (p ∷ ps) [] qs x y = absurd x
one-place mesh list (p ∷ ps) (o ∷ os) [] x y = absurd y
one-place mesh list (p ∷ ps) (o ∷ os) (q ∷ qs) x y = λ i. places_are_one mesh list p o q x.0 y.0 i ∷ one-place mesh list ps os qs x.1 y.1 i

one-places : (m n : Mesh) → AreAlike m n → (list : List Name) (points : List Point) (a b : List ℕ) → IsPlacesText m list points a → IsPlacesText n list points b → a ≡ b
one-places m n same list points a b x y =
    let there = places-as m n.labels m.labels list points y.0 (subst (λ (z : Mesh). AllZip (IsPlace z list) points y.0) (sym same.is) y.1) in
    x.2 ∙ ap places_text (one-place m list points x.0 y.0 x.1 there) ∙ sym y.2

finds-same : (m n : Mesh) → Laws m → AreAlike m n → (find : FindWords) (rounds : List Round) (points : List Point) (a b : End) → FindsTo m find rounds points a → FindsTo n find rounds points b → a ≡ b
finds-same m n laws same find rounds points (Ok a) (Ok b) x y =
    let firsts : y.0 ≡ x.0 = firsts-same m n laws same find.pool rounds x.0 y.0 x.1 y.1 in
    let states : y.2 ≡ x.2 = sym (ok_is {r = Ok x.2} refl (leads-same m n laws same find.pool rounds x.0 y.0 (Ok x.2) (Ok y.2) x.1 y.1 x.3 y.3)) in
    let there : AreLeaves n (last_state x.0 x.2) y.4 = subst (λ (z : State × List State). AreLeaves n (last_state z.0 z.1) y.4) (λ i. (firsts i, states i)) y.5 in
    let here : AreLeaves m (last_state x.0 x.2) y.4 = subst (λ (z : Mesh). AreLeaves z (last_state x.0 x.2) y.4) (sym same.is) there in
    let lists : y.4 ≡ x.4 = same-leaves m (last_state x.0 x.2) y.4 x.4 here x.5 in
    let texts : a ≡ b = one-places m n same x.4 points a b x.6 (subst (λ (l : List Name). IsPlacesText n l points b) lists y.6) in
    λ i. Ok (texts i)
finds-same m n laws same find rounds points (Ok a) (Err fault) x y = absurd (no_end refl (leads-same m n laws same find.pool rounds x.0 y.0 (Ok x.2) (Err fault) x.1 y.1 x.3 y.2))
finds-same m n laws same find rounds points (Err fault) (Ok b) x y = absurd (no_end refl (sym (leads-same m n laws same find.pool rounds x.0 y.0 (Err fault) (Ok y.2) x.1 y.1 x.2 y.3)))
finds-same m n laws same find rounds points (Err fault) (Err other) x y = by (leads-same m n laws same find.pool rounds x.0 y.0 (Err fault) (Err other) x.1 y.1 x.2 y.2)
  where
    by : ◌≡◌ {A = Result (List State) Fault} (Err fault) (Err other) → ◌≡◌ {A = End} (Err fault) (Err other)
    by e = let f : fault ≡ other = err_is {r = Err fault} refl e in λ i. Err (f i)

pub one_finding : OneFinding
one_finding find files a b h k = two-loads find.macro_file 3 RefusesMacro AcceptsMacro (λ mesh. LoadsMarks find.marks_file (LoadsPoints find mesh)) (λ mesh. LoadsMarks find.marks_file (LoadsPoints find mesh)) files a b one-macro-line macro-or-refused
    (λ bytes m n x y. two-loads find.marks_file 4 RefusesMarks AcceptsMarks (LoadsPoints find m) (LoadsPoints find n) files a b one-marks-line marks-or-refused
    (λ more rounds others r s.
    let same : others ≡ rounds = ok_is s.read r.read in
    λ p q. two-loads find.points_file 4 RefusesPoints AcceptsPoints (λ points others. FindsTo m find rounds points) (λ points others. FindsTo n find rounds points) files a b one-points-line points-or-refused
    (λ last points qs t u f g.
    let points_same : qs ≡ points = ok_is u.1 t.1 in
    finds-same m n (owners-of x.0 m x.2.is_mesh) (alike x.0 y.0 (texts-same bytes x.0 y.0 x.1 y.1) m n x.2.is_mesh y.2.is_mesh) find rounds points a b f (subst (λ (z : List Point). FindsTo n find rounds z b) points_same g))
    p (subst (λ (z : List Round). LoadsPoints find n z files b) same q))) h k
