-- A run has one outcome.
use Rattle.std.proofs.Common.{◌≡◌, ℕ, ◌<◌, ◌+◌, ℤ, Bool, true, false, refl, sym, ap, ◌∙◌, subst, List, [], ◌∷◌, ◌++◌, ⊎_elim, inl, inr, arith}
use Rattle.std.specs.Prelude.{Some, Result, Ok, Err}
use Rattle.mesh_io.specs.Shelves.{Files}
use Rattle.macro_file.specs.Text.{macro_of}
use Rattle.macro_file.specs.declared.text.MacroText.{MacroText}
use Rattle.compat_check.specs.Checks.{IsCheckRefusal}
use Rattle.compat_check.specs.Meshes.{Mesh}
use Rattle.compat_check.specs.declared.refusal.CheckRefusal.{CheckRefusal}
use Rattle.compat_check.specs.declared.refusal.CheckRefusal.TheVariants.{VertexRange, RepeatedVertex, Flat, TwinElements, EdgeOfThree, NeighboursDiffer, Incompatible, GradeTooHigh, Memory}
use Rattle.dof_transfer.proofs.NamedVertices.{Laws}
use Rattle.mark_file.specs.Meaning.{Round}
use Rattle.mesh_rounds.specs.State.{IsFirst, State}
use Rattle.mesh_rounds.proofs.Relabelled.{relabelled}
use Rattle.mesh_rounds.proofs.OneState.{first-no-others, first_is_one}
use Rattle.adapt_words.specs.Numbers.{Word}
use Rattle.adapt_words.specs.Rounds.{RunWords}
use Rattle.adapt_cli.specs.FaultTexts.{End, Fault, check_line, macro_line, marks_line}
use Rattle.adapt_cli.specs.InputFiles.{AcceptsMacro, AcceptsMarks, AcceptsText, RefusesMacro, RefusesMarks, RefusesText}
use Rattle.adapt_cli.specs.Loads.{Loads}
use Rattle.adapt_cli.specs.OneOutcome.{OneRun}
use Rattle.adapt_cli.specs.Outcome.{LoadsMarks, RunsTo}
use Rattle.adapt_cli.specs.Reports.{IsOutput, IsReport, round_line}
use Rattle.adapt_cli.specs.Rounds.{LeadTo, last_state}
use Rattle.adapt_cli.proofs.OneCause.{kind, one-cause}
use Rattle.adapt_cli.proofs.OneLead.{no_fault, one-lead, some_is}
use Rattle.adapt_cli.proofs.OneSoak.{first-alike, one-text, same-leaves, text-alike}
use Rattle.adapt_cli.proofs.SameMeshes.{AreAlike, alike, leads-alike, owners-of}
use Rattle.adapt_cli.proofs.SameTexts.{refused_same}

pub ok_is : {A B : Type 0} {r : Result A B} {a b : A} → r ≡ Ok a → r ≡ Ok b → a ≡ b
ok_is p q = cc

pub err_is : {A B : Type 0} {r : Result A B} {a b : B} → r ≡ Err a → r ≡ Err b → a ≡ b
err_is p q = cc

pub no_end : {A B : Type 0} {r : Result A B} {a : A} {b : B} → r ≡ Ok a → r ≡ Err b → ⊥
no_end p q = cc

-- ---- files
pub texts-same : (bytes : List ℕ) (t u : MacroText) → AcceptsText bytes t → AcceptsText bytes u → macro_of t ≡ macro_of u
texts-same bytes t u x y = ok_is x.read y.read

line-is : {line : List ℕ} (refusal : CheckRefusal) → check_line refusal ≡ Some line → kind refusal < 8
line-is (VertexRange r) e = omega arith
line-is (RepeatedVertex r) e = omega arith
line-is (Flat r) e = omega arith
line-is (TwinElements a b) e = omega arith
line-is (EdgeOfThree r k) e = omega arith
line-is (NeighboursDiffer r k) e = omega arith
line-is (Incompatible r k) e = omega arith
line-is (GradeTooHigh r g) e = omega arith
line-is Memory e = absurd (no_fault e)

text-or-refused : (bytes : List ℕ) (text : MacroText) (line : List ℕ) → AcceptsText bytes text → RefusesText bytes line → ⊥
text-or-refused bytes text line x (inl long) = let short = x.short in let over = long.long in omega (arith, short, over)
text-or-refused bytes text line x (inr misread) = no_end x.read misread.read

one-misread : (bytes a b : List ℕ) → RefusesText bytes a → RefusesText bytes b → a ≡ b
one-misread bytes a b (inl x) (inl y) = x.told ∙ sym y.told
one-misread bytes a b (inl x) (inr y) = absurd (let long = x.long in let short = y.short in omega (arith, long, short))
one-misread bytes a b (inr x) (inl y) = absurd (let long = y.long in let short = x.short in omega (arith, long, short))
one-misread bytes a b (inr x) (inr y) = some_is (sym x.told ∙ ap macro_line (err_is x.read y.read) ∙ y.told)

pub one-macro-line : (bytes a b : List ℕ) → RefusesMacro bytes a → RefusesMacro bytes b → a ≡ b
one-macro-line bytes a b (inl x) (inl y) = one-misread bytes a b x y
one-macro-line bytes a b (inl x) (inr y) = absurd (text-or-refused bytes y.0 a y.1 x)
one-macro-line bytes a b (inr x) (inl y) = absurd (text-or-refused bytes x.0 b x.1 y)
one-macro-line bytes a b (inr x) (inr y) =
    let there : IsCheckRefusal x.0 y.2.0 = refused_same y.0 x.0 (texts-same bytes y.0 x.0 y.1 x.1) y.2.0 y.2.1 in
    let cause : x.2.0 ≡ y.2.0 = one-cause x.0 x.2.0 y.2.0 (line-is x.2.0 x.2.2) (line-is y.2.0 y.2.2) x.2.1 there in
    some_is (sym x.2.2 ∙ ap check_line cause ∙ y.2.2)

pub macro-or-refused : (bytes : List ℕ) (mesh : Mesh) (line : List ℕ) → AcceptsMacro bytes mesh → RefusesMacro bytes line → ⊥
macro-or-refused bytes mesh line x (inl y) = text-or-refused bytes x.0 line x.1 y
macro-or-refused bytes mesh line x (inr y) =
    let none = x.2.faultless y.2.0 (refused_same y.0 x.0 (texts-same bytes y.0 x.0 y.1 x.1) y.2.0 y.2.1) in
    no_fault (sym (ap check_line none) ∙ y.2.2)

pub one-marks-line : (bytes a b : List ℕ) → RefusesMarks bytes a → RefusesMarks bytes b → a ≡ b
one-marks-line bytes a b (inl x) (inl y) = x.told ∙ sym y.told
one-marks-line bytes a b (inl x) (inr y) = absurd (let long = x.long in let short = y.short in omega (arith, long, short))
one-marks-line bytes a b (inr x) (inl y) = absurd (let long = y.long in let short = x.short in omega (arith, long, short))
one-marks-line bytes a b (inr x) (inr y) = some_is (sym x.told ∙ ap marks_line (err_is x.read y.read) ∙ y.told)

pub marks-or-refused : (bytes : List ℕ) (rounds : List Round) (line : List ℕ) → AcceptsMarks bytes rounds → RefusesMarks bytes line → ⊥
marks-or-refused bytes rounds line x (inl long) = let short = x.short in let over = long.long in omega (arith, short, over)
marks-or-refused bytes rounds line x (inr none) = no_end x.read none.read

-- a file leads to one end, where what goes on from it does
pub one-load : {A : Type 0} (name : Word) (status : ℕ) (refuses : List ℕ → List ℕ → Type 0) (accepts : List ℕ → A → Type 0) (next : A → Files → End → Type 0) (files : Files) (a b : End) →
    ((bytes x y : List ℕ) → refuses bytes x → refuses bytes y → x ≡ y) → ((bytes : List ℕ) (r : A) (line : List ℕ) → accepts bytes r → refuses bytes line → ⊥) →
    ((bytes : List ℕ) (r s : A) → accepts bytes r → accepts bytes s → next r files a → next s files b → a ≡ b) →
    Loads name status refuses accepts next files a → Loads name status refuses accepts next files b → a ≡ b
one-load {A} name status refuses accepts next files a b lines both on x y = ⊎_elim
    (λ (p : (line : List ℕ) × refuses x.0 line × (a ≡ Err (status, line))). ⊎_elim
    (λ (q : (line : List ℕ) × refuses y.0 line × (b ≡ Err (status, line))).
    let line : p.0 ≡ q.0 = lines x.0 p.0 q.0 p.1 (subst (λ (z : List ℕ). refuses z q.0) (sym bytes) q.1) in
    p.2 ∙ (λ i. Err (status, line i)) ∙ sym q.2)
    (λ (q : (read : A) × accepts y.0 read × next read files b). absurd (both y.0 q.0 p.0 q.1 (subst (λ (z : List ℕ). refuses z p.0) bytes p.1)))
    y.2)
    (λ (p : (read : A) × accepts x.0 read × next read files a). ⊎_elim
    (λ (q : (line : List ℕ) × refuses y.0 line × (b ≡ Err (status, line))). absurd (both x.0 p.0 q.0 p.1 (subst (λ (z : List ℕ). refuses z q.0) (sym bytes) q.1)))
    (λ (q : (read : A) × accepts y.0 read × next read files b). on x.0 p.0 q.0 p.1 (subst (λ (z : List ℕ). accepts z q.0) (sym bytes) q.1) p.2 q.2)
    y.2)
    x.2
  where
    bytes : x.0 ≡ y.0
    bytes = some_is (sym x.1 ∙ y.1)

-- ---- rounds and what is written of them
report-as : (mesh : Mesh) (from to : List (List ℤ)) (number : ℕ) (states : List State) (text : List ℕ) → IsReport (relabelled mesh from) number states text → IsReport (relabelled mesh to) number states text
report-as mesh from to number [] text h = h
report-as mesh from to number (state ∷ states) text h = (h.0, (h.1.0, h.1.1, h.1.2), h.2, report-as mesh from to (number + 1) states h.2 h.3, h.4)

report-alike : (m n : Mesh) → AreAlike m n → (number : ℕ) (states : List State) (text : List ℕ) → IsReport n number states text → IsReport m number states text
report-alike m n same number states text h = report-as m n.labels m.labels number states text (subst (λ (x : Mesh). IsReport x number states text) (sym same.is) h)

one-report : (mesh : Mesh) (number : ℕ) (states : List State) (a b : List ℕ) → IsReport mesh number states a → IsReport mesh number states b → a ≡ b
one-report mesh number [] a b x y = x ∙ sym y
one-report mesh number (state ∷ states) a b x y =
    let lists : x.1.0 ≡ y.1.0 = same-leaves mesh state x.1.0 y.1.0 x.1.1 y.1.1 in
    let lines : x.0 ≡ y.0 = x.1.2 ∙ (λ i. round_line mesh number state (lists i)) ∙ sym y.1.2 in
    let rests : x.2 ≡ y.2 = one-report mesh (number + 1) states x.2 y.2 x.3 y.3 in
    x.4 ∙ (λ i. lines i ++ rests i) ∙ sym y.4

one-output : (m n : Mesh) → Laws m → AreAlike m n → (report : Bool) (first : State) (states : List State) (a b : List ℕ) → IsOutput m report first states a → IsOutput n report first states b → a ≡ b
one-output m n laws same true first states a b x y = one-report m 1 states a b x (report-alike m n same 1 states b y)
one-output m n laws same false first states a b x y = one-text m laws (last_state first states) a b x (text-alike m n same (last_state first states) b y)

module _ (m n : Mesh) (laws : Laws m) (same : AreAlike m n) (pool : ℕ) (rounds : List Round) where
  pub firsts-same : (first other : State) → IsFirst m first → IsFirst n other → other ≡ first
  firsts-same first other x y = first_is_one m other first (first-alike m n same other y) x

  pub leads-same : (first other : State) (a b : Result (List State) Fault) → IsFirst m first → IsFirst n other → LeadTo m pool rounds first a → LeadTo n pool rounds other b → a ≡ b
  leads-same first other a b x y h k =
      one-lead m laws pool rounds first a b (first-no-others m first x) h
      (leads-alike m n same pool rounds first b (subst (λ (s : State). LeadTo n pool rounds s b) (firsts-same first other x y) k))

ends-same : (m n : Mesh) → Laws m → AreAlike m n → (run : RunWords) (rounds : List Round) (a b : End) → RunsTo m run rounds a → RunsTo n run rounds b → a ≡ b
ends-same m n laws same run rounds (Ok a) (Ok b) x y =
    let firsts : y.0 ≡ x.0 = firsts-same m n laws same run.pool rounds x.0 y.0 x.1 y.1 in
    let states : y.2 ≡ x.2 = sym (ok_is {r = Ok x.2} refl (leads-same m n laws same run.pool rounds x.0 y.0 (Ok x.2) (Ok y.2) x.1 y.1 x.3 y.3)) in
    let texts : a ≡ b = one-output m n laws same run.report x.0 x.2 a b x.4 (subst (λ (z : State × List State). IsOutput n run.report z.0 z.1 b) (λ i. (firsts i, states i)) y.4) in
    λ i. Ok (texts i)
ends-same m n laws same run rounds (Ok a) (Err fault) x y = absurd (no_end refl (leads-same m n laws same run.pool rounds x.0 y.0 (Ok x.2) (Err fault) x.1 y.1 x.3 y.2))
ends-same m n laws same run rounds (Err fault) (Ok b) x y = absurd (no_end refl (sym (leads-same m n laws same run.pool rounds x.0 y.0 (Err fault) (Ok y.2) x.1 y.1 x.2 y.3)))
ends-same m n laws same run rounds (Err fault) (Err other) x y = leads-fault (leads-same m n laws same run.pool rounds x.0 y.0 (Err fault) (Err other) x.1 y.1 x.2 y.2)
  where
    leads-fault : ◌≡◌ {A = Result (List State) Fault} (Err fault) (Err other) → ◌≡◌ {A = End} (Err fault) (Err other)
    leads-fault e = let f : fault ≡ other = err_is {r = Err fault} refl e in λ i. Err (f i)

-- from meshes of one file
mesh-ends : (bytes : List ℕ) (m n : Mesh) → AcceptsMacro bytes m → AcceptsMacro bytes n → (run : RunWords) (rounds : List Round) (a b : End) → RunsTo m run rounds a → RunsTo n run rounds b → a ≡ b
mesh-ends bytes m n x y run rounds a b = ends-same m n (owners-of x.0 m x.2.is_mesh) (alike x.0 y.0 (texts-same bytes x.0 y.0 x.1 y.1) m n x.2.is_mesh y.2.is_mesh) run rounds a b

-- what the marks file leads to on both
marks-end : (bytes : List ℕ) (m n : Mesh) → AcceptsMacro bytes m → AcceptsMacro bytes n → (run : RunWords) (files : Files) (a b : End) →
    LoadsMarks run.marks_file (λ rounds others. RunsTo m run rounds) files a → LoadsMarks run.marks_file (λ rounds others. RunsTo n run rounds) files b → a ≡ b
marks-end bytes m n x y run files a b h k = ⊎_elim
    (λ (p : (line : List ℕ) × RefusesMarks h.0 line × (a ≡ Err (4, line))). ⊎_elim
    (λ (q : (line : List ℕ) × RefusesMarks k.0 line × (b ≡ Err (4, line))).
    let line : p.0 ≡ q.0 = one-marks-line h.0 p.0 q.0 p.1 (subst (λ (z : List ℕ). RefusesMarks z q.0) (sym same) q.1) in
    p.2 ∙ (λ i. Err (4, line i)) ∙ sym q.2)
    (λ (q : (rounds : List Round) × AcceptsMarks k.0 rounds × RunsTo n run rounds b). absurd (marks-or-refused k.0 q.0 p.0 q.1 (subst (λ (z : List ℕ). RefusesMarks z p.0) same p.1)))
    k.2)
    (λ (p : (rounds : List Round) × AcceptsMarks h.0 rounds × RunsTo m run rounds a). ⊎_elim
    (λ (q : (line : List ℕ) × RefusesMarks k.0 line × (b ≡ Err (4, line))). absurd (marks-or-refused h.0 p.0 q.0 p.1 (subst (λ (z : List ℕ). RefusesMarks z q.0) (sym same) q.1)))
    (λ (q : (rounds : List Round) × AcceptsMarks k.0 rounds × RunsTo n run rounds b).
    let there : AcceptsMarks h.0 q.0 = subst (λ (z : List ℕ). AcceptsMarks z q.0) (sym same) q.1 in
    let rounds : q.0 ≡ p.0 = ok_is there.read p.1.read in
    mesh-ends bytes m n x y run p.0 a b p.2 (subst (λ (z : List Round). RunsTo n run z b) rounds q.2))
    k.2)
    h.2
  where
    same : h.0 ≡ k.0
    same = some_is (sym h.1 ∙ k.1)

pub one_run : OneRun
one_run run files a b h k = one-load run.macro_file 3 RefusesMacro AcceptsMacro (λ mesh. LoadsMarks run.marks_file (λ rounds others. RunsTo mesh run rounds)) files a b one-macro-line macro-or-refused
    (λ bytes m n x y. marks-end bytes m n x y run files a b) h k
