-- The lines of a file are read element by element.
use Rattle.std.proofs.Common.{◌≡◌, ℕ, suc, ◌+◌, ◌<◌, ◌≤◌, refl, sym, ap, ◌∙◌, subst, List, [], ◌∷◌, ◌++◌, length, arith, ⊎_elim, append_assoc}
use Rattle.mesh_names.specs.Names.{Name}
use Rattle.mesh_names.specs.Triangles.{size}
use Rattle.mesh_names.specs.Forests.{Has}
use Rattle.mesh_names.proofs.Sets.{In, has-in, in-has, in-append}
use Rattle.compat_check.specs.Meshes.{Mesh, shape_of}
use Rattle.restart_file.specs.Kept.{set_of}
use Rattle.restart_file.specs.Trees.{Tree, word, bisected, lines, members_from}
use Rattle.restart_file.specs.Refusals.{AreLow, HasDeepLine, ReadsTo, IsLeftOver, IsLinesRefusal}
use Rattle.restart_file.specs.Lines.{IsLineRead, IsLineRefusal}
use Rattle.restart_file.specs.Parts.{AreLinesRead}
use Rattle.restart_file.specs.declared.refusal.RestartRefusal.{RestartRefusal}
use Rattle.restart_file.specs.declared.refusal.RestartRefusal.TheVariants.{BadHead, MacroShort, Macro, Check, BadWord, TooDeep, LeftOver, NotConforming, Memory}

nil : {A : Type 0} (l : List A) → l ++ [] ≡ l
nil [] = refl
nil (x ∷ l) = ap (λ (k : List _). x ∷ k) (nil l)

-- the lines of so many elements were read, with these members
pub record IsSoFar (mesh : Mesh) (bytes rest : List ℕ) (members : List Name) (count : ℕ) : Type 0 where
  pub trees : List Tree
  pub each : length trees ≡ count
  pub bytes_are : bytes ≡ lines trees ++ rest
  pub members_are : members ≡ members_from 0 trees
  pub low : AreLow mesh members

lines-push : (ts : List Tree) (t : Tree) (rest : List ℕ) → lines (ts ++ t ∷ []) ++ rest ≡ lines ts ++ (word t ++ 10 ∷ rest)
lines-push [] t rest = append_assoc (word t) (10 ∷ []) rest
lines-push (u ∷ ts) t rest =
    append_assoc (word u) (10 ∷ lines (ts ++ t ∷ [])) rest ∙ ap (λ (l : List ℕ). word u ++ 10 ∷ l) (lines-push ts t rest) ∙ sym (append_assoc (word u) (10 ∷ lines ts) (word t ++ 10 ∷ rest))

members-push : (ts : List Tree) (t : Tree) (r : ℕ) → members_from r (ts ++ t ∷ []) ≡ members_from r ts ++ bisected (r + length ts, []) t
members-push [] t r = let e : r ≡ r + 0 = omega arith in nil (bisected (r, []) t) ∙ ap (λ (k : ℕ). bisected (k, []) t) e
members-push (u ∷ ts) t r =
    let e : suc r + length ts ≡ r + length (u ∷ ts) = omega arith in
    ap (λ (l : List Name). bisected (r, []) u ++ l) (members-push ts t (suc r) ∙ ap (λ (k : ℕ). members_from (suc r) ts ++ bisected (k, []) t) e) ∙ sym (append_assoc (bisected (r, []) u) (members_from (suc r) ts) (bisected (r + length (u ∷ ts), []) t))

many-push : (ts : List Tree) (t : Tree) → length (ts ++ t ∷ []) ≡ length ts + 1
many-push [] t = refl
many-push (u ∷ ts) t = let h = many-push ts t in omega arith

pub none_read : (mesh : Mesh) (bytes : List ℕ) (members : List Name) → members ≡ [] → IsSoFar mesh bytes bytes members 0
none_read mesh bytes members e = record { trees = []; each = refl; bytes_are = refl; members_are = e; low = λ n h. absurd (has-in n [] (subst (λ (l : List Name). Has (set_of l) n) e h)) }

pub one_read : (mesh : Mesh) (bytes rest after : List ℕ) (members more : List Name) (r : ℕ) → IsSoFar mesh bytes rest members r → IsLineRead mesh r rest after members more → IsSoFar mesh bytes after more (r + 1)
one_read mesh bytes rest after members more r s l = let count : 0 + length s.trees ≡ r = let e = s.each in omega arith in record {
  trees = s.trees ++ l.tree ∷ [];
  each = many-push s.trees l.tree ∙ ap (λ (k : ℕ). k + 1) s.each;
  bytes_are = s.bytes_are ∙ ap (λ (k : List ℕ). lines s.trees ++ k) l.line ∙ sym (lines-push s.trees l.tree after);
  members_are = l.added ∙ (λ i. s.members_are i ++ bisected (sym count i, []) l.tree) ∙ sym (members-push s.trees l.tree 0);
  low = λ n h. ⊎_elim (λ (a : In n members). s.low n (in-has n members a)) (λ (b : In n (bisected (r, []) l.tree)). l.low n (in-has n (bisected (r, []) l.tree) b)) (in-append n members (bisected (r, []) l.tree) (has-in n (members ++ bisected (r, []) l.tree) (subst (λ (k : List Name). Has (set_of k) n) l.added h)));
}

module _ (mesh : Mesh) (bytes rest : List ℕ) (members : List Name) (r : ℕ) (s : IsSoFar mesh bytes rest members r) where
  reads_to : r ≤ size (shape_of mesh) → ReadsTo mesh bytes s.trees rest
  reads_to h = record { bytes_are = s.bytes_are; low = subst (λ (l : List Name). AreLow mesh l) s.members_are s.low; within = let e = s.each in omega arith }

  pub line_refused : r < size (shape_of mesh) → (x : RestartRefusal) → IsLineRefusal mesh r rest x → IsLinesRefusal mesh bytes x
  line_refused h (BadWord e) l = record { trees = s.trees; rest = rest; reads = reads_to (omega arith); place = l.0 ∙ sym s.each; inside = subst (λ (k : ℕ). k < size (shape_of mesh)) (sym l.0) h; next = l.1 }
  line_refused h (TooDeep e) l = record { trees = s.trees; rest = rest; reads = reads_to (omega arith); place = l.0 ∙ sym s.each; inside = subst (λ (k : ℕ). k < size (shape_of mesh)) (sym l.0) h; next = subst (λ (k : ℕ). HasDeepLine mesh k rest) (sym l.0) l.1 }
  line_refused h Memory l = tt
  line_refused h BadHead l = absurd l
  line_refused h (MacroShort w f) l = absurd l
  line_refused h (Macro y) l = absurd l
  line_refused h (Check y) l = absurd l
  line_refused h LeftOver l = absurd l
  line_refused h (NotConforming y) l = absurd l

  pub left_over : r ≡ size (shape_of mesh) → 0 < length rest → IsLeftOver mesh bytes
  left_over h more = record { trees = s.trees; rest = rest; reads = reads_to (omega arith); all = s.each ∙ h; more = λ e. let z : length rest ≡ 0 = ap length e in absurd (omega arith) }

  pub all_read : r ≡ size (shape_of mesh) → rest ≡ [] → AreLinesRead mesh bytes members
  all_read h e = record { trees = s.trees; each = s.each ∙ h; bytes_are = s.bytes_are ∙ ap (λ (l : List ℕ). lines s.trees ++ l) e ∙ nil (lines s.trees); members_are = s.members_are; low = s.low }
