-- Codes of children, and the names above a name.
use Rattle.std.proofs.Common.{◌≡◌, ℕ, ◌+◌, ◌-◌, ◌*◌, ◌/◌, ◌%◌, ◌^◌, ◌<◌, ◌≤◌, Bool, true, false, cond, eqb, ltb, ◌&&◌, ◌∷◌, sym, ap, ◌∙◌, arith, eq-eqb, lt-ltb}
use Rattle.mesh_names.specs.Names.{Name, letters, depth}
use Rattle.mesh_names.specs.Triangles.{Shape, size, level}
use Rattle.table_words.specs.NameWords.{name_code, name_in}
use Rattle.table_words.specs.Setup.{is_code, child_code}
use lib.Bits.{bit_and}
use Rattle.std.proofs.lemmas.Nat.{and_mask, shr-shr}
use Rattle.mesh_names.specs.Letters.{letters-split}
use mir.Val.{bool_byte}
use Rattle.table_words.specs.Places.{child_place}
use Rattle.table_words.proofs.NameCodes.{code_back}
use Rattle.table_words.proofs.CodedNames.{both_true, far}

-- the code of a child of a name that can be bisected
pub child_named : (mesh : Shape) (p : Name) (c : Bool) → depth p ≤ 24 → level mesh p < 24 → p.0 < size mesh → child_code mesh (name_code p) c ≡ name_code (p.0, c ∷ p.1)
child_named mesh p c low fine root =
    let back : name_in (name_code p - 1) ≡ p = code_back p low in
    let one : eqb (name_code (name_in (name_code p - 1))) (name_code p) ≡ true = eq-eqb (name_code (name_in (name_code p - 1))) (name_code p) (ap name_code back) in
    let two : ltb (level mesh (name_in (name_code p - 1))) 24 ≡ true = ap (λ (n : Name). ltb (level mesh n) 24) back ∙ lt-ltb (level mesh p) 24 fine in
    let three : ltb (name_in (name_code p - 1)).0 (size mesh) ≡ true = ap (λ (n : Name). ltb n.0 (size mesh)) back ∙ lt-ltb p.0 (size mesh) root in
    let code : is_code mesh (name_code p) ≡ true = both_true (eqb (name_code (name_in (name_code p - 1))) (name_code p) && ltb (level mesh (name_in (name_code p - 1))) 24) (ltb (name_in (name_code p - 1)).0 (size mesh))
    (both_true (eqb (name_code (name_in (name_code p - 1))) (name_code p)) (ltb (level mesh (name_in (name_code p - 1))) 24) one two) three in
    ap (λ (t : Bool). cond t (name_code ((name_in (name_code p - 1)).0, c ∷ (name_in (name_code p - 1)).1)) (far mesh (name_code p) c)) code ∙ ap (λ (n : Name). name_code (n.0, c ∷ n.1)) back

-- the number of a child's place
pub child_number : (e b : ℕ) (t u : Bool) → child_place e b t u ≡ e + 4 * b + (2 * bool_byte t + bool_byte u)
child_number e b true true = omega arith
child_number e b true false = omega arith
child_number e b false true = omega arith
child_number e b false false = omega arith

pub child_low : (t u : Bool) → 2 * bool_byte t + bool_byte u < 4
child_low true true = omega arith
child_low true false = omega arith
child_low false true = omega arith
child_low false false = omega arith
