use Rattle.std.proofs.Common.{◌≡◌, ◌<◌, ◌≤◌, ◌^◌, ℕ, ◌+◌, ℤ, List, [], ◌∷◌, ◌++◌, take, map, length, ap, sym, subst, ◌∙◌, arith, rules, w64}
use Rattle.std.specs.Prelude.{nat_abs}
use Rattle.std.specs.List.{All}
use Rattle.std.proofs.lemmas.Int.{to_z-of_z}
use Rattle.std.proofs.lemmas.List.{map-append, take_more}
use Rattle.std.proofs.lemmas.List.Elements.{All-append, All-cons, All-nil}
use Rattle.std.proofs.lemmas.Option.{get_or_from_slice_get}
use Rattle.macro_file.specs.declared.text.MacroVertex.{MacroVertex}
use Rattle.dof_transfer.proofs.vertex_ledger.macro_values.Goals as goal

pub loop-vertex-preserved : goal.loop-vertex-preserved
loop-vertex-preserved c =
    let all : List MacroVertex = c.args.mesh.now.vertices in
    let i : ℕ = c.loop-vertex.vertex in
    let x : MacroVertex = c.vertex.result in
    let within : i < length all = omega (arith, c.vertex_count-count.ensures) in
    let items : c.push.new.self.items ≡ c.loop-vertex.values.items ++ x.value ∷ [] = c.in_ok-push.ensures.items ∙ ap (λ (v : ℤ). c.loop-vertex.values.items ++ v ∷ []) (to_z-of_z w64 x.value (search rules)) in
    let more : take (i + 1) all ≡ take i all ++ x ∷ [] = take_more all i x within ∙ ap (λ (y : MacroVertex). take i all ++ y ∷ []) (get_or_from_slice_get all i x x c.vertex.ensures) in
    record {
      all = items ∙ ap (λ (l : List ℤ). l ++ x.value ∷ []) c.loop-vertex.invariant.all ∙ sym (map-append (λ (y : MacroVertex). y.value) (take i all) (x ∷ [])) ∙ ap (map (λ (y : MacroVertex). y.value)) (sym more);
      small = subst (All (λ z. nat_abs z ≤ 2 ^ 31)) (sym items) (All-append (λ z. nat_abs z ≤ 2 ^ 31) c.loop-vertex.values.items (x.value ∷ []) c.loop-vertex.invariant.small (All-cons (λ z. nat_abs z ≤ 2 ^ 31) x.value [] x.in_range.2 (All-nil (λ z. nat_abs z ≤ 2 ^ 31))));
    }
