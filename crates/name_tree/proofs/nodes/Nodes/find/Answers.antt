use Rattle.std.proofs.Common.{◌≡◌, ℕ, ◌+◌, ◌-◌, ◌≤◌, ◌*◌, Bool, true, false, ◌∷◌, arith, sym, ap, ◌∙◌}
use Rattle.std.specs.Prelude.{slice_index}
use Rattle.mesh_names.specs.Names.{depth, digit}
use Rattle.name_tree.specs.Letters.{first_letters}
use Rattle.name_tree.specs.Trees.{Under, pairs_of}
use Rattle.name_tree.proofs.Places.{leads-more, leads-nowhere, place-within, top-nowhere}
use Rattle.name_tree.proofs.nodes.Nodes.find.Goals as goal

pub returns-in_err-level-clause-place : goal.returns-in_err-level-clause-place
returns-in_err-level-clause-place c = c.from_residual.ensures ∙ sym (top-nowhere (pairs_of c.args.self.now) c.args.name (c.begin.ensures.none c.in_err-level.was))

pub below-requires : goal.below-requires
below-requires c =
    let low = place-within (pairs_of c.args.self.now) c.requires.kept.count c.requires.kept.tree.within c.args.name.0 (first_letters c.args.name c.loop-level.level).1 (slice_index c.loop-level.path.places c.loop-level.level) (c.loop-level.invariant.leads c.loop-level.level (omega arith)) in
    let whole = c.requires.kept.whole in
    omega arith

pub returns-in_default-clause-place : goal.returns-in_default-clause-place
returns-in_default-clause-place c = sym (leads-nowhere (pairs_of c.args.self.now) c.args.name c.loop-level.level c.loop-level.path.places c.loop-level.invariant.leads (omega arith) (sym c.below.ensures ∙ c.in_default.is))

pub overflow_mul-path : goal.overflow_mul-path
overflow_mul-path c =
    let low = c.requires.kept.tree.within (Under (slice_index c.loop-level.path.places c.loop-level.level)) c.in-Some.pair (sym c.below.ensures ∙ c.in-Some.is) in
    let few = c.requires.kept.small in
    omega arith

pub overflow_add-path : goal.overflow_add-path
overflow_add-path c =
    let low = c.requires.kept.tree.within (Under (slice_index c.loop-level.path.places c.loop-level.level)) c.in-Some.pair (sym c.below.ensures ∙ c.in-Some.is) in
    let few = c.requires.kept.small in
    elim c.letter.result as (λ (b : Bool). mir.Val.Fits mir.Syntax.w32 (c.in-Some.pair * 2 + mir.Val.bool_byte b)) [ true ↦ omega arith | false ↦ omega arith ]

pub loop-level-preserved : goal.loop-level-preserved
loop-level-preserved c =
    let low : c.loop-level.level + 1 ≤ depth c.args.name = omega arith in
    let back : c.loop-level.level + 1 - 1 ≡ c.loop-level.level = omega arith in
    let word : (first_letters c.args.name (c.loop-level.level + 1)).1 ≡ c.letter.result ∷ (first_letters c.args.name c.loop-level.level).1 = c.letter.ensures ∙ ap (λ (x : ℕ). c.letter.result ∷ (first_letters c.args.name x).1) back in
    let number : c.in-Some.pair * 2 + mir.Val.bool_byte c.letter.result ≡ 2 * c.in-Some.pair + digit c.letter.result = elim c.letter.result as (λ (b : Bool). c.in-Some.pair * 2 + mir.Val.bool_byte b ≡ 2 * c.in-Some.pair + digit b) [ true ↦ omega arith | false ↦ omega arith ] in
    record {
      within = low;
      leads = leads-more (pairs_of c.args.self.now) c.args.name c.loop-level.level c.in-Some.pair (c.in-Some.pair * 2 + mir.Val.bool_byte c.letter.result) c.letter.result c.loop-level.path.places c.loop-level.invariant.leads (sym c.below.ensures ∙ c.in-Some.is) word number (omega arith);
    }
