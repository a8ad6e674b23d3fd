use Rattle.std.proofs.Common.{◌≡◌, ◌<◌, ◌∙◌, ap, sym, arith, rules, length}
use Rattle.std.specs.Prelude.{pos, ◌+ℤ◌}
use Rattle.std.specs.Int.{w32}
use Rattle.std.proofs.lemmas.Int.{to_z-of_z}
use Rattle.std.proofs.lemmas.List.{get_or_read}
use mir.Val.{to_z, of_z, SFits}
use Rattle.compat_check.specs.Parts.{parent_of, rise_of}
use Rattle.compat_check.proofs.Finding.{small_at_top, step_up, step_fits, at_top, fits_small}
use Rattle.compat_check.proofs.parts.Parts.find.Goals as goal

pub overflow_add-height : goal.overflow_add-height
overflow_add-height c =
    let n = length c.args.self.now.parents.items in
    let w = c.requires.parts in
    let idx = c.index-in-loop-at.result.now in
    let fits : SFits w32 idx = search rules in
    let inside : c.loop-at.at < length c.args.self.now.rises.items = omega (arith, w.1.1.rises, c.loop-at.invariant.within) in
    let rise : to_z w32 (of_z w32 idx) ≡ rise_of c.args.self.now c.loop-at.at = to_z-of_z w32 idx fits ∙ get_or_read c.args.self.now.rises.items c.loop-at.at idx inside c.index-in-loop-at.ensures (pos 0) in
    let parent : c.index.result.now ≡ parent_of c.args.self.now c.loop-at.at = get_or_read c.args.self.now.parents.items c.loop-at.at c.index.result.now c.loop-at.invariant.within c.index.ensures 0 in
    let told = c.loop-at.invariant.tells w.0 w.1.0 w.1.1 in
    let small = step_fits n c.requires.few c.args.self.now w.0 w.1.0 w.1.1 c.args.element c.loop-at.at c.index.result.now (to_z w32 c.loop-at.height-bits) (to_z w32 (of_z w32 idx)) c.requires.element c.loop-at.invariant.within parent rise c.loop-at-test.true told.0 told.1 in
    fits_small _ small.0 small.1

pub loop-at-preserved : goal.loop-at-preserved
loop-at-preserved c =
    let n = length c.args.self.now.parents.items in
    let w = c.requires.parts in
    let idx = c.index-in-loop-at.result.now in
    let h = to_z w32 c.loop-at.height-bits in
    let u = to_z w32 (of_z w32 idx) in
    let p = c.index-at.result.now in
    let fits : SFits w32 idx = search rules in
    let inside : c.loop-at.at < length c.args.self.now.rises.items = omega (arith, w.1.1.rises, c.loop-at.invariant.within) in
    let rise : u ≡ rise_of c.args.self.now c.loop-at.at = to_z-of_z w32 idx fits ∙ get_or_read c.args.self.now.rises.items c.loop-at.at idx inside c.index-in-loop-at.ensures (pos 0) in
    let parent : p ≡ parent_of c.args.self.now c.loop-at.at = get_or_read c.args.self.now.parents.items c.loop-at.at p c.loop-at.invariant.within c.index-at.ensures 0 in
    let tested : c.index.result.now ≡ parent_of c.args.self.now c.loop-at.at = get_or_read c.args.self.now.parents.items c.loop-at.at c.index.result.now c.loop-at.invariant.within c.index.ensures 0 in
    let apart : p ≡ c.loop-at.at → ⊥ = λ e. c.loop-at-test.true (tested ∙ sym parent ∙ e) in
    let told = c.loop-at.invariant.tells w.0 w.1.0 w.1.1 in
    let small = step_fits n c.requires.few c.args.self.now w.0 w.1.0 w.1.1 c.args.element c.loop-at.at p h u c.requires.element c.loop-at.invariant.within parent rise apart told.0 told.1 in
    let sum_is : to_z w32 (of_z w32 (h +ℤ u)) ≡ h +ℤ u = to_z-of_z w32 (h +ℤ u) (fits_small (h +ℤ u) small.0 small.1) in
    record {
      within = (step_up n c.requires.few c.args.self.now w.0 w.1.0 w.1.1 c.args.element c.loop-at.at p h u c.loop-at.invariant.within parent rise apart told.0 told.1).0;
      tells = λ head height leads.
          let known = c.loop-at.invariant.tells head height leads in
          let up = step_up n c.requires.few c.args.self.now head height leads c.args.element c.loop-at.at p h u c.loop-at.invariant.within parent rise apart known.0 known.1 in
          (up.1, up.2 ∙ ap (λ z. z +ℤ height p) (sym sum_is));
    }

pub returns-clause-found : goal.returns-clause-found
returns-clause-found c = λ head height leads.
    let told = c.loop-at.invariant.tells head height leads in
    let parent : c.index.result.now ≡ parent_of c.args.self.now c.loop-at.at = get_or_read c.args.self.now.parents.items c.loop-at.at c.index.result.now c.loop-at.invariant.within c.index.ensures 0 in
    at_top (length c.args.self.now.parents.items) c.requires.few c.args.self.now head height leads c.args.element c.loop-at.at (to_z w32 c.loop-at.height-bits) c.loop-at.invariant.within (sym parent ∙ c.loop-at-test.false) told.0 told.1

pub returns-clause-small : goal.returns-clause-small
returns-clause-small c =
    let w = c.requires.parts in
    let told = c.loop-at.invariant.tells w.0 w.1.0 w.1.1 in
    let parent : c.index.result.now ≡ parent_of c.args.self.now c.loop-at.at = get_or_read c.args.self.now.parents.items c.loop-at.at c.index.result.now c.loop-at.invariant.within c.index.ensures 0 in
    small_at_top (length c.args.self.now.parents.items) c.requires.few c.args.self.now w.0 w.1.0 w.1.1 c.args.element c.loop-at.at (to_z w32 c.loop-at.height-bits) c.requires.element c.loop-at.invariant.within told.0 told.1
