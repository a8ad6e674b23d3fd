use Rattle.std.proofs.Common.{◌≡◌, ℕ, ◌<◌, ◌∙◌, ap, arith, List, length}
use lib.ListN.{replicate}
use Rattle.std.proofs.lemmas.List.{get_or-replicate}
use Rattle.std.specs.Prelude.{slice_index_or}
use Rattle.compat_check.proofs.Alone.{alone}
use Rattle.compat_check.proofs.parts.Parts.new.Goals as goal

pub returns : goal.returns
returns c =
    let items : c.in_ok-ranks.ranks.items ≡ replicate c.args.count 0 = c.in_ok-ranks.ensures.items_if_clones_equal (λ y h. h) in
    let zeros : (x : ℕ) → x < c.args.count → slice_index_or c.in_ok-ranks.ranks.items x 0 ≡ 0 = λ x hx. ap (λ (l : List ℕ). slice_index_or l x 0) items ∙ get_or-replicate c.args.count x 0 0 hx in
    let rises : length c.in_ok-rises.rises.items ≡ c.args.count = omega (arith, c.in_ok-rises.ensures.len) in
    let ranks : length c.in_ok-ranks.ranks.items ≡ c.args.count = omega (arith, c.in_ok-ranks.ensures.len) in
    alone c.args.count _ (omega arith) rises ranks (λ x hx. c.loop-element.invariant.own x (omega arith)) zeros
