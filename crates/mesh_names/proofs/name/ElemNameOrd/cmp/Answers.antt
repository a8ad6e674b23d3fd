use Rattle.std.proofs.Common.{ℕ, ◌<◌, ◌≤◌, ◌∙◌, ◌*◌, ◌-◌, ◌^◌, ◌%◌, nat_cmp, arith}
use Rattle.mesh_names.specs.Names.{name_cmp}
use Rattle.mesh_names.proofs.Order.{front_is_low, name_by_front, ranked_cmp}
use Rattle.mesh_names.proofs.name.ElemNameOrd.cmp.Goals as goal

-- a word at the front of 24 bits
abbrev shifted : ℕ → ℕ → ℕ
shifted level bits = bits * 2 ^ (24 - level) % 4294967296

below_32 : (level : ℕ) → level ≤ 24 → level < 32
below_32 level h = omega arith

pub ranked-rank-requires : goal.ranked-rank-requires
ranked-rank-requires c =
    let a = c.self.inside in
    let i = c.self.invariant in
    (i.0, front_is_low a.level a.bits i.1 i.2, below_32 a.level i.1)

pub ranked-requires : goal.ranked-requires
ranked-requires c =
    let b = c.other.inside in
    let i = c.other.invariant in
    (i.0, front_is_low b.level b.bits i.1 i.2, below_32 b.level i.1)

pub returns : goal.returns
returns c =
    let a = c.self.inside in
    let b = c.other.inside in
    let i = c.self.invariant in
    let j = c.other.invariant in
    c.cmp.ensures
    ∙ (λ k. nat_cmp (c.ranked-rank.ensures k) (c.ranked.ensures k))
    ∙ ranked_cmp a.root (shifted a.level a.bits) a.level b.root (shifted b.level b.bits) b.level (front_is_low a.level a.bits i.1 i.2) (front_is_low b.level b.bits j.1 j.2) (below_32 a.level i.1) (below_32 b.level j.1)
    ∙ name_by_front a.root a.level a.bits b.root b.level b.bits i.1 i.2 j.1 j.2
    ∙ (λ k. name_cmp (c.self.view_is k) (c.other.view_is k))
