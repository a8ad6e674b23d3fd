use Rattle.std.proofs.Common.{[], refl, sym, ap, subst, inl, ◌==◌}
use Rattle.table_words.specs.NameWords.{name_code}
use Rattle.mesh_table.specs.Sights.{Sight, setup_at}
use Rattle.mesh_table.specs.Told.{sight}
use Rattle.patch_walk.specs.Finished.{StillKnows}
use Rattle.patch_claims.specs.Retired.{AreRetired, IsRetired}
use Rattle.patch_claims.proofs.Leaving.{retiring_keeps, members_open, retired_if, retired_more}
use Rattle.patch_claims.proofs.retire.retire_found.Goals as goal

pub returns-clause-keeps : goal.returns-clause-keeps
returns-clause-keeps g c = subst (StillKnows (sight c.args.pass.now)) (sym c.retire_block-old.ensures.view)
    (retiring_keeps (setup_at c.args.table.now.site) c.args.block (name_code c.args.first) c.retire_block-old.result (sight c.args.pass.now))

pub returns-clause-retired : goal.returns-clause-retired
returns-clause-retired g c =
    let s = setup_at c.args.table.now.site in
    let v = sight c.args.pass.now in
    let b = c.args.block in
    let k = name_code c.args.first in
    let n = c.retire_block-old.result in
    let m = members_open k (s.mate k) v.work.open_ in
    subst (λ (a : Sight). IsRetired s v a k (n == 0)) (sym c.retire_block-old.ensures.view)
    (b, n, inl refl, ([], refl), refl, (λ d. retired_if (n == 0) b v.work.retired d), m.0, m.1)

pub returns-clause-listed : goal.returns-clause-listed
returns-clause-listed g c =
    let v = sight c.args.pass.now in
    let n = c.retire_block-old.result in
    subst (λ (a : Sight). AreRetired a c.list_if.new.retired.items) (sym c.retire_block-old.ensures.view)
    (retired_more (n == 0) c.args.block c.args.retired.now.items c.list_if.new.retired.items v.work.retired c.requires.listed c.list_if.ensures.more c.list_if.ensures.same)
