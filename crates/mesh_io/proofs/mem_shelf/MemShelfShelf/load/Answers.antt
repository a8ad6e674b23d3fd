use Rattle.std.proofs.Common.{◌≡◌, ◌∙◌, true, false, map, ap, rules}
use Rattle.mesh_io.specs.Faults.{fails_next}
use Rattle.mesh_io.specs.Shelves.{MemFiles, entry_of}
use Rattle.mesh_io.proofs.Finding.{lacks}
use Rattle.mesh_io.proofs.Planned.{failed_call, stays_over, over_fails_not}
use Rattle.mesh_io.proofs.mem_shelf.MemShelfShelf.load.Goals as goal

pub returns-in_default-clause-loads : goal.returns-in_default-clause-loads
returns-in_default-clause-loads c =
    let plan = ap (λ (s : MemFiles). s.plan) c.self.view_is in
    let failed : c.is_none.result ≡ true = search rules in
    let faults = failed_call c.args.self.now.plan c.self.inside.plan c.count_call.new.self c.is_none.result plan c.count_call.ensures.counted failed c.count_call.ensures.fits in
    record {
      never_falls = faults.0;
      bytes = tt;
      cause = (
        faults.1,
        λ over. let runs : c.fails_next.result ≡ false = c.fails_next.ensures ∙ ap fails_next plan ∙ over_fails_not c.args.self.now.plan over in
            lacks c.find_unless-found.result c.fails_next.result (map entry_of c.deref.result.now) c.args.self.now.entries c.args.name.now c.find_unless-found.ensures c.in_default.is runs (ap (map entry_of) c.deref.ensures.value ∙ ap (λ (s : MemFiles). s.entries) c.self.view_is),
      );
    }

pub returns-in_default-clause-stays : goal.returns-in_default-clause-stays
returns-in_default-clause-stays c = stays_over c.args.self.now.plan c.self.inside.plan c.count_call.new.self c.is_none.result (ap (λ (s : MemFiles). s.plan) c.self.view_is) c.count_call.ensures.counted

pub returns-clause-stays : goal.returns-clause-stays
returns-clause-stays c = stays_over c.args.self.now.plan c.self.inside.plan c.count_call.new.self c.is_none.result (ap (λ (s : MemFiles). s.plan) c.self.view_is) c.count_call.ensures.counted
