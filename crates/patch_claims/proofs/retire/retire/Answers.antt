use Rattle.std.proofs.Common.{◌≡◌, ℕ, List, ◌∷◌, ◌++◌, sym, ap, ◌∙◌, subst, inl}
use Rattle.compat_check.specs.Meshes.{shape_of, across_in}
use Rattle.compat_check.specs.declared.mesh.MacroMesh.{MacroMesh}
use Rattle.mesh_names.specs.Partners.{Tells}
use Rattle.table_words.specs.Entries.{HasEntry}
use Rattle.table_words.specs.NameWords.{name_code}
use Rattle.table_words.specs.Views.{Plan}
use Rattle.mesh_table.specs.Saw.{Saw, SawHad}
use Rattle.mesh_table.specs.Sights.{Sight, setup_at}
use Rattle.mesh_table.specs.Told.{sight}
use Rattle.patch_walk.specs.Finished.{StillKnows}
use Rattle.patch_walk.proofs.Climbing.{later_more, later_one}
use Rattle.patch_claims.proofs.Deeper.{deeper_after, first_old, list_old_on, list_whole_on, retired_after, second_old}
use Rattle.patch_claims.proofs.Leaving.{still_more, old_on, none_above}
use Rattle.patch_claims.proofs.Whole.{second_inner, first_leads, first_mate}
use Rattle.patch_claims.proofs.retire.retire.Goals as goal

pub returns-in_default-clause-retired : goal.returns-in_default-clause-retired
returns-in_default-clause-retired g c =
    let v = sight c.stand_finished.new.pass in
    absurd (none_above c.args.table.now.site v c.look_told.ensures.closed c.args.patch.first c.requires.inner.0 c.requires.inner.1 c.look_told.ensures.present
    (old_on (sight c.args.pass.now) v c.stand_finished.ensures.keeps (name_code c.args.patch.first) (c.requires.old (name_code c.args.patch.first) (name_code c.args.patch.first, c.requires.aimed, inl (λ i. name_code c.args.patch.first)))) c.in_default.ensures.none)

pub returns-in_default-visit_finished-clause-retired : goal.returns-in_default-visit_finished-clause-retired
returns-in_default-visit_finished-clause-retired g c =
    let k = name_code c.args.patch.first in
    let keeps = still_more c.stand_finished.ensures.keeps c.visit_finished.ensures.keeps in
    absurd (c.look_told-in_default-visit_finished.ensures.present k (old_on (sight c.args.pass.now) (sight c.visit_finished.new.pass) keeps k (c.requires.old k (k, c.requires.aimed, inl (λ i. k)))) c.in_default-visit_finished.ensures.none)

pub open_patch-requires-clause-second : goal.open_patch-requires-clause-second
open_patch-requires-clause-second g c = second_inner (shape_of c.args.table.now.site.mesh.now) (across_in c.args.table.now.site.mesh.now) (subst (λ (m : MacroMesh). Tells (shape_of m) (across_in m)) c.mesh.ensures c.element_count-count.ensures.tells) c.args.patch c.requires.inner c.requires.patch

pub open_patch-requires-clause-leads : goal.open_patch-requires-clause-leads
open_patch-requires-clause-leads g c = first_leads c.args.table.now.site (subst (λ (m : MacroMesh). Tells (shape_of m) (across_in m)) c.mesh.ensures c.element_count-count.ensures.tells) c.args.patch c.requires.inner c.requires.patch

pub open_patch-requires-clause-mate : goal.open_patch-requires-clause-mate
open_patch-requires-clause-mate g c = first_mate c.args.table.now.site (subst (λ (m : MacroMesh). Tells (shape_of m) (across_in m)) c.mesh.ensures c.element_count-count.ensures.tells) c.args.patch c.requires.inner c.requires.patch

pub open_patch-requires-clause-old : goal.open_patch-requires-clause-old
open_patch-requires-clause-old g c =
    let s = setup_at c.args.table.now.site in
    let u = sight c.args.pass.now in
    let v = sight c.visit_finished.new.pass in
    let k : StillKnows u v = still_more c.stand_finished.ensures.keeps c.visit_finished.ensures.keeps in
    let old = list_old_on s u v k c.requires.old in
    let whole = list_whole_on s u v k c.requires.whole in
    let aimed = subst (λ (p : Plan). HasEntry p.retire (name_code c.args.patch.first)) (sym k.plan) c.requires.aimed in (
      first_old s v old whole (name_code c.args.patch.first) aimed,
      second_old s v old whole (name_code c.args.patch.first) aimed c.args.patch.second (first_mate c.args.table.now.site (subst (λ (m : MacroMesh). Tells (shape_of m) (across_in m)) c.mesh.ensures c.element_count-count.ensures.tells) c.args.patch c.requires.inner c.requires.patch),
    )

pub returns-in-Err-clause-deeper : goal.returns-in-Err-clause-deeper
returns-in-Err-clause-deeper g c =
    let k = name_code c.args.patch.first in
    let l = later_one (sight c.args.pass.now) (sight c.stand_finished.new.pass) (sight c.visit_finished.new.pass) (SawHad k) c.stand_finished.ensures.saw c.in-Some-visit_finished.ensures.saw in (
      deeper_after (sight c.args.pass.now) (sight c.visit_finished.new.pass) (sight c.open_patch.new.pass) l (still_more c.stand_finished.ensures.keeps c.visit_finished.ensures.keeps) (setup_at c.args.table.now.site) k c.in-Err.refusal c.in-Err.ensures.deeper,
      (c.open_patch.ensures.idle.0 ∙ c.visit_finished.ensures.idle.0 ∙ c.stand_finished.ensures.idle.0, c.open_patch.ensures.idle.1 ∙ c.visit_finished.ensures.idle.1 ∙ c.stand_finished.ensures.idle.1),
    )

pub retire_found-done-requires-clause-may : goal.retire_found-done-requires-clause-may
retire_found-done-requires-clause-may g c =
    let k : StillKnows (sight c.args.pass.now) (sight c.open_patch.new.pass) = still_more (still_more c.stand_finished.ensures.keeps c.visit_finished.ensures.keeps) c.open_patch.ensures.keeps in
    record {
      works = (k.kind ∙ c.requires.works.0, k.half ∙ c.requires.works.1);
      leads = first_leads c.args.table.now.site (subst (λ (m : MacroMesh). Tells (shape_of m) (across_in m)) c.mesh.ensures c.element_count-count.ensures.tells) c.args.patch c.requires.inner c.requires.patch;
      listed = subst (λ (p : Plan). HasEntry p.retire (name_code c.args.patch.first)) (sym k.plan) c.requires.aimed;
      had = c.open_patch.ensures.keeps.had _ c.in-Some-visit_finished.ensures.some.1.0;
      first = c.in-Ok.ensures.first;
      second = c.in-Ok.ensures.second;
    }

pub returns-clause-keeps : goal.returns-clause-keeps
returns-clause-keeps g c = still_more (still_more (still_more c.stand_finished.ensures.keeps c.visit_finished.ensures.keeps) c.open_patch.ensures.keeps) c.retire_found-done.ensures.keeps

pub returns-clause-retired : goal.returns-clause-retired
returns-clause-retired g c =
    let k = name_code c.args.patch.first in
    let l = later_one (sight c.args.pass.now) (sight c.stand_finished.new.pass) (sight c.visit_finished.new.pass) (SawHad k) c.stand_finished.ensures.saw c.in-Some-visit_finished.ensures.saw in
    retired_after (sight c.args.pass.now) (sight c.open_patch.new.pass) (sight c.retire_found-done.new.pass) (later_more (sight c.args.pass.now) (sight c.visit_finished.new.pass) (sight c.open_patch.new.pass) l c.open_patch.ensures.saw)
    (setup_at c.args.table.now.site) k c.retire_found-done.result c.retire_found-done.ensures.retired
