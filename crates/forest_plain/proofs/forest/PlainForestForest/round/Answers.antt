use Rattle.std.proofs.Common.{List, arith, subst, sym, ap, ◌∙◌, refl}
use Rattle.std.specs.Prelude.{All}
use Rattle.mesh_names.specs.Names.{Name}
use Rattle.mesh_names.specs.Forests.{IsListOf}
use Rattle.compat_check.specs.Meshes.{across_in, shape_of}
use Rattle.mesh_names.specs.declared.rows.MarkRow.{MarkRow}
use Rattle.mesh_names.specs.Coarsening.{marked_by}
use Rattle.forest_plain.specs.Deltas.{new_owners, patches_below, patches_down}
use Rattle.forest_plain.specs.Refined.{IsReady}
use Rattle.forest_plain.specs.Rounds.{IsFine}
use Rattle.forest_plain.proofs.Readiness.{reached_first, coarsened_stands}
use Rattle.forest_plain.proofs.Refining.{member_in, members_in}
use Rattle.forest_plain.proofs.Running.{unlimited}
use Rattle.forest_plain.proofs.forest.PlainForestForest.round.Goals as goal

pub returns-then-needed-self-clause-refused : goal.returns-then-needed-self-clause-refused
returns-then-needed-self-clause-refused c =
    let same = c.deref.ensures.value in
    let shape = shape_of c.args.self.now.mesh.now in
    let sides = across_in c.args.self.now.mesh.now in
    let old = c.args.self.now.members in
    let ready = subst (λ (rows : List MarkRow). IsReady shape sides old rows c.in_ok-refined.refined) same c.in_ok-refined.ensures.ready in (
      unlimited,
      (
        c.count_patches-needed.result,
        record {
          fine = subst (λ (rows : List MarkRow). All (IsFine shape old) rows) same c.in_ok-refined.ensures.fine;
          refined = c.in_ok-refined.refined.members;
          is_refined = ready.refined;
          count = c.count_patches-needed.ensures;
        },
        omega (arith, c.if-needed-self.true),
        c.min.ensures,
        refl,
        refl,
      ),
    )

pub count_patches-needed-requires : goal.count_patches-needed-requires
count_patches-needed-requires c = member_in (shape_of c.args.self.now.mesh.now) c.in_ok-refined.refined.members c.in_ok-refined.ensures.ready.refined.least.forest

pub born_patches-requires : goal.born_patches-requires
born_patches-requires c = members_in (shape_of c.args.self.now.mesh.now) c.in_ok-refined.refined.members c.deref-2.result.now c.in_ok-refined.ensures.ready.refined.least.forest (subst (λ (l : List Name). IsListOf c.in_ok-refined.refined.members l) (sym c.deref-2.ensures.value) c.in_ok-names.ensures)

pub died_patches-requires : goal.died_patches-requires
died_patches-requires c = members_in (shape_of c.args.self.now.mesh.now) c.in_ok-refined.refined.members c.deref-3.result.now c.in_ok-refined.ensures.ready.refined.least.forest (subst (λ (l : List Name). IsListOf c.in_ok-refined.refined.members l) (sym c.deref-3.ensures.value) c.in_ok-names.ensures)

pub returns-clause-ok : goal.returns-clause-ok
returns-clause-ok c =
    let same = c.deref.ensures.value in
    let shape = shape_of c.args.self.now.mesh.now in
    let sides = across_in c.args.self.now.mesh.now in
    let old = c.args.self.now.members in
    let rows = c.args.marks.now.rows.items in
    let refined = c.in_ok-refined.refined in
    let ready = subst (λ (rows : List MarkRow). IsReady shape sides old rows refined) same c.in_ok-refined.ensures.ready in
    let room = c.count_patches-needed.ensures in
    record {
      left = unlimited;
      round = record {
        round = record {
          fine = subst (λ (rows : List MarkRow). All (IsFine shape old) rows) same c.in_ok-refined.ensures.fine;
          refined = refined.members;
          is_refined = ready.refined;
          fits = omega (arith, room, c.if-needed-self.false);
          coarsened = c.in_ok-coarsened.ensures (marked_by shape old rows refined.members) (reached_first shape sides c.element_count-checked.ensures.tells old rows refined ready);
        };
        born = record {
          list = c.in_ok-names.names.items;
          is_list = c.in_ok-names.ensures;
          are = c.in_ok-born.ensures ∙ ap (λ (l : List Name). patches_below shape sides 24 (new_owners sides old l)) c.deref-2.ensures.value;
        };
        died = record {
          list = c.in_ok-names.names.items;
          is_list = c.in_ok-names.ensures;
          are = c.in_ok-died.ensures ∙ ap (λ (l : List Name). patches_down shape sides 24 (new_owners sides c.in_ok-coarsened.coarsened l)) c.deref-3.ensures.value;
        };
      };
      fewer = refl;
      closed = refl;
      rest = record { pool = refl; made_for = refl; mesh = refl; sides = refl };
    }

pub invariant_of-self : goal.invariant_of-self
invariant_of-self c =
    let same = c.deref.ensures.value in
    let shape = shape_of c.args.self.now.mesh.now in
    let sides = across_in c.args.self.now.mesh.now in
    let old = c.args.self.now.members in
    let rows = c.args.marks.now.rows.items in
    let refined = c.in_ok-refined.refined in
    let tells = c.element_count-checked.ensures.tells in
    let ready = subst (λ (rows : List MarkRow). IsReady shape sides old rows refined) same c.in_ok-refined.ensures.ready in
    let room = c.count_patches-needed.ensures in
    record {
      stands = coarsened_stands shape sides tells old rows c.args.self.now.pool c.args.self.now.stands refined.members c.in_ok-coarsened.coarsened ready.refined (omega (arith, room, c.if-needed-self.false))
          (c.in_ok-coarsened.ensures (marked_by shape old rows refined.members) (reached_first shape sides tells old rows refined ready));
    }
