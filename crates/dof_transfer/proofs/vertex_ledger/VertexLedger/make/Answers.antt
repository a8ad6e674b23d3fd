use Rattle.std.proofs.Common.{◌≡◌, ◌^◌, ◌≤◌, ℤ, ap, ◌∙◌, sym, subst, arith, rules, w64}
use Rattle.std.specs.Prelude.{◌+ℤ◌, nat_abs}
use Rattle.std.proofs.lemmas.Int.{to_z-of_z}
use Rattle.mesh_names.specs.Triangles.{Triangle}
use Rattle.mesh_names.specs.declared.patch.VertexKey.TheVariants.{Macro}
use Rattle.compat_check.specs.Corners.{key_at}
use Rattle.dof_transfer.specs.Held.{Held, taken}
use Rattle.dof_transfer.specs.Exchanges.{floor_half}
use Rattle.dof_transfer.specs.Ledgers.{held_of}
use Rattle.dof_transfer.specs.VertexLedgers.{vertices_of}
use Rattle.dof_transfer.specs.VertexValues.{AreSmall, IsVertexSound, VertexHeld, worth}
use Rattle.dof_transfer.proofs.Exchanging.{get_or-other}
use Rattle.dof_transfer.proofs.VertexKept.{mean-small, small-taken, sound-vertex-taken, worth-small}
use Rattle.dof_transfer.proofs.vertex_ledger.VertexLedger.make.Goals as goal

abbrev value : (c : goal.After-take) → ℤ
value c = let old : VertexHeld = vertices_of c.args.self.now in floor_half (worth old (key_at c.corners.result 0) +ℤ worth old (key_at c.corners.result 1))

step : (c : goal.After-take) → held_of c.take.new.self ≡ taken (held_of c.args.self.now.ledger) c.args.patch.now.first (value c)
step c =
    let old : VertexHeld = vertices_of c.args.self.now in
    let a = to_z-of_z w64 c.worth.result (search rules) ∙ c.worth.ensures.worth ∙ ap (worth old) (get_or-other c.corners.result 0 c.index-corners-0.result (Macro 0) (omega arith)) in
    let b = to_z-of_z w64 c.worth-2.result (search rules) ∙ c.worth-2.ensures.worth ∙ ap (worth old) (get_or-other c.corners.result 1 c.index-corners-1.result (Macro 0) (omega arith)) in
    let mean = to_z-of_z w64 c.mean-value.result (search rules) ∙ c.mean-value.ensures ∙ (λ i. floor_half (a i +ℤ b i)) in
    c.take.ensures.held ∙ ap (taken (held_of c.args.self.now.ledger) c.args.patch.now.first) mean

pub returns-clause-made : goal.returns-clause-made
returns-clause-made c = record {
  first = key_at c.corners.result 0;
  second = key_at c.corners.result 1;
  first_is = record { only = c.corners.ensures.keys_are 0 (omega arith); of_mesh = c.corners.ensures.of_mesh 0 (omega arith); is = ap (λ (t : Triangle). t.0) c.corners.ensures.stand };
  second_is = record { only = c.corners.ensures.keys_are 1 (omega arith); of_mesh = c.corners.ensures.of_mesh 1 (omega arith); is = ap (λ (t : Triangle). t.1) c.corners.ensures.stand };
  is = ap {B = VertexHeld} (λ (p : Held). record { macros = c.args.self.now.macros.items; patches = p }) (step c);
}

pub returns-clause-sound : goal.returns-clause-sound
returns-clause-sound c = subst (λ (p : Held). IsVertexSound (record { macros = c.args.self.now.macros.items; patches = p })) (sym (step c)) (sound-vertex-taken (vertices_of c.args.self.now) c.args.patch.now.first (value c) c.requires.sound)

pub returns-clause-small : goal.returns-clause-small
returns-clause-small c =
    let old : VertexHeld = vertices_of c.args.self.now in
    let own : nat_abs (value c) ≤ 2 ^ 31 = mean-small (worth old (key_at c.corners.result 0)) (worth old (key_at c.corners.result 1)) (worth-small old (key_at c.corners.result 0) c.requires.small) (worth-small old (key_at c.corners.result 1) c.requires.small) in
    subst (λ (p : Held). AreSmall (record { macros = c.args.self.now.macros.items; patches = p })) (sym (step c)) (small-taken old c.args.patch.now.first (value c) c.requires.small own)
