use Rattle.std.proofs.Common.{◌≡◌, false}
use Rattle.std.proofs.lemmas.Result.{IfOk-weaker}
use Rattle.compat_check.specs.declared.refusal.CheckRefusal.TheVariants as fault
use Rattle.mesh_orient.specs.Orients.{Passes}
use Rattle.mesh_orient.proofs.SameTexts.{passes_same, refused_is}
use Rattle.mesh_orient.proofs.orienting.is_accepted.Goals as goal

pub returns-in-Ok-clause-accepted : goal.returns-in-Ok-clause-accepted
returns-in-Ok-clause-accepted c = λ _. passes_same c.in_ok-copy.copy c.args.text.now c.in_ok-copy.ensures.same c.in-Ok.ensures.faultless

pub returns-in-Err-clause-refused : goal.returns-in-Err-clause-refused
returns-in-Err-clause-refused c =
    let refusal = c.in-Err.refusal in
    IfOk-weaker c.no.result (λ answer. (answer ≡ false) × (refusal ≡ fault.Memory → ⊥)) (λ accepted. accepted ≡ false → Passes c.args.text.now → ⊥)
    (λ accepted h _. refused_is c.in_ok-copy.copy c.args.text.now c.in_ok-copy.ensures.same refusal c.in-Err.ensures.refused h.1) c.no.ensures
