use Rattle.std.proofs.Common.{◌∙◌, ap}
use Rattle.std.specs.FinMap.{contains_key}
use Rattle.name_tree.specs.Slots.{Slots, live_of}
use Rattle.name_tree.proofs.SlotsOfNodes.{keeps-slots, same-entries, slot-there}
use Rattle.name_tree.proofs.tree.NameTree.ready.Goals as goal

pub returns-in_err-make-clause-live : goal.returns-in_err-make-clause-live
returns-in_err-make-clause-live c = same-entries c.self.inside.nodes c.make.new.self c.in_err-make.ensures.same.live ∙ ap live_of c.self.view_is

pub returns-in_err-make-clause-kept : goal.returns-in_err-make-clause-kept
returns-in_err-make-clause-kept c = λ n there. keeps-slots c.self.inside.nodes c.make.new.self c.in_err-make.ensures.same n (ap (λ (s : Slots). contains_key s n) c.self.view_is ∙ there)

pub returns-clause-live : goal.returns-clause-live
returns-clause-live c = same-entries c.self.inside.nodes c.make.new.self c.in_ok-make.ensures.same.live ∙ ap live_of c.self.view_is

pub returns-clause-kept : goal.returns-clause-kept
returns-clause-kept c = λ n there. keeps-slots c.self.inside.nodes c.make.new.self c.in_ok-make.ensures.same n (ap (λ (s : Slots). contains_key s n) c.self.view_is ∙ there)

pub returns-clause-ready : goal.returns-clause-ready
returns-clause-ready c = slot-there c.make.new.self c.args.name c.in_ok-make.field-0 c.in_ok-make.ensures.low c.in_ok-make.ensures.at
