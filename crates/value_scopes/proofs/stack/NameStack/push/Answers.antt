use Rattle.value_scopes.proofs.Stacking.{pushed}
use Rattle.value_scopes.proofs.stack.NameStack.push.Goals as goal

pub returns-in-Ok-clause-ok : goal.returns-in-Ok-clause-ok
returns-in-Ok-clause-ok g c = pushed c.self.inside.names c.push-2.new.self c.self.inside.items.items c.push.new.self.items c.args.self.now c.args.name.now c.args.item c.self.view_is c.self.invariant c.in-Ok.ensures.ok c.in_ok-push.ensures.items
