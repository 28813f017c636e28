use Rattle.std.proofs.Common.{◌∙◌}
use Rattle.value_scopes.proofs.Stacking.{as_many}
use Rattle.value_scopes.proofs.stack.NameStack.len.Goals as goal

pub returns : goal.returns
returns g c = c.len.ensures ∙ as_many c.self.inside.names c.self.inside.items.items c.args.self.now c.self.invariant c.self.view_is
