use Rattle.std.proofs.Common.{reverse, ap, ◌∙◌}
use Rattle.core_scopes.proofs.Nearest.{cut}
use Rattle.core_scopes.proofs.stack.Stack.truncate.Goals as goal

pub returns : goal.returns
returns g c = λ more before is at. ap reverse c.truncate.ensures.items ∙ cut c.self.inside.list.items more before c.args.len (c.self.view_is ∙ is) at
