use Rattle.std.proofs.Common.{◌∙◌}
use Rattle.type_scopes.proofs.Scoping.{seen_parameters}
use Rattle.type_scopes.proofs.scope.TypeScope.parameters.Goals as goal

pub returns : goal.returns
returns c = c.as_slice.ensures.value ∙ seen_parameters c.self.inside.names c.self.inside.declared.items c.self.inside.parameters.items c.args.self.now c.self.view_is c.self.invariant
