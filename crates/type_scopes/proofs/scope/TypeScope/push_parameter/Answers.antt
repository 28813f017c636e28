use Rattle.type_scopes.specs.declared.scope.Declared.TheVariants as declared
use Rattle.type_scopes.proofs.Scoping.{seen_more, fit_parameter}
use Rattle.type_scopes.proofs.scope.TypeScope.push_parameter.Goals as goal

pub invariant_of-self-in-Ok : goal.invariant_of-self-in-Ok
invariant_of-self-in-Ok c =
    rw (c.in-Ok.ensures.names, c.in-Ok.ensures.declared, c.in_ok-push.ensures.items)
    (fit_parameter c.self.inside.names c.self.inside.declared.items c.self.inside.parameters.items c.args.name.now c.args.at c.self.invariant)

pub returns-in-Ok-clause-seen : goal.returns-in-Ok-clause-seen
returns-in-Ok-clause-seen c =
    seen_more c.self.inside.names c.push_both.new.names c.self.inside.declared.items c.push_both.new.declared.items c.self.inside.parameters.items c.args.self.now c.args.name.now (declared.Parameter c.args.at) c.self.view_is
    c.self.invariant c.in-Ok.ensures.names c.in-Ok.ensures.declared
