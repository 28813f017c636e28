use Rattle.std.proofs.Common.{◌≡◌, ◌∙◌, ap, subst, length, rules, List, [], ◌∷◌, ◌++◌}
use Rattle.type_scopes.specs.declared.scope.Declared.{Declared}
use Rattle.type_scopes.specs.declared.scope.Declared.TheVariants as declared
use Rattle.type_scopes.specs.Scopes.{Fit}
use Rattle.type_scopes.proofs.Scoping.{less_parameter, less_definition, without_last}
use Rattle.type_scopes.proofs.scope.TypeScope.pop.Goals as goal

pub invariant_of-self : goal.invariant_of-self
invariant_of-self c =
    let e : c.self.inside.declared.items ≡ c.pop.new.self.items ++ declared.Parameter c.in-Some-Parameter.field-0-0 ∷ [] =
    c.in-Some-Parameter.ensures.items ∙ ap (λ (d : Declared). c.pop.new.self.items ++ d ∷ []) c.in-Some-Parameter.field-0-is in
    let n : c.self.inside.parameters.len ≡ length c.self.inside.parameters.items = search rules in
    less_parameter c.self.inside.names c.pop-in-Some-Parameter-2.new.self c.pop.new.self.items c.self.inside.parameters.items c.in-Some-Parameter.field-0-0 c.pop-in-Some-Parameter.new.self.items
    (subst (λ (l : List Declared). Fit c.self.inside.names l c.self.inside.parameters.items) e c.self.invariant) c.pop-in-Some-Parameter-2.ensures
    (without_last c.pop-in-Some-Parameter.result c.self.inside.parameters.items c.pop-in-Some-Parameter.new.self.items c.self.inside.parameters.len c.pop-in-Some-Parameter.ensures.items c.pop-in-Some-Parameter.ensures.variant n)

pub invariant_of-self-in-Some-Definition : goal.invariant_of-self-in-Some-Definition
invariant_of-self-in-Some-Definition c =
    let e : c.self.inside.declared.items ≡ c.pop.new.self.items ++ declared.Definition c.in-Some-Definition.field-0-0 c.in-Some-Definition.field-0-1 c.in-Some-Definition.field-0-2 ∷ [] =
    c.in-Some-Definition.ensures.items ∙ ap (λ (d : Declared). c.pop.new.self.items ++ d ∷ []) c.in-Some-Definition.field-0-is in
    less_definition c.self.inside.names c.pop-in-Some-Definition.new.self c.pop.new.self.items c.self.inside.parameters.items c.in-Some-Definition.field-0-0 c.in-Some-Definition.field-0-1 c.in-Some-Definition.field-0-2
    (subst (λ (l : List Declared). Fit c.self.inside.names l c.self.inside.parameters.items) e c.self.invariant) c.pop-in-Some-Definition.ensures
