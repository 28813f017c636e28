use Rattle.std.proofs.Common.{◌≡◌, ◌∙◌, ℕ, ap, length, rules, List}
use Rattle.type_scopes.specs.declared.scope.Declared.TheVariants as declared
use Rattle.type_scopes.proofs.Scoping.{seen_more, seen_parameters, both_more, fit_definition}
use Rattle.type_scopes.proofs.scope.TypeScope.push_definition.Goals as goal

pub invariant_of-self-2 : goal.invariant_of-self-2
invariant_of-self-2 c =
    let n : c.len-outer.result ≡ length c.self.inside.parameters.items = search rules in
    rw (c.in_ok-push_both.ensures.names, c.in_ok-push_both.ensures.declared)
    (fit_definition c.self.inside.names c.self.inside.declared.items c.self.inside.parameters.items c.args.name.now c.args.at c.len-outer.result c.args.own n c.self.invariant)

pub returns-clause-ok : goal.returns-clause-ok
returns-clause-ok c =
    let n : c.len-outer.result ≡ length c.self.inside.parameters.items = search rules in
    both_more c.self.inside.names c.push_both.new.names c.self.inside.declared.items c.push_both.new.declared.items c.args.self.now c.args.name.now (declared.Definition c.args.at c.len-outer.result c.args.own) _ c.self.view_is
    c.in_ok-push_both.ensures.names c.in_ok-push_both.ensures.declared
    (ap (λ (k : ℕ). declared.Definition c.args.at k c.args.own)
    (n ∙ ap (λ (l : List ℕ). length l) (seen_parameters c.self.inside.names c.self.inside.declared.items c.self.inside.parameters.items c.args.self.now c.self.view_is c.self.invariant)))

pub returns-clause-seen : goal.returns-clause-seen
returns-clause-seen c =
    seen_more c.self.inside.names c.push_both.new.names c.self.inside.declared.items c.push_both.new.declared.items c.self.inside.parameters.items c.args.self.now c.args.name.now
    (declared.Definition c.args.at c.len-outer.result c.args.own) c.self.view_is c.self.invariant c.in_ok-push_both.ensures.names c.in_ok-push_both.ensures.declared
