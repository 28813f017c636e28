use Rattle.std.proofs.Common.{ap, length, map, refl, ◌∙◌}
use Rattle.abstract_types.specs.TypeView.{named, type_node}
use Rattle.type_scopes.specs.Scopes.{seen}
use Rattle.declared_names.proofs.Entering.{taken_back}
use Rattle.gathered_types.proofs.Defining.{alias_found}
use Rattle.gathered_types.proofs.definitions.find_alias.Goals as goal

pub returns-clause-found : goal.returns-clause-found
returns-clause-found c = alias_found (seen c.args.scope.now) (seen c.push_names.new.scope) (map named c.args.parameters.now) (length c.parameters-outer.result.now) (seen c.push_names.new.scope).parameters c.in_ok-right.right c.in_ok-made.made
    (ap length c.parameters-outer.ensures) c.in_ok-push_names.ensures.seen refl c.in_ok-made.ensures
    c.args.types.now c.written.new.types (named c.args.name.now) (type_node c.args.node.now) c.args.found.now c.push_type.new.self c.in_ok-right.ensures c.in_ok-push_type.ensures

pub returns-clause-scope : goal.returns-clause-scope
returns-clause-scope c = c.truncate.ensures ∙ taken_back c.args.scope.now c.push_names.new.scope c.len-len.result c.len-len.ensures.names c.len-len.ensures.declared c.in_ok-push_names.ensures.extends
