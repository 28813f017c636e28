use Rattle.abstract_types.specs.TypeView.{annotation}
use Rattle.typing_rules.specs.Signatures.{async_term, method_sort}
use Rattle.type_scopes.specs.Scopes.{seen}
use Rattle.declared_types.proofs.Signed.{still_within}
use Rattle.object_types.proofs.Adding.{method_made}
use Rattle.object_types.proofs.members.method_type.Goals as goal

pub shared-requires-clause-parameters : goal.shared-requires-clause-parameters
shared-requires-clause-parameters c = still_within c.args.types.now c.parameter_terms.new.types c.async_term.new.types _ _ c.in_ok-parameters.parameters c.in_ok-of.of c.in_ok-parameters.ensures c.in_ok-of.ensures

pub returns-in-Ok : goal.returns-in-Ok
returns-in-Ok c = method_made (seen c.args.scope.now) c.args.signature.now c.as_slice.result.now c.as_slice.ensures c.args.types.now c.parameter_terms.new.types c.async_term.new.types c.shared.new.types
    c.method_sort-sort.result (method_sort c.args.query) (async_term (seen c.args.scope.now) (annotation c.args.signature.now.result)) c.in_ok-parameters.parameters c.in_ok-of.of c.in-Ok.id c.method_sort-sort.ensures c.in_ok-parameters.ensures c.in_ok-of.ensures c.in-Ok.ensures
