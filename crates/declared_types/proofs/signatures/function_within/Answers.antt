use Rattle.abstract_types.specs.TypeView.{annotation}
use Rattle.typing_rules.specs.Terms as t
use Rattle.typing_rules.specs.TypeScopes.{term_or}
use Rattle.type_scopes.specs.Scopes.{seen}
use Rattle.declared_types.proofs.Signed.{signed, still_within}
use Rattle.declared_types.proofs.signatures.function_within.Goals as goal

pub function-requires-clause-parameters : goal.function-requires-clause-parameters
function-requires-clause-parameters c = still_within c.args.types.now c.parameter_terms.new.types c.term_or.new.types _ _ c.in_ok-parameters.parameters c.in_ok-of.of c.in_ok-parameters.ensures c.in_ok-of.ensures

pub returns-in-Ok : goal.returns-in-Ok
returns-in-Ok c = signed (seen c.args.scope.now) c.args.signature.now c.as_slice.result.now c.as_slice.ensures c.args.types.now c.parameter_terms.new.types c.term_or.new.types c.function.new.types
    (term_or (seen c.args.scope.now) (annotation c.args.signature.now.result) t.unit) c.in_ok-parameters.parameters c.in_ok-of.of c.in-Ok.id c.in_ok-parameters.ensures c.in_ok-of.ensures c.in-Ok.ensures
