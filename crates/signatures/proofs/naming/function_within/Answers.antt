use Rattle.std.proofs.Common.{◌∙◌, List, Ok, Err, ap, map}
use Rattle.typing_rules.specs.TypeScopes.{names_of, places_of}
use Rattle.abstract_types.specs.declared.types.TypeParameter.{TypeParameter}
use Rattle.abstract_types.specs.PatternView.{plain_signature}
use Rattle.abstract_types.specs.TypeView.{named, parameter}
use Rattle.type_scopes.specs.Scopes.{seen}
use Rattle.proper_types.specs.Rules.{as_term, as_terms, done}
use Rattle.typed_patterns.proofs.Joining.{handed_on}
use Rattle.signatures.specs.Naming.{function_within, no_more}
use Rattle.signatures.proofs.Signed.{generics_there, parameters_there, within_later, function_named, generics_not, parameters_not, result_not}
use Rattle.signatures.proofs.naming.function_within.Goals as goal

pub returns-in_err-generics : goal.returns-in_err-generics
returns-in_err-generics c =
    handed_on (function_within (seen c.args.scope.now) (named c.args.name.now) (plain_signature c.args.signature.now)) c.args.types.now c.generics.new.types c.generics.new.sharing c.args.names.now c.args.names.now no_more c.in_err-generics.field-0.0 c.from_residual.result c.from_residual.ensures
    (generics_not (seen c.args.scope.now) (named c.args.name.now) (plain_signature c.args.signature.now) c.args.types.now c.generics.new.types c.generics.new.sharing c.generics.new.sharing c.args.names.now c.args.names.now done no_more c.in_err-generics.field-0.0 (generics_there (seen c.args.scope.now) c.as_slice.result.now c.args.signature.now.generics c.args.types.now c.generics.new.types c.generics.new.sharing (Err c.in_err-generics.field-0.0) c.as_slice.ensures c.in_err-generics.ensures))

pub returns-in_err-parameters : goal.returns-in_err-parameters
returns-in_err-parameters c =
    handed_on (function_within (seen c.args.scope.now) (named c.args.name.now) (plain_signature c.args.signature.now)) c.args.types.now c.parameter_types.new.types c.parameter_types.new.sharing c.args.names.now c.args.names.now no_more c.in_err-parameters.field-0.0 c.from_residual-in_err-parameters.result c.from_residual-in_err-parameters.ensures
    (parameters_not (seen c.args.scope.now) (named c.args.name.now) (plain_signature c.args.signature.now) c.args.types.now c.generics.new.types c.generics.new.sharing (generics_there (seen c.args.scope.now) c.as_slice.result.now c.args.signature.now.generics c.args.types.now c.generics.new.types c.generics.new.sharing (Ok tt) c.as_slice.ensures c.in_ok-generics.ensures) c.parameter_types.new.types c.parameter_types.new.sharing c.parameter_types.new.sharing c.args.names.now c.args.names.now as_terms no_more c.in_err-parameters.field-0.0 (parameters_there (seen c.args.scope.now) c.as_slice-2.result.now c.args.signature.now.parameters c.generics.new.types c.parameter_types.new.types c.parameter_types.new.sharing (Err c.in_err-parameters.field-0.0) c.as_slice-2.ensures c.in_err-parameters.ensures.judged))

pub returns-in_err-of : goal.returns-in_err-of
returns-in_err-of c =
    handed_on (function_within (seen c.args.scope.now) (named c.args.name.now) (plain_signature c.args.signature.now)) c.args.types.now c.result_of.new.types c.result_of.new.sharing c.args.names.now c.args.names.now no_more c.in_err-of.field-0.0 c.from_residual-in_err-of.result c.from_residual-in_err-of.ensures
    (result_not (seen c.args.scope.now) (named c.args.name.now) (plain_signature c.args.signature.now) c.args.types.now c.generics.new.types c.generics.new.sharing (generics_there (seen c.args.scope.now) c.as_slice.result.now c.args.signature.now.generics c.args.types.now c.generics.new.types c.generics.new.sharing (Ok tt) c.as_slice.ensures c.in_ok-generics.ensures) c.parameter_types.new.types c.parameter_types.new.sharing c.in_ok-parameters.parameters (parameters_there (seen c.args.scope.now) c.as_slice-2.result.now c.args.signature.now.parameters c.generics.new.types c.parameter_types.new.types c.parameter_types.new.sharing (Ok c.in_ok-parameters.parameters) c.as_slice-2.ensures c.in_ok-parameters.ensures.judged) c.result_of.new.types c.result_of.new.sharing c.result_of.new.sharing c.args.names.now c.args.names.now as_term no_more c.in_err-of.field-0.0 c.in_err-of.ensures.judged)

pub bind_function-requires-clause-parameters : goal.bind_function-requires-clause-parameters
bind_function-requires-clause-parameters c = within_later c.parameter_types.new.types c.result_of.new.types c.in_ok-parameters.parameters c.in_ok-parameters.ensures.judged.ready.kept c.in_ok-of.ensures.judged.goes c.in_ok-parameters.ensures.reached

pub returns : goal.returns
returns c =
    function_named (seen c.args.scope.now) (named c.args.name.now) (plain_signature c.args.signature.now) c.args.types.now c.generics.new.types c.generics.new.sharing (generics_there (seen c.args.scope.now) c.as_slice.result.now c.args.signature.now.generics c.args.types.now c.generics.new.types c.generics.new.sharing (Ok tt) c.as_slice.ensures c.in_ok-generics.ensures) c.parameter_types.new.types c.parameter_types.new.sharing c.in_ok-parameters.parameters (parameters_there (seen c.args.scope.now) c.as_slice-2.result.now c.args.signature.now.parameters c.generics.new.types c.parameter_types.new.types c.parameter_types.new.sharing (Ok c.in_ok-parameters.parameters) c.as_slice-2.ensures c.in_ok-parameters.ensures.judged) c.result_of.new.types c.bind_function.new.types c.result_of.new.sharing c.result_of.new.sharing c.args.names.now c.bind_function.new.names c.in_ok-of.of c.in_ok-places.places no_more c.bind_function.result c.in_ok-of.ensures.judged (c.in_ok-places.ensures ∙ ap (λ (gs : List TypeParameter). places_of (names_of (map parameter gs))) c.as_slice-3.ensures) c.bind_function.ensures
