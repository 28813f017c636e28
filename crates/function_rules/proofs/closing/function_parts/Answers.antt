use Rattle.std.proofs.Common.{Err, Ok, map}
use Rattle.type_definitions.proofs.Meanings.{within_on}
use Rattle.abstract_types.specs.PatternView.{plain as plain_pattern}
use Rattle.abstract_types.specs.TypeView.{annotation}
use Rattle.abstract_tree.specs.TreeView.{plain}
use Rattle.function_rules.proofs.Enclosed.{binds_there, function_given, function_ready, no_parameters, no_rest}
use Rattle.function_rules.proofs.closing.function_parts.Goals as goal

pub close-requires-clause-sound : goal.close-requires-clause-sound
close-requires-clause-sound g c = (c.in_ok-taken.ensures.ready c.args.layer.now.site c.requires.ready).sound

pub close-requires-clause-within : goal.close-requires-clause-within
close-requires-clause-within g c = within_on c.args.checker.now.types.forms c.parameters.new.checker.types.forms c.args.other c.in_ok-taken.ensures.binds.answer.outcome.goes.forms c.requires.within

pub returns-in_err-taken-clause-answer : goal.returns-in_err-taken-clause-answer
returns-in_err-taken-clause-answer g c =
    no_parameters c.args.layer.now.site.place (map plain_pattern c.args.signature.now.parameters) c.args.wanted.now (annotation c.args.signature.now.result) c.args.other (plain c.args.body.now) c.args.scopes.now c.parameters.new.scopes c.parameters.new.scopes c.args.checker.now c.parameters.new.checker c.in_err-taken.field-0.0 c.from_residual.result c.from_residual.ensures
    (binds_there c.as_slice.result.now c.args.signature.now.parameters c.args.wanted.now c.args.scopes.now c.parameters.new.scopes c.args.checker.now c.parameters.new.checker (Err c.in_err-taken.field-0.0) c.as_slice.ensures c.in_err-taken.ensures.binds)

pub returns-in_err-closed-clause-answer : goal.returns-in_err-closed-clause-answer
returns-in_err-closed-clause-answer g c =
    no_rest c.args.layer.now.site.place (map plain_pattern c.args.signature.now.parameters) c.args.wanted.now (annotation c.args.signature.now.result) c.args.other (plain c.args.body.now) c.args.scopes.now c.parameters.new.scopes c.args.checker.now c.parameters.new.checker c.in_ok-taken.taken
    (binds_there c.as_slice.result.now c.args.signature.now.parameters c.args.wanted.now c.args.scopes.now c.parameters.new.scopes c.args.checker.now c.parameters.new.checker (Ok c.in_ok-taken.taken) c.as_slice.ensures c.in_ok-taken.ensures.binds)
    c.close.new.scopes c.close.new.scopes c.close.new.checker c.in_err-closed.field-0.0 c.from_residual-in_err-closed.result c.from_residual-in_err-closed.ensures c.in_err-closed.ensures

pub returns-clause-answer : goal.returns-clause-answer
returns-clause-answer g c =
    function_given c.args.layer.now.site.place (map plain_pattern c.args.signature.now.parameters) c.args.wanted.now (annotation c.args.signature.now.result) c.args.other (plain c.args.body.now) c.args.scopes.now c.parameters.new.scopes c.args.checker.now c.parameters.new.checker c.in_ok-taken.taken
    (binds_there c.as_slice.result.now c.args.signature.now.parameters c.args.wanted.now c.args.scopes.now c.parameters.new.scopes c.args.checker.now c.parameters.new.checker (Ok c.in_ok-taken.taken) c.as_slice.ensures c.in_ok-taken.ensures.binds)
    c.close.new.scopes c.unbind.new.scopes c.close.new.checker c.in_ok-closed.closed c.len-count.result c.unbind.ensures c.len-count.ensures c.in_ok-closed.ensures c.in_ok-taken.ensures.reached

pub returns-clause-ready : goal.returns-clause-ready
returns-clause-ready g c =
    function_ready c.args.layer.now.site.place (map plain_pattern c.args.signature.now.parameters) c.args.wanted.now (annotation c.args.signature.now.result) c.args.other (plain c.args.body.now) c.args.scopes.now c.parameters.new.scopes c.args.checker.now c.parameters.new.checker c.in_ok-taken.taken
    (binds_there c.as_slice.result.now c.args.signature.now.parameters c.args.wanted.now c.args.scopes.now c.parameters.new.scopes c.args.checker.now c.parameters.new.checker (Ok c.in_ok-taken.taken) c.as_slice.ensures c.in_ok-taken.ensures.binds)
    c.close.new.scopes c.unbind.new.scopes c.close.new.checker c.in_ok-closed.closed c.len-count.result c.unbind.ensures c.len-count.ensures c.in_ok-closed.ensures c.args.layer.now.site c.requires.ready
