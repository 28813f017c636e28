use Rattle.std.proofs.Common.{Option, map, option_map, subst}
use Rattle.std.specs.Prelude.{IfSome}
use Rattle.abstract_types.specs.TypeView.{type_node}
use Rattle.abstract_tree.specs.TreeView.{plain}
use Rattle.met_types.specs.States.{State}
use Rattle.judging.specs.declared.checker.Checker.{Checker}
use Rattle.judging.specs.Views.{kind_reached, typed_in}
use Rattle.judging.proofs.Chains.{no_memory}
use Rattle.judging.proofs.Steps.{ready_on, sound_on}
use Rattle.application_rules.specs.declared.functions.Function.{Function}
use Rattle.application_rules.specs.Functions.{Standing}
use Rattle.application_rules.proofs.CallParts.{function_called, no_callee, no_function}
use Rattle.application_rules.proofs.calls.calling.Goals as goal

abbrev with_terms : Checker → State → Checker
with_terms k t = record k { types = t }

pub function_parts-requires-clause-kept : goal.function_parts-requires-clause-kept
function_parts-requires-clause-kept g c = c.in_ok-of.ensures.outcome.sound.known.kept

pub function_parts-requires-clause-reached : goal.function_parts-requires-clause-reached
function_parts-requires-clause-reached g c = c.in_ok-of.ensures.outcome.holds

pub called_with-requires-clause-ready : goal.called_with-requires-clause-ready
called_with-requires-clause-ready g c =
    let r = ready_on c.args.checker.now c.callee.new.checker c.args.scopes.now c.callee.new.scopes c.args.layer.now.site c.requires.ready c.in_ok-of.ensures.outcome.sound c.in_ok-of.ensures.outcome.goes in
    ready_on c.callee.new.checker (with_terms c.callee.new.checker c.function_parts.new.types) c.callee.new.scopes c.callee.new.scopes c.args.layer.now.site r
    (sound_on c.callee.new.checker c.callee.new.scopes c.function_parts.new.types c.in_ok-of.ensures.outcome.sound c.in_ok-function.ensures.kept c.in_ok-function.ensures.goes) c.in_ok-function.ensures.goes

pub called_with-requires-clause-standing : goal.called_with-requires-clause-standing
called_with-requires-clause-standing g c = subst (λ (o : Option Function). IfSome o (Standing c.function_parts.new.types.forms)) c.in-Some.is c.in_ok-function.ensures.within

pub returns-in_err-of : goal.returns-in_err-of
returns-in_err-of g c =
    no_callee c.args.layer.now.site (plain c.args.f.now) (option_map (map type_node) c.args.types.now) c.args.arguments.now c.args.scopes.now c.callee.new.scopes c.args.checker.now c.callee.new.checker c.in_err-of.field-0.0 c.from_residual.result
    c.from_residual.ensures c.in_err-of.ensures

pub returns-in_err-function : goal.returns-in_err-function
returns-in_err-function g c = no_memory typed_in kind_reached _ c.args.scopes.now _ c.args.checker.now _ c.from_residual-in_err-function.result c.from_residual-in_err-function.ensures

pub returns-in-Some : goal.returns-in-Some
returns-in-Some g c =
    function_called c.args.layer.now.site (plain c.args.f.now) (option_map (map type_node) c.args.types.now) c.args.arguments.now c.args.scopes.now c.callee.new.scopes c.args.checker.now c.callee.new.checker c.in_ok-of.of c.in_ok-of.ensures
    c.function_parts.new.types c.in_ok-function.field-0 c.in_ok-function.ensures c.in-Some.function c.in-Some.is c.called_with.new.scopes c.called_with.new.checker c.called_with.result c.called_with.ensures

pub returns-in-None : goal.returns-in-None
returns-in-None g c =
    no_function c.args.layer.now.site (plain c.args.f.now) (option_map (map type_node) c.args.types.now) c.args.arguments.now c.args.scopes.now c.callee.new.scopes c.args.checker.now c.callee.new.checker c.in_ok-of.of c.in_ok-of.ensures
    c.function_parts.new.types c.in_ok-function.field-0 c.in_ok-function.ensures c.in-None.is
