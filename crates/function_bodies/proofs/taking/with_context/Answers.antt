use Rattle.std.proofs.Common.{map, option_map}
use Rattle.type_definitions.proofs.Meanings.{within_on}
use Rattle.abstract_types.specs.PatternView.{plain as plain_pattern}
use Rattle.abstract_tree.specs.TreeView.{plain}
use Rattle.signatures.specs.Taking.{context_in}
use Rattle.signature_judging.specs.Rules.{context_of}
use Rattle.function_bodies.proofs.First.{sound_bound}
use Rattle.function_bodies.proofs.Enclosed.{bodied_given, no_bodied, no_context}
use Rattle.function_bodies.proofs.taking.with_context.Goals as goal

pub with_parameters-requires-clause-sound : goal.with_parameters-requires-clause-sound
with_parameters-requires-clause-sound g c = sound_bound context_in (context_of (option_map plain_pattern c.args.context.now)) c.args.scopes.now c.context_of.new.scopes c.args.checker.now c.context_of.new.checker c.in_ok-context.context c.in_ok-context.ensures.binds

pub with_parameters-requires-clause-within : goal.with_parameters-requires-clause-within
with_parameters-requires-clause-within g c = within_on c.args.checker.now.types.forms c.context_of.new.checker.types.forms c.args.returns c.in_ok-context.ensures.binds.answer.outcome.goes.forms c.requires.within

pub returns-in_err-context : goal.returns-in_err-context
returns-in_err-context g c =
    no_context c.args.layer.now.site.place (option_map plain_pattern c.args.context.now) (map plain_pattern c.args.patterns.now) c.args.body c.args.returns (plain c.args.a.now) c.args.scopes.now c.context_of.new.scopes c.context_of.new.scopes c.args.checker.now c.context_of.new.checker c.in_err-context.field-0.0 c.from_residual.result c.from_residual.ensures c.in_err-context.ensures.binds

pub returns-in_err-bodied : goal.returns-in_err-bodied
returns-in_err-bodied g c =
    no_bodied c.args.layer.now.site.place (option_map plain_pattern c.args.context.now) (map plain_pattern c.args.patterns.now) c.args.body c.args.returns (plain c.args.a.now) c.args.scopes.now c.context_of.new.scopes c.args.checker.now c.context_of.new.checker c.in_ok-context.context c.in_ok-context.ensures.binds
    c.with_parameters.new.scopes c.with_parameters.new.scopes c.with_parameters.new.checker c.in_err-bodied.field-0.0 c.from_residual-in_err-bodied.result c.from_residual-in_err-bodied.ensures c.in_err-bodied.ensures

pub returns : goal.returns
returns g c =
    bodied_given c.args.layer.now.site.place (option_map plain_pattern c.args.context.now) (map plain_pattern c.args.patterns.now) c.args.body c.args.returns (plain c.args.a.now) c.args.scopes.now c.context_of.new.scopes c.args.checker.now c.context_of.new.checker c.in_ok-context.context c.in_ok-context.ensures.binds
    c.with_parameters.new.scopes c.unbind.new.scopes c.with_parameters.new.checker c.in_ok-bodied.bodied c.len-count.result c.unbind.ensures c.len-count.ensures c.in_ok-bodied.ensures
