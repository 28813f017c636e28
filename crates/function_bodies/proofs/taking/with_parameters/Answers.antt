use Rattle.std.proofs.Common.{[], map}
use Rattle.type_definitions.proofs.Meanings.{within_on}
use Rattle.abstract_types.specs.PatternView.{plain as plain_pattern}
use Rattle.abstract_tree.specs.TreeView.{plain}
use Rattle.signatures.specs.Taking.{taken_in}
use Rattle.signature_judging.specs.Rules.{parameters}
use Rattle.function_bodies.proofs.First.{sound_bound}
use Rattle.function_bodies.proofs.Enclosed.{body_given, no_body, no_parameters}
use Rattle.function_bodies.proofs.taking.with_parameters.Goals as goal

pub judge_body-requires-clause-sound : goal.judge_body-requires-clause-sound
judge_body-requires-clause-sound g c = sound_bound taken_in (parameters (map plain_pattern c.args.patterns.now) []) c.args.scopes.now c.parameters.new.scopes c.args.checker.now c.parameters.new.checker c.in_ok-taken.taken c.in_ok-taken.ensures.binds

pub judge_body-requires-clause-within : goal.judge_body-requires-clause-within
judge_body-requires-clause-within g c = within_on c.args.checker.now.types.forms c.parameters.new.checker.types.forms c.args.returns c.in_ok-taken.ensures.binds.answer.outcome.goes.forms c.requires.within

pub returns-in_err-taken : goal.returns-in_err-taken
returns-in_err-taken g c =
    no_parameters c.args.layer.now.site.place (map plain_pattern c.args.patterns.now) c.args.body c.args.returns (plain c.args.a.now) c.args.scopes.now c.parameters.new.scopes c.parameters.new.scopes c.args.checker.now c.parameters.new.checker c.in_err-taken.field-0.0 c.from_residual.result c.from_residual.ensures c.in_err-taken.ensures.binds

pub returns-in_err-body : goal.returns-in_err-body
returns-in_err-body g c =
    no_body c.args.layer.now.site.place (map plain_pattern c.args.patterns.now) c.args.body c.args.returns (plain c.args.a.now) c.args.scopes.now c.parameters.new.scopes c.args.checker.now c.parameters.new.checker c.in_ok-taken.taken c.in_ok-taken.ensures.binds
    c.judge_body.new.scopes c.judge_body.new.scopes c.judge_body.new.checker c.in_err-body.field-0.0 c.from_residual-in_err-body.result c.from_residual-in_err-body.ensures c.in_err-body.ensures.answer

pub returns : goal.returns
returns g c =
    body_given c.args.layer.now.site.place (map plain_pattern c.args.patterns.now) c.args.body c.args.returns (plain c.args.a.now) c.args.scopes.now c.parameters.new.scopes c.args.checker.now c.parameters.new.checker c.in_ok-taken.taken c.in_ok-taken.ensures.binds
    c.judge_body.new.scopes c.unbind.new.scopes c.judge_body.new.checker c.in_ok-body.body c.len-count.result c.unbind.ensures c.len-count.ensures c.in_ok-taken.ensures.reached c.in_ok-body.ensures.answer
