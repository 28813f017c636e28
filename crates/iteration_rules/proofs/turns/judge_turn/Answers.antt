use Rattle.abstract_types.specs.PatternView.{plain as plain_pattern}
use Rattle.abstract_tree.specs.TreeView.{plain}
use Rattle.iteration_rules.proofs.Turning.{no_body, no_pattern, turn_given, turn_ready}
use Rattle.iteration_rules.proofs.turns.judge_turn.Goals as goal

pub loop_body-requires-clause-ready : goal.loop_body-requires-clause-ready
loop_body-requires-clause-ready g c = c.in_ok-pattern.ensures.ready c.args.layer.now.site c.requires.ready

pub returns-in_err-pattern-clause-answer : goal.returns-in_err-pattern-clause-answer
returns-in_err-pattern-clause-answer g c =
    no_pattern c.args.layer.now.site (plain_pattern c.args.pattern.now) c.args.kind (plain c.args.body.now) c.args.scopes.now c.stands.new.scopes c.stands.new.scopes c.args.checker.now c.stands.new.checker c.in_err-pattern.field-0.0
    c.from_residual.result c.from_residual.ensures c.in_err-pattern.ensures.binds

pub returns-in_err-body-clause-answer : goal.returns-in_err-body-clause-answer
returns-in_err-body-clause-answer g c =
    no_body c.args.layer.now.site (plain_pattern c.args.pattern.now) c.args.kind (plain c.args.body.now) c.args.scopes.now c.stands.new.scopes c.args.checker.now c.stands.new.checker c.in_ok-pattern.pattern c.in_ok-pattern.ensures.binds
    c.loop_body.new.scopes c.loop_body.new.scopes c.loop_body.new.checker c.in_err-body.field-0.0 c.from_residual-in_err-body.result c.from_residual-in_err-body.ensures c.in_err-body.ensures.answer

pub returns-clause-answer : goal.returns-clause-answer
returns-clause-answer g c =
    turn_given c.args.layer.now.site (plain_pattern c.args.pattern.now) c.args.kind (plain c.args.body.now) c.args.scopes.now c.stands.new.scopes c.args.checker.now c.stands.new.checker c.in_ok-pattern.pattern c.in_ok-pattern.ensures.binds
    c.loop_body.new.scopes c.unbind.new.scopes c.loop_body.new.checker c.in_ok-body.body c.len-count.result c.unbind.ensures c.len-count.ensures c.in_ok-body.ensures.answer

pub returns-clause-ready : goal.returns-clause-ready
returns-clause-ready g c =
    turn_ready c.args.layer.now.site (plain_pattern c.args.pattern.now) c.args.kind (plain c.args.body.now) c.args.scopes.now c.stands.new.scopes c.args.checker.now c.stands.new.checker c.in_ok-pattern.pattern c.in_ok-pattern.ensures.binds
    c.loop_body.new.scopes c.unbind.new.scopes c.loop_body.new.checker c.in_ok-body.body c.len-count.result c.unbind.ensures c.len-count.ensures c.in_ok-body.ensures.answer c.requires.ready
