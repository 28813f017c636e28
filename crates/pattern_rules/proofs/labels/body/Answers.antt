use Rattle.abstract_tree.specs.TreeView.{plain}
use Rattle.judging.specs.Views.{kind_reached, typed_in}
use Rattle.judging.proofs.Chains.{no_memory}
use Rattle.pattern_rules.proofs.Labelling.{entering_label, label_given, no_body, ready_back}
use Rattle.pattern_rules.proofs.labels.body.Goals as goal

pub judge_entered-requires-clause-entering : goal.judge_entered-requires-clause-entering
judge_entered-requires-clause-entering g c =
    entering_label c.args.layer.now.site c.args.name.now c.args.kind (plain c.args.a.now) c.args.scopes.now c.args.checker.now c.push.new.self c.in_ok-push.ensures.ok c.directly-place.result c.directly-place.ensures c.requires.ready
    c.requires.within

pub returns-in_err-push-clause-answer : goal.returns-in_err-push-clause-answer
returns-in_err-push-clause-answer g c = no_memory typed_in kind_reached _ c.args.scopes.now _ c.args.checker.now _ c.from_residual.result c.from_residual.ensures

pub returns-in_err-made-clause-answer : goal.returns-in_err-made-clause-answer
returns-in_err-made-clause-answer g c =
    no_body c.args.layer.now.site c.args.name.now c.args.kind (plain c.args.a.now) c.args.scopes.now c.args.checker.now c.push.new.self c.in_ok-push.ensures.ok c.directly-place.result c.judge_entered.new.scopes
    c.judge_entered.new.scopes c.judge_entered.new.checker c.in_err-made.field-0.0 c.from_residual-in_err-made.result c.directly-place.ensures c.from_residual-in_err-made.ensures c.in_err-made.ensures

pub returns-clause-answer : goal.returns-clause-answer
returns-clause-answer g c =
    label_given c.args.layer.now.site c.args.name.now c.args.kind (plain c.args.a.now) c.args.scopes.now c.args.checker.now c.push.new.self c.in_ok-push.ensures.ok c.directly-place.result c.judge_entered.new.scopes
    c.judge_entered.new.checker c.in_ok-made.made c.directly-place.ensures c.in_ok-made.ensures c.len-count.result c.truncate.new.self c.truncate.ensures.back c.len-count.ensures

pub returns-clause-ready : goal.returns-clause-ready
returns-clause-ready g c =
    ready_back c.args.layer.now.site c.args.name.now c.args.kind (plain c.args.a.now) c.args.scopes.now c.args.checker.now c.push.new.self c.in_ok-push.ensures.ok c.directly-place.result c.judge_entered.new.scopes
    c.judge_entered.new.checker c.in_ok-made.made c.directly-place.ensures c.in_ok-made.ensures c.len-count.result c.truncate.new.self c.truncate.ensures.back c.len-count.ensures c.requires.ready
