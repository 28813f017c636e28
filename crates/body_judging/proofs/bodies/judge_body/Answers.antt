use Rattle.std.proofs.Common.{◌∙◌}
use Rattle.abstract_tree.specs.TreeView.{plain}
use Rattle.body_judging.proofs.Bodily.{body_comes, body_ready, entering_body}
use Rattle.body_judging.proofs.bodies.judge_body.Goals as goal

pub judge_there-made-requires-clause-entering : goal.judge_there-made-requires-clause-entering
judge_there-made-requires-clause-entering g c =
    entering_body c.args.body c.args.returns (plain c.args.expression.now) c.args.scopes.now c.args.checker.now c.replace-labels.new.dest (c.replace-labels.ensures.after ∙ c.new-none.ensures) c.body_place-place.result c.body_place-place.ensures c.requires.sound c.requires.within

pub returns-clause-answer : goal.returns-clause-answer
returns-clause-answer g c =
    body_comes c.args.body c.args.returns (plain c.args.expression.now) c.args.scopes.now c.args.checker.now c.replace-labels.new.dest (c.replace-labels.ensures.after ∙ c.new-none.ensures) c.body_place-place.result c.judge_there-made.new.scopes c.judge_there-made.new.checker c.judge_there-made.result c.replace-labels.result c.replace-labels.ensures.value c.body_place-place.ensures c.requires.sound
    c.judge_there-made.ensures

pub returns-clause-ready : goal.returns-clause-ready
returns-clause-ready g c = λ x q.
    body_ready c.args.body c.args.returns (plain c.args.expression.now) c.args.scopes.now (record c.judge_there-made.new.scopes { labels = c.replace-labels.result }) c.args.checker.now c.judge_there-made.new.checker c.judge_there-made.result x
    (body_comes c.args.body c.args.returns (plain c.args.expression.now) c.args.scopes.now c.args.checker.now c.replace-labels.new.dest (c.replace-labels.ensures.after ∙ c.new-none.ensures) c.body_place-place.result c.judge_there-made.new.scopes c.judge_there-made.new.checker c.judge_there-made.result c.replace-labels.result c.replace-labels.ensures.value c.body_place-place.ensures
    c.requires.sound c.judge_there-made.ensures) q
