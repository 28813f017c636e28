use Rattle.abstract_types.specs.TypeView.{annotation}
use Rattle.abstract_tree.specs.TreeView.{plain}
use Rattle.function_rules.proofs.Enclosed.{closed_given, no_body, no_result}
use Rattle.function_rules.proofs.closing.close.Goals as goal

pub judge_body-requires-clause-sound : goal.judge_body-requires-clause-sound
judge_body-requires-clause-sound g c = c.in_ok-of.ensures.answer.outcome.sound

pub judge_body-requires-clause-within : goal.judge_body-requires-clause-within
judge_body-requires-clause-within g c = c.in_ok-of.ensures.answer.outcome.holds

pub returns-in_err-of : goal.returns-in_err-of
returns-in_err-of g c =
    no_result c.args.layer.now.site.place (annotation c.args.written.now) c.args.other (plain c.args.body.now) c.args.scopes.now c.args.checker.now c.reads_or.new.checker c.in_err-of.field-0.0 c.from_residual.result c.from_residual.ensures c.in_err-of.ensures.answer

pub returns-in_err-body : goal.returns-in_err-body
returns-in_err-body g c =
    no_body c.args.layer.now.site.place (annotation c.args.written.now) c.args.other (plain c.args.body.now) c.args.scopes.now c.args.checker.now c.reads_or.new.checker c.in_ok-of.of c.in_ok-of.ensures.answer c.judge_body.new.scopes c.judge_body.new.checker c.in_err-body.field-0.0 c.from_residual-in_err-body.result c.from_residual-in_err-body.ensures
    c.in_err-body.ensures.answer

pub returns : goal.returns
returns g c =
    closed_given c.args.layer.now.site.place (annotation c.args.written.now) c.args.other (plain c.args.body.now) c.args.scopes.now c.args.checker.now c.reads_or.new.checker c.in_ok-of.of c.in_ok-of.ensures.answer c.judge_body.new.scopes c.judge_body.new.checker c.in_ok-body.body c.in_ok-body.ensures.answer
