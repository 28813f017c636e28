use Rattle.abstract_tree.specs.TreeView.{plain}
use Rattle.function_rules.proofs.Ended.{no_parts, parts_given}
use Rattle.function_rules.proofs.functions.function_on.Goals as goal

pub ends-requires-clause-wanting : goal.ends-requires-clause-wanting
ends-requires-clause-wanting g c = c.in_ok-made.ensures.ready.wanting

pub ends-requires-clause-fine : goal.ends-requires-clause-fine
ends-requires-clause-fine g c = c.in_ok-made.ensures.answer.outcome.holds

pub returns-in_err-made : goal.returns-in_err-made
returns-in_err-made g c =
    no_parts c.args.layer.now.site c.args.signature.now (plain c.args.body.now) c.args.wanted.now c.args.other c.args.scopes.now c.function_parts.new.scopes c.args.checker.now c.function_parts.new.checker c.in_err-made.field-0.0 c.from_residual.result c.from_residual.ensures c.in_err-made.ensures.answer

pub returns : goal.returns
returns g c =
    parts_given c.args.layer.now.site c.args.signature.now (plain c.args.body.now) c.args.wanted.now c.args.other c.args.scopes.now c.function_parts.new.scopes c.function_parts.new.scopes c.args.checker.now c.function_parts.new.checker c.ends.new.checker c.in_ok-made.made c.ends.result c.in_ok-made.ensures.answer
    (c.ends.ensures c.function_parts.new.scopes c.in_ok-made.ensures.ready.sound)
