use Rattle.typing_rules.specs.AbstractSyntax as p
use Rattle.value_scopes.specs.Values.{noted}
use Rattle.judging.proofs.Forms.{seen_ObjectBlock}
use Rattle.list_judging.specs.Lists.{declarations_in}
use Rattle.block_rules.proofs.ObjectParts.{block_given, no_object}
use Rattle.block_rules.proofs.blocks.object_block.Goals as goal

pub has-requires-clause-wanting : goal.has-requires-clause-wanting
has-requires-clause-wanting g c =
    let r = c.in_ok-made.ensures.ready c.args.lists.now.layer.site c.requires.ready in
    r.wanting

pub has-requires-clause-within : goal.has-requires-clause-within
has-requires-clause-within g c = c.in_ok-made.ensures.answer.outcome.holds

pub returns-in_err-made : goal.returns-in_err-made
returns-in_err-made g c =
    no_object c.args.lists.now.layer.site c.args.list.now c.args.scopes.now c.judge_object.new.scopes c.args.checker.now c.judge_object.new.checker c.in_err-made.field-0.0 c.from_residual.result c.from_residual.ensures
    c.in_err-made.ensures.answer

pub returns : goal.returns
returns g c =
    block_given c.args.lists.now.layer.site c.args.list.now c.args.scopes.now c.judge_object.new.scopes c.judge_object.new.scopes c.args.checker.now c.judge_object.new.checker c.has.new.checker c.in_ok-made.made c.has.result
    c.in_ok-made.ensures.answer
    (c.has.ensures c.judge_object.new.scopes c.in_ok-made.ensures.answer.outcome.sound (λ later. p.ObjectBlock (declarations_in c.in_ok-made.made.declarations later)) (λ later. seen_ObjectBlock (noted later) c.in_ok-made.made.declarations))
