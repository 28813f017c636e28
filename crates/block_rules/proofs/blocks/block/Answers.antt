use Rattle.typing_rules.specs.AbstractSyntax as p
use Rattle.value_scopes.specs.Values.{noted}
use Rattle.judging.proofs.Forms.{seen_Block}
use Rattle.list_judging.specs.Lists.{declarations_in}
use Rattle.block_rules.proofs.BlockParts.{block_given, no_list}
use Rattle.block_rules.proofs.blocks.block.Goals as goal

pub gives-requires : goal.gives-requires
gives-requires g c = c.in_ok-made.ensures.answer.outcome.holds

pub returns-in_err-made : goal.returns-in_err-made
returns-in_err-made g c =
    no_list c.args.lists.now.layer.site c.args.list.now c.args.scopes.now c.list_at.new.scopes c.args.checker.now c.list_at.new.checker c.in_err-made.field-0.0 c.from_residual.result c.from_residual.ensures
    c.in_err-made.ensures.answer

pub returns : goal.returns
returns g c =
    block_given c.args.lists.now.layer.site c.args.list.now c.args.scopes.now c.list_at.new.scopes c.list_at.new.scopes c.args.checker.now c.list_at.new.checker c.list_at.new.checker c.in_ok-made.made c.gives.result
    c.in_ok-made.ensures.answer
    (c.gives.ensures c.list_at.new.scopes c.in_ok-made.ensures.answer.outcome.sound (λ later. p.Block (declarations_in c.in_ok-made.made.declarations later)) (λ later. seen_Block (noted later) c.in_ok-made.made.declarations))
