use Rattle.mo_subtype.proofs.Asks.{tags_more}
use Rattle.mo_subtype.proofs.ask.ask_each_tag.Goals as goal

pub loop-tag-preserved : goal.loop-tag-preserved
loop-tag-preserved c = tags_more c.args.low.now c.args.high.now c.loop-tag.tag-index c.tag-item.result c.args.out.now.items c.loop-tag.out.items c.ask_tag.new.out.items c.in_ok-ask_tag.field-0
    c.loop-tag-test.true c.tag-item.is c.loop-tag.invariant c.in_ok-ask_tag.ensures c.if-not-branch.false
