use Rattle.query_module.proofs.Replies.{replies_none, replies_more, replies_all}
use Rattle.query_module.proofs.reply.replies.Goals as goal

pub loop-method-init : goal.loop-method-init
loop-method-init c = rw (c.in_ok-push.ensures.ok, c.new-replies.ensures, c.in_ok-empty_message.ensures) (replies_none c.args.methods.now)

pub loop-method-preserved : goal.loop-method-preserved
loop-method-preserved c =
    rw c.in_ok-push-2.ensures.ok
    (replies_more c.args.methods.now c.loop-method.method-index c.method-item.result c.in_ok-message.field-0 c.loop-method.replies c.loop-method-test.true c.method-item.is c.in_ok-message.ensures c.loop-method.invariant)

pub returns : goal.returns
returns c = replies_all c.args.methods.now c.loop-method.method-index c.loop-method.replies c.loop-method-test.false c.loop-method.invariant
