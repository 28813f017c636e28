use Rattle.query_module.proofs.Replies.{Completes}
use Rattle.query_module.proofs.reply.replies.Given as goal

abbrev pub invariant-loop-method : goal.invariant-loop-method
invariant-loop-method l = Completes l.methods l.method-index l.replies
