use Rattle.std.proofs.Common.{◌≡◌, ◌++◌, drop}
use Rattle.std.specs.List.{concat}
use Rattle.query_module.proofs.reply.joined.Given as goal

abbrev pub invariant-loop-reply : goal.invariant-loop-reply
invariant-loop-reply l = concat l.replies ≡ l.bytes ++ concat (drop l.reply-index l.replies)
