use Rattle.std.proofs.Common.{◌≡◌, ◌+◌, ◌++◌, drop, length}
use Rattle.std.specs.List.{concat}
use Rattle.query_module.specs.Tree.{functions_from}
use Rattle.query_module.proofs.parts.functions.Given as goal

abbrev pub invariant-loop-reply : goal.invariant-loop-reply
invariant-loop-reply l = record {
  functions : functions_from 0 l.replies ≡ l.functions ++ functions_from l.offset (drop l.reply-index l.replies);
  offset : length (concat l.replies) ≡ l.offset + length (concat (drop l.reply-index l.replies));
}
