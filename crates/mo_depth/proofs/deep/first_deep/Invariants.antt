use Rattle.std.proofs.Common.{◌≡◌, take}
use Rattle.mo_depth.specs.Depth.{AreShallow, behind}
use Rattle.mo_depth.specs.Nested.{standing}
use Rattle.mo_depth.proofs.deep.first_deep.Given as goal

abbrev pub invariant-loop-token : goal.invariant-loop-token
invariant-loop-token l = record {
  stands : standing l.nesting ≡ behind (take l.token-index l.tokens);
  shallow : AreShallow l.token-index l.tokens;
}
