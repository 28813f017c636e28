use Rattle.std.proofs.Common.{◌≡◌, take}
use Rattle.mo_depth.specs.Rooms.{state}
use Rattle.mo_depth.specs.Stack.{AreHeld, behind_tokens}
use Rattle.mo_depth.proofs.stack.ask_for_stack.Given as goal

abbrev pub invariant-loop-token : goal.invariant-loop-token
invariant-loop-token l = record {
  stands : state l.room ≡ behind_tokens (take l.token-index l.tokens);
  held : AreHeld l.token-index l.tokens;
}
