use Rattle.std.proofs.Common.{◌∙◌, arith}
use Rattle.mo_depth.specs.Rooms.{state}
use Rattle.mo_depth.proofs.StackLemmas.{behind_none, stands_more, held_more}
use Rattle.mo_depth.proofs.stack.ask_for_stack.Goals as goal

pub loop-token-init : goal.loop-token-init
loop-token-init c = record { stands = c.new-room.ensures ∙ behind_none; held = λ i lt. absurd (omega arith) }

pub loop-token-preserved : goal.loop-token-preserved
loop-token-preserved c = record {
  stands = stands_more c.args.tokens.now c.loop-token.token-index c.token-item.result (state c.loop-token.room) (state c.take.new.self)
      c.loop-token-test.true c.token-item.is c.loop-token.invariant.stands c.in_ok-take.ensures;
  held = held_more c.args.tokens.now c.loop-token.token-index _ c.loop-token.invariant.stands c.in_ok-ask.ensures c.loop-token.invariant.held;
}
