use Rattle.std.proofs.Common.{◌∙◌, length, ap, sym, arith}
use Rattle.std.specs.Prelude.{Result, Ok, Err, OnOk}
use Rattle.mo_depth.specs.Rooms.{state}
use Rattle.mo_depth.specs.Stack.{outside_angles}
use Rattle.mo_depth.proofs.StackLemmas.{fewer, leave_one, no_angle, none_around}
use Rattle.mo_depth.proofs.room.Room.leave_angles.Goals as goal

pub returns-then-not-closes-clause-at : goal.returns-then-not-closes-clause-at
returns-then-not-closes-clause-at c = sym (no_angle (state c.loop-turn.self) (sym c.closes.ensures ∙ c.if-not-closes.true)) ∙ c.loop-turn.invariant.same

pub loop-turn-preserved : goal.loop-turn-preserved
loop-turn-preserved c = record {
  same = ap outside_angles c.in_ok-leave.ensures ∙ leave_one (state c.loop-turn.self) (sym c.closes.ensures ∙ c.if-not-closes.false) ∙ c.loop-turn.invariant.same;
  left = fewer (state c.loop-turn.self) (state c.leave.new.self) c.loop-turn._turn (length c.args.self.now.outer.items) c.loop-turn.invariant.left (omega (arith, c.len-turn-end.ensures, c.loop-turn-test.true)) c.in_ok-leave.ensures;
}

on_ok : {A E : Type 0} (r : Result A E) {P : Type 0} → P → OnOk r P
on_ok (Ok x) p = p
on_ok (Err x) p = tt

pub returns-clause-at : goal.returns-clause-at
returns-clause-at c = on_ok c.ask-2.result (sym (none_around (state c.loop-turn.self) (omega (arith, c.loop-turn.invariant.left, c.loop-turn-test.false, c.len-turn-end.ensures))) ∙ c.loop-turn.invariant.same)
