use Rattle.std.proofs.Common.{◌≡◌, ◌+◌, length}
use Rattle.mo_depth.specs.Rooms.{state}
use Rattle.mo_depth.specs.Stack.{outside_angles}
use Rattle.mo_depth.proofs.room.Room.leave_angles.Given as goal

abbrev pub invariant-loop-turn : goal.invariant-loop-turn
invariant-loop-turn l = record {
  same : outside_angles (state l.self) ≡ outside_angles (state l.fn.self);
  left : length l.self.outer.items + l._turn ≡ length l.fn.self.outer.items;
}
