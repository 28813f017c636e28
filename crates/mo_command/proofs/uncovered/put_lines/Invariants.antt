use Rattle.std.proofs.Common.{◌≤◌, take}
use Rattle.std.specs.Io.KnownBytes.{Appends}
use Rattle.mo_command.specs.Uncovered.{joined}
use Rattle.mo_command.proofs.uncovered.put_lines.Given as goal

abbrev pub invariant-loop-line : goal.invariant-loop-line
invariant-loop-line g l = record {
  put : Appends (g.O.Sink.shown l.fn.out) (g.O.Sink.shown l.out) (joined (take l.line-index l.lines));
  count : g.O.Sink.faults l.fn.out ≤ g.O.Sink.faults l.out;
}
