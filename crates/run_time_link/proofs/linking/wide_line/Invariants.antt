use Rattle.std.proofs.Common.{take}
use Rattle.std.specs.List.{AllByRecursion}
use Rattle.run_time_link.specs.Linking.{FrameFits}
use Rattle.run_time_link.proofs.linking.wide_line.Given as goal

abbrev pub invariant-loop-routine : goal.invariant-loop-routine
invariant-loop-routine l = AllByRecursion FrameFits (take l.routine-index l.routines)
