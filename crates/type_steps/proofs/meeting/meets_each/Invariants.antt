use Rattle.std.proofs.Common.{take}
use Rattle.mo_types.specs.Sub.{Each}
use Rattle.met_types.specs.States.{Goes, IsReached, Kept}
use Rattle.value_scopes.specs.declared.scopes.Scopes.{Scopes}
use Rattle.judging.specs.Parts.{Sound}
use Rattle.type_steps.specs.Steps.{meeting}
use Rattle.type_steps.proofs.InTurn.{Done, turns}
use Rattle.type_steps.proofs.meeting.meets_each.Given as goal

abbrev pub invariant-loop-i : goal.invariant-loop-i
invariant-loop-i l = record {
  kept : Kept l.checker.types;
  goes : Goes l.initial.checker.types l.checker.types;
  reached : Each (IsReached l.checker.types) (take l.i l.kinds);
  done : (c : Scopes) → Sound l.initial.checker c → Done (turns meeting (take l.i l.kinds)) c l.initial.checker l.checker;
}
