use Rattle.std.proofs.Common.{◌≡◌, map, take}
use Rattle.core_ir.specs.ProgramView as core
use Rattle.mo_elab.proofs.Serving.{variables_view}
use Rattle.mo_elab.proofs.methods.variables_of.Given as goal

abbrev pub invariant-loop-variable : goal.invariant-loop-variable
invariant-loop-variable l = map core.stable_variable l.made ≡ variables_view (take l.variable-index l.variables)
