use Rattle.std.proofs.Common.{◌≡◌, drop, map}
use Rattle.switch_coverage.specs.Found.{switches_in}
use Rattle.switch_coverage.specs.Switches.{all_of, cases_of, each, in_case, in_expression, in_function, in_steps}
use Rattle.switch_coverage.proofs.walk.+walk.Given as goal

abbrev pub invariant-add_expressions-loop-operand : goal.invariant-add_expressions-loop-operand
invariant-add_expressions-loop-operand l =
    all_of (map in_expression (drop l.operand-index l.operands)) (switches_in l.found.items) ≡ all_of (map in_expression l.operands) (switches_in l.fn.found.items)

abbrev pub invariant-add_cases-loop-case : goal.invariant-add_cases-loop-case
invariant-add_cases-loop-case l = cases_of (map in_case (drop l.case-index l.cases)) (switches_in l.found.items) ≡ cases_of (map in_case l.cases) (switches_in l.fn.found.items)

abbrev pub invariant-add_steps-loop-step : goal.invariant-add_steps-loop-step
invariant-add_steps-loop-step l = in_steps (drop l.step-index l.steps) (switches_in l.found.items) ≡ in_steps l.steps (switches_in l.fn.found.items)

abbrev pub invariant-add_functions-loop-function : goal.invariant-add_functions-loop-function
invariant-add_functions-loop-function l =
    each (map in_function (drop l.function-index l.functions)) (switches_in l.found.items) ≡ each (map in_function l.functions) (switches_in l.fn.found.items)
