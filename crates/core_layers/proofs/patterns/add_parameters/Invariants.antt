use Rattle.std.proofs.Common.{drop}
use Rattle.typed_tree.specs.PatternView.{patterns}
use Rattle.elaboration.specs.Checks.{check_all}
use Rattle.core_layers.specs.declared.layer.Checked.{Checked}
use Rattle.core_layers.specs.Layers.{Adds}
use Rattle.core_layers.proofs.patterns.add_parameters.Given as goal

-- what the rest adds is the end of what all add
abbrev pub invariant-loop-parameter : goal.invariant-loop-parameter
invariant-loop-parameter l =
    (last : Checked) → Adds (check_all (patterns (drop l.parameter-index l.parameters)) l.level l.checked.names) l.checked last
    → Adds (check_all (patterns l.parameters) l.fn.level l.fn.checked.names) l.fn.checked last
