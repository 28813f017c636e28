use Rattle.std.proofs.Common.{◌≡◌, List, map, take}
use Rattle.core_ir.specs.View.{exps, expression}
use Rattle.elaboration.specs.Programs.{held_in, outside}
use Rattle.elaboration.specs.Scopes.{Place}
use Rattle.core_hooks.specs.Hooks.{cells_behind}
use Rattle.core_hooks.proofs.saves.all_held.Given as goal

abbrev pub invariant-loop-variable : goal.invariant-loop-variable
invariant-loop-variable l = (places : List Place) → l.scope ≡ outside places → exps (map expression l.made) ≡ held_in places (cells_behind l.functions (take l.variable-index l.stable))
