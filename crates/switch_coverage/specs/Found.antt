-- Switches as the code holds them.
use Rattle.std.specs.Prelude.{List, map}
use Rattle.typed_tree.specs.declared.expression.Case.{Case}
use Rattle.typed_tree.specs.Patterns.{Pat}
use Rattle.typed_tree.specs.PatternView.{pattern}
use Rattle.switch_coverage.specs.declared.walk.Found.{Found}
use Rattle.switch_coverage.specs.Switches.{Switch, switch}

abbrev pub patterns_in : List Case → List Pat
patterns_in xs = map (λ x. pattern x.pattern) xs

abbrev pub switch_in : Found → Switch
switch_in f = switch f.token f.of_type (patterns_in f.cases.now)

abbrev pub switches_in : List Found → List Switch
switches_in fs = map switch_in fs
