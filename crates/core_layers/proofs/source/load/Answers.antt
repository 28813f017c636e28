use Rattle.std.proofs.Common.{refl}
use Rattle.core_layers.proofs.Literals.{level_part, loads_part}
use Rattle.core_layers.proofs.source.load.Goals as goal

pub returns-in_ok-push-in-Part-clause-level : goal.returns-in_ok-push-in-Part-clause-level
returns-in_ok-push-in-Part-clause-level c = level_part c.args.source _ _ c.args.checked.now.names c.in-Part.is

pub returns-in_ok-push-in-Part-clause-checks : goal.returns-in_ok-push-in-Part-clause-checks
returns-in_ok-push-in-Part-clause-checks c =
    loads_part c.args.source _ _ c.args.checked.now _ c.in_ok-value-in-Part.value c.in-Part.is c.in_ok-value-in-Part.ensures c.in_ok-push-in-Part.ensures.items c.in_ok-checked-in-Part.ensures refl
