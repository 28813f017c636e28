use Rattle.desugaring_laws.proofs.Patterns.{patterns_are_typed}
use Rattle.desugaring_laws.proofs.laws.patterns_are_typed.Goals as goal

pub returns : goal.returns
returns c = patterns_are_typed
