use Rattle.std.proofs.Common.{map}
use Rattle.arena_keeping.specs.Keeping.{AreTakenTo}
use Rattle.arena_keeping.proofs.keeping.keep_values.Given as goal

abbrev pub invariant-loop-variable : goal.invariant-loop-variable
invariant-loop-variable l = AreTakenTo l.old l.new (map (λ p. p.items) l.parts) l.variable-index l.initial.arena l.found.items l.arena
