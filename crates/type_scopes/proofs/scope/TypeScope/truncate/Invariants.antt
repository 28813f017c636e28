use Rattle.std.proofs.Common.{◌≡◌, length}
use Rattle.type_scopes.specs.Scopes.{cut}
use Rattle.type_scopes.proofs.scope.TypeScope.truncate.Given as goal

abbrev pub invariant-loop-self : goal.invariant-loop-self
invariant-loop-self l = cut l.len l.self ≡ cut l.len l.initial.self

abbrev pub decreases-loop-self : goal.decreases-loop-self
decreases-loop-self l = length l.self.declared
