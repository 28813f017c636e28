use Rattle.std.proofs.Common.{take}
use Rattle.type_scopes.specs.Scopes.{seen}
use Rattle.proper_types.specs.Passing.{Passed}
use Rattle.proper_types.specs.Rules.{done}
use Rattle.proper_types.proofs.Readings.{one_generic}
use Rattle.proper_types.proofs.Turns.{turns}
use Rattle.proper_types.proofs.parameters.generics.Given as goal

abbrev pub invariant-loop-one : goal.invariant-loop-one
invariant-loop-one l = Passed (turns (one_generic (seen l.scope)) (take l.one-index l.parameters) l.initial.types.listed) l.initial.types l.types l.sharing (done tt)
