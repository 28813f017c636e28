use Rattle.std.proofs.Common.{take}
use Rattle.type_scopes.specs.Scopes.{seen}
use Rattle.proper_types.specs.Passing.{Passed}
use Rattle.proper_types.specs.Rules.{done}
use Rattle.proper_types.proofs.Sending.{one_sent}
use Rattle.proper_types.proofs.Turns.{turns}
use Rattle.proper_types.proofs.shareable.all_shareable.Given as goal

abbrev pub invariant-loop-parameter : goal.invariant-loop-parameter
invariant-loop-parameter l = Passed (turns (one_sent (seen l.scope) l.at) (take l.parameter-index l.parameters) l.initial.types.listed) l.initial.types l.types l.sharing (done tt)
