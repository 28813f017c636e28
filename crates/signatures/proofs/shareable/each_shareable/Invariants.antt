use Rattle.std.proofs.Common.{take}
use Rattle.proper_types.specs.Passing.{Passed}
use Rattle.proper_types.specs.Rules.{done}
use Rattle.proper_types.proofs.Turns.{turns}
use Rattle.signatures.proofs.Steps.{one_shareable}
use Rattle.signatures.proofs.shareable.each_shareable.Given as goal

abbrev pub invariant-loop-kind : goal.invariant-loop-kind
invariant-loop-kind l = Passed (turns (one_shareable l.at) (take l.kind-index l.kinds) l.types.listed) l.types l.types l.sharing (done tt)
