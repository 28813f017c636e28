use Rattle.std.proofs.Common.{take, drop}
use Rattle.mo_unparse.specs.Writable.{AreWritable}
use Rattle.mo_unparse.proofs.ChainLemmas.{Going}
use Rattle.mo_unparse.proofs.spelling.spell.Given as goal

abbrev pub invariant-loop-kind : goal.invariant-loop-kind
invariant-loop-kind l = AreWritable l.kinds → Going (take l.kind-index l.kinds) (drop l.kind-index l.kinds) l.last l.out
