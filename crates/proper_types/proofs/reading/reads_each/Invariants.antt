use Rattle.std.proofs.Common.{take}
use Rattle.mo_types.specs.Sub.{Each}
use Rattle.met_types.specs.States.{IsReached}
use Rattle.type_scopes.specs.Scopes.{seen}
use Rattle.proper_types.specs.Passing.{Passed}
use Rattle.proper_types.specs.Rules.{as_terms}
use Rattle.proper_types.proofs.Readings.{all_read}
use Rattle.proper_types.proofs.reading.reads_each.Given as goal

abbrev pub invariant-loop-node : goal.invariant-loop-node
invariant-loop-node l = record {
  reached : Each (IsReached l.types) l.made;
  judged : Passed (all_read (seen l.scope) (take l.node-index l.nodes) l.initial.types.listed) l.initial.types l.types l.sharing (as_terms l.made);
}
