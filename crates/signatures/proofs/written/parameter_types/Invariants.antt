use Rattle.std.proofs.Common.{take}
use Rattle.mo_types.specs.Sub.{Each}
use Rattle.met_types.specs.States.{IsReached}
use Rattle.type_scopes.specs.Scopes.{seen}
use Rattle.proper_types.specs.Passing.{Passed}
use Rattle.proper_types.specs.Rules.{as_term}
use Rattle.signatures.proofs.Gathering.{all_seen, gathered}
use Rattle.signatures.proofs.Annotations.{own_kind}
use Rattle.signatures.proofs.written.parameter_types.Given as goal

abbrev pub invariant-loop-pattern : goal.invariant-loop-pattern
invariant-loop-pattern l = record {
  reached : Each (IsReached l.types) l.made;
  judged : Passed (gathered (own_kind (seen l.scope)) (take l.pattern-index l.patterns) l.initial.types.listed) l.initial.types l.types l.sharing (all_seen (own_kind (seen l.scope)) as_term l.made);
}
