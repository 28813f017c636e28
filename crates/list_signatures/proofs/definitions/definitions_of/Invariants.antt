use Rattle.std.proofs.Common.{◌≡◌, take}
use Rattle.type_scopes.specs.Scopes.{seen}
use Rattle.proper_types.specs.Passing.{Passed}
use Rattle.proper_types.specs.Rules.{done}
use Rattle.proper_types.proofs.Turns.{turns}
use Rattle.list_signatures.proofs.Defined.{one}
use Rattle.list_signatures.proofs.definitions.definitions_of.Given as goal

abbrev pub invariant-loop-one : goal.invariant-loop-one
invariant-loop-one l = record {
  scope : l.scope ≡ l.initial.scope;
  judged : Passed (turns (one (seen l.initial.scope)) (take l.one-index l.list) l.initial.types.listed) l.initial.types l.types l.sharing (done tt);
}
