use Rattle.std.proofs.Common.{◌≡◌, take}
use Rattle.type_scopes.specs.Scopes.{seen}
use Rattle.typed_patterns.specs.Binding.{Binds}
use Rattle.signatures.specs.Naming.{no_more}
use Rattle.list_signatures.proofs.Bound.{all}
use Rattle.list_signatures.proofs.names.signatures.Given as goal

abbrev pub invariant-loop-one : goal.invariant-loop-one
invariant-loop-one l = record {
  scope : l.scope ≡ l.initial.scope;
  judged : Binds (all (seen l.initial.scope) (take l.one-index l.list)) l.initial.types l.types l.sharing l.initial.names l.names (no_more tt);
}
