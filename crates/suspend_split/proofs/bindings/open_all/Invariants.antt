use Rattle.std.proofs.Common.{◌≡◌, get_or}
use Rattle.suspend_split.specs.Bindings.{OpensFirst, nowhere}
use Rattle.suspend_split.proofs.bindings.open_all.Given as goal

abbrev pub invariant-loop-binding : goal.invariant-loop-binding
invariant-loop-binding l = record {
  opens : OpensFirst l.outermost l.sizes l.bindings l.fn.opening l.binding-index l.openings.items l.fn.scopes l.scopes;
  now : l.at ≡ get_or l.openings.items l.binding-index nowhere;
}
