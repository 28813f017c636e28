use Rattle.std.proofs.Common.{◌≡◌, length, map, take}
use Rattle.mo_types.specs.Sub.{Each}
use Rattle.type_definitions.specs.Meanings.{term}
use Rattle.met_types.specs.States.{IsReached}
use Rattle.abstract_types.specs.PatternView.{plain}
use Rattle.type_scopes.specs.Scopes.{seen}
use Rattle.typed_patterns.specs.Binding.{Binds, patterns_in}
use Rattle.signatures.specs.Taking.{parameters}
use Rattle.signatures.proofs.taking.parameters.Given as goal

abbrev pub invariant-loop-pattern : goal.invariant-loop-pattern
invariant-loop-pattern l = record {
  many : length l.kinds ≡ length (map plain (take l.pattern-index l.patterns));
  reached : Each (IsReached l.types) l.kinds;
  binds : Binds (parameters (seen l.scope) (map plain (take l.pattern-index l.patterns)) l.wanted) l.initial.types l.types l.sharing l.initial.names l.names (λ later. (map (term later) l.kinds, patterns_in l.made later));
}
