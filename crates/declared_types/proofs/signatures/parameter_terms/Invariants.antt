use Rattle.std.proofs.Common.{map, take}
use Rattle.typing_rules.specs.DeclaredTypes.{pattern_term}
use Rattle.type_scopes.specs.Scopes.{seen}
use Rattle.abstract_types.specs.PatternView.{plain}
use Rattle.written_types.specs.Written.{WroteEach}
use Rattle.declared_types.proofs.signatures.parameter_terms.Given as goal

abbrev pub invariant-loop-q : goal.invariant-loop-q
invariant-loop-q l = WroteEach l.initial.types l.types (map (λ q. pattern_term (seen l.scope) (plain q)) (take l.q-index l.patterns)) l.made
