use Rattle.std.proofs.Common.{◌≡◌, map, take}
use Rattle.typing_rules.specs.TypeScopes.{names_of, places_of}
use Rattle.abstract_types.specs.TypeView.{parameter}
use Rattle.signatures.proofs.written.places_of.Given as goal

abbrev pub invariant-loop-one : goal.invariant-loop-one
invariant-loop-one l = l.made ≡ places_of (names_of (map parameter (take l.one-index l.generics)))
