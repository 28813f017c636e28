use Rattle.std.proofs.Common.{◌≡◌, map, take}
use Rattle.abstract_types.specs.TypeView.{parameter}
use Rattle.signature_judging.proofs.copying.copied_generics.Given as goal

abbrev pub invariant-loop-one : goal.invariant-loop-one
invariant-loop-one l = map parameter l.made ≡ map parameter (take l.one-index l.generics)
