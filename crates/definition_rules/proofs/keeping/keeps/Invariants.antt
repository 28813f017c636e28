use Rattle.std.proofs.Common.{take, true, slice_get}
use Rattle.mo_types.specs.Sub.{Each}
use Rattle.definition_rules.specs.Uses.{MayUse}
use Rattle.definition_rules.proofs.keeping.keeps.Given as goal

abbrev pub invariant-loop-id : goal.invariant-loop-id
invariant-loop-id l = Each (λ a. MayUse l.definitions l.terms l.name l.own (slice_get l.terms a.index) true) (take l.id-index l.id-items)
