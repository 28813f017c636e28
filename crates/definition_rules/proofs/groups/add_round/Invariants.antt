use Rattle.definition_rules.specs.Uses.{AddsFrom}
use Rattle.definition_rules.proofs.groups.add_round.Given as goal

abbrev pub invariant-loop-i : goal.invariant-loop-i
invariant-loop-i l = AddsFrom l.definitions l.terms l.fn.place l.i l.fn.names.keys l.names.keys
