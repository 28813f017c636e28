use Rattle.definition_rules.proofs.Grouping.{Led}
use Rattle.definition_rules.proofs.groups.leads_to.Given as goal

abbrev pub invariant-loop-round : goal.invariant-loop-round
invariant-loop-round l = Led l.definitions l.terms l.fn.right l._round l.place l.names.keys
