use Rattle.std.proofs.Common.{take}
use Rattle.mo_order.specs.Breaches.{FirstOf, FoundOrEarly}
use Rattle.mo_order.proofs.breaches.first_breach.Given as goal

abbrev pub invariant-loop-finding : goal.invariant-loop-finding
invariant-loop-finding l = FirstOf (FoundOrEarly (take l.finding-index l.found) l.fn.early) l.first
