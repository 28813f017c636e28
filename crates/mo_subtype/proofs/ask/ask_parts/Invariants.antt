use Rattle.std.proofs.Common.{drop}
use Rattle.mo_subtype.specs.Questions.{parts_questions}
use Rattle.mo_subtype.proofs.Asks.{Sofar}
use Rattle.mo_subtype.proofs.ask.ask_parts.Given as goal

abbrev pub invariant-loop-i : goal.invariant-loop-i
invariant-loop-i l = Sofar (parts_questions l.low l.high) (parts_questions (drop l.i l.low) (drop l.i l.high)) l.fn.out.items l.out.items
