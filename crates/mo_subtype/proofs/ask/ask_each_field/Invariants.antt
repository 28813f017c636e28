use Rattle.std.proofs.Common.{drop}
use Rattle.mo_subtype.specs.Questions.{fields_questions}
use Rattle.mo_subtype.proofs.Asks.{Sofar}
use Rattle.mo_subtype.proofs.ask.ask_each_field.Given as goal

abbrev pub invariant-loop-field : goal.invariant-loop-field
invariant-loop-field l = Sofar (fields_questions l.low l.high) (fields_questions l.low (drop l.field-index l.high)) l.fn.out.items l.out.items
