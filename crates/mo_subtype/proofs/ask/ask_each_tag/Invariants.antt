use Rattle.std.proofs.Common.{drop}
use Rattle.mo_subtype.specs.Questions.{tags_questions}
use Rattle.mo_subtype.proofs.Asks.{Sofar}
use Rattle.mo_subtype.proofs.ask.ask_each_tag.Given as goal

abbrev pub invariant-loop-tag : goal.invariant-loop-tag
invariant-loop-tag l = Sofar (tags_questions l.low l.high) (tags_questions (drop l.tag-index l.low) l.high) l.fn.out.items l.out.items
