use Rattle.query_source.proofs.Parts.{no_number, number_begins}
use Rattle.query_source.proofs.actor.read_number.Goals as goal

pub returns-in-Some-clause-some : goal.returns-in-Some-clause-some
returns-in-Some-clause-some c = number_begins _ _ _ _ c.word.ensures.run c.word.ensures.rest c.in-Some.ensures.some

pub returns-in-None-clause-none : goal.returns-in-None-clause-none
returns-in-None-clause-none c = no_number _ _ _ c.word.ensures.run c.word.ensures.rest c.in-None.ensures.none
