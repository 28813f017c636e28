use Rattle.type_judgements.proofs.Turns.{gave_then, names_first, names_then}
use Rattle.type_judgements.proofs.laws.parts_are_judged_in_turn.Goals as goal

pub returns-clause-gives : goal.returns-clause-gives
returns-clause-gives g c = gave_then

pub returns-clause-first : goal.returns-clause-first
returns-clause-first g c = names_first

pub returns-clause-then : goal.returns-clause-then
returns-clause-then g c = names_then
