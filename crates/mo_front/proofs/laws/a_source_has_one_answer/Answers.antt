use Rattle.mo_front.proofs.OneAnswer.{either, one_answer, one_program}
use Rattle.mo_front.proofs.laws.a_source_has_one_answer.Goals as goal

pub returns-clause-one_program : goal.returns-clause-one_program
returns-clause-one_program c = one_program

pub returns-clause-either : goal.returns-clause-either
returns-clause-either c = either

pub returns-clause-one_fault : goal.returns-clause-one_fault
returns-clause-one_fault c = one_answer
