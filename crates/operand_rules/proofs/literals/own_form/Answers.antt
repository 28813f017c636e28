use Rattle.judging.proofs.Steps.{plain_number, plain_text}
use Rattle.operand_rules.proofs.literals.own_form.Goals as goal

pub returns-in-Number-clause-plain : goal.returns-in-Number-clause-plain
returns-in-Number-clause-plain c = plain_number c.in-Number.kind

pub returns-in-Text-clause-plain : goal.returns-in-Text-clause-plain
returns-in-Text-clause-plain c = plain_text
