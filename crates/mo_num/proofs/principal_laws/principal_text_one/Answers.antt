use Rattle.mo_num.proofs.TextLaws.{principal_one, text_one}
use Rattle.mo_num.proofs.principal_laws.principal_text_one.Goals as goal

pub returns-clause-principal : goal.returns-clause-principal
returns-clause-principal c = principal_one

pub returns-clause-text : goal.returns-clause-text
returns-clause-text c = text_one
