use Rattle.elaboration_forms.proofs.Made.{elaborates, elaborates_functions}
use Rattle.elaboration_forms.proofs.laws.elaboration_gives_code.Goals as goal

pub returns-clause-expressions : goal.returns-clause-expressions
returns-clause-expressions c = elaborates

pub returns-clause-functions : goal.returns-clause-functions
returns-clause-functions c = elaborates_functions
