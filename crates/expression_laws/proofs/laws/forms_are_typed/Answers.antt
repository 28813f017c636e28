use Rattle.expression_laws.proofs.Forms.{forms_are_typed}
use Rattle.expression_laws.proofs.laws.forms_are_typed.Goals as goal

pub returns : goal.returns
returns c = forms_are_typed
