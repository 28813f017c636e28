use Rattle.candid_laws.proofs.Candid.{form_once}
use Rattle.candid_laws.proofs.form.one_value_of_a_form.Goals as goal

pub returns : goal.returns
returns c = λ head types v w h k e. form_once head types v w h k e
