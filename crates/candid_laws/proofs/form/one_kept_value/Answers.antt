use Rattle.candid_laws.proofs.Candid.{kept_once}
use Rattle.candid_laws.proofs.form.one_kept_value.Goals as goal

pub returns : goal.returns
returns c = λ head next old new value v w h k. kept_once head next old new value v w h k
