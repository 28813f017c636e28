use Rattle.kept_forms.proofs.Formed.{forms}
use Rattle.kept_forms.proofs.laws.forms_by_parts.Goals as goal

pub returns : goal.returns
returns c = λ head types values h. forms head types values h
