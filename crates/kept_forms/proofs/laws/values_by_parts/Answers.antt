use Rattle.kept_forms.proofs.Unformed.{unforms}
use Rattle.kept_forms.proofs.laws.values_by_parts.Goals as goal

pub returns : goal.returns
returns c = λ head types values h. unforms head types values h
