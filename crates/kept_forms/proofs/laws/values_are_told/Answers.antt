use Rattle.kept_forms.proofs.Trees.{tree_flat, tree_form}
use Rattle.kept_forms.proofs.laws.values_are_told.Goals as goal

pub returns-clause-values : goal.returns-clause-values
returns-clause-values c = λ head types values h. tree_flat head types values h

pub returns-clause-forms : goal.returns-clause-forms
returns-clause-forms c = λ head types values h. tree_form head types values h
