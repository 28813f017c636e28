use Rattle.subtype_laws.proofs.EqualValues.{same_values, same_forms}
use Rattle.subtype_laws.proofs.messages.equal_types_have_the_same_values.Goals as goal

pub returns-clause-values : goal.returns-clause-values
returns-clause-values g c = λ head ts us v s p q h. same_values head v ts us s p q h

pub returns-clause-forms : goal.returns-clause-forms
returns-clause-forms g c = λ head ts us v s p q. same_forms head v ts us s p q
