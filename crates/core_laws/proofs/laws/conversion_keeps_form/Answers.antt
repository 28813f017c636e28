use Rattle.core_laws.proofs.FormedConversion.{conversion_forms}
use Rattle.core_laws.proofs.laws.conversion_keeps_form.Goals as goal

pub returns : goal.returns
returns c = conversion_forms
