use Rattle.core_laws.proofs.NamedUses.{splitting_forms}
use Rattle.core_laws.proofs.laws.splitting_keeps_form.Goals as goal

pub returns : goal.returns
returns c = splitting_forms
