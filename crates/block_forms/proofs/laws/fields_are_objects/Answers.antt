use Rattle.block_forms.proofs.Objects.{fields_are_objects}
use Rattle.block_forms.proofs.laws.fields_are_objects.Goals as goal

pub returns : goal.returns
returns c = fields_are_objects
