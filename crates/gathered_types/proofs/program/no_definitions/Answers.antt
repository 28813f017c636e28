use Rattle.std.proofs.Common.{◌∙◌}
use Rattle.gathered_types.proofs.Ending.{none_stand}
use Rattle.gathered_types.proofs.program.no_definitions.Goals as goal

pub new-requires : goal.new-requires
new-requires c = none_stand c.new-terms.result c.in_ok-definitions.definitions (c.in_ok-definitions.ensures ∙ c.new-found.ensures)
