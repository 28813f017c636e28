use Rattle.mo_types.specs.Wire.{refs}
use Rattle.candid_laws.proofs.Graphs.{few_entries}
use Rattle.candid_laws.proofs.header.entries_are_types.Goals as goal

pub returns : goal.returns
returns c = λ slots types order v. few_entries slots (refs types) order v
