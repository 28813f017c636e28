use Rattle.subtype_laws.proofs.Samples.{twice_equal, twice_wires}
use Rattle.subtype_laws.proofs.rows.repeated_labels_change_candid_types.Goals as goal

pub returns-clause-equal : goal.returns-clause-equal
returns-clause-equal c = twice_equal

pub returns-clause-wires : goal.returns-clause-wires
returns-clause-wires c = twice_wires
