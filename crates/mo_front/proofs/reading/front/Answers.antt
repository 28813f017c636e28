use Rattle.mo_front.proofs.WellTyped.{given_well_typed}
use Rattle.mo_front.proofs.reading.front.Goals as goal

pub returns-clause-well_typed : goal.returns-clause-well_typed
returns-clause-well_typed c = given_well_typed c.args.source.now c.in_ok-tokens.tokens c.as_slice.result.now c.read_tokens.result c.as_slice.ensures c.in_ok-tokens.ensures c.read_tokens.ensures
