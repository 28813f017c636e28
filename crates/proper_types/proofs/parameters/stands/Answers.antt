use Rattle.proper_types.specs.Rules.{done, stands}
use Rattle.proper_types.proofs.Judging.{handed}
use Rattle.proper_types.proofs.Readings.{ends_and_met, ends_not}
use Rattle.proper_types.proofs.parameters.stands.Goals as goal

pub returns-in_err-bound_ends : goal.returns-in_err-bound_ends
returns-in_err-bound_ends c =
    handed (stands c.args.at) c.args.types.now c.bound_ends.new.types c.args.sharing.now c.args.sharing.now done done c.in_err-bound_ends.field-0.0 c.from_residual.result c.from_residual.ensures
    (ends_not c.args.at c.args.types.now c.bound_ends.new.types c.args.sharing.now c.in_err-bound_ends.field-0.0 c.in_err-bound_ends.ensures)

pub returns : goal.returns
returns c = ends_and_met c.args.at c.args.types.now c.bound_ends.new.types c.is_met.new.types c.args.sharing.now c.args.sharing.now c.is_met.result c.in_ok-bound_ends.ensures c.is_met.ensures
