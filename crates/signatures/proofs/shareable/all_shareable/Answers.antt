use Rattle.proper_types.specs.Rules.{done}
use Rattle.proper_types.proofs.Judging.{handed}
use Rattle.signatures.specs.Rules.{all_shareable}
use Rattle.signatures.proofs.Steps.{all_sent, not_promised}
use Rattle.signatures.proofs.shareable.all_shareable.Goals as goal

pub returns-in_err-needs_shareable : goal.returns-in_err-needs_shareable
returns-in_err-needs_shareable c =
    handed (all_shareable c.args.at c.args.kinds.now c.args.promised) c.args.types.now c.args.types.now c.needs_shareable.new.sharing c.needs_shareable.new.sharing done done c.in_err-needs_shareable.field-0.0 c.from_residual.result c.from_residual.ensures
    (not_promised c.args.at c.args.kinds.now c.args.promised c.args.types.now c.args.types.now c.needs_shareable.new.sharing c.needs_shareable.new.sharing c.in_err-needs_shareable.field-0.0 c.in_err-needs_shareable.ensures)

pub returns : goal.returns
returns c = all_sent c.args.at c.args.kinds.now c.args.promised c.args.types.now c.args.types.now c.args.types.now c.needs_shareable.new.sharing c.each_shareable.new.sharing c.each_shareable.result c.in_ok-needs_shareable.ensures c.each_shareable.ensures
