use Rattle.std.proofs.Common.{◌++◌, ap, ◌∙◌}
use Rattle.kernel_places.proofs.Having.{defines_is}
use Rattle.kernel_places.proofs.Closed.{rounded}
use Rattle.kernel_places.proofs.rounds.mark_round.Goals as goal

pub returns : goal.returns
returns c =
    rounded c.args.steps.now c.close.result c.args.index c.args.marks.now c.args.late.now c.push_copies.new.late c.len-from.result c.close.new.marks c.close.new.late c.len-from.ensures
    (c.in_ok-push_copies.ensures ∙ ap (λ t. c.args.late.now ++ t) (c.defines.ensures ∙ defines_is c.args.steps.now c.args.index c.index-steps-index.result c.requires.declared c.index-steps-index.is)) c.close.ensures
