use Rattle.std.proofs.lemmas.List.{take_more}
use Rattle.shareable_types.specs.Sharing.{allowed}
use Rattle.shareable_types.specs.Settled.{allowed_at}
use Rattle.shareable_types.proofs.Deciding.{every_next}
use Rattle.shareable_types.proofs.forms.add_parts.Goals as goal

pub loop-part-preserved : goal.loop-part-preserved
loop-part-preserved c x =
    every_next (allowed_at x c.args.known.now) c.args.parts.now c.loop-part.part-index _ (allowed x c.args.needs.now) (allowed x c.loop-part.needs) (allowed x c.add_part.new.needs)
    (take_more c.args.parts.now c.loop-part.part-index _ c.loop-part-test.true) (c.loop-part.invariant x) (c.in_ok-add_part.ensures x)
