use Rattle.std.proofs.Common.{length, ◌<◌}
use Rattle.shareable_types.specs.Sharing.{allowed}
use Rattle.shareable_types.specs.Settled.{allowed_at}
use Rattle.shareable_types.proofs.Deciding.{every_next, fields_at, take_next}
use Rattle.shareable_types.proofs.forms.add_fields.Goals as goal

pub add_part-requires : goal.add_part-requires
add_part-requires c = fields_at (λ p. p.index < length c.args.known.now) c.args.fields.now c.loop-field.field-index c.field-item.result c.requires c.loop-field-test.true c.field-item.is

pub loop-field-preserved : goal.loop-field-preserved
loop-field-preserved c x =
    every_next (λ f. allowed_at x c.args.known.now f.part) c.args.fields.now c.loop-field.field-index c.field-item.result (allowed x c.args.needs.now) (allowed x c.loop-field.needs) (allowed x c.add_part.new.needs)
    (take_next c.args.fields.now c.loop-field.field-index c.field-item.result c.loop-field-test.true c.field-item.is) (c.loop-field.invariant x) (c.in_ok-add_part.ensures x)
