use Rattle.std.proofs.Common.{◌∙◌}
use Rattle.arena_coding.proofs.Written.{ok_more}
use Rattle.arena_reading.proofs.Ordered.{label_none, label_there}
use Rattle.arena_reading.proofs.fields.label_of.Goals as goal

pub returns-then-place-order : goal.returns-then-place-order
returns-then-place-order c =
    ok_more _ _ c.from_slice.result c.from_slice.ensures
    (λ l is. is ∙ c.as_slice.ensures ∙ label_there c.args.order.now c.args.place c.index-order-place.result c.if-place-order.true)

pub returns-else-place-order : goal.returns-else-place-order
returns-else-place-order c = c.new.ensures ∙ label_none c.args.order.now c.args.place c.if-place-order.false
