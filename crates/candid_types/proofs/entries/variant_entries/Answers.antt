use Rattle.std.proofs.Common.{refl}
use Rattle.mo_types.specs.Graph.{head_at}
use Rattle.mo_types.specs.Wire.{tag_of}
use Rattle.candid_types.proofs.Orders.{entries_in_order}
use Rattle.candid_types.proofs.entries.variant_entries.Goals as goal

pub returns : goal.returns
returns c = entries_in_order (tag_of (head_at c.args.types.now)) (λ f g. refl) _ c.args.tags.now c.loop-tag.tag-index c.loop-tag.invariant c.loop-tag-test.false c.sort_entries.result c.sort_entries.ensures
