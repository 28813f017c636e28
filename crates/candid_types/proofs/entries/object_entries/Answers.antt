use Rattle.std.proofs.Common.{refl}
use Rattle.mo_types.specs.Wire.{entry_of}
use Rattle.candid_types.proofs.Orders.{entries_in_order}
use Rattle.candid_types.proofs.entries.object_entries.Goals as goal

pub returns : goal.returns
returns c = entries_in_order entry_of (λ f g. refl) _ c.args.fields.now c.loop-field.field-index c.loop-field.invariant c.loop-field-test.false c.sort_entries.result c.sort_entries.ensures
