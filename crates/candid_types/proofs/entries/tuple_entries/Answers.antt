use Rattle.std.proofs.Common.{◌∙◌, ap, map}
use Rattle.mo_types.specs.Wire.{map_entry}
use Rattle.candid_types.specs.Shapes.{ref_of}
use Rattle.candid_types.proofs.Tables.{tuple_more}
use Rattle.candid_types.proofs.entries.tuple_entries.Goals as goal

pub loop-i-preserved : goal.loop-i-preserved
loop-i-preserved c = ap (map (map_entry ref_of)) c.in_ok-push.ensures.items ∙ tuple_more c.args.parts.now c.loop-i.i c.loop-i.made.items (record { index = 0 }) c.number.result c.loop-i-test.true c.loop-i.invariant c.number.ensures.stands
