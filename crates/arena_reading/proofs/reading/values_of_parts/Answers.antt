use Rattle.std.proofs.Common.{refl}
use Rattle.arena_reading.proofs.Readings.{opened_parts}
use Rattle.arena_reading.proofs.reading.values_of_parts.Goals as goal

pub returns : goal.returns
returns c =
    opened_parts c.args.types.now c.args.ids.now c.as_slice.result.now c.in_ok-of.of.items c.args.parts.now c.args.parts.now c.args.arena.now c.open_parts.new.arena c.in_ok-values.values.items c.as_slice.ensures.value c.in_ok-of.ensures refl
    c.in_ok-values.ensures
