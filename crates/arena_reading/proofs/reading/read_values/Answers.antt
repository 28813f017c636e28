use Rattle.std.proofs.Common.{refl}
use Rattle.mo_types.specs.Graph.{head_at}
use Rattle.arena_reading.specs.Opening.{types_along}
use Rattle.arena_reading.proofs.Readings.{is_not_read, is_read, opened_parts}
use Rattle.arena_reading.proofs.reading.read_values.Goals as goal

pub returns-in_ok-values-in-Ok : goal.returns-in_ok-values-in-Ok
returns-in_ok-values-in-Ok c =
    let along = types_along (head_at c.args.types.now) c.args.ids.now c.as_slice.result.now in
    is_read c.args.types.now c.args.ids.now c.args.bytes.now c.in-Ok.data.parts c.args.arena.now c.values_of_parts.new.arena c.in_ok-values-in-Ok.values.items c.in-Ok.ensures.found
    (opened_parts c.args.types.now c.args.ids.now along along c.as_slice.result.now c.in-Ok.data.parts c.args.arena.now c.values_of_parts.new.arena c.in_ok-values-in-Ok.values.items refl refl c.as_slice.ensures
    c.in_ok-values-in-Ok.ensures)

pub returns-in-Err-Fault : goal.returns-in-Err-Fault
returns-in-Err-Fault c = is_not_read c.args.types.now c.args.ids.now c.args.bytes.now c.args.arena.now (λ v reads. (rw c.in-Err-Fault.field-0-is at c.in-Err-Fault.ensures.only) v reads)
