use Rattle.std.proofs.Common.{ap, ◌∙◌}
use Rattle.arena_keeping.specs.Taking.{first_taken}
use Rattle.arena_keeping.proofs.Values.{value_taken}
use Rattle.arena_keeping.proofs.taking.value_at.Goals as goal

pub returns : goal.returns
returns c =
    value_taken c.args.types.now c.args.of_type c.args.parts.now c.args.arena.now c.values_of_parts.new.arena c.in_ok-values.values.items c.first_taken.result c.in_ok-values.ensures
    (c.first_taken.ensures ∙ ap first_taken c.as_slice.ensures.value)
