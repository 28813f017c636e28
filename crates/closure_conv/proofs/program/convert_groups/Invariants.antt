use Rattle.std.proofs.Common.{◌≡◌, ◌++◌, drop, map}
use Rattle.core_laws.specs.Conversion.{convert_groups}
use Rattle.closure_conv.specs.Parts.{group_view}
use Rattle.closure_conv.proofs.program.convert_groups.Given as goal

abbrev pub invariant-loop-number : goal.invariant-loop-number
invariant-loop-number l =
    map group_view l.made ++ convert_groups l.needs (drop l.number l.needs) (map group_view (drop l.number l.groups)) ≡ convert_groups l.needs l.needs (map group_view l.groups)
