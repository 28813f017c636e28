-- What is opened, as the code holds it.
use Rattle.std.specs.Prelude.{Option, Some, None}
use Rattle.mo_types.specs.declared.node.TypeId.{TypeId}
use Rattle.pattern_coverage.specs.Known.{Known}
use Rattle.mo_coverage.specs.declared.opening.Opened.{Opened}
use Rattle.mo_coverage.specs.declared.shape.Shape.{Shape}
use Rattle.mo_coverage.specs.Openings.{Opening}
use Rattle.mo_coverage.specs.Shapes.{known, one_known}

abbrev pub part_in : Option (TypeId × Shape) → Option (TypeId × Known)
part_in None = None
part_in (Some p) = Some (p.0, known p.1)

abbrev pub opened_in : Opened → Opening TypeId
opened_in o = record { before = one_known o.before; inside = part_in o.inside; after = one_known o.after }
