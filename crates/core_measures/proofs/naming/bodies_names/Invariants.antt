use Rattle.std.proofs.Common.{◌≡◌, ◌++◌, drop, map}
use Rattle.core_ir.specs.Outward.{outward_bodies}
use Rattle.core_ir.specs.View.{core_body}
use Rattle.core_measures.specs.Sizes.{size_of}
use Rattle.core_measures.proofs.naming.bodies_names.Given as goal

abbrev pub invariant-loop-body : goal.invariant-loop-body
invariant-loop-body l = l.names ++ outward_bodies (size_of l.sizes) l.needs l.size (map core_body (drop l.body-index l.bodies)) ≡ l.fn.names ++ outward_bodies (size_of l.sizes) l.needs l.size (map core_body l.bodies)
