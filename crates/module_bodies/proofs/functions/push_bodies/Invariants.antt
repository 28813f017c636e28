use Rattle.std.proofs.Common.{◌≡◌, ◌∙◌, ◌++◌, ◌∷◌, [], ◌+◌, ℕ, List, length, map, drop, ap, sym}
use Rattle.core_ir.specs.declared.code.CodeBody.{CodeBody}
use Rattle.core_ir.specs.declared.program.Group.{Group}
use Rattle.core_ir.specs.declared.program.Method.{Method}
use Rattle.body_lists.specs.Known.{link_of, plan_of}
use Rattle.module_bodies.specs.Bodies.{listed, listed_groups, listed_methods}
use Rattle.module_bodies.proofs.functions.push_bodies.Given as goal

abbrev pub invariant-loop-body : goal.invariant-loop-body
invariant-loop-body l = (functions sees : ℕ) → l.list ++ map (listed (plan_of l.known) (link_of l.known) l.members functions sees) (drop l.body-index l.bodies) ≡ l.fn.list ++ map (listed (plan_of l.known) (link_of l.known) l.members functions sees) l.bodies
