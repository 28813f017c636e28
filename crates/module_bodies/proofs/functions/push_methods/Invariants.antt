use Rattle.std.proofs.Common.{◌≡◌, ◌∙◌, ◌++◌, ◌∷◌, [], ◌+◌, ℕ, List, length, map, drop, ap, sym}
use Rattle.core_ir.specs.declared.code.CodeBody.{CodeBody}
use Rattle.core_ir.specs.declared.program.Group.{Group}
use Rattle.core_ir.specs.declared.program.Method.{Method}
use Rattle.body_lists.specs.Known.{link_of, plan_of}
use Rattle.module_bodies.specs.Bodies.{listed, listed_groups, listed_methods}
use Rattle.module_bodies.proofs.functions.push_methods.Given as goal

abbrev pub invariant-loop-method : goal.invariant-loop-method
invariant-loop-method l = l.list ++ listed_methods (plan_of l.known) (link_of l.known) (drop l.method-index l.methods) ≡ l.fn.list ++ listed_methods (plan_of l.known) (link_of l.known) l.methods
