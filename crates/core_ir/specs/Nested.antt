-- Programs of nested expressions whose bodies nest no more than they have nodes, where an execution begins or goes on in them. In the functions
-- that these call nothing waits.
use Rattle.std.specs.Prelude.{◌≤◌, List, [], ◌∷◌}
use Rattle.core_ir.specs.FormedExpressions.{nest}
use Rattle.core_ir.specs.Programs.{Method}
use Rattle.core_ir.specs.Expressions.{Body, Core}

abbrev pub NestedMethods : List (Method Body) → Type 0
NestedMethods [] = Unit {0}
NestedMethods (m ∷ ms) = (nest m.body.expression ≤ m.body.nodes) × NestedMethods ms

pub record Nested (p : Core) : Type 0 where
  pub methods : NestedMethods p.methods
  pub save : nest p.save.expression ≤ p.save.nodes
  pub start : nest p.start.expression ≤ p.start.nodes
