-- What loops and updates are around their parts.
use Rattle.std.specs.Prelude.{ℕ, []}
use Rattle.mo_values.specs.declared.operation.Operation.{Operation}
use Rattle.mo_values.specs.declared.operation.Operation.TheVariants as op
use Rattle.core_ir.specs.declared.primitive.Primitive.TheVariants as primitive
use Rattle.core_ir.specs.Expressions.{Exp, Name, NoExp, Loop}
use Rattle.typed_tree.specs.Language as source
use Rattle.elaboration.specs.Elaboration.{changed, elaborate, element_of}
use Rattle.elaboration.specs.Members.{Elaborated, does, let_in}
use Rattle.elaboration.specs.Scopes.{Scope, beside, nothing, one, two}

-- behind a loop without end
abbrev pub unreached : Exp
unreached = does (primitive.Operate (op.Fail [])) NoExp

-- one turn of a `for`, by the object that is the nearest name
abbrev pub turn : Exp → Exp
turn body = let_in element_of body

-- turns without end
abbrev pub turns : Scope → ℕ → source.Exp → Elaborated
turns s n b = changed (λ y. Loop (let_in nothing y)) (elaborate (beside 1 s) n b)

-- the place that is the nearest name gets what the operation makes of what it held and of this
abbrev pub written : Operation → Exp → Exp
written o operand = does primitive.Write (two (Name 0) (does (primitive.Operate o) (two (does primitive.Read (one (Name 0))) operand)))
