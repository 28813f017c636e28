-- A function value that walks over types of at most so many levels.
use Rattle.std.specs.Prelude.{◌≡◌, ℕ, ◌+◌, ◌^◌, ◌<◌, List, Option, Result, IfOk, map, option_map}
use Rattle.std.specs.declared.alloc.Global.{Global}
use denote.Bor.{Bor}
use Rattle.mo_num.specs.declared.memory.Memory.{Memory}
use Rattle.mo_syntax.specs.declared.types.TypeExpression.{TypeExpression}
use Rattle.typing_rules.specs.AbstractTypes.{TypeSpan, in_type, type_nodes, parameter_nodes, in_angles, angled, generics_size, generics_spans}
use Rattle.mo_syntax.specs.declared.types.TypeParameter as written
use Rattle.typing_rules.specs.AbstractSyntax as p
use Rattle.typing_rules.specs.Spans.{Span, listed_from}
use Rattle.typing_rules.specs.AbstractExpressions.{arguments_size}
use Rattle.abstract_types.specs.declared.types.TypeNode.{TypeNode}
use Rattle.abstract_types.specs.declared.types.TypeParameter.{TypeParameter}
use Rattle.abstract_types.specs.TypeView.{type_node, parameter}
use Rattle.abstract_type_walk.specs.Stands.{Stands}

pub record Walks (depth : ℕ) (pre : Global → ℕ → Bor TypeExpression → ℕ → Type 0)
    (post : Global → ℕ → Bor TypeExpression → ℕ → Result (TypeNode × ℕ) Memory → Type 0) : Type 0 where
  pub callable : (alloc : Global) (a : Bor TypeExpression) (at : ℕ) → at < 2 ^ 32 → pre alloc depth a at
  pub walks : (alloc : Global) (a : Bor TypeExpression) (at : ℕ) (r : Result (TypeNode × ℕ) Memory) → post alloc depth a at r
      → IfOk r (Stands type_node (in_type a.now) at)

-- what stands before `->`
pub record AreParameters (span : TypeSpan) (at : ℕ) (made : List TypeNode × ℕ) : Type 0 where
  pub parts : type_nodes (map type_node made.0) ≡ parameter_nodes span at
  pub next : made.1 ≡ at + span.size

-- what stands behind a name
pub record AreArguments (arguments : Option (List TypeSpan)) (at : ℕ) (made : List TypeNode × ℕ) : Type 0 where
  pub parts : map type_node made.0 ≡ angled arguments at
  pub next : made.1 ≡ at + in_angles arguments

-- the type arguments of a call
pub record AreTypeArguments (types : Option (List (Span p.TypeNode))) (at : ℕ) (made : Option (List TypeNode) × ℕ) : Type 0 where
  pub parts : option_map (map type_node) made.0 ≡ option_map (λ us. listed_from us (at + 1)) types
  pub next : made.1 ≡ at + arguments_size types

-- the type parameters of a function or class
pub record AreGenerics (generics : Option (List written.TypeParameter)) (at : ℕ) (made : List TypeParameter × ℕ) : Type 0 where
  pub parts : map parameter made.0 ≡ listed_from (generics_spans generics) (at + 1)
  pub next : made.1 ≡ at + generics_size generics
