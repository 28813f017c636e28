-- Function values that walk over expressions and declarations of at most so many levels.
use Rattle.std.specs.Prelude.{◌≡◌, ℕ, ◌+◌, ◌^◌, ◌<◌, false, List, [], Option, Some, None, Result, IfOk, map}
use Rattle.std.specs.declared.alloc.Global.{Global}
use denote.Bor.{Bor}
use Rattle.mo_num.specs.declared.memory.Memory.{Memory}
use Rattle.mo_syntax.specs.declared.name.Name.{Name}
use Rattle.mo_syntax.specs.declared.expressions.Expression as written_expression
use Rattle.mo_syntax.specs.declared.declarations.Declaration as written_declaration
use Rattle.typing_rules.specs.AbstractSyntax.{Named, Declarations}
use Rattle.typing_rules.specs.AbstractSyntax as p
use Rattle.typing_rules.specs.Spans.{Span, led, one, name_at, listed_from, listed_size}
use Rattle.typing_rules.specs.AbstractExpressions.{DeclarationSpan, MemberSpan, ExpressionSpan, field_value, in_expression, in_declaration}
use Rattle.abstract_types.specs.declared.names.PlacedName.{PlacedName}
use Rattle.abstract_type_walk.specs.Stands.{Stands}
use Rattle.abstract_types.specs.TypeView.{named}
use Rattle.abstract_tree.specs.declared.expressions.Expression.{Expression}
use Rattle.abstract_tree.specs.declared.declarations.Declaration.{Declaration}
use Rattle.abstract_tree.specs.declared.declarations.DeclarationForm.{DeclarationForm}
use Rattle.abstract_tree.specs.TreeView.{DeclarationView, plain, plain_declaration, plain_declaration_form, declarations}

pub record Walks (depth : ℕ) (pre : Global → ℕ → Bor written_expression.Expression → ℕ → Type 0)
    (post : Global → ℕ → Bor written_expression.Expression → ℕ → Result (Expression ℕ × ℕ) Memory → Type 0)
    (pre_declared : Global → ℕ → Bor written_declaration.Declaration → ℕ → Type 0)
    (post_declared : Global → ℕ → Bor written_declaration.Declaration → ℕ → Result (DeclarationForm ℕ × ℕ) Memory → Type 0) : Type 0 where
  pub callable : (alloc : Global) (a : Bor written_expression.Expression) (at : ℕ) → at < 2 ^ 32 → pre alloc depth a at
  pub walks : (alloc : Global) (a : Bor written_expression.Expression) (at : ℕ) (r : Result (Expression ℕ × ℕ) Memory) → post alloc depth a at r
      → IfOk r (Stands plain (in_expression a.now) at)
  pub callable_declared : (alloc : Global) (d : Bor written_declaration.Declaration) (at : ℕ) → at < 2 ^ 32 → pre_declared alloc depth d at
  pub walks_declared : (alloc : Global) (d : Bor written_declaration.Declaration) (at : ℕ) (r : Result (DeclarationForm ℕ × ℕ) Memory) → post_declared alloc depth d at r
      → IfOk r (Stands plain_declaration_form (in_declaration d.now) at)

-- a declaration of a block, and one with its word, before others
abbrev pub in_block : DeclarationSpan → Span (DeclarationView ℕ)
in_block d = record { size = d.size; from = λ k rest. p.Then false k (d.from k) rest }

abbrev pub in_object : MemberSpan → Span (DeclarationView ℕ)
in_object d = record { size = d.size; from = λ k rest. p.Then (d.from k).0 k (d.from k).1 rest }

-- a list of declarations, from the token of this number on, of so many tokens
pub record AreDeclarations (is : Declarations ℕ) (size : ℕ) (at : ℕ) (made : List (Declaration ℕ) × ℕ) : Type 0 where
  pub parts : declarations (map plain_declaration made.0) ≡ is
  pub next : made.1 ≡ at + size

-- the names in `< >` behind that of a type
abbrev pub name_spans : Option (List Name) → List (Span Named)
name_spans None = []
name_spans (Some xs) = map (λ y. one (name_at y)) xs

abbrev pub names_size : Option (List Name) → ℕ
names_size None = 0
names_size (Some xs) = 2 + listed_size (map (λ y. one (name_at y)) xs)

pub record AreNames (names : Option (List Name)) (at : ℕ) (made : List PlacedName × ℕ) : Type 0 where
  pub parts : map named made.0 ≡ listed_from (name_spans names) (at + 1)
  pub next : made.1 ≡ at + names_size names

-- what a field has, whose name is the token of this number, where its value stands behind the token of the other
pub record IsFieldValue (x : Name) (place : ℕ) (value : Option ExpressionSpan) (mark : ℕ) (made : Expression ℕ × ℕ) : Type 0 where
  pub part : plain made.0 ≡ field_value x place (mark + 1) value
  pub next : made.1 ≡ mark + led 1 value
