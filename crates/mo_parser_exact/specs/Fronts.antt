-- What it is to stand at the front of tokens, and to be read off there.
use Rattle.std.specs.Prelude.{◌≡◌, ℕ, ◌++◌, Bool, true, false, Result, Ok, Err}
use Rattle.mo_syntax.specs.declared.expressions.Expression.{Expression}
use Rattle.mo_syntax.specs.declared.declarations.Declaration.{Declaration}
use Rattle.mo_syntax.specs.ExpressionGrammar.{first, exp, block, expression_tokens, declaration_tokens, IsExpression, IsDeclaration}
use Rattle.mo_parser_base.specs.declared.stop.Stop.{Stop}
use Rattle.mo_parser_base.specs.declared.stop.Stop.TheVariants as stops
use Rattle.mo_parser_base.specs.Input.{Input}

-- the expression of a level is the front of the tokens, and these are the rest
pub record IsFront (level : ℕ) (x : Expression) (tokens rest : Input) : Type 0 where
  pub text : tokens ≡ expression_tokens x ++ rest
  pub good : IsExpression x level (first rest)

-- the same of a declaration
pub record IsDeclared (x : Declaration) (tokens rest : Input) : Type 0 where
  pub text : tokens ≡ declaration_tokens x ++ rest
  pub good : IsDeclaration x (first rest)

-- A body is an expression behind a `=`, and else a block.
abbrev pub body_level : Bool → ℕ
body_level true = exp
body_level false = block

-- this tree is read and leaves the rest, unless there is no memory
abbrev pub Finds : {A : Type 0} → A → Input → Result A Stop → Input → Type 0
Finds x rest (Ok y) new = (y ≡ x) × (new ≡ rest)
Finds x rest (Err stop) new = stop ≡ stops.Memory
