-- What the front end shows of an expression is what is asked of its source.
use Rattle.std.specs.Prelude.{ℕ, ◌<◌, List}
use Rattle.mo_bindings.specs.ExpressionNames as names
use Rattle.mo_names.specs.Order.{Step, IsEarly}
use Rattle.mo_names.specs.Order as order
use Rattle.mo_scopes.specs.declared.finding.Finding.{Finding}
use Rattle.mo_scopes.specs.declared.finding.Finding.TheVariants as finding
use Rattle.mo_scopes.specs.declared.scope.Scope.{Scope}
use Rattle.mo_syntax.specs.declared.expressions.Expression.{Expression}
use Rattle.mo_syntax.specs.declared.name.Name.{Name}
use Rattle.mo_syntax.specs.ExpressionGrammar.{expression_tokens}
use Rattle.mo_syntax.specs.Parts.{Each}
use Rattle.mo_types.specs.declared.node.TypeId.{TypeId}
use Rattle.mo_types.specs.Graph.{Slot}
use Rattle.typing_rules.specs.AbstractExpressions.{in_expression}
use Rattle.typing_rules.specs.Definitions.{Definitions}
use Rattle.typing_rules.specs.Terms.{Term}
use Rattle.typing_rules.specs.TypeScopes.{TypeScope}
use Rattle.source_laws.specs.Source.{IsSource}
use Rattle.source_facts.specs.Shown.{AreWritten}

abbrev pub IsMeaning : Finding → Type 0
IsMeaning (finding.Meaning m) = Unit {0}
IsMeaning (finding.Breach b) = ⊥

-- No rule on names is broken.
abbrev pub AreMeanings : List Finding → Type 0
AreMeanings = Each IsMeaning

-- Nothing is used before it is defined.
abbrev pub IsListFine : List Step → Type 0
IsListFine steps = (name : Name) → IsEarly steps name → ⊥

abbrev pub AreListsFine : List (List Step) → Type 0
AreListsFine = Each IsListFine

-- An expression is a source wherever it stands behind the type parameters in scope, where no rule on names is broken, nothing is used before it is defined, and its
-- characters are Unicode scalar values.
abbrev pub ExpressionsAreSources : Type 0
ExpressionsAreSources =
    (defs : Definitions) (slots : List Slot) (terms : List Term) (number : Term → TypeId) (a : Expression) (s : TypeScope) (k : ℕ) (scope : Scope) → Each (λ v. v < k) s.parameters
    → AreMeanings ((names.in_expression a).finds scope) → AreListsFine (order.found a).lists → AreWritten (expression_tokens a) → IsSource defs slots terms number s ((in_expression a).from k)
