-- A function where its type parameters are in scope.
use Rattle.std.specs.Prelude.{ℕ, List, [], Some, map}
use Rattle.typing_rules.specs.AbstractSyntax.{Expression, Named, Signature}
use Rattle.typing_rules.specs.AbstractSyntax as p
use Rattle.typing_rules.specs.AsyncPlaces.{Local}
use Rattle.typing_rules.specs.Contexts.{in_body}
use Rattle.typing_rules.specs.Expressions.{Judge}
use Rattle.typing_rules.specs.Judgements.{Gives, Judgement, Part}
use Rattle.typing_rules.specs.Lists as rules
use Rattle.typing_rules.specs.Signatures.{Parameters}
use Rattle.typing_rules.specs.Terms.{Term, unit, unlisted}
use Rattle.typing_rules.specs.Terms as t
use Rattle.typing_rules.specs.TypedTrees.{note, signature}
use Rattle.typing_rules.specs.TypeScopes.{term_or}
use Rattle.type_scopes.specs.Scopes.{seen}
use Rattle.value_scopes.specs.declared.place.Place.{Place}
use Rattle.value_scopes.specs.declared.scopes.Scopes.{Scopes}
use Rattle.judging.specs.Views.{View, context, definitions}
use Rattle.order_rules.specs.declared.entries.MadeDeclaration.{MadeDeclaration}
use Rattle.order_rules.specs.Entries.{made_in}

-- its result
abbrev pub result_of : Signature ℕ → Scopes → Term
result_of g c = term_or (seen c.types) g.result unit

abbrev pub function_in : Place → ℕ → Named → Signature ℕ → Expression ℕ → List MadeDeclaration → View → Judgement (rules.Made × List rules.Made)
function_in y at x g body rest v =
    Part (Parameters (definitions v) (seen v.scopes.types) g.parameters []) (λ ps.
    Part (Judge (definitions v) (in_body Local (Some (result_of g v.scopes)) ps.scope (context v y)) body (Some (result_of g v.scopes))) (λ b.
    Gives ((note at (t.Function (unlisted ps.types) (result_of g v.scopes)), p.Func x (signature g ps.patterns) b), map (made_in v.later) rest)))
