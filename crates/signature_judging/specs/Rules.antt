-- The judgements of parameters, contexts and lists of declarations, by the definitions and the names in scope.
use Rattle.std.specs.Prelude.{ℕ, List, Option}
use Rattle.type_terms.specs.declared.form.TermId.{TermId}
use Rattle.typing_rules.specs.AbstractSyntax.{Declarations, Pattern, Patterns}
use Rattle.typing_rules.specs.Contexts.{Scope}
use Rattle.typing_rules.specs.Judgements.{Judgement}
use Rattle.typing_rules.specs.Terms.{Term}
use Rattle.typing_rules.specs.TypedTrees.{Note}
use Rattle.type_scopes.specs.Scopes.{seen}
use Rattle.signatures.specs.Taking as taking
use Rattle.list_signatures.specs.Listing as listing
use Rattle.judging.specs.Views.{View}

-- the names that parameters bind, and their types and themselves
abbrev pub parameters : List (Pattern ℕ) → List TermId → View → Judgement (Scope × (List Term × Patterns Note))
parameters qs ids v = taking.parameters (seen v.scopes.types) qs ids v.listed v.later

-- the names that the pattern of a context binds, and itself
abbrev pub context_of : Option (Pattern ℕ) → View → Judgement (Scope × Option (Pattern Note))
context_of o v = taking.context_of (seen v.scopes.types) o v.listed v.later

-- the types that a list defines
abbrev pub definitions_of : Declarations ℕ → View → Judgement (Unit {0})
definitions_of ds v = listing.definitions_of (seen v.scopes.types) ds v.listed v.later

-- the names that a list binds in the whole of it
abbrev pub signatures_of : Declarations ℕ → View → Judgement (Scope × Unit {0})
signatures_of ds v = listing.signatures_of (seen v.scopes.types) ds v.listed v.later
