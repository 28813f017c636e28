-- Parameters and signatures of functions, classes and public functions, and the types that a list defines (Motoko language manual, sections "Functions",
-- "Function declaration", "Class declaration", "Shared functions" and "Type declarations").
use Rattle.std.specs.Prelude.{ℕ, Bool, true, false, List, [], ◌∷◌, ◌++◌, codes, Option, Some, None}
use Rattle.mo_types.specs.declared.node.Sort.{Sort}
use Rattle.mo_types.specs.declared.node.Sort.TheVariants as sort
use Rattle.typing_rules.specs.declared.condition.Condition.TheVariants as condition
use Rattle.typing_rules.specs.AbstractSyntax.{TypeNode, Pattern, Patterns, Declaration, Declarations}
use Rattle.typing_rules.specs.AbstractSyntax as p
use Rattle.typing_rules.specs.Terms.{Term, unlisted, unit}
use Rattle.typing_rules.specs.Terms as t
use Rattle.typing_rules.specs.Definitions.{Definitions}
use Rattle.typing_rules.specs.Judgements.{Judgement, Gives, Fails, Meets, Part, Case, Given, Fine}
use Rattle.typing_rules.specs.TypeScopes.{TypeScope, with_parameters, names_of, places_of, term}
use Rattle.typing_rules.specs.Types.{Proper, Reads, ReadsOr, AllShareable, Generics, Defines}
use Rattle.typing_rules.specs.DeclaredTypes.{within, class_type}
use Rattle.typing_rules.specs.Contexts.{Scope, constant, generic}
use Rattle.typing_rules.specs.Patterns.{Stands}
use Rattle.typing_rules.specs.TypedTrees.{Note, pattern_place, annotation}

-- what the parameters of a function are: the names that they bind, their types, and themselves
pub record Taken : Type 0 where
  pub scope : Scope
  pub types : List Term
  pub patterns : Patterns Note

abbrev pub first : List Term → Option Term
first [] = None
first (u ∷ us) = Some u

abbrev pub others : List Term → List Term
others [] = []
others (u ∷ us) = us

-- `{caller : Principal}`
abbrev pub context_type : Term
context_type = t.Object (t.constant (codes "caller") t.Principal t.NoFields)

abbrev pub method_sort : Bool → Sort
method_sort false = sort.Shared
method_sort true = sort.Query

-- T of a public function's result `async T`
abbrev pub async_term : TypeScope → Option TypeNode → Term
async_term s (Some (p.node at (p.Async a))) = term s a
async_term s _ = unit

module _ (defs : Definitions) where
  -- Each is annotated, or takes its type from these that are wanted.
  abbrev pub Parameters : TypeScope → Patterns ℕ → List Term → Judgement Taken
  Parameters s p.Nil us = Gives (record { scope = []; types = []; patterns = p.Nil })
  Parameters s (p.Cons q rest) us =
      Part (Case (annotation q) (λ a. Reads defs s a) (λ _. Given condition.NeedsType (pattern_place q) (first us) (λ u. Gives u))) (λ u.
      Part (Stands defs s q u) (λ b. Part (Parameters s rest (others us)) (λ c.
      Gives (record { scope = c.scope ++ b.0; types = u ∷ c.types; patterns = p.Cons b.1 c.patterns }))))

  -- the types of parameters that are all annotated
  abbrev pub ParameterTypes : TypeScope → Patterns ℕ → Judgement (List Term)
  ParameterTypes s p.Nil = Gives []
  ParameterTypes s (p.Cons q rest) =
      Part (Given condition.NeedsType (pattern_place q) (annotation q) (λ a. Reads defs s a)) (λ u. Part (ParameterTypes s rest) (λ us. Gives (u ∷ us)))

  -- the context of a call, `{caller : Principal}`
  abbrev pub ContextOf : TypeScope → Option (Pattern ℕ) → Judgement (Scope × Option (Pattern Note))
  ContextOf s None = Gives ([], None)
  ContextOf s (Some q) = Meets context_type (Part (Stands defs s q context_type) (λ b. Gives (b.0, Some b.1)))

  -- the result of a public function is `async T`
  abbrev pub AsyncResult : ℕ → TypeScope → Option TypeNode → Judgement Term
  AsyncResult at s (Some (p.node inner (p.Async a))) = Reads defs s a
  AsyncResult at s _ = Fails condition.NotShared at

  -- the name that a function, class or public function binds in its whole list
  abbrev pub SignatureOf : TypeScope → Declaration ℕ → Judgement Scope
  SignatureOf s (p.Func x g body) =
      Part (Generics defs (within s g) g.generics) (λ _. Part (ParameterTypes (within s g) g.parameters) (λ us. Part (ReadsOr defs (within s g) g.result unit) (λ r.
      Meets (t.Function (unlisted us) r) (Gives ((x.bytes, generic (places_of (names_of g.generics)) (t.Function (unlisted us) r)) ∷ [])))))
  SignatureOf s (p.Class x g fields) =
      Part (Generics defs (within s g) g.generics) (λ _. Part (ParameterTypes (within s g) g.parameters) (λ us.
      Meets (t.Function (unlisted us) (class_type (within s g) x)) (Gives ((x.bytes, generic (places_of (names_of g.generics)) (t.Function (unlisted us) (class_type (within s g) x))) ∷ []))))
  SignatureOf s (p.Method query context x g body) =
      Part (ParameterTypes s g.parameters) (λ us. Part (AsyncResult x.at s g.result) (λ r. Part (AllShareable x.at us r) (λ _.
      Meets (t.Shared (method_sort query) (unlisted us) r) (Gives ((x.bytes, constant (t.Shared (method_sort query) (unlisted us) r)) ∷ [])))))
  SignatureOf s _ = Gives []

  abbrev pub Signatures : TypeScope → Declarations ℕ → Judgement Scope
  Signatures s p.End = Gives []
  Signatures s (p.Then public at d rest) = Part (SignatureOf s d) (λ one. Part (Signatures s rest) (λ more. Gives (more ++ one)))

  -- the types that a list defines
  abbrev pub DefinitionOf : TypeScope → Declaration ℕ → Judgement (Unit {0})
  DefinitionOf s (p.TypeAlias x parameters a) = Part (Proper defs (with_parameters s parameters) a) (λ _. Defines defs x)
  DefinitionOf s (p.Class x g fields) = Defines defs x
  DefinitionOf s _ = Fine

  abbrev pub DefinitionsOf : TypeScope → Declarations ℕ → Judgement (Unit {0})
  DefinitionsOf s p.End = Fine
  DefinitionsOf s (p.Then public at d rest) = Part (DefinitionOf s d) (λ _. DefinitionsOf s rest)
