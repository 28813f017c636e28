-- What is given: the abstract syntax with the type of each node.
use Rattle.std.specs.Prelude.{ℕ, suc, List, [], ◌∷◌, Option, Some, None}
use Rattle.typing_rules.specs.AbstractSyntax.{TypeNode, Pattern, Patterns, Expression, Form, Expressions, Cases, ObjectFields, Signature}
use Rattle.typing_rules.specs.AbstractSyntax as p
use Rattle.typing_rules.specs.Terms.{Term, Fields}
use Rattle.typing_rules.specs.Terms as t
use Rattle.typing_rules.specs.Judgements.{Judgement}
use Rattle.typing_rules.specs.TypeScopes.{TypeScope, term_or}

-- the note of a node that has a type
pub record Note : Type 0 where
  pub at : ℕ
  pub type : Term

abbrev pub note : ℕ → Term → Note
note at u = record { at = at; type = u }

-- an expression with types
abbrev pub Typed : Type 0
Typed = Expression Note

-- a part, where a type is wanted or none is
abbrev pub Judged : Type 0
Judged = Option Term → Judgement Typed

abbrev pub typed : ℕ → Term → Form Note → Typed
typed at u f = p.exp (note at u) f

abbrev pub type_of : Typed → Term
type_of (p.exp n f) = n.type

-- at a type above its own
abbrev pub subsumed : Term → Typed → Typed
subsumed u (p.exp n f) = typed n.at u (p.Subsumed (p.exp n f))

abbrev pub types_of : Expressions Note → List Term
types_of p.Nil = []
types_of (p.Cons a rest) = type_of a ∷ types_of rest

abbrev pub case_types : Cases Note → List Term
case_types p.NoCases = []
case_types (p.Case q a rest) = type_of a ∷ case_types rest

-- the type of what is declared with a type, or with the value's
abbrev pub declared_type : TypeScope → Option TypeNode → Typed → Term
declared_type s u b = term_or s u (type_of b)

-- the fields of an object that no type is wanted of
abbrev pub field_types : TypeScope → ObjectFields Note → Fields
field_types s p.NoFields = t.NoFields
field_types s (p.Field mutable x u a rest) = t.WithField x.bytes mutable (declared_type s u a) (field_types s rest)

abbrev pub signature : Signature ℕ → Patterns Note → Signature Note
signature g qs = record { generics = g.generics; parameters = qs; result = g.result }

-- ---- of what is judged

-- the number of the first token
abbrev pub place : Expression ℕ → ℕ
place (p.exp at f) = at

abbrev pub pattern_place : Pattern ℕ → ℕ
pattern_place (p.pattern at f) = at

-- the type that is written at a pattern
abbrev pub annotation : Pattern ℕ → Option TypeNode
annotation (p.pattern at (p.Annotated q u)) = Some u
annotation _ = None

abbrev pub count : {N : Type 0} → Expressions N → ℕ
count p.Nil = 0
count (p.Cons a rest) = suc (count rest)

abbrev pub count_patterns : {N : Type 0} → Patterns N → ℕ
count_patterns p.Nil = 0
count_patterns (p.Cons q rest) = suc (count_patterns rest)
