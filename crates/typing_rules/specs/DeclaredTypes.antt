-- The types that declarations have by what is written of them: of functions, classes and public fields, with the names of types that a list declares
-- (Motoko language manual, sections "Function declaration", "Class declaration" and "Objects").
use Rattle.std.specs.Prelude.{true, false, length, map}
use Rattle.typing_rules.specs.AbstractSyntax.{Named, Pattern, Patterns, PatternFields, Signature, Declaration, Declarations}
use Rattle.typing_rules.specs.AbstractSyntax as p
use Rattle.typing_rules.specs.Terms.{Term, Terms, Fields, unlisted}
use Rattle.typing_rules.specs.Terms as t
use Rattle.typing_rules.specs.TypeScopes.{TypeScope, with_parameters, with_definition, names_of, term, term_or}

-- the types in scope in a function or class
abbrev pub within : {N : Type 0} → TypeScope → Signature N → TypeScope
within s g = with_parameters s (names_of g.generics)

-- ---- names of types that a list declares

abbrev pub with_declared : {N : Type 0} → TypeScope → Declaration N → TypeScope
with_declared s (p.TypeAlias x parameters a) = with_definition s x (length parameters)
with_declared s (p.Class x g fields) = with_definition s x (length g.generics)
with_declared s _ = s

abbrev pub with_list : {N : Type 0} → TypeScope → Declarations N → TypeScope
with_list s p.End = s
with_list s (p.Then public n d rest) = with_list (with_declared s d) rest

-- ---- the types of public fields, as they are written

-- the type of a pattern that is annotated
abbrev pub pattern_term : {N : Type 0} → TypeScope → Pattern N → Term
pattern_term s (p.pattern n (p.Annotated q a)) = term s a
pattern_term s _ = t.Bottom

abbrev pub parameter_terms : {N : Type 0} → TypeScope → Patterns N → Terms
parameter_terms s p.Nil = t.Nil
parameter_terms s (p.Cons q rest) = t.Cons (pattern_term s q) (parameter_terms s rest)

abbrev pub function_term : {N : Type 0} → TypeScope → Signature N → Term
function_term s g = t.Function (parameter_terms (within s g) g.parameters) (term_or (within s g) g.result t.unit)

-- the type of the objects of a class, where its type parameters are in scope
abbrev pub class_type : TypeScope → Named → Term
class_type s x = t.Use x.at (unlisted (map t.Parameter s.parameters))

-- A class gives a function and a type of its name.
abbrev pub class_term : {N : Type 0} → TypeScope → Named → Signature N → Term
class_term s x g = t.Function (parameter_terms (within s g) g.parameters) (class_type (within s g) x)

abbrev mutual
  -- the names of a pattern that have their types written directly
  pub pattern_fields : {N : Type 0} → TypeScope → Pattern N → Fields → Fields
  pattern_fields s (p.pattern n (p.Annotated (p.pattern m (p.Variable x)) a)) rest = t.constant x (term s a) rest
  pattern_fields s (p.pattern n (p.Annotated q a)) rest = pattern_fields s q rest
  pattern_fields s (p.pattern n (p.Optional q)) rest = pattern_fields s q rest
  pattern_fields s (p.pattern n (p.Tagged x q)) rest = pattern_fields s q rest
  pattern_fields s (p.pattern n (p.Variable x)) rest = t.constant x t.Bottom rest
  pattern_fields s (p.pattern n (p.Tuple items)) rest = patterns_fields s items rest
  pattern_fields s (p.pattern n (p.Object fields)) rest = fields_fields s fields rest
  pattern_fields s (p.pattern n _) rest = rest

  pub patterns_fields : {N : Type 0} → TypeScope → Patterns N → Fields → Fields
  patterns_fields s p.Nil rest = rest
  patterns_fields s (p.Cons q more) rest = pattern_fields s q (patterns_fields s more rest)

  pub fields_fields : {N : Type 0} → TypeScope → PatternFields N → Fields → Fields
  fields_fields s p.NoFields rest = rest
  fields_fields s (p.Field x q more) rest = pattern_fields s q (fields_fields s more rest)

abbrev pub declared_fields : {N : Type 0} → TypeScope → Declaration N → Fields → Fields
declared_fields s (p.Let q a) rest = pattern_fields s q rest
declared_fields s (p.Var stable x a e) rest = t.WithField x.bytes true (term_or s a t.Bottom) rest
declared_fields s (p.Func x g body) rest = t.constant x.bytes (function_term s g) rest
declared_fields s (p.Class x g fields) rest = t.constant x.bytes (class_term s x g) rest
declared_fields s _ rest = rest

-- an object's public fields are functions, or `let` and `var` with an annotated type
abbrev pub member_fields : {N : Type 0} → TypeScope → Declarations N → Fields
member_fields s p.End = t.NoFields
member_fields s (p.Then true n d rest) = declared_fields s d (member_fields s rest)
member_fields s (p.Then false n d rest) = member_fields s rest
