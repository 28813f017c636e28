-- The names in expressions and declarations (Motoko language manual, "Expressions", "Declarations", "Identifiers").
--
-- Those that are used are each variable, the variable or module before a dot with the label behind it, each field `x` without a value, each type that is named,
-- and the label of each `break` and `continue`. Scopes are blocks, bodies, cases, `for`, `catch` and parameters of functions. A list of declarations has all its
-- names in scope.
use Rattle.std.specs.Prelude.{List, [], ◌∷◌, ◌++◌, Option, Some, None, option_map, map}
use Rattle.std.specs.List.{flat_map}
use Rattle.mo_syntax.specs.declared.name.Name.{Name}
use Rattle.mo_syntax.specs.declared.types.TypeExpression.{TypeExpression}
use Rattle.mo_syntax.specs.declared.types.TypeParameter.{TypeParameter}
use Rattle.mo_syntax.specs.declared.patterns.Pattern.{Pattern}
use Rattle.mo_syntax.specs.declared.patterns.Parameters.{Parameters}
use Rattle.mo_syntax.specs.declared.declarations.Visibility.{Visibility}
use Rattle.mo_syntax.specs.declared.declarations.Visibility.TheVariants as visible
use Rattle.mo_syntax.specs.declared.expressions.Expression.{Expression, Expression-F, fold-Expression}
use Rattle.mo_syntax.specs.declared.expressions.Case.{Case, fold-Case}
use Rattle.mo_syntax.specs.declared.expressions.ExpressionField.{ExpressionField, fold-ExpressionField}
use Rattle.mo_syntax.specs.declared.declarations.Declaration.{Declaration, Declaration-F, fold-Declaration}
use Rattle.mo_syntax.specs.declared.declarations.DeclarationField.{DeclarationField, fold-DeclarationField}
use Rattle.mo_syntax.specs.declared.declarations.Declaration.TheOpen as F
use Rattle.mo_scopes.specs.declared.finding.Finding.{Finding}
use Rattle.mo_scopes.specs.declared.scope.Scope.{Scope}
use Rattle.mo_scopes.specs.Findings.{Names, InScope, identifier, label, together, labels, used, each_identifier, each_label, nothing, within, each, each_within}
use Rattle.mo_scopes.specs.Scopes.{value_meaning, member_meaning, member_fault, loop_meaning, with_values, with_types, with_loop, without_loops}
use Rattle.mo_pattern_names.specs.TypeNames.{Entry, names_of, each_entry, in_type}
use Rattle.mo_pattern_names.specs.PatternNames.{in_pattern, in_parameters, whole}

-- an expression: its name where it is one, and what is found in it
pub record Whole : Type 0 where
  pub head : Option Name
  pub finds : InScope

-- a declaration: the values and types that it binds
pub record Declared : Type 0 where
  pub values : Names
  pub types : Names
  pub finds : InScope

-- a declaration of an object or class, and what of it others see
pub record Member : Type 0 where
  pub values : Names
  pub types : Names
  pub public : Names
  pub finds : InScope

-- ---- annotations and parameters

abbrev pub annotation : Option TypeExpression → InScope
annotation kind = within (option_map in_type kind)

abbrev pub type_parameter : Scope → TypeParameter → List Finding
type_parameter s x = identifier x.name ++ annotation x.bound s

abbrev pub each_type_parameter : List TypeParameter → InScope
each_type_parameter parameters s = flat_map (type_parameter s) parameters

abbrev pub names_of_parameters : List TypeParameter → Names
names_of_parameters parameters = map (λ x. x.name) parameters

abbrev pub parameter_names : Option (List TypeParameter) → Names
parameter_names None = []
parameter_names (Some parameters) = names_of_parameters parameters

abbrev pub type_parameters : Option (List TypeParameter) → InScope
type_parameters None s = []
type_parameters (Some parameters) s = each_type_parameter parameters s ++ together (names_of_parameters parameters)

-- what stands before a body, where the parameters of the function's types are in scope
abbrev pub header : Option (List TypeParameter) → Parameters → Option TypeExpression → InScope
header generics parameters result s = type_parameters generics s ++ (whole (in_parameters parameters) s ++ annotation result s)

abbrev pub header_scope : Option (List TypeParameter) → Scope → Scope
header_scope generics s = with_types (parameter_names generics) (without_loops s)

abbrev pub body_scope : Option (List TypeParameter) → Parameters → Scope → Scope
body_scope generics parameters s = with_values (in_parameters parameters).names (header_scope generics s)

abbrev pub function : Option (List TypeParameter) → Parameters → Option TypeExpression → InScope → InScope
function generics parameters result body s = header generics parameters result (header_scope generics s) ++ body (body_scope generics parameters s)

-- what stands in the scope of a pattern
abbrev pub scoped : Pattern → InScope → InScope
scoped p body s = body (with_values (in_pattern p).names s)

-- a pattern, and what stands in its scope
abbrev pub bound : Pattern → InScope → InScope
bound p body s = whole (in_pattern p) s ++ scoped p body s

-- ---- lists of declarations

abbrev pub values_of : List Declared → Names
values_of ds = flat_map (λ d. d.values) ds

abbrev pub types_of : List Declared → Names
types_of ds = flat_map (λ d. d.types) ds

abbrev pub each_declared : List Declared → InScope
each_declared ds s = flat_map (λ d. d.finds s) ds

abbrev pub block_scope : List Declared → Scope → Scope
block_scope ds s = with_types (types_of ds) (with_values (values_of ds) s)

abbrev pub block : List Declared → InScope
block ds s = (together (values_of ds) ++ together (types_of ds)) ++ each_declared ds (block_scope ds s)

abbrev pub member_values : List Member → Names
member_values ms = flat_map (λ m. m.values) ms

abbrev pub member_types : List Member → Names
member_types ms = flat_map (λ m. m.types) ms

abbrev pub public_names : List Member → Names
public_names ms = flat_map (λ m. m.public) ms

abbrev pub each_member : List Member → InScope
each_member ms s = flat_map (λ m. m.finds s) ms

abbrev pub object_scope : List Member → Scope → Scope
object_scope ms s = with_types (member_types ms) (with_values (member_values ms) s)

-- An object's public names are its labels.
abbrev pub object_names : List Member → List Finding
object_names ms = together (member_values ms) ++ (together (member_types ms) ++ (each_label (public_names ms) ++ labels (public_names ms)))

abbrev pub object : List Member → InScope
object ms s = object_names ms ++ each_member ms (object_scope ms s)

-- ---- by one layer of the tree over its parts

abbrev pub each_whole : List Whole → InScope
each_whole items s = flat_map (λ a. a.finds s) items

abbrev pub alias_names : Option Names → Names
alias_names None = []
alias_names (Some names) = names

abbrev pub alias : Option Names → TypeExpression → InScope
alias names kind s = (each_identifier (alias_names names) ++ together (alias_names names)) ++ in_type kind (with_types (alias_names names) s)

abbrev pub declaration_step : Declaration-F Declared Whole Member InScope Entry → Declared
declaration_step (F.Let p a) = record { values = (in_pattern p).names; types = []; finds = λ s. whole (in_pattern p) s ++ a.finds s }
declaration_step (F.Var x kind a) = record { values = x ∷ []; types = []; finds = λ s. identifier x ++ (annotation kind s ++ a.finds s) }
declaration_step (F.Func x generics parameters result equal_sign body) =
    record { values = x ∷ []; types = []; finds = λ s. identifier x ++ function generics parameters result body.finds s }
declaration_step (F.TypeAlias x names kind) = record { values = []; types = x ∷ []; finds = λ s. identifier x ++ alias names kind s }
declaration_step (F.Class x generics parameters fields last) =
    record { values = x ∷ []; types = x ∷ []; finds = λ s. identifier x ++ function generics parameters None (object fields) s }
declaration_step (F.NamedObject x fields last) = record { values = x ∷ []; types = []; finds = λ s. identifier x ++ object fields s }
declaration_step (F.Evaluate a) = record { values = []; types = []; finds = a.finds }

abbrev pub public_of : Option Visibility → Names → Names
public_of None names = []
public_of (Some visible.Public) names = names
public_of (Some visible.Private) names = []

abbrev pub declaration_field_step : F.DeclarationField-F Declared Whole Member InScope Entry → Member
declaration_field_step x = record { values = x.declaration.values; types = x.declaration.types; public = public_of x.visibility x.declaration.values; finds = x.declaration.finds }

-- an expression that is no name
abbrev pub plain : InScope → Whole
plain finds = record { head = None; finds = finds }

abbrev pub optional : Option Whole → InScope
optional None s = []
optional (Some a) s = a.finds s

-- `a.x`: the name of a module stands only before a dot.
abbrev pub operand : Option Name → InScope → Name → InScope
operand None finds x s = finds s
operand (Some m) finds x s = identifier m ++ used (member_meaning s m.bytes x.bytes) (member_fault s m x)

abbrev pub expression_step : Expression-F Declared Whole Member InScope Entry → Whole
expression_step (F.Assign o a b) = plain (λ s. a.finds s ++ b.finds s)
expression_step (F.Annotated a kind) = plain (λ s. a.finds s ++ in_type kind s)
expression_step (F.Binary o a b) = plain (λ s. a.finds s ++ b.finds s)
expression_step (F.If c a otherwise) = plain (λ s. c.finds s ++ (a.finds s ++ optional otherwise s))
expression_step (F.Switch c cases last) = plain (λ s. c.finds s ++ each cases s)
expression_step (F.While c a) = plain (λ s. c.finds s ++ a.finds s)
expression_step (F.Loop a c) = plain (λ s. a.finds s ++ optional c s)
expression_step (F.For p a b) = plain (λ s. whole (in_pattern p) s ++ (a.finds s ++ scoped p b.finds s))
expression_step (F.Label x kind a) = plain (λ s. identifier x ++ (annotation kind s ++ a.finds (with_loop x.bytes s)))
expression_step (F.Break x a) = plain (λ s. (identifier x ++ used (loop_meaning s x.bytes) x) ++ optional a s)
expression_step (F.Continue x) = plain (λ s. identifier x ++ used (loop_meaning s x.bytes) x)
expression_step (F.Return a) = plain (optional a)
expression_step (F.Do a) = plain a.finds
expression_step (F.DoOptional a) = plain a.finds
expression_step (F.Await a) = plain a.finds
expression_step (F.Throw a) = plain a.finds
expression_step (F.Try a p b) = plain (λ s. a.finds s ++ bound p b.finds s)
expression_step (F.Assert a) = plain a.finds
expression_step (F.Ignore a) = plain a.finds
expression_step (F.Debug a) = plain a.finds
expression_step (F.Function parameters result equal_sign body) = plain (function None parameters result body.finds)
expression_step (F.ObjectBlock fields last) = plain (object fields)
expression_step (F.Optional a) = plain a.finds
expression_step (F.Negative a) = plain a.finds
expression_step (F.Not a) = plain a.finds
expression_step (F.Tagged x payload) = plain (λ s. label x ++ optional payload s)
expression_step (F.Member a x) = plain (λ s. operand a.head a.finds x s ++ label x)
expression_step (F.Projection a n) = plain a.finds
expression_step (F.Index a b) = plain (λ s. a.finds s ++ b.finds s)
expression_step (F.Call a types arguments) = plain (λ s. a.finds s ++ (each_within (option_map (map in_type) types) s ++ each_whole arguments s))
expression_step (F.Bang a) = plain a.finds
expression_step (F.Constant literal) = plain nothing
expression_step (F.Variable x) = record { head = Some x; finds = λ s. identifier x ++ used (value_meaning s x.bytes) x }
expression_step (F.Parenthesized items) = plain (each_whole items)
expression_step (F.Array mutable items) = plain (each_whole items)
expression_step (F.Object fields last) = plain (λ s. each_entry fields s ++ labels (names_of fields))
expression_step (F.ActorReference parentheses text) = plain nothing
expression_step (F.Block declarations last) = plain (block declarations)

abbrev pub case_step : F.Case-F Declared Whole Member InScope Entry → InScope
case_step x = bound x.pattern x.body.finds

-- A field without a value has that of its name.
abbrev pub field_value : Name → Option Whole → InScope
field_value x None s = used (value_meaning s x.bytes) x
field_value x (Some a) s = a.finds s

abbrev pub expression_field_step : F.ExpressionField-F Declared Whole Member InScope Entry → Entry
expression_field_step x = record { name = x.name; finds = λ s. label x.name ++ (annotation x.annotation s ++ field_value x.name x.value s) }

unfoldable pub in_declaration : Declaration → Declared
in_declaration = fold-Declaration Declared Whole Member InScope Entry declaration_step expression_step declaration_field_step case_step expression_field_step

unfoldable pub in_expression : Expression → Whole
in_expression = fold-Expression Declared Whole Member InScope Entry declaration_step expression_step declaration_field_step case_step expression_field_step

unfoldable pub in_member : DeclarationField → Member
in_member = fold-DeclarationField Declared Whole Member InScope Entry declaration_step expression_step declaration_field_step case_step expression_field_step

unfoldable pub in_case : Case → InScope
in_case = fold-Case Declared Whole Member InScope Entry declaration_step expression_step declaration_field_step case_step expression_field_step

unfoldable pub in_field : ExpressionField → Entry
in_field = fold-ExpressionField Declared Whole Member InScope Entry declaration_step expression_step declaration_field_step case_step expression_field_step
